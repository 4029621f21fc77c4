use Rattle.std.proofs.Common.{not, Bool, true, false, List, ℕ, sym, ◌∙◌, arith}
use Rattle.std.specs.FinMap.{contains_key, entries}
use Rattle.txn.specs.declared.change.Change.{Change}
use Rattle.txn.proofs.Transactions.{count-all, count-next, count-within}
use Rattle.txn.proofs.txn.Txn.count_unread.Goals.{then-not-contains_key, else-not-contains_key}
use Rattle.txn.proofs.txn.Txn.count_unread.Goals as goal

pub overflow_add-count : goal.overflow_add-count
overflow_add-count c =
    let unread : (List ℕ × Change) → Bool = λ e. not (contains_key c.self.inside.reads e.0) in
    omega (arith, c.counted.invariant, count-within unread (entries c.self.inside.changes) c.counted.i, c.counted-test.true, c.len-i-end.type_inv)

pub counted-preserved : goal.counted-preserved
counted-preserved c =
    elim c.if-not-contains_key.branch [
      | then-not-contains_key w ↦
          count-next c.self.inside.reads (entries c.self.inside.changes) c.counted.i c.counted.count c.if-not-contains_key.count
          (c.nth.result.0.now, c.nth.result.1.now) false c.nth.ensures (sym c.contains_key.ensures ∙ w.if-not-contains_key.true) c.counted.invariant w.count-is
      | else-not-contains_key w ↦
          count-next c.self.inside.reads (entries c.self.inside.changes) c.counted.i c.counted.count c.if-not-contains_key.count
          (c.nth.result.0.now, c.nth.result.1.now) true c.nth.ensures (sym c.contains_key.ensures ∙ w.if-not-contains_key.false) c.counted.invariant (omega (arith, w.count-is))
    ]

pub returns : goal.returns
returns c = count-all c.counted.i c.counted.count c.self.view_is (omega (arith, c.counted-test.false, c.len-i-end.ensures)) c.counted.invariant
