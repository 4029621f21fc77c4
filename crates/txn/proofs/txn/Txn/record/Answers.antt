use Rattle.std.proofs.Common.{◌≡◌, false, subst, sym, ◌∙◌}
use Rattle.store_model.specs.Transaction.{is_touched}
use Rattle.store_model.specs.Turn.{is_one_too_many}
use Rattle.txn.specs.Txns.{IsTxn, Parts, transaction_by}
use Rattle.txn.specs.declared.txn.Txn.TheInside.{Inside}
use Rattle.txn.proofs.Transactions.{IsTxn-read, IsTxn-seen}
use Rattle.txn.proofs.txn.Txn.record.Goals.{then-not-is_touched+in_ok-insert, else-not-is_touched}
use Rattle.txn.proofs.txn.Txn.record.Goals as goal

pub invariant_of-self-2 : goal.invariant_of-self-2
invariant_of-self-2 c =
    let inside : Parts = record { session = c.self.inside.session; nth = c.self.inside.nth; seen = c.self.inside.seen; reads = c.self.inside.reads; changes = c.self.inside.changes } in
    elim c.if-not-is_touched.branch [
      | then-not-is_touched+in_ok-insert w ↦
          subst (λ (x : Inside). IsTxn (record { session = x.session; nth = x.nth; seen = c.max-self-inside.result; reads = x.reads; changes = x.changes }))
          (sym w.self-inside-is)
          (IsTxn-read inside c.args.key.now w.copy.result c.args.now c.max-self-inside.result w.insert.new.self c.self.invariant
          (subst (λ (p : Parts). is_one_too_many (transaction_by p) c.args.key.now ≡ false) (sym c.self.view_is) c.requires)
          (subst (λ (p : Parts). is_touched (transaction_by p) c.args.key.now ≡ false) (sym c.self.view_is) (sym c.is_touched.ensures ∙ w.if-not-is_touched.true))
          w.copy.ensures w.in_ok-insert.ensures.ok)
      | else-not-is_touched w ↦
          subst (λ (x : Inside). IsTxn (record { session = x.session; nth = x.nth; seen = c.max-self-inside.result; reads = x.reads; changes = x.changes }))
          (sym w.self-inside-is) (IsTxn-seen inside c.max-self-inside.result c.self.invariant)
    ]
