use Rattle.std.proofs.Common.{◌≡◌, subst, sym, ◌∙◌, ap}
use Rattle.std.specs.FinMap.{remove}
use Rattle.store_model.specs.Transaction.{Transaction}
use Rattle.store_model.specs.Turn.{is_one_too_many}
use Rattle.txn.specs.Txns.{IsTxn, Parts, transaction_by}
use Rattle.txn.specs.declared.txn.Txn.TheInside.{Inside}
use Rattle.txn.proofs.Transactions.{on-err, read-back, read-kept, room-read, same-parts}
use Rattle.txn.proofs.txn.Txn.delete_found.Goals.{then-is_new, else-is_new}
use Rattle.txn.proofs.txn.Txn.delete_found.Goals as goal

pub change-requires-clause-room : goal.change-requires-clause-room
change-requires-clause-room c =
    ap (λ (t : Transaction). is_one_too_many t c.args.key.now) c.in_ok-record.ensures.ok
    ∙ room-read (transaction_by c.args.self.now) c.args.front c.args.now c.args.key.now

pub returns-then-is_err-clause-err : goal.returns-then-is_err-clause-err
returns-then-is_err-clause-err c =
    let after : Parts = record { session = c.self-2.inside.session; nth = c.self-2.inside.nth; seen = c.self-2.inside.seen; reads = c.self-2.inside.reads; changes = c.self-2.inside.changes } in
    let unchanged : after ≡ c.record.new.self =
    c.self-2.view_is ∙ on-err c.change.result (sym c.is_err.ensures.value ∙ c.if-is_err.true) c.change.ensures.err in
    elim c.if-is_new.branch [
      | then-is_new w ↦
          subst (λ (x : Inside). ◌≡◌ {A = Parts} (record { session = x.session; nth = x.nth; seen = c.self.inside.seen; reads = x.reads; changes = x.changes }) c.args.self.now)
          (sym w.self-inside-is)
          (same-parts c.args.self.now c.record.new.self after c.self.inside.seen w.remove.new.self
          c.in_ok-record.ensures.session c.in_ok-record.ensures.nth c.in_ok-record.ensures.changes unchanged (ap (λ (p : Parts). p.seen) c.self.view_is)
          (w.remove.ensures.map ∙ ap (λ (p : Parts). remove p.reads c.args.key.now) unchanged
          ∙ read-back c.args.self.now c.record.new.self c.args.key.now c.args.now c.args.front c.in_ok-record.ensures.ok
          (sym c.is_touched-is_new.ensures ∙ w.if-is_new.true)))
      | else-is_new w ↦
          subst (λ (x : Inside). ◌≡◌ {A = Parts} (record { session = x.session; nth = x.nth; seen = c.self.inside.seen; reads = x.reads; changes = x.changes }) c.args.self.now)
          (sym w.self-inside-is)
          (same-parts c.args.self.now c.record.new.self after c.self.inside.seen c.self-2.inside.reads
          c.in_ok-record.ensures.session c.in_ok-record.ensures.nth c.in_ok-record.ensures.changes unchanged (ap (λ (p : Parts). p.seen) c.self.view_is)
          (ap (λ (p : Parts). p.reads) unchanged
          ∙ read-kept c.args.self.now c.record.new.self c.args.key.now c.args.now c.args.front c.in_ok-record.ensures.ok
          (sym c.is_touched-is_new.ensures ∙ w.if-is_new.false)))
    ]

pub invariant_of-self : goal.invariant_of-self
invariant_of-self c = subst IsTxn (c.self.view_is ∙ sym (returns-then-is_err-clause-err c)) c.self.invariant
