use Rattle.std.proofs.Common.{◌≡◌, false, subst, sym}
use Rattle.store_model.specs.Turn.{is_one_too_many}
use Rattle.txn.specs.Txns.{Parts, transaction_by}
use Rattle.txn.proofs.Transactions.{IsTxn-change, change-ok}
use Rattle.txn.proofs.txn.Txn.change.Goals as goal

pub invariant_of-self : goal.invariant_of-self
invariant_of-self c =
    let inside : Parts = record { session = c.self.inside.session; nth = c.self.inside.nth; seen = c.self.inside.seen; reads = c.self.inside.reads; changes = c.self.inside.changes } in
    IsTxn-change inside c.args.key.now c.copy.result c.args.change c.insert.new.self c.insert.result c.self.invariant
    (subst (λ (p : Parts). is_one_too_many (transaction_by p) c.args.key.now ≡ false) (sym c.self.view_is) c.requires.room)
    c.requires.append c.copy.ensures c.insert.ensures.ok c.insert.ensures.err

pub returns-clause-ok : goal.returns-clause-ok
returns-clause-ok c =
    change-ok c.args.key.now c.copy.result c.args.change c.insert.new.self c.insert.result c.self.view_is c.copy.ensures c.insert.ensures.ok
