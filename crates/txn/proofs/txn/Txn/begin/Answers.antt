use Rattle.txn.proofs.Transactions.{IsTxn-none, none-is}
use Rattle.txn.proofs.txn.Txn.begin.Goals as goal

pub invariant_of-result : goal.invariant_of-result
invariant_of-result c =
    IsTxn-none (record { session = c.args.session; nth = c.args.nth; seen = c.args.seen; reads = c.new.result; changes = c.new-2.result })
    c.requires.session c.requires.numbered c.new.ensures c.new-2.ensures

pub returns-clause-transaction : goal.returns-clause-transaction
returns-clause-transaction c =
    none-is (record { session = c.args.session; nth = c.args.nth; seen = c.args.seen; reads = c.new.result; changes = c.new-2.result })
    c.new.ensures c.new-2.ensures
