use Rattle.std.proofs.Common.{not, ◌&&◌, leb, sym, ◌∙◌, ap, arith}
use Rattle.store_model.specs.Transaction.{touched_count}
use Rattle.txn.specs.Txns.{transaction_by}
use Rattle.txn.proofs.Transactions.{count-both, few-both}
use Rattle.txn.proofs.txn.Txn.is_one_too_many.Goals as goal

pub overflow_add-result : goal.overflow_add-result
overflow_add-result c =
    omega (arith, count-both c.len.result c.count_unread.result c.self.view_is c.len.ensures c.count_unread.ensures, few-both c.self.view_is c.self.invariant)

pub returns-then-not-is_touched : goal.returns-then-not-is_touched
returns-then-not-is_touched c =
    ap (leb 16) (count-both c.len.result c.count_unread.result c.self.view_is c.len.ensures c.count_unread.ensures)
    ∙ sym (ap (λ b. not b && leb 16 (touched_count (transaction_by c.args.self.now))) (sym c.is_touched.ensures ∙ c.if-not-is_touched.true))
