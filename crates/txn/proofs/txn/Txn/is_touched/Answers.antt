use Rattle.std.proofs.Common.{sym, ◌∙◌}
use Rattle.txn.proofs.Transactions.{touched-unread}
use Rattle.txn.proofs.txn.Txn.is_touched.Goals as goal

pub returns-else-contains_key : goal.returns-else-contains_key
returns-else-contains_key c =
    touched-unread c.args.key.now c.contains_key-else-contains_key.result c.self.view_is
    (sym c.contains_key.ensures ∙ c.if-contains_key.false) c.contains_key-else-contains_key.ensures
