use Rattle.std.proofs.Common.{Some, None, drop, sym, ◌∙◌, ap}
use Rattle.txn.specs.Txns.{own_bytes}
use Rattle.txn.specs.declared.change.Change.TheVariants.{Put, Append, Del}
use Rattle.txn.proofs.Transactions.{under-change}
use Rattle.txn.proofs.txn.Txn.own.Goals as goal

pub returns-in-Some-Put : goal.returns-in-Some-Put
returns-in-Some-Put c =
    c.content.ensures.value
    ∙ sym (under-change own_bytes c.args.key.now (Some (Put c.in-Some-Put.drafted)) c.self.view_is (sym c.in-Some-Put.ensures ∙ ap Some c.in-Some-Put.field-0-is))

pub returns-in-Some-Append : goal.returns-in-Some-Append
returns-in-Some-Append c =
    c.split_at.ensures.back ∙ ap (drop c.in-Some-Append.extension.moved) c.as_slice.ensures
    ∙ sym (under-change own_bytes c.args.key.now (Some (Append c.in-Some-Append.extension)) c.self.view_is (sym c.in-Some-Append.ensures ∙ ap Some c.in-Some-Append.field-0-is))

pub returns-in-Some-Del : goal.returns-in-Some-Del
returns-in-Some-Del c = sym (under-change own_bytes c.args.key.now (Some Del) c.self.view_is (sym c.in-Some-Del.ensures ∙ ap Some c.in-Some-Del.field-0-is))

pub returns-in-None : goal.returns-in-None
returns-in-None c = sym (under-change own_bytes c.args.key.now None c.self.view_is (sym c.in-None.ensures))
