use Rattle.std.proofs.Common.{Some, None, sym, ◌∙◌, ap}
use Rattle.txn.specs.Txns.{value_by}
use Rattle.txn.specs.declared.change.Change.TheVariants.{Put, Append, Del}
use Rattle.txn.proofs.Transactions.{under-change}
use Rattle.txn.proofs.txn.Txn.value.Goals as goal

pub returns-in-Some-Put : goal.returns-in-Some-Put
returns-in-Some-Put c = sym (under-change (λ o. value_by o c.args.is_there) c.args.key.now (Some (Put c.in-Some-Put.field-0-0)) c.self.view_is (sym c.in-Some-Put.ensures ∙ ap Some c.in-Some-Put.field-0-is))

pub returns-in-Some-Append : goal.returns-in-Some-Append
returns-in-Some-Append c = sym (under-change (λ o. value_by o c.args.is_there) c.args.key.now (Some (Append c.in-Some-Append.field-0-0)) c.self.view_is (sym c.in-Some-Append.ensures ∙ ap Some c.in-Some-Append.field-0-is))

pub returns-in-Some-Del : goal.returns-in-Some-Del
returns-in-Some-Del c = sym (under-change (λ o. value_by o c.args.is_there) c.args.key.now (Some Del) c.self.view_is (sym c.in-Some-Del.ensures ∙ ap Some c.in-Some-Del.field-0-is))

pub returns-in-None : goal.returns-in-None
returns-in-None c =
    sym (under-change (λ o. value_by o c.args.is_there) c.args.key.now None c.self.view_is (sym c.in-None.ensures) ∙ ap (value_by None) c.if-is_there.true)

pub returns-in-None-2 : goal.returns-in-None-2
returns-in-None-2 c =
    sym (under-change (λ o. value_by o c.args.is_there) c.args.key.now None c.self.view_is (sym c.in-None-2.ensures) ∙ ap (value_by None) c.if-is_there.false)
