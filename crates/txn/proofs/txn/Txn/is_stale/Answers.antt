use Rattle.std.proofs.Common.{not, ◌&&◌, Bool, Option, Some, None, sym, ◌∙◌, ap}
use Rattle.std.specs.FinMap.{get}
use Rattle.store_model.specs.Transaction as model
use Rattle.store_model.specs.Turn.{has_moved, is_whole}
use Rattle.txn.specs.declared.change.Change.TheVariants.{Put, Append, Del}
use Rattle.txn.proofs.Transactions.{under-change}
use Rattle.txn.proofs.txn.Txn.is_stale.Goals as goal

pub returns-in-Some-Put : goal.returns-in-Some-Put
returns-in-Some-Put c =
    let stale : Option model.Change → Bool = λ o. not (is_whole o) && has_moved (get c.args.self.now.reads c.args.key.now) c.args.now in
    sym (under-change stale c.args.key.now (Some (Put c.in-Some-Put.field-0-0)) c.self.view_is (sym c.in-Some-Put.ensures ∙ ap Some c.in-Some-Put.field-0-is))

pub returns-in-Some-Append : goal.returns-in-Some-Append
returns-in-Some-Append c =
    let stale : Option model.Change → Bool = λ o. not (is_whole o) && has_moved (get c.args.self.now.reads c.args.key.now) c.args.now in
    c.has_moved.ensures
    ∙ sym (under-change stale c.args.key.now (Some (Append c.in-Some-Append.field-0-0)) c.self.view_is (sym c.in-Some-Append.ensures ∙ ap Some c.in-Some-Append.field-0-is))

pub returns-in-Some-Del : goal.returns-in-Some-Del
returns-in-Some-Del c =
    let stale : Option model.Change → Bool = λ o. not (is_whole o) && has_moved (get c.args.self.now.reads c.args.key.now) c.args.now in
    sym (under-change stale c.args.key.now (Some Del) c.self.view_is (sym c.in-Some-Del.ensures ∙ ap Some c.in-Some-Del.field-0-is))

pub returns-in-None : goal.returns-in-None
returns-in-None c =
    let stale : Option model.Change → Bool = λ o. not (is_whole o) && has_moved (get c.args.self.now.reads c.args.key.now) c.args.now in
    c.has_moved-in-None.ensures ∙ sym (under-change stale c.args.key.now None c.self.view_is (sym c.in-None.ensures))
