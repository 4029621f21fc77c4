use Rattle.std.proofs.Common.{◌||◌, ℕ, List, Bool, sym, ◌∙◌, ap}
use Rattle.std.specs.List.{list_any}
use Rattle.std.specs.FinMap as fin
use Rattle.store_model.specs.Group.{is_among}
use Rattle.store_model.specs.Placing.{Need}
use Rattle.txn.specs.Requests.{asked_of, need_of}
use Rattle.txn.specs.declared.change.Change.{Change}
use Rattle.group_plan.specs.Touches.{entry_keys}
use Rattle.group_plan.proofs.Walks.{any-map}
use Rattle.group_plan.proofs.touching.does_touch.Goals as goal

pub returns-else-is_any_changed : goal.returns-else-is_any_changed
returns-else-is_any_changed c =
    let keys = entry_keys c.args.entries.now in
    c.is_any_changed-else-is_any_changed.ensures
    ∙ sym (any-map (λ (need : List ℕ × Need). is_among need.0 keys) (λ (one : List ℕ × Change). (one.0, need_of one.1)) (fin.entries c.args.request.now.writes))
    ∙ ap (λ (b : Bool). b || list_any (λ (need : List ℕ × Need). is_among need.0 keys) (asked_of c.args.request.now).needs) (sym c.if-is_any_changed.false ∙ c.is_any_changed.ensures)
