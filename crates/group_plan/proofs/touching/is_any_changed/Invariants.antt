use Rattle.std.proofs.Common.{◌≡◌, drop}
use Rattle.std.specs.List.{list_any}
use Rattle.std.specs.FinMap as fin
use Rattle.store_model.specs.Group.{is_among}
use Rattle.group_plan.specs.Touches.{entry_keys}
use Rattle.group_plan.proofs.touching.is_any_changed.Given as goal

abbrev pub invariant-looked : goal.invariant-looked
invariant-looked g l = list_any (λ one. is_among one.0 (entry_keys l.fn.entries)) (fin.entries l.fn.list) ≡ list_any (λ one. is_among one.0 (entry_keys l.fn.entries)) (drop l.i (fin.entries l.fn.list))
