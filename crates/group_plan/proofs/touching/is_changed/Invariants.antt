use Rattle.std.proofs.Common.{◌≡◌, drop}
use Rattle.std.specs.List.{list_any}
use Rattle.store_model.specs.Group.{is_among}
use Rattle.group_plan.specs.Touches.{write_keys}
use Rattle.group_plan.proofs.touching.is_changed.Given as goal

abbrev pub invariant-looked : goal.invariant-looked
invariant-looked l = list_any (λ entry. is_among l.fn.key (write_keys entry.writes)) l.fn.entries ≡ list_any (λ entry. is_among l.fn.key (write_keys entry.writes)) (drop l.i l.fn.entries)
