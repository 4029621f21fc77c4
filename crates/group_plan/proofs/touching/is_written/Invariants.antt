use Rattle.std.proofs.Common.{◌≡◌, drop}
use Rattle.std.specs.Prelude.{bytes_eq}
use Rattle.std.specs.List.{list_any}
use Rattle.frame_codec.specs.Writes.{key_of_write}
use Rattle.group_plan.proofs.touching.is_written.Given as goal

abbrev pub invariant-looked : goal.invariant-looked
invariant-looked l = list_any (λ one. bytes_eq l.fn.key (key_of_write one)) l.fn.writes ≡ list_any (λ one. bytes_eq l.fn.key (key_of_write one)) (drop l.i l.fn.writes)
