use Rattle.std.proofs.Common.{◌≡◌, take}
use Rattle.std.specs.List.{flat_map}
use Rattle.std.specs.FinMap.{entries}
use Rattle.store_model.specs.Tuple.{spelling}
use Rattle.vault.proofs.keeping.states_form.Given as goal

-- the states so far
abbrev pub invariant-spelled : goal.invariant-spelled
invariant-spelled l = l.bytes ≡ flat_map (λ entry. spelling entry.0 entry.1) (take l.i (entries l.relation.states))
