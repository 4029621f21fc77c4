use Rattle.std.proofs.Common.{◌≡◌, map, take}
use Rattle.vault.specs.Keeps.{print_of}
use Rattle.vault.proofs.done.prints_of.Given as goal

-- the writes so far
abbrev pub invariant-told : goal.invariant-told
invariant-told l = l.prints ≡ map print_of (take l.i l.writes)
