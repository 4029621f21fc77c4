use Rattle.std.proofs.Common.{◌≡◌, ◌++◌, map, take}
use Rattle.std.specs.Prelude.{zip}
use Rattle.vault.specs.Keeps.{done_of}
use Rattle.vault.specs.Pours.{requests_at}
use Rattle.vault.proofs.keeping.add_all.Given as goal

-- the entries so far
abbrev pub invariant-added : goal.invariant-added
invariant-added l = l.history ≡ l.fn.history ++ map done_of (take l.i (zip (requests_at l.queue l.members) l.entries))
