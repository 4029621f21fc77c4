use Rattle.std.proofs.Common.{◌≡◌, take}
use Rattle.std.specs.FinMap.{entries}
use Rattle.vault.proofs.done.reads_of.Given as goal

-- the keys so far
abbrev pub invariant-copied : goal.invariant-copied
invariant-copied l = entries l.copy ≡ take l.i (entries l.reads)
