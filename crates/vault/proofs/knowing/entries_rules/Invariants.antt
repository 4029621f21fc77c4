use Rattle.std.proofs.Common.{take}
use Rattle.std.specs.List.{All}
use Rattle.vault.specs.Knows.{IsKnown}
use Rattle.vault.proofs.knowing.entries_rules.Given as goal

abbrev pub invariant-known : goal.invariant-known
invariant-known l = All IsKnown (take l.i l.entries)
