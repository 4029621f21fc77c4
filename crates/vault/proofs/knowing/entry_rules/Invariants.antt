use Rattle.std.proofs.Common.{take}
use Rattle.std.specs.List.{All}
use Rattle.vault.specs.Knows.{IsOfKey}
use Rattle.vault.proofs.knowing.entry_rules.Given as goal

abbrev pub invariant-known : goal.invariant-known
invariant-known l = All IsOfKey (take l.i l.entry.writes)
