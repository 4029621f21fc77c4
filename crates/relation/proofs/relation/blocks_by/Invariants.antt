use Rattle.std.proofs.Common.{◌≡◌, take}
use Rattle.relation.specs.Entries.{entries_of}
use Rattle.relation.specs.Parts.{blocks_by}
use Rattle.relation.proofs.relation.blocks_by.Given as goal

abbrev pub invariant-listed : goal.invariant-listed
invariant-listed l = l.owned ≡ blocks_by (take l.i (entries_of l.fn.entries))
