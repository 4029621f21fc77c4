use Rattle.std.proofs.Common.{◌-◌}
use Rattle.relation.proofs.Searches.{Searching}
use Rattle.relation.specs.Entries.{entries_of}
use Rattle.relation.proofs.entries.search.Given as goal

abbrev pub invariant-searched : goal.invariant-searched
invariant-searched l = Searching (entries_of l.fn.entries) l.fn.key l.low l.high

abbrev pub decreases-searched : goal.decreases-searched
decreases-searched l = l.high - l.low
