use Rattle.std.proofs.Common.{length}
use Rattle.vault.proofs.Removals.{MakingAll}
use Rattle.vault.proofs.making.make_all.Given as goal

abbrev pub invariant-made : goal.invariant-made
invariant-made l = MakingAll l.fn.relation.states l.relation.states l.relation.spare l.fn.entries l.entries

abbrev pub decreases-made : goal.decreases-made
decreases-made l = length l.entries
