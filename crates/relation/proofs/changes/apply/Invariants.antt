use Rattle.std.proofs.Common.{length}
use Rattle.relation.proofs.Changings.{Making}
use Rattle.relation.proofs.changes.apply.Given as goal

abbrev pub invariant-made : goal.invariant-made
invariant-made l = Making l.fn.relation.states l.relation.states l.fn.relation.spare l.relation.spare l.fn.writes l.left

abbrev pub decreases-made : goal.decreases-made
decreases-made l = length l.left
