use Rattle.std.proofs.Common.{length}
use Rattle.group_plan.proofs.GivingBack.{Giving}
use Rattle.group_plan.proofs.takings.Takings.give_back_from.Given as goal

abbrev pub invariant-given : goal.invariant-given
invariant-given l = Giving l.kept l.fn.space l.space l.fn.self l.self

abbrev pub decreases-given : goal.decreases-given
decreases-given l = length l.self.blocks.items
