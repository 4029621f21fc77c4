use Rattle.group_plan.specs.Takings.{TakesExtents}
use Rattle.group_plan.proofs.takings.Takings.take_extents.Given as goal

abbrev pub invariant-taken : goal.invariant-taken
invariant-taken l = TakesExtents l.i l.fn.heads.items l.heads.items l.fn.space l.space l.fn.self l.self
