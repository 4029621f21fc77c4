use Rattle.group_plan.proofs.Gathering.{Gathered}
use Rattle.group_plan.proofs.plan.gather.Given as goal

abbrev pub invariant-added : goal.invariant-added
invariant-added l = Gathered l.fn.relation.states l.fn.limits l.fn.queue l.i l.group l.fn.space l.space l.fn.takings l.takings
