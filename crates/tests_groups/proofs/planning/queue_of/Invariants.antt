use Rattle.std.specs.List.{All}
use Rattle.group_plan.specs.Plans.{DoesLengthen}
use Rattle.tests_groups.proofs.planning.queue_of.Given as goal

-- the requests so far
abbrev pub invariant-queued : goal.invariant-queued
invariant-queued g l = All (DoesLengthen l.relation.states) l.requests
