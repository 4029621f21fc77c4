use Rattle.std.specs.FinMap as map
use Rattle.group_plan.specs.Plans.{holdings_by}
use Rattle.group_plan.proofs.Requesting.{PlacedSoFar}
use Rattle.group_plan.proofs.placing.place_all.Given as goal

abbrev pub invariant-placed : goal.invariant-placed
invariant-placed l =
    PlacedSoFar (holdings_by l.fn.relation.states) l.fn.number (map.entries l.fn.changes) l.i l.placed.writes l.placed.added l.placed.replaced l.fn.space l.space l.fn.takings l.takings
