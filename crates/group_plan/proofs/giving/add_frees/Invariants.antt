use Rattle.std.proofs.Common.{◌≡◌, ◌++◌, take}
use Rattle.std.specs.FinMap as map
use Rattle.group_plan.specs.Frees.{left_by}
use Rattle.group_plan.specs.Plans.{holdings_by}
use Rattle.group_plan.proofs.giving.add_frees.Given as goal

abbrev pub invariant-added : goal.invariant-added
invariant-added l = l.frees ≡ l.fn.frees ++ left_by (holdings_by l.fn.relation.states) (take l.i (map.entries l.fn.changes))
