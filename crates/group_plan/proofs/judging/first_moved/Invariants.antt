use Rattle.std.proofs.Common.{◌≡◌, drop}
use Rattle.std.specs.FinMap as map
use Rattle.group_plan.specs.Judgements.{first_moved}
use Rattle.group_plan.proofs.judging.first_moved.Given as goal

abbrev pub invariant-looked : goal.invariant-looked
invariant-looked l = first_moved l.fn.relation.states (map.entries l.fn.reads) ≡ first_moved l.fn.relation.states (drop l.i (map.entries l.fn.reads))
