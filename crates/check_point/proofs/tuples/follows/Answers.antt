use Rattle.std.proofs.Common.{rules, ◌-◌, ◌∙◌, ap}
use Rattle.std.specs.Ordering.{is_lt}
use Rattle.check_point.proofs.TupleReads.{follows-last}
use Rattle.check_point.proofs.tuples.follows.Goals as goal

pub returns : goal.returns
returns c =
    follows-last c.args.tuples.now (c.len.result - 1) c.get.result.now c.args.key.now c.is_lt.result c.get.ensures
    (search rules) (c.is_lt.ensures ∙ ap is_lt c.cmp.ensures)
