use Rattle.std.proofs.Common.{◌-◌}
use Rattle.std.specs.Vec.{vec_capacity, vec_len}
use Rattle.relation.proofs.Relations.{Filling}
use Rattle.relation.proofs.relation.fill.Given as goal

abbrev pub invariant-filled : goal.invariant-filled
invariant-filled l = Filling l.fn.n (vec_len l.fn.free) (vec_capacity l.fn.free) (vec_len l.free) (vec_capacity l.free)

abbrev pub decreases-filled : goal.decreases-filled
decreases-filled l = l.fn.n - vec_len l.free
