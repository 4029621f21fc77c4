use Rattle.std.specs.Vec.{vec_capacity, vec_len}
use Rattle.relation.proofs.Copies.{Copying}
use Rattle.relation.proofs.relation.copy_entries.Given as goal

abbrev pub invariant-copied : goal.invariant-copied
invariant-copied l = Copying l.fn.entries l.copy.items l.i (vec_len l.copy) (vec_capacity l.copy)
