use Rattle.std.specs.Vec.Iter.{into_iter_items, into_iter_len}
use Rattle.check_point.specs.Tuples.{model_tuples}
use Rattle.recover.proofs.Adoptings.{Adopting}
use Rattle.recover.proofs.start.relation_of.Given as goal

abbrev pub invariant-adopted : goal.invariant-adopted
invariant-adopted l = Adopting (model_tuples l.fn.tuples) (model_tuples (into_iter_items l.tuple-iterator)) (into_iter_len l.tuple-iterator) l.relation.states
