use Rattle.check_point.proofs.TupleReads.{ReadSoFar}
use Rattle.check_point.proofs.tuples.read_tuples.Given as goal

abbrev pub invariant-loop : goal.invariant-loop
invariant-loop l = ReadSoFar l.fn.pages l.fn.last l.fn.bytes l.tuples l.at l.counter
