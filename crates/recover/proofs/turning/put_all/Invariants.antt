use Rattle.std.proofs.Common.{take}
use Rattle.std.specs.FinMap.{entries}
use Rattle.recover.proofs.Puttings.{Putting}
use Rattle.recover.proofs.turning.put_all.Given as goal

abbrev pub invariant-put : goal.invariant-put
invariant-put g l = Putting g.D.Disk l.fn.writer l.writer (take l.i (entries l.relation.states)) l.fn.disk l.disk
