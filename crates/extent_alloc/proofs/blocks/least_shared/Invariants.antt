use Rattle.extent_alloc.proofs.Scans.{Ordered}
use Rattle.extent_alloc.proofs.blocks.least_shared.Given as goal

abbrev pub invariant-ordered : goal.invariant-ordered
invariant-ordered l = Ordered l.fn.blocks l.i l.end
