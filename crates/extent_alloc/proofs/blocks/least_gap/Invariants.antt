use Rattle.extent_alloc.proofs.Scans.{Scanned}
use Rattle.extent_alloc.proofs.blocks.least_gap.Given as goal

abbrev pub invariant-scanned : goal.invariant-scanned
invariant-scanned l = Scanned l.fn.owned l.fn.tier l.fn.pages l.i l.head
