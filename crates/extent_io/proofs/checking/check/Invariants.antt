use Rattle.std.proofs.Common.{◌≡◌}
use Rattle.store_model.specs.Verify.{given}
use Rattle.extent_io.specs.Pages.{part_begin}
use Rattle.extent_io.proofs.Verifyings.{HoldBelow}
use Rattle.extent_io.proofs.checking.check.Given as goal

-- the links so far hold, and the bytes of the next one begin here
abbrev pub invariant-loop-link : goal.invariant-loop-link
invariant-loop-link l = (l.begin ≡ part_begin l.state l.link) × HoldBelow (given l.content l.state) l.state l.link
