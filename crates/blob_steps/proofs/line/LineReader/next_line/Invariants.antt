use Rattle.std.proofs.Common.{ℕ, ◌-◌, Bool, List, Option, length}
use Rattle.std.specs.Io.KnownBytes.{prepend_known}
use Rattle.blob_base.specs.Faults.{KeepsEnd}
use Rattle.blob_steps.proofs.Splitting.{Reading}
use Rattle.blob_steps.proofs.line.LineReader.next_line.Given as goal

-- some of the line was read, and the source kept its promises
pub record Begun {E : Type 0} (faults : E → ℕ) (frugal : E → Bool) (old new : Option (List ℕ)) (line : List ℕ) (source_old source_new : E) : Type 0 where
  pub reading : Reading old new line
  pub keeps : KeepsEnd faults frugal source_old source_new

abbrev pub invariant-loop-alloc : goal.invariant-loop-alloc
invariant-loop-alloc g l =
    let source = g.S.Source in
    Begun source.faults source.frugal (prepend_known l.fn.self (source.left l.fn.source)) (prepend_known l.self (source.left l.source)) l.line
    l.fn.source l.source

abbrev pub decreases-loop-alloc : goal.decreases-loop-alloc
decreases-loop-alloc g l = 65537 - length l.line
