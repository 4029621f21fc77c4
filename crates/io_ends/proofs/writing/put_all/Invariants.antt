use Rattle.std.proofs.Common.{◌-◌, ◌≤◌, length, take}
use Rattle.std.specs.Io.KnownBytes.{Appends}
use Rattle.blob_base.specs.Faults.{KeepsEnd}
use Rattle.io_ends.proofs.writing.put_all.Given as goal

-- the sink took the first bytes of the piece
abbrev pub invariant-loop-gone : goal.invariant-loop-gone
invariant-loop-gone g l =
    let sink = g.K.Sink in
    (l.gone ≤ length l.piece) × Appends (sink.taken l.fn.sink) (sink.taken l.sink) (take l.gone l.piece)
    × KeepsEnd sink.faults sink.frugal l.fn.sink l.sink

abbrev pub decreases-loop-gone : goal.decreases-loop-gone
decreases-loop-gone g l = length l.piece - l.gone
