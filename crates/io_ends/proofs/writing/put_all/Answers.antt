use Rattle.std.proofs.Common.{arith}
use Rattle.blob_base.proofs.FaultLaws.{KeepsEnd-then}
use Rattle.io_ends.proofs.Pieces.{Appends-more}
use Rattle.io_ends.proofs.writing.put_all.Goals as goal

pub loop-gone-preserved : goal.loop-gone-preserved
loop-gone-preserved g c =
    let written = c.in-Ok.ensures in
    let before = c.loop-gone.invariant in
    let back = c.split_at.ensures.back in (
      omega (arith, written.count, c.split_at.ensures.back_len),
      Appends-more _ _ _ c.args.piece.now c.loop-gone.gone c.in-Ok.count before.1 (rw back at written.bytes),
      KeepsEnd-then g.K.Sink.faults g.K.Sink.frugal c.args.sink.now c.loop-gone.sink c.write.new.self before.2 written.keeps,
    )
