use Rattle.std.proofs.Common.{Err, ◌∙◌, ap}
use Rattle.std.specs.Io.KnownBytes.{prepend_known}
use Rattle.blob_steps.proofs.OnTheWay.{EndsReading-ended}
use Rattle.blob_steps.proofs.run.Run.next.Goals as goal

pub returns-in-Err-clause-ends : goal.returns-in-Err-clause-ends
returns-in-Err-clause-ends g c =
    EndsReading-ended c.reading_status.result c.in-Err.fault c.args.number (prepend_known c.args.self.now.reader (g.S.Source.left c.args.source.now))
    (g.S.Source.faults c.args.source.now) (g.S.Source.faults c.next_line.new.source) (g.S.Source.frugal c.args.source.now) c.reading_status.ensures
    (λ cause is. c.next_line.ensures.cause cause (c.in-Err.is ∙ ap Err is))
