use Rattle.std.proofs.Common.{◌∙◌}
use Rattle.blob_steps.proofs.Closings.{Closed-printed}
use Rattle.blob_steps.proofs.forms.close.Goals as goal

pub returns-clause-closed : goal.returns-clause-closed
returns-clause-closed g c = λ free.
    Closed-printed g.K.Sink c.args.status.now c.args.sink.now c.print.new.sink c.as_slice.result.now c.print.result
    (c.as_slice.ensures.value ∙ c.closing.ensures) c.print.ensures.ok c.print.ensures.err
