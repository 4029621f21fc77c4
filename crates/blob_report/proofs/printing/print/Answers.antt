use Rattle.blob_report.proofs.Printings.{BrokeOff-put}
use Rattle.blob_report.proofs.printing.print.Goals as goal

pub returns-in-Err-clause-err : goal.returns-in-Err-clause-err
returns-in-Err-clause-err g c =
    BrokeOff-put g.K.Sink c.in-Err.fault.gone c.args.text.now c.in-Err.fault.cause c.print_status.result c.args.sink.now c.put_all.new.sink
    c.in-Err.ensures.front c.in-Err.ensures.cause c.in-Err.ensures.keeps c.print_status.ensures
