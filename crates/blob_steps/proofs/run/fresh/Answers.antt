use Rattle.store_model.specs.Cost.{no_cost, with_format}
use Rattle.blob_steps.proofs.Opening.{DidFresh-formatted, DidFresh-unformatted, large-enough, small-fault}
use Rattle.blob_steps.proofs.run.fresh.Goals as goal

pub returns-in-Ok-clause-did : goal.returns-in-Ok-clause-did
returns-in-Ok-clause-did g c =
    let formatted = c.format.ensures in
    DidFresh-formatted g.S.Source g.K.Sink g.D.Disk c.args.layout c.args.source.now c.args.sink.now c.args.disk c.format.new.disk c.steps.result.0 c.steps.new.source c.steps.new.sink
    c.steps.result.1 (record {
      large = large-enough (g.D.Disk.size c.args.disk) c.args.layout c.format.result c.in-Ok.is formatted.small;
      reads = c.in-Ok.ensures.reads;
      wrote = formatted.wrote;
      calls = c.in-Ok.ensures.calls;
      did = c.steps.ensures.did (with_format no_cost);
    })

pub returns-in-Err-clause-did : goal.returns-in-Err-clause-did
returns-in-Err-clause-did g c =
    let formatted = c.format.ensures in
    rw c.opening_status.ensures
    (DidFresh-unformatted g.S.Source g.K.Sink g.D.Disk c.args.layout c.args.source.now c.args.sink.now c.args.disk c.format.new.disk c.in-Err.fault
    (small-fault (g.D.Disk.size c.args.disk) c.args.layout c.format.result c.in-Err.fault c.in-Err.is formatted.small) formatted.untouched c.in-Err.ensures.cause formatted.wrote)
