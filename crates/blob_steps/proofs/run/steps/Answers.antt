use Rattle.blob_steps.proofs.Opening.{DidSteps-opened, DidSteps-unopened}
use Rattle.blob_steps.proofs.run.steps.Goals as goal

pub returns-in-Ok-clause-did : goal.returns-in-Ok-clause-did
returns-in-Ok-clause-did g c = λ cost.
    let opened = c.in-Ok.ensures in
    let ran = c.run_script.ensures in
    DidSteps-opened g.S.Source g.K.Sink g.D.Disk cost c.args.source.now c.args.sink.now c.args.disk c.in-Ok.vault c.run_script.result.0 c.run_script.new.source c.run_script.new.sink
    c.run_script.result.1 (record {
      found = opened.found;
      costs = λ store. opened.costs store cost;
      stands = opened.stands;
      wrote = opened.wrote;
      survives = opened.survives;
      ended = ran.ended;
      breaks = ran.breaks;
      so = ran.so;
      own = ran.own;
      among = ran.among;
    })

pub returns-in-Err-clause-did : goal.returns-in-Err-clause-did
returns-in-Err-clause-did g c = λ cost.
    let failed = c.in-Err.ensures in
    rw c.opening_status.ensures
    (DidSteps-unopened g.S.Source g.K.Sink g.D.Disk cost c.args.source.now c.args.sink.now c.args.disk c.in-Err.failed.disk c.in-Err.failed.fault failed.refused failed.untouched
    failed.wrote_failed.keeps.size failed.survives)
