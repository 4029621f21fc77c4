use Rattle.std.proofs.Common.{refl, inl, inr}
use Rattle.recover.specs.Openings.{found_of}
use Rattle.store_model.specs.Report.{show_text}
use Rattle.blob_report.proofs.Openings.{CostsOpening-took, opening-unreported}
use Rattle.blob_report.proofs.Showings.{show-broken}
use Rattle.blob_report.proofs.showing.run_show.Goals as goal

pub returns-in-Ok-show-clause-showed : goal.returns-in-Ok-show-clause-showed
returns-in-Ok-show-clause-showed g c =
    let found = found_of c.in-Ok.found in
    record {
      found = found;
      before = c.in-Ok.ensures.found;
      after = c.in-Ok.ensures.turned;
      text = show_text found;
      is = λ tells. refl;
      took = c.in-Ok-show.ensures.ok.took;
    }

pub returns-clause-showed : goal.returns-clause-showed
returns-clause-showed g c =
    let found = found_of c.in-Ok.found in
    show-broken g.K.Sink g.D.Disk c.in-Err-show.status (g.K.Sink.frugal c.args.sink.now) (g.K.Sink.faults c.args.sink.now) (g.K.Sink.faults c.show.new.sink)
    c.args.sink.now c.show.new.sink c.args.disk.now c.recover.new.disk c.in-Err-show.ensures.err.ends
    (inr (record {
      found = found;
      before = c.in-Ok.ensures.found;
      text = show_text found;
      is = λ tells. refl;
      took = c.in-Err-show.ensures.err.front;
    }))

pub returns-in-Ok-show-clause-survives : goal.returns-in-Ok-show-clause-survives
returns-in-Ok-show-clause-survives g c tells found since begins reads = inl (c.in-Ok.ensures.survives tells found since begins reads)

pub returns-clause-survives : goal.returns-clause-survives
returns-clause-survives g c tells found since begins reads = inl (c.in-Ok.ensures.survives tells found since begins reads)

pub returns-in-Ok-show-clause-costs : goal.returns-in-Ok-show-clause-costs
returns-in-Ok-show-clause-costs g c reported =
    CostsOpening-took g.D.Disk c.args.disk.now c.recover.new.disk (found_of c.in-Ok.found) c.in-Ok.ensures.found c.in-Ok.ensures.calls

pub returns-clause-costs : goal.returns-clause-costs
returns-clause-costs g c reported =
    CostsOpening-took g.D.Disk c.args.disk.now c.recover.new.disk (found_of c.in-Ok.found) c.in-Ok.ensures.found c.in-Ok.ensures.calls

pub returns-in-Err-clause-costs : goal.returns-in-Err-clause-costs
returns-in-Err-clause-costs g c reported = opening-unreported c.in-Err.fault (rw (← c.opening_status.ensures) reported)
