use Rattle.blob_steps.proofs.WholeRun.{whole_run, with_words}
use Rattle.blob_steps.proofs.forms.run_alone.Goals as goal

pub run_words-status-requires : goal.run_words-status-requires
run_words-status-requires g c = with_words c.args.words.now c.read-form.result c.read-form.ensures.form

pub returns : goal.returns
returns g c =
    let ran = c.run_words-status.ensures in
    let closed = c.close.ensures in
    whole_run g.S.Source g.K.Sink g.D.Disk c.args.words.now c.read-form.result c.args.source.now c.args.sink.now c.args.disk c.run_words-status.result.0
    c.run_words-status.new.source c.run_words-status.new.sink c.close.new.sink c.run_words-status.result.1
    c.read-form.ensures.form c.read-form.ensures.none ran.usage ran.alone ran.did ran.raised ran.keeps closed.closed closed.reported closed.keeps
