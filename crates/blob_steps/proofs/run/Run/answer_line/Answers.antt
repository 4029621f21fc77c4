use Rattle.std.proofs.Common.{ℕ, List, Option, sym, ap, subst, ◌∙◌}
use Rattle.std.specs.Io.KnownBytes.{Appends, prepend_known}
use Rattle.std.proofs.lemmas.Result.{err_from_is_err_and}
use Rattle.blob_report.specs.Ends.{TookFront}
use Rattle.blob_script.specs.Words.{model_step}
use Rattle.store_model.specs.Play.{step_play}
use Rattle.store_model.specs.Script.{Asks}
use Rattle.blob_steps.specs.Nexts.{IsNext, IsUnbuilt}
use Rattle.blob_steps.specs.Breaks.{EndsBreaking, NeverBreaks}
use Rattle.disk_model.specs.Disks.{Keeps}
use Rattle.blob_steps.specs.Steps.{CameTo, DoesFollow, HaveBegun, StepSurvives, WorldKnown, WorldStands}
use Rattle.blob_steps.specs.declared.world.Played.TheVariants.{Answered}
use Rattle.blob_steps.proofs.Breaking.{EndsAtBreak-printing, coming-end, coming-ended, coming-next, coming-reading, coming-skipped}
use Rattle.blob_steps.specs.Going.{TakesLine}
use Rattle.blob_steps.specs.declared.world.World.{World}
use Rattle.blob_steps.proofs.OnTheWay.{EndedSo-over, EndedSo-printing, EndedSo-reading, EndedSo-step, Ended-over, Ended-printing, Ended-reading, Ended-step, GoingSo-next, GoingSo-skipped, Going-next, Going-skipped, held-now}
use Rattle.blob_steps.proofs.run.Run.answer_line.Goals as goal

pub returns-in_err-step-clause-going : goal.returns-in_err-step-clause-going
returns-in_err-step-clause-going g c = λ start before begun since first old was going.
    let p = err_from_is_err_and c.from_residual.result c.from_residual.ensures.1 in
    let left = prepend_known c.args.self.now.reader (g.S.Source.left c.args.source.now) in
    rw (p.1, p.2, c.in_err-step.ensures.world)
    (Ended-reading g.D.Disk start before begun since c.args.self.now.world c.args.number first left old (g.K.Sink.taken c.args.sink.now) was c.requires.sound.unshut c.rules.ensures going
    c.in_err-step.field-0.0 (g.K.Sink.frugal c.args.sink.now) (g.S.Source.faults c.args.source.now) (g.S.Source.faults c.next.new.source) c.in_err-step.ensures.ends)

pub returns-in_err-step-clause-so : goal.returns-in_err-step-clause-so
returns-in_err-step-clause-so g c = λ first old going.
    let p = err_from_is_err_and c.from_residual.result c.from_residual.ensures.1 in
    let left = prepend_known c.args.self.now.reader (g.S.Source.left c.args.source.now) in
    rw (p.1, p.2)
    (EndedSo-reading c.args.number first left old (g.K.Sink.taken c.args.sink.now) going c.in_err-step.field-0.0
    (g.S.Source.faults c.args.source.now) (g.S.Source.faults c.next.new.source) c.in_err-step.ensures.ends)

pub returns-in_err-do_step-in-Step-clause-going : goal.returns-in_err-do_step-in-Step-clause-going
returns-in_err-do_step-in-Step-clause-going g c = λ start before begun since first old was going.
    let p = err_from_is_err_and c.from_residual-in_err-do_step-in-Step.result c.from_residual-in_err-do_step-in-Step.ensures.1 in
    let failed = c.in_err-do_step-in-Step.ensures in
    let disk = g.D.Disk in
    let mine = c.args.self.now.world in
    let left = prepend_known c.args.self.now.reader (g.S.Source.left c.args.source.now) in
    let rest = prepend_known c.next.new.self.reader (g.S.Source.left c.next.new.source) in
    let read = subst (IsNext c.args.number left rest) c.in-Step.is c.in_ok-step.ensures.next in
    let taken = g.K.Sink.taken c.args.sink.now in
    let world = c.in_ok-step.ensures.world in
    let stands = subst (λ mine. WorldStands mine going.world) (sym world) going.stands in
    let held = held-now disk start before begun since mine c.args.number first left old taken was c.requires.sound.unshut c.rules.ensures going in
    rw (p.1, p.2)
    (Ended-step disk start before begun since mine c.args.number first left old taken was c.requires.sound.unshut c.rules.ensures going
    c.in_err-do_step-in-Step.field-0.0 c.do_step.new.self.world (g.K.Sink.frugal c.args.sink.now) (disk.faults c.next.new.self.world.vault.disk) (disk.faults c.do_step.new.self.world.vault.disk)
    (model_step c.in-Step.step) rest read.1
    (subst (λ (w : World _). IsUnbuilt w.vault.memory.layout going.world (model_step c.in-Step.step) c.args.number w.vault c.do_step.new.self.world.vault c.in_err-do_step-in-Step.field-0.0) world
    (failed.unbuilt going.world stands))
    failed.ends (failed.damage going.world stands) (λ told. failed.whole told going.world stands (rw world (held told)))
    (subst (λ (w : World _). Keeps disk w.vault.disk c.do_step.new.self.world.vault.disk) world failed.keeps)
    (subst (λ (w : World _). StepSurvives disk (model_step c.in-Step.step) w c.do_step.new.self.world) world failed.survives))

pub returns-in_err-do_step-in-Step-clause-so : goal.returns-in_err-do_step-in-Step-clause-so
returns-in_err-do_step-in-Step-clause-so g c = λ first old going.
    let p = err_from_is_err_and c.from_residual-in_err-do_step-in-Step.result c.from_residual-in_err-do_step-in-Step.ensures.1 in
    let failed = c.in_err-do_step-in-Step.ensures in
    let left = prepend_known c.args.self.now.reader (g.S.Source.left c.args.source.now) in
    let rest = prepend_known c.next.new.self.reader (g.S.Source.left c.next.new.source) in
    let read = subst (IsNext c.args.number left rest) c.in-Step.is c.in_ok-step.ensures.next in
    rw (p.1, p.2)
    (EndedSo-step c.args.number first left old (g.K.Sink.taken c.args.sink.now) going c.in_err-do_step-in-Step.field-0.0
    (g.D.Disk.faults c.next.new.self.world.vault.disk) (g.D.Disk.faults c.do_step.new.self.world.vault.disk) (model_step c.in-Step.step) rest read.1 failed.never failed.named failed.ends)

pub returns-in_err-print-in-Step-clause-going : goal.returns-in_err-print-in-Step-clause-going
returns-in_err-print-in-Step-clause-going g c = λ start before begun since first old was going.
    let done = c.in_ok-do_step-in-Step.ensures in
    let p = err_from_is_err_and c.from_residual-in_err-print-in-Step.result c.from_residual-in_err-print-in-Step.ensures.1 in
    let printed = c.in_err-print-in-Step.ensures.err in
    let world = c.in_ok-step.ensures.world in
    let sink = g.K.Sink in
    let left = prepend_known c.args.self.now.reader (g.S.Source.left c.args.source.now) in
    let rest = prepend_known c.next.new.self.reader (g.S.Source.left c.next.new.source) in
    let read = subst (IsNext c.args.number left rest) c.in-Step.is c.in_ok-step.ensures.next in
    let taken = sink.taken c.args.sink.now in
    let more = sink.taken c.print.new.sink in
    let stands = subst (λ mine. WorldStands mine going.world) (sym world) going.stands in
    let came = done.step going.world stands in
    rw (p.1, p.2)
    (Ended-printing g.D.Disk start before begun since c.args.self.now.world c.do_step.new.self.world c.args.number first left rest old taken
    was (model_step c.in-Step.step) c.do_step.new.self.text going read.1
    (done.layout ∙ ap (λ w. w.vault.memory.layout) world) came.0
    (ap (λ (w : World _). step_play w.vault.memory.layout going.world (model_step c.in-Step.step)) (sym world) ∙ came.1)
    (subst (λ (w : World _). CameTo g.D.Disk going.world came.0 c.do_step.new.self.text w c.do_step.new.self.world) world came.2)
    done.sound.unshut c.rules-in-Step.ensures (subst (λ (w : World _). Keeps g.D.Disk w.vault.disk c.do_step.new.self.world.vault.disk) world done.keeps)
    (subst (λ (w : World _). StepSurvives g.D.Disk (model_step c.in-Step.step) w c.do_step.new.self.world) world done.survives)
    c.in_err-print-in-Step.field-0.0 more (sink.frugal c.args.sink.now) (sink.faults c.args.sink.now) (sink.faults c.print.new.sink)
    (subst (TookFront taken more) c.as_slice.ensures printed.front) printed.ends)

pub returns-in_err-print-in-Step-clause-so : goal.returns-in_err-print-in-Step-clause-so
returns-in_err-print-in-Step-clause-so g c = λ first old going.
    let p = err_from_is_err_and c.from_residual-in_err-print-in-Step.result c.from_residual-in_err-print-in-Step.ensures.1 in
    let printed = c.in_err-print-in-Step.ensures.err in
    let sink = g.K.Sink in
    let left = prepend_known c.args.self.now.reader (g.S.Source.left c.args.source.now) in
    let taken = sink.taken c.args.sink.now in
    let more = sink.taken c.print.new.sink in
    rw (p.1, p.2)
    (EndedSo-printing c.args.number first left old taken going c.in_err-print-in-Step.field-0.0 more (sink.frugal c.args.sink.now)
    (sink.faults c.args.sink.now) (sink.faults c.print.new.sink) c.as_slice.result.now printed.front printed.ends)

pub returns-in_ok-print-in-Step-clause-going : goal.returns-in_ok-print-in-Step-clause-going
returns-in_ok-print-in-Step-clause-going g c = λ start before begun since first old was going.
    let done = c.in_ok-do_step-in-Step.ensures in
    let world = c.in_ok-step.ensures.world in
    let source = g.S.Source.left c.next.new.source in
    let left = prepend_known c.args.self.now.reader (g.S.Source.left c.args.source.now) in
    let read = subst (IsNext c.args.number left (prepend_known c.next.new.self.reader source)) c.in-Step.is c.in_ok-step.ensures.next in
    let takes = subst (λ (rest : Option (List ℕ)). TakesLine c.args.number left rest (Asks (model_step c.in-Step.step))) (sym (ap (λ reader. prepend_known reader source) done.reader)) read.1 in
    let taken = g.K.Sink.taken c.args.sink.now in
    let more = g.K.Sink.taken c.print.new.sink in
    let stands = subst (λ mine. WorldStands mine going.world) (sym world) going.stands in
    let came = done.step going.world stands in
    Going-next g.D.Disk start before begun since c.args.self.now.world c.do_step.new.self.world c.args.number first left (prepend_known c.do_step.new.self.reader source) old taken
    was (model_step c.in-Step.step) c.do_step.new.self.text going takes
    (done.layout ∙ ap (λ w. w.vault.memory.layout) world) came.0
    (ap (λ (w : World _). step_play w.vault.memory.layout going.world (model_step c.in-Step.step)) (sym world) ∙ came.1)
    (subst (λ (w : World _). CameTo g.D.Disk going.world came.0 c.do_step.new.self.text w c.do_step.new.self.world) world came.2)
    done.sound.unshut c.rules-in-Step.ensures (subst (λ (w : World _). Keeps g.D.Disk w.vault.disk c.do_step.new.self.world.vault.disk) world done.keeps)
    (subst (λ (w : World _). StepSurvives g.D.Disk (model_step c.in-Step.step) w c.do_step.new.self.world) world done.survives) more
    (subst (Appends taken more) c.as_slice.ensures c.in_ok-print-in-Step.ensures.ok.took)

pub returns-in_ok-print-in-Step-clause-so : goal.returns-in_ok-print-in-Step-clause-so
returns-in_ok-print-in-Step-clause-so g c = λ first old going.
    let done = c.in_ok-do_step-in-Step.ensures in
    let source = g.S.Source.left c.next.new.source in
    let left = prepend_known c.args.self.now.reader (g.S.Source.left c.args.source.now) in
    let read = subst (IsNext c.args.number left (prepend_known c.next.new.self.reader source)) c.in-Step.is c.in_ok-step.ensures.next in
    let takes = subst (λ (rest : Option (List ℕ)). TakesLine c.args.number left rest (Asks (model_step c.in-Step.step))) (sym (ap (λ reader. prepend_known reader source) done.reader)) read.1 in
    GoingSo-next c.args.number first left old (g.K.Sink.taken c.args.sink.now) going (model_step c.in-Step.step) (prepend_known c.do_step.new.self.reader source)
    (g.K.Sink.taken c.print.new.sink) c.as_slice.result.now takes done.always c.in_ok-print-in-Step.ensures.ok.took

pub returns-in_ok-print-in-Step-clause-begun : goal.returns-in_ok-print-in-Step-clause-begun
returns-in_ok-print-in-Step-clause-begun g c = λ n have.
    c.in_ok-do_step-in-Step.ensures.begun n (subst (HaveBegun n) (sym c.in_ok-step.ensures.world) have)

pub returns-in-Skipped-clause-going : goal.returns-in-Skipped-clause-going
returns-in-Skipped-clause-going g c = λ start before begun since first old was going.
    let left = prepend_known c.args.self.now.reader (g.S.Source.left c.args.source.now) in
    let rest = prepend_known c.next.new.self.reader (g.S.Source.left c.next.new.source) in
    Going-skipped g.D.Disk start before begun since c.args.self.now.world c.args.number first left old (g.K.Sink.taken c.args.sink.now) was c.requires.sound.unshut c.rules.ensures going
    c.next.new.self.world rest (subst (IsNext c.args.number left rest) c.in-Skipped.is c.in_ok-step.ensures.next) c.in_ok-step.ensures.world

pub returns-in-Skipped-clause-so : goal.returns-in-Skipped-clause-so
returns-in-Skipped-clause-so g c = λ first old going.
    let left = prepend_known c.args.self.now.reader (g.S.Source.left c.args.source.now) in
    let rest = prepend_known c.next.new.self.reader (g.S.Source.left c.next.new.source) in
    GoingSo-skipped c.args.number first left old (g.K.Sink.taken c.args.sink.now) going rest
    (subst (IsNext c.args.number left rest) c.in-Skipped.is c.in_ok-step.ensures.next)

pub returns-in-End-clause-going : goal.returns-in-End-clause-going
returns-in-End-clause-going g c = λ start before begun since first old was going.
    let left = prepend_known c.args.self.now.reader (g.S.Source.left c.args.source.now) in
    let rest = prepend_known c.next.new.self.reader (g.S.Source.left c.next.new.source) in
    rw c.in_ok-step.ensures.world
    (Ended-over g.D.Disk start before begun since c.args.self.now.world c.args.number first left old (g.K.Sink.taken c.args.sink.now) was c.requires.sound.unshut c.rules.ensures going
    (g.K.Sink.frugal c.args.sink.now) (subst (IsNext c.args.number left rest) c.in-End.is c.in_ok-step.ensures.next))

pub returns-in-End-clause-so : goal.returns-in-End-clause-so
returns-in-End-clause-so g c = λ first old going.
    let left = prepend_known c.args.self.now.reader (g.S.Source.left c.args.source.now) in
    let rest = prepend_known c.next.new.self.reader (g.S.Source.left c.next.new.source) in
    EndedSo-over c.args.number first left old (g.K.Sink.taken c.args.sink.now) going (subst (IsNext c.args.number left rest) c.in-End.is c.in_ok-step.ensures.next)

pub returns-in_err-step-clause-breaks : goal.returns-in_err-step-clause-breaks
returns-in_err-step-clause-breaks g c = λ told layout image states one coming.
    let p = err_from_is_err_and c.from_residual.result c.from_residual.ensures.1 in
    let left = prepend_known c.args.self.now.reader (g.S.Source.left c.args.source.now) in
    rw (p.1, p.2)
    (coming-reading g.D.Disk layout image states one c.args.number left c.args.self.now.world coming c.in_err-step.field-0.0
    (g.S.Source.faults c.args.source.now) (g.S.Source.faults c.next.new.source) c.in_err-step.ensures.ends)

pub returns-in_err-do_step-in-Step-clause-breaks : goal.returns-in_err-do_step-in-Step-clause-breaks
returns-in_err-do_step-in-Step-clause-breaks g c = λ told layout image states one coming.
    let p = err_from_is_err_and c.from_residual-in_err-do_step-in-Step.result c.from_residual-in_err-do_step-in-Step.ensures.1 in
    let failed = c.in_err-do_step-in-Step.ensures in
    let left = prepend_known c.args.self.now.reader (g.S.Source.left c.args.source.now) in
    let rest = prepend_known c.next.new.self.reader (g.S.Source.left c.next.new.source) in
    let read = subst (IsNext c.args.number left rest) c.in-Step.is c.in_ok-step.ensures.next in
    let world = c.in_ok-step.ensures.world in
    let known = subst (λ mine. WorldKnown mine coming.world) (sym world) coming.known in
    rw (p.1, p.2)
    (coming-ended g.D.Disk layout image states one c.args.number left c.args.self.now.world coming (model_step c.in-Step.step) rest read.1
    c.in_err-do_step-in-Step.field-0.0
    (subst (λ (w : World _). EndsBreaking g.D.Disk w coming.world (model_step c.in-Step.step) c.in_err-do_step-in-Step.field-0.0) world (failed.breaks told coming.world known)))

pub returns-in_err-print-in-Step-clause-breaks : goal.returns-in_err-print-in-Step-clause-breaks
returns-in_err-print-in-Step-clause-breaks g c = λ told layout image states one coming.
    let p = err_from_is_err_and c.from_residual-in_err-print-in-Step.result c.from_residual-in_err-print-in-Step.ensures.1 in
    let sink = g.K.Sink in
    rw (p.1, p.2)
    (EndsAtBreak-printing one c.in_err-print-in-Step.field-0.0 (sink.frugal c.args.sink.now) (sink.faults c.args.sink.now) (sink.faults c.print.new.sink)
    c.in_err-print-in-Step.ensures.err.ends)

pub returns-in_ok-print-in-Step-clause-breaks : goal.returns-in_ok-print-in-Step-clause-breaks
returns-in_ok-print-in-Step-clause-breaks g c = λ told layout image states one coming.
    let done = c.in_ok-do_step-in-Step.ensures in
    let world = c.in_ok-step.ensures.world in
    let source = g.S.Source.left c.next.new.source in
    let left = prepend_known c.args.self.now.reader (g.S.Source.left c.args.source.now) in
    let read = subst (IsNext c.args.number left (prepend_known c.next.new.self.reader source)) c.in-Step.is c.in_ok-step.ensures.next in
    let takes = subst (λ (rest : Option (List ℕ)). TakesLine c.args.number left rest (Asks (model_step c.in-Step.step))) (sym (ap (λ reader. prepend_known reader source) done.reader)) read.1 in
    let known = subst (λ mine. WorldKnown mine coming.world) (sym world) coming.known in
    coming-next g.D.Disk layout image states one c.args.number left c.args.self.now.world coming (model_step c.in-Step.step) (prepend_known c.do_step.new.self.reader source) takes
    c.do_step.new.self.world
    (subst (λ (w : World _). NeverBreaks g.D.Disk w coming.world (model_step c.in-Step.step)) world (done.breaks told coming.world known))
    (subst (λ (w : World _). DoesFollow g.D.Disk coming.world (model_step c.in-Step.step) w c.do_step.new.self.world Answered) world (done.follows coming.world known))
    (done.layout ∙ ap (λ w. w.vault.memory.layout) world) told

pub returns-in-Skipped-clause-breaks : goal.returns-in-Skipped-clause-breaks
returns-in-Skipped-clause-breaks g c = λ told layout image states one coming.
    let left = prepend_known c.args.self.now.reader (g.S.Source.left c.args.source.now) in
    let rest = prepend_known c.next.new.self.reader (g.S.Source.left c.next.new.source) in
    coming-skipped g.D.Disk layout image states one c.args.number left c.args.self.now.world coming c.next.new.self.world rest
    (subst (IsNext c.args.number left rest) c.in-Skipped.is c.in_ok-step.ensures.next) c.in_ok-step.ensures.world

pub returns-in-End-clause-breaks : goal.returns-in-End-clause-breaks
returns-in-End-clause-breaks g c = λ told layout image states one coming.
    let left = prepend_known c.args.self.now.reader (g.S.Source.left c.args.source.now) in
    let rest = prepend_known c.next.new.self.reader (g.S.Source.left c.next.new.source) in
    coming-end g.D.Disk layout image states one c.args.number left c.args.self.now.world coming (subst (IsNext c.args.number left rest) c.in-End.is c.in_ok-step.ensures.next)
