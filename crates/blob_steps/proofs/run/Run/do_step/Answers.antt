use Rattle.std.proofs.Common.{refl, subst, sym}
use Rattle.blob_script.specs.Words.{model_step}
use Rattle.blob_script.specs.declared.status.Status.{Status}
use Rattle.blob_steps.specs.Runs.{IsUndamaged, ShowsDamage}
use Rattle.blob_steps.specs.Breaks.{EndsBreaking}
use Rattle.blob_steps.specs.Going.{EndsNaming}
use Rattle.blob_steps.specs.Steps.{DoesFollow, DoesPlay}
use Rattle.blob_steps.proofs.Breaking.{EndsBreaking-ending}
use Rattle.blob_steps.specs.declared.world.Played.{Played}
use Rattle.blob_steps.proofs.OnTheWay.{EndsNaming-ending, ShowsDamage-ending, undamaged-ending}
use Rattle.blob_steps.proofs.run.Run.do_step.Goals as goal

pub returns-in-Ok-Answered-clause-step : goal.returns-in-Ok-Answered-clause-step
returns-in-Ok-Answered-clause-step g c = λ world is.
    subst (λ (p : Played). DoesPlay g.D.Disk world (model_step c.args.step) c.step.new.text c.args.self.now.world c.step.new.self p)
    c.in-Ok-Answered.field-0-is (c.in-Ok-Answered.ensures.play world is)

pub returns-in-Ok-NotBuilt-clause-unbuilt : goal.returns-in-Ok-NotBuilt-clause-unbuilt
returns-in-Ok-NotBuilt-clause-unbuilt g c = λ world is.
    let none =
    subst (λ (p : Played). DoesPlay g.D.Disk world (model_step c.args.step) c.step.new.text c.args.self.now.world c.step.new.self p)
    c.in-Ok-NotBuilt.field-0-is (c.in-Ok-NotBuilt.ensures.play world is) in
    (refl, none.0, none.1)

pub returns-in-Err-clause-damage : goal.returns-in-Err-clause-damage
returns-in-Err-clause-damage g c = λ world is.
    subst (λ (s : Status). ShowsDamage s world.store.objects) (sym c.step_status.ensures)
    (ShowsDamage-ending c.in-Err.fault world.store.objects (c.in-Err.ensures.stepped.damage world is))

pub returns-in-Err-clause-whole : goal.returns-in-Err-clause-whole
returns-in-Err-clause-whole g c = λ told world is held.
    subst IsUndamaged (sym c.step_status.ensures) (undamaged-ending c.in-Err.fault (c.in-Err.ensures.stepped.whole told world is held))

pub returns-in-Ok-Answered-clause-follows : goal.returns-in-Ok-Answered-clause-follows
returns-in-Ok-Answered-clause-follows g c = λ world is.
    subst (λ (p : Played). DoesFollow g.D.Disk world (model_step c.args.step) c.args.self.now.world c.step.new.self p)
    c.in-Ok-Answered.field-0-is (c.in-Ok-Answered.ensures.follows world is)

pub returns-in-Ok-NotBuilt-clause-breaks : goal.returns-in-Ok-NotBuilt-clause-breaks
returns-in-Ok-NotBuilt-clause-breaks g c = λ told world is.
    subst (λ (p : Played). DoesFollow g.D.Disk world (model_step c.args.step) c.args.self.now.world c.step.new.self p)
    c.in-Ok-NotBuilt.field-0-is (c.in-Ok-NotBuilt.ensures.follows world is)

pub returns-in-Err-clause-breaks : goal.returns-in-Err-clause-breaks
returns-in-Err-clause-breaks g c = λ told world is.
    subst (EndsBreaking g.D.Disk c.args.self.now.world world (model_step c.args.step)) (sym c.step_status.ensures)
    (EndsBreaking-ending g.D.Disk c.args.self.now.world world (model_step c.args.step) c.in-Err.fault (c.in-Err.ensures.breaks told world is))

pub returns-in-Err-clause-named : goal.returns-in-Err-clause-named
returns-in-Err-clause-named g c =
    subst (EndsNaming (model_step c.args.step)) (sym c.step_status.ensures) (EndsNaming-ending c.in-Err.fault (model_step c.args.step) c.in-Err.ensures.named)
