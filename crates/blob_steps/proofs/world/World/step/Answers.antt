use Rattle.std.proofs.Common.{Err, ◌∙◌, ap}
use Rattle.std.proofs.lemmas.Result.{err_from_is_err_and}
use Rattle.blob_script.specs.Words.{model_step}
use Rattle.blob_script.specs.declared.step.Step.{Step}
use Rattle.store_model.specs.Play.{step_play}
use Rattle.store_model.specs.World.{checkpointed, lead}
use Rattle.blob_steps.proofs.Answering.{Stepped-err}
use Rattle.blob_steps.proofs.Surviving.{StepSurvives-reads}
use Rattle.blob_steps.proofs.world.World.step.Goals as goal

pub returns-in_err-lead-in-Lead-clause-stepped : goal.returns-in_err-lead-in-Lead-clause-stepped
returns-in_err-lead-in-Lead-clause-stepped g c =
    let p = err_from_is_err_and c.from_residual.result c.from_residual.ensures.1 in
    Stepped-err g.D.Disk c.args.self.now c.lead.new.self c.lead.result c.from_residual.result c.in_err-lead-in-Lead.field-0.0
    c.in_err-lead-in-Lead.was (p.1 ∙ ap Err p.2) c.lead.ensures.stepped

pub returns-in-Session-clause-play : goal.returns-in-Session-clause-play
returns-in-Session-clause-play g c = λ world is. rw c.in-Session.is (c.turn.ensures.play world is)

pub returns-in_ok-lead-in-Lead-clause-play : goal.returns-in_ok-lead-in-Lead-clause-play
returns-in_ok-lead-in-Lead-clause-play g c = λ world is.
    let layout = c.args.self.now.vault.memory.layout in
    (lead layout world, ap (λ (s : Step). step_play layout world (model_step s)) c.in-Lead.is, c.in_ok-lead-in-Lead.ensures.came world is)

pub returns-in_err-checkpoint-in-Checkpoint-clause-stepped : goal.returns-in_err-checkpoint-in-Checkpoint-clause-stepped
returns-in_err-checkpoint-in-Checkpoint-clause-stepped g c =
    let p = err_from_is_err_and c.from_residual-in_err-checkpoint-in-Checkpoint.result c.from_residual-in_err-checkpoint-in-Checkpoint.ensures.1 in
    Stepped-err g.D.Disk c.args.self.now c.checkpoint.new.self c.checkpoint.result c.from_residual-in_err-checkpoint-in-Checkpoint.result
    c.in_err-checkpoint-in-Checkpoint.field-0.0 c.in_err-checkpoint-in-Checkpoint.was (p.1 ∙ ap Err p.2) c.checkpoint.ensures.stepped

pub returns-in-Session-clause-always : goal.returns-in-Session-clause-always
returns-in-Session-clause-always g c = rw c.in-Session.is c.turn.ensures.always

pub returns-in_ok-lead-in-Lead-clause-always : goal.returns-in_ok-lead-in-Lead-clause-always
returns-in_ok-lead-in-Lead-clause-always g c = λ layout world.
    (lead layout world, ap (λ (s : Step). step_play layout world (model_step s)) c.in-Lead.is)

pub returns-in_ok-checkpoint-in-Checkpoint-clause-play : goal.returns-in_ok-checkpoint-in-Checkpoint-clause-play
returns-in_ok-checkpoint-in-Checkpoint-clause-play g c = λ world is.
    let layout = c.args.self.now.vault.memory.layout in
    (checkpointed world, ap (λ (s : Step). step_play layout world (model_step s)) c.in-Checkpoint.is, c.in_ok-checkpoint-in-Checkpoint.ensures.came world is)

pub returns-in_ok-checkpoint-in-Checkpoint-clause-always : goal.returns-in_ok-checkpoint-in-Checkpoint-clause-always
returns-in_ok-checkpoint-in-Checkpoint-clause-always g c = λ layout world.
    (checkpointed world, ap (λ (s : Step). step_play layout world (model_step s)) c.in-Checkpoint.is)

pub returns-in-Session-clause-follows : goal.returns-in-Session-clause-follows
returns-in-Session-clause-follows g c = λ world is. rw c.in-Session.is (c.turn.ensures.follows world is)

pub returns-in-Session-clause-breaks : goal.returns-in-Session-clause-breaks
returns-in-Session-clause-breaks g c = λ told world is. rw c.in-Session.is (c.turn.ensures.breaks told world is)

pub returns-in_ok-lead-in-Lead-clause-follows : goal.returns-in_ok-lead-in-Lead-clause-follows
returns-in_ok-lead-in-Lead-clause-follows g c = λ world is.
    let layout = c.args.self.now.vault.memory.layout in
    (lead layout world, ap (λ (s : Step). step_play layout world (model_step s)) c.in-Lead.is, λ none. c.in_ok-lead-in-Lead.ensures.follows world is none)

pub returns-in_ok-checkpoint-in-Checkpoint-clause-follows : goal.returns-in_ok-checkpoint-in-Checkpoint-clause-follows
returns-in_ok-checkpoint-in-Checkpoint-clause-follows g c = λ world is.
    let layout = c.args.self.now.vault.memory.layout in
    (checkpointed world, ap (λ (s : Step). step_play layout world (model_step s)) c.in-Checkpoint.is, λ none. c.in_ok-checkpoint-in-Checkpoint.ensures.follows world is)

pub returns-in-Session-clause-survives : goal.returns-in-Session-clause-survives
returns-in-Session-clause-survives g c =
    StepSurvives-reads g.D.Disk (model_step c.args.step) c.args.self.now c.turn.new.self c.turn.ensures.only_reads

pub returns-in_err-lead-in-Lead-clause-survives : goal.returns-in_err-lead-in-Lead-clause-survives
returns-in_err-lead-in-Lead-clause-survives g c = rw c.in-Lead.is c.lead.ensures.survives

pub returns-in_ok-lead-in-Lead-clause-survives : goal.returns-in_ok-lead-in-Lead-clause-survives
returns-in_ok-lead-in-Lead-clause-survives g c = rw c.in-Lead.is c.lead.ensures.survives

pub returns-in_err-checkpoint-in-Checkpoint-clause-survives : goal.returns-in_err-checkpoint-in-Checkpoint-clause-survives
returns-in_err-checkpoint-in-Checkpoint-clause-survives g c = rw c.in-Checkpoint.is c.checkpoint.ensures.survives

pub returns-in_ok-checkpoint-in-Checkpoint-clause-survives : goal.returns-in_ok-checkpoint-in-Checkpoint-clause-survives
returns-in_ok-checkpoint-in-Checkpoint-clause-survives g c = rw c.in-Checkpoint.is c.checkpoint.ensures.survives
