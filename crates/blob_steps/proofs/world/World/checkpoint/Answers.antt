use Rattle.std.proofs.Common.{ℕ, List, ◌-◌, ◌++◌, ◌∙◌, ap, arith}
use Rattle.store_model.specs.Answer as answer
use Rattle.store_model.specs.Answer.{answer_text}
use Rattle.blob_steps.specs.declared.world.World.{World}
use Rattle.blob_steps.proofs.Checkpoints.{came-turned, follows-turned, survives-turned}
use Rattle.blob_steps.proofs.world.World.checkpoint.Goals as goal

pub returns-clause-came : goal.returns-clause-came
returns-clause-came g c = λ world is.
    let mine = c.args.self.now in
    let turned = c.in_ok-turn.ensures in
    came-turned g.D.Disk mine c.turn.new.self world c.print.new.out (1 - mine.vault.memory.log.half) (omega arith) is turned.same turned.wrote
    (λ cost gate. turned.costs world.store cost is.store gate)
    (c.in_ok-print.ensures ∙ ap (λ (front : List ℕ). front ++ answer_text answer.Checkpointed) c.requires.none)

pub returns-clause-follows : goal.returns-clause-follows
returns-clause-follows g c = λ world is.
    let mine = c.args.self.now in
    let turned = c.in_ok-turn.ensures in
    follows-turned g.D.Disk mine c.turn.new.self world (1 - mine.vault.memory.log.half) (omega arith) is turned.same turned.wrote

pub returns-in_err-turn-clause-survives : goal.returns-in_err-turn-clause-survives
returns-in_err-turn-clause-survives g c =
    let mine = c.args.self.now in
    let later : World _ = record { vault = c.turn.new.self; sessions = mine.sessions; queue = mine.queue } in
    survives-turned g.D.Disk mine later c.rules.ensures c.requires.sound.unshut (λ told. c.turn.ensures.survives told c.requires.sound.unshut)

pub returns-in_err-print-clause-survives : goal.returns-in_err-print-clause-survives
returns-in_err-print-clause-survives g c =
    let mine = c.args.self.now in
    let later : World _ = record { vault = c.turn.new.self; sessions = mine.sessions; queue = mine.queue } in
    survives-turned g.D.Disk mine later c.rules.ensures c.requires.sound.unshut (λ told. c.turn.ensures.survives told c.requires.sound.unshut)

pub returns-clause-survives : goal.returns-clause-survives
returns-clause-survives g c =
    let mine = c.args.self.now in
    let later : World _ = record { vault = c.turn.new.self; sessions = mine.sessions; queue = mine.queue } in
    survives-turned g.D.Disk mine later c.rules.ensures c.requires.sound.unshut (λ told. c.turn.ensures.survives told c.requires.sound.unshut)
