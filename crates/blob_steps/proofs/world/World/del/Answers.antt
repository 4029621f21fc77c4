use Rattle.std.proofs.Common.{refl}
use Rattle.blob_script.specs.Answers.{model_line}
use Rattle.store_model.specs.Turn as turn
use Rattle.blob_steps.specs.declared.world.World.{World}
use Rattle.blob_steps.proofs.Turning.{TakesTurn-turned, if-ok}
use Rattle.blob_steps.proofs.world.World.del.Goals as goal

pub returns-clause-turn : goal.returns-clause-turn
returns-clause-turn g c =
    let mine = c.args.self.now in
    let new : World _ = record { vault = mine.vault; sessions = c.delete.new.sessions; queue = mine.queue } in
    if-ok c.delete.result (λ line done.
    TakesTurn-turned mine new c.args.session (turn.Delete c.args.key.now) (model_line line) c.requires.sound
    (λ stage queue number. refl) refl refl done) c.delete.ensures
