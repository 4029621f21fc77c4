use Rattle.std.proofs.Common.{arith, refl}
use Rattle.std.specs.Vec.{with_item}
use Rattle.blob_script.specs.Answers.{model_line}
use Rattle.store_model.specs.Store.{empty_store}
use Rattle.store_model.specs.Turn as turn
use Rattle.blob_steps.specs.declared.world.World.{World}
use Rattle.blob_steps.proofs.Turning.{Alone-same, TakesTurn-alone, get-at}
use Rattle.blob_steps.proofs.world.World.abort.Goals as goal

pub returns : goal.returns
returns g c =
    let mine = c.args.self.now in
    let was = c.index_mut.result.now in
    let later = c.abort.new.self in
    let new : World _ = record { vault = mine.vault; sessions = with_item mine.sessions c.args.session later; queue = mine.queue } in
    let there = get-at mine.sessions.items c.args.session was was (omega (arith, c.requires.sound.sixteen, c.requires.session)) c.index_mut.ensures.value in
    TakesTurn-alone mine new c.args.session was later turn.Abort (model_line c.abort.result) c.requires.sound refl
    (Alone-same mine new c.args.session was later c.requires.sound refl (record { there = there; new_is = refl }) refl
    (omega (arith, c.abort.ensures.begun)) c.abort.ensures.waits)
    (λ world is. c.abort.ensures.turn world.store (world.sessions c.args.session) c.args.session (is.sessions c.args.session was there))
    (λ theirs stands. (empty_store, (c.abort.ensures.turn empty_store theirs c.args.session stands).stands))
    (λ world is. refl)
