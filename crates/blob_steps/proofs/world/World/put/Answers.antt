use Rattle.std.proofs.Common.{arith, refl}
use Rattle.std.specs.Vec.{with_item}
use Rattle.blob_script.specs.Answers.{model_line}
use Rattle.blob_script.specs.Contents.{content_bytes}
use Rattle.store_model.specs.Store.{empty_store}
use Rattle.store_model.specs.Turn as turn
use Rattle.blob_steps.specs.declared.world.World.{World}
use Rattle.blob_steps.proofs.Turning.{Alone-same, TakesTurn-alone, get-at, if-ok}
use Rattle.blob_steps.proofs.world.World.put.Goals as goal

pub returns-clause-turn : goal.returns-clause-turn
returns-clause-turn g c =
    let mine = c.args.self.now in
    let was = c.index_mut.result.now in
    let later = c.put.new.self in
    let new : World _ = record { vault = mine.vault; sessions = with_item mine.sessions c.args.session later; queue = mine.queue } in
    let there = get-at mine.sessions.items c.args.session was was (omega (arith, c.requires.sound.sixteen, c.requires.session)) c.index_mut.ensures.value in
    let action = turn.Put c.args.key.now (content_bytes c.args.content.now) in
    if-ok c.put.result (λ line turns.
    TakesTurn-alone mine new c.args.session was later action (model_line line) c.requires.sound refl
    (Alone-same mine new c.args.session was later c.requires.sound refl (record { there = there; new_is = refl }) refl
    (omega (arith, c.put.ensures.begun)) c.put.ensures.waits)
    (λ world is. turns world.store (world.sessions c.args.session) c.args.session (is.sessions c.args.session was there))
    (λ theirs stands. (empty_store, (turns empty_store theirs c.args.session stands).stands))
    (λ world is. refl)) c.put.ensures.turn
