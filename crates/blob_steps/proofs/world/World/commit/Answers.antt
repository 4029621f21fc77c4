use Rattle.std.proofs.Common.{arith, refl, ◌∙◌, ap}
use Rattle.std.specs.Vec.{with_item}
use Rattle.blob_script.specs.Answers.{model_line}
use Rattle.store_model.specs.Store.{empty_store}
use Rattle.store_model.specs.Turn as turn
use Rattle.blob_steps.specs.declared.session.Session.{Session}
use Rattle.blob_steps.specs.declared.world.World.{World}
use Rattle.blob_steps.proofs.Queues.{TakesTurn-queued}
use Rattle.blob_steps.proofs.Turning.{Alone-same, TakesTurn-alone, get-at, not-queued}
use Rattle.blob_steps.proofs.world.World.commit.Goals as goal

pub returns-in_ok-push-in-Ok-clause-turn : goal.returns-in_ok-push-in-Ok-clause-turn
returns-in_ok-push-in-Ok-clause-turn g c =
    let mine = c.args.self.now in
    let was = c.index_mut.result.now in
    let new : World _ = record { vault = mine.vault; sessions = with_item mine.sessions c.args.session c.commit.new.self; queue = c.push.new.self } in
    let there = get-at mine.sessions.items c.args.session was was (omega (arith, c.requires.sound.sixteen, c.requires.session)) c.index_mut.ensures.value in
    TakesTurn-queued mine new c.args.session was c.commit.new.self c.in-Ok.request c.requires.sound
    (record {
      set_is = record { there = there; new_is = refl };
      vault = refl;
      queue = c.in_ok-push-in-Ok.ensures.ok;
      asks = λ theirs stands. c.in-Ok.ensures.turn empty_store theirs c.args.session stands;
      begun = c.commit.ensures.begun;
    })

pub returns-in-Err-clause-turn : goal.returns-in-Err-clause-turn
returns-in-Err-clause-turn g c =
    let mine = c.args.self.now in
    let was = c.index_mut.result.now in
    let later = c.commit.new.self in
    let new : World _ = record { vault = mine.vault; sessions = with_item mine.sessions c.args.session later; queue = mine.queue } in
    let there = get-at mine.sessions.items c.args.session was was (omega (arith, c.requires.sound.sixteen, c.requires.session)) c.index_mut.ensures.value in
    TakesTurn-alone mine new c.args.session was later turn.Commit (model_line c.in-Err.line) c.requires.sound refl
    (Alone-same mine new c.args.session was later c.requires.sound refl (record { there = there; new_is = refl }) refl
    (omega (arith, c.commit.ensures.begun)) (λ waits. ap (λ (s : Session). s.stage) c.in-Err.ensures.same ∙ waits))
    (λ world is. c.in-Err.ensures.turn world.store (world.sessions c.args.session) c.args.session (is.sessions c.args.session was there))
    (λ theirs stands. (empty_store, (c.in-Err.ensures.turn empty_store theirs c.args.session stands).stands))
    (λ world is. not-queued was.stage c.args.session was.begun (world.sessions c.args.session).stage world.queue c.in-Err.ensures.not_open (is.sessions c.args.session was there).stage)
