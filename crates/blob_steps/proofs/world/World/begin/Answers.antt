use Rattle.std.proofs.Common.{arith, refl, sym, ◌∙◌}
use Rattle.std.specs.Vec.{with_item}
use Rattle.std.specs.FinMap.{empty}
use Rattle.blob_script.specs.Answers.{model_line}
use Rattle.store_model.specs.Store.{Store}
use Rattle.store_model.specs.Turn as turn
use Rattle.blob_steps.specs.declared.world.World.{World}
use Rattle.blob_steps.proofs.Turning.{Alone-same, TakesTurn-alone, get-at}
use Rattle.blob_steps.proofs.world.World.begin.Goals as goal

pub returns : goal.returns
returns g c =
    let mine = c.args.self.now in
    let was = c.index_mut.result.now in
    let later = c.begin.new.self in
    let new : World _ = record { vault = mine.vault; sessions = with_item mine.sessions c.args.session later; queue = mine.queue } in
    let there = get-at mine.sessions.items c.args.session was was (omega (arith, c.requires.sound.sixteen, c.requires.session)) c.index_mut.ensures.value in
    let over : Store = record { objects = empty; last = mine.vault.memory.last } in
    TakesTurn-alone mine new c.args.session was later turn.Begin (model_line c.begin.result) c.requires.sound refl
    (Alone-same mine new c.args.session was later c.requires.sound refl (record { there = there; new_is = refl }) refl
    (omega (arith, c.begin.ensures.begun)) c.begin.ensures.waits)
    (λ world is. c.begin.ensures.turn world.store (world.sessions c.args.session) (sym is.store.last ∙ sym c.front-front.ensures) (is.sessions c.args.session was there))
    (λ theirs stands. (over, (c.begin.ensures.turn over theirs (sym c.front-front.ensures) stands).stands))
    (λ world is. refl)
