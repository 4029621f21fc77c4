use Rattle.std.proofs.Common.{refl, sym, ◌∙◌}
use Rattle.std.specs.Prelude.{option_map}
use Rattle.blob_steps.proofs.Turning.{get-at, if-ok, number-found, store-with}
use Rattle.blob_steps.proofs.world.delete.Goals as goal

pub returns : goal.returns
returns g c =
    let was = c.index_mut.result.now in
    let memory = c.args.vault.now.memory in
    let there = get-at c.args.sessions.now.items c.args.session was was c.requires.session c.index_mut.ensures.value in
    let some = store-with c.args.key.now (option_map (λ r. r.now.born) c.look-now.result) c.front.result in
    if-ok c.del.result (λ found turns. record {
      was = was;
      later = c.del.new.self;
      set_is = record { there = there; new_is = refl };
      turns = λ theirs over is stands. turns over theirs c.args.session (sym is.last ∙ sym c.front.ensures) (number-found (λ r. r.now) memory over c.args.key.now c.look-now.result is c.look-now.ensures) stands;
      some = λ theirs stands. (some.0, (turns some.0 theirs c.args.session some.1 some.2 stands).stands);
      begun = c.del.ensures.begun;
      waits = c.del.ensures.waits;
    }) c.del.ensures.turn
