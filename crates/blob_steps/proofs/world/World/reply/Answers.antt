use Rattle.std.proofs.Common.{arith, refl}
use Rattle.blob_steps.proofs.Turning.{get-at}
use Rattle.blob_steps.proofs.world.World.reply.Goals as goal

pub returns-clause-left : goal.returns-clause-left
returns-clause-left g c =
    let mine = c.args.self.now in
    let was = c.index_mut.result.now in
    record {
      one = was;
      was = get-at mine.sessions.items c.args.session was was (omega (arith, c.requires.sixteen, c.requires.session)) c.index_mut.ensures.value;
      sessions = refl;
      queue = refl;
      vault = refl;
    }
