use Rattle.vault.proofs.GivingBack.{Giving-next, owned-next}
use Rattle.vault.proofs.making.give_back_all.Goals as goal

pub give_back-requires-clause-owned : goal.give_back-requires-clause-owned
give_back-requires-clause-owned c =
    owned-next c.given.i c.args.blocks.now c.get.result.now c.args.space.now c.given.space c.get.ensures c.given.invariant c.requires.owned.0 c.requires.owned.1

pub given-preserved : goal.given-preserved
given-preserved c =
    Giving-next c.given.i c.args.blocks.now c.get.result.now c.args.space.now c.given.space c.give_back.new.self c.get.ensures c.given.invariant c.give_back.ensures.owned c.give_back.ensures.spare c.give_back.ensures.pages
