use Rattle.std.proofs.Common.{rules}
use Rattle.group_plan.proofs.GivingBack.{Contains-next, Giving-next}
use Rattle.group_plan.proofs.takings.Takings.give_back_from.Goals as goal

pub give_back-requires-clause-owned : goal.give_back-requires-clause-owned
give_back-requires-clause-owned c =
    Contains-next c.args.kept c.args.space.now c.given.space c.args.self.now c.given.self (record { blocks = c.pop.new.self; spare = c.given.self.spare }) (c.in-Some.head, c.in-Some.tier)
    c.given.invariant c.in-Some.ensures.items c.requires.owned.0 c.requires.owned.1

pub given-preserved : goal.given-preserved
given-preserved c =
    Giving-next c.args.kept c.args.space.now c.given.space c.give_back.new.self c.args.self.now c.given.self (record { blocks = c.pop.new.self; spare = c.given.self.spare }) (c.in-Some.head, c.in-Some.tier)
    c.given.invariant (search rules) c.in-Some.ensures.items (search rules) c.give_back.ensures.owned c.give_back.ensures.spare c.give_back.ensures.pages
