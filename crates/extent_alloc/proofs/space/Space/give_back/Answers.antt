use Rattle.std.proofs.Common.{◌∷◌, subst, arith}
use Rattle.std.specs.List.Sorted.{IsPermutation}
use Rattle.extent_alloc.specs.Parts.{Parts}
use Rattle.extent_alloc.proofs.Spaces.{GivenBack-remove}
use Rattle.extent_alloc.proofs.space.Space.give_back.Goals as goal

pub invariant_of-self : goal.invariant_of-self
invariant_of-self c =
    let given = GivenBack-remove c.self.inside.pages c.self.inside.owned.items c.deref.result.now c.remove.new.self.items c.index_of-at.result (c.args.head, c.args.tier)
    c.deref.ensures.value c.index_of-at.ensures.within c.index_of-at.ensures.there c.remove.ensures.items c.self.invariant.blocks c.self.invariant.order in
    record {
      most = c.self.invariant.most;
      blocks = given.blocks;
      order = given.order;
      room = omega (arith, c.remove.ensures.len, c.remove.ensures.capacity, c.self.invariant.room);
    }

pub returns-clause-owned : goal.returns-clause-owned
returns-clause-owned c =
    let given = GivenBack-remove c.self.inside.pages c.self.inside.owned.items c.deref.result.now c.remove.new.self.items c.index_of-at.result (c.args.head, c.args.tier)
    c.deref.ensures.value c.index_of-at.ensures.within c.index_of-at.ensures.there c.remove.ensures.items c.self.invariant.blocks c.self.invariant.order in
    subst (λ (p : Parts). IsPermutation p.owned ((c.args.head, c.args.tier) ∷ c.remove.new.self.items)) c.self.view_is given.less
