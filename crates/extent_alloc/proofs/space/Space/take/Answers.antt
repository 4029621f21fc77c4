use Rattle.std.proofs.Common.{◌+◌, ◌≤◌, ◌∷◌, Bool, cond, sym, ◌∙◌, ap, subst, arith}
use Rattle.std.specs.Vec.{vec_len}
use Rattle.std.specs.List.Sorted.{IsPermutation}
use Rattle.store_model.specs.Space.{AreBlocks}
use Rattle.extent_alloc.specs.Parts.{Parts}
use Rattle.extent_alloc.proofs.Spaces.{Taken-insert}
use Rattle.extent_alloc.proofs.space.Space.take.Goals as goal

pub least_gap-requires-clause-blocks : goal.least_gap-requires-clause-blocks
least_gap-requires-clause-blocks c = subst (AreBlocks c.self.inside.pages) (sym c.deref.ensures.value) c.self.invariant.blocks

pub invariant_of-self : goal.invariant_of-self
invariant_of-self c =
    let gap = c.in-Some.gap in
    let spare = subst (λ (p : Parts). 1 ≤ p.spare) (sym c.self.view_is) c.requires.spare in
    let taken = Taken-insert c.self.inside.pages c.args.tier c.self.inside.owned.items c.deref.result.now c.insert.new.self.items gap.head gap.before c.insert.result
    c.deref.ensures.value c.insert.ensures.items (c.insert.ensures.succeeds (omega (arith, c.self.invariant.room, spare))) c.requires.tier
    c.in-Some.ensures.least c.in-Some.ensures.before c.in-Some.ensures.behind c.self.invariant.blocks c.self.invariant.order in
    record {
      most = c.self.invariant.most;
      blocks = taken.blocks;
      order = taken.order;
      room = omega (
        arith,
        c.insert.ensures.capacity,
        c.self.invariant.room,
        spare,
        c.insert.ensures.len ∙ ap (λ (b : Bool). cond b (vec_len c.self.inside.owned + 1) (vec_len c.self.inside.owned)) (c.insert.ensures.succeeds (omega (arith, c.self.invariant.room, spare))),
      );
    }

pub returns-clause-owned : goal.returns-clause-owned
returns-clause-owned c =
    let gap = c.in-Some.gap in
    let spare = subst (λ (p : Parts). 1 ≤ p.spare) (sym c.self.view_is) c.requires.spare in
    let taken = Taken-insert c.self.inside.pages c.args.tier c.self.inside.owned.items c.deref.result.now c.insert.new.self.items gap.head gap.before c.insert.result
    c.deref.ensures.value c.insert.ensures.items (c.insert.ensures.succeeds (omega (arith, c.self.invariant.room, spare))) c.requires.tier
    c.in-Some.ensures.least c.in-Some.ensures.before c.in-Some.ensures.behind c.self.invariant.blocks c.self.invariant.order in
    subst (λ (p : Parts). IsPermutation c.insert.new.self.items ((gap.head, c.args.tier) ∷ p.owned)) c.self.view_is taken.more
