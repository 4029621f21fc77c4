use Rattle.std.proofs.Common.{◌∙◌, sym, subst, List, arith}
use Rattle.std.specs.List.Sorted.{IsPermutation}
use Rattle.std.proofs.lemmas.List.Sorted.{IsPermutation-sym}
use Rattle.store_model.specs.Space.{AreBlocks, Block, IsLeastOwnedTwice}
use Rattle.extent_alloc.specs.Order.{AreSorted, InOrder}
use Rattle.extent_alloc.proofs.Orders.{Apart-InOrder}
use Rattle.extent_alloc.proofs.Spaces.{Apart-permutation, AreBlocks-permutation, AreSorted-sorted, IsLeastOwnedTwice-permutation, same-block}
use Rattle.extent_alloc.proofs.space.Space.build.Goals as goal
use Rattle.extent_alloc.proofs.space.Space.build.Goals.{After-deref}

-- the blocks were copied and put into another order
moved : (c : After-deref) → IsPermutation c.args.owned.now c.sort.new.self.items
moved c =
    subst (λ (xs : List Block). IsPermutation xs c.sort.new.self.items) (c.in_ok-blocks.ensures.items_if_clones_equal same-block ∙ c.as_slice.ensures) c.in_ok-sort.ensures.permutation

pub least_shared-requires-clause-blocks : goal.least_shared-requires-clause-blocks
least_shared-requires-clause-blocks c =
    subst (AreBlocks c.args.pages) (sym c.deref.ensures.value) (AreBlocks-permutation c.args.pages c.args.owned.now c.sort.new.self.items (moved c) c.requires.blocks)

pub least_shared-requires-clause-heads : goal.least_shared-requires-clause-heads
least_shared-requires-clause-heads c = subst AreSorted (sym c.deref.ensures.value) (AreSorted-sorted c.sort.new.self.items c.in_ok-sort.ensures.sorted)

pub invariant_of-result : goal.invariant_of-result
invariant_of-result c = record {
  most = c.requires.most;
  blocks = AreBlocks-permutation c.args.pages c.args.owned.now c.sort.new.self.items
      (subst (λ (xs : List Block). IsPermutation xs c.sort.new.self.items) (c.in_ok-blocks.ensures.items_if_clones_equal same-block ∙ c.as_slice.ensures) c.in_ok-sort.ensures.permutation) c.requires.blocks;
  order = subst InOrder c.deref.ensures.value c.in-None.ensures.order;
  room = omega (arith, c.sort.new.self.ok);
}

pub returns-in-Some-clause-twice : goal.returns-in-Some-clause-twice
returns-in-Some-clause-twice c =
    IsLeastOwnedTwice-permutation c.args.owned.now c.sort.new.self.items c.in-Some.page
    (subst (λ (xs : List Block). IsPermutation xs c.sort.new.self.items) (c.in_ok-blocks.ensures.items_if_clones_equal same-block ∙ c.as_slice.ensures) c.in_ok-sort.ensures.permutation)
    (subst (λ (xs : List Block). IsLeastOwnedTwice xs c.in-Some.page) c.deref.ensures.value c.in-Some.ensures.shared)

pub returns-in-None-clause-owned : goal.returns-in-None-clause-owned
returns-in-None-clause-owned c =
    IsPermutation-sym c.args.owned.now c.sort.new.self.items
    (subst (λ (xs : List Block). IsPermutation xs c.sort.new.self.items) (c.in_ok-blocks.ensures.items_if_clones_equal same-block ∙ c.as_slice.ensures) c.in_ok-sort.ensures.permutation)

pub returns-in-None-clause-apart : goal.returns-in-None-clause-apart
returns-in-None-clause-apart c =
    Apart-permutation c.args.owned.now c.sort.new.self.items
    (subst (λ (xs : List Block). IsPermutation xs c.sort.new.self.items) (c.in_ok-blocks.ensures.items_if_clones_equal same-block ∙ c.as_slice.ensures) c.in_ok-sort.ensures.permutation)
    (Apart-InOrder c.sort.new.self.items (subst InOrder c.deref.ensures.value c.in-None.ensures.order))
