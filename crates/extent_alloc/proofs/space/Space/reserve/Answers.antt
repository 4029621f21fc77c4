use Rattle.std.proofs.Common.{sym, subst, arith}
use Rattle.store_model.specs.Space.{AreBlocks}
use Rattle.extent_alloc.specs.Order.{InOrder}
use Rattle.extent_alloc.proofs.space.Space.reserve.Goals as goal

pub invariant_of-self : goal.invariant_of-self
invariant_of-self c =
    let more = c.reserve.ensures in
    record {
      most = c.self.invariant.most;
      blocks = subst (AreBlocks c.self.inside.pages) (sym more.items) c.self.invariant.blocks;
      order = subst InOrder (sym more.items) c.self.invariant.order;
      room = omega (arith, c.self.invariant.room, more.len, more.capacity);
    }

pub invariant_of-self-then-self-n : goal.invariant_of-self-then-self-n
invariant_of-self-then-self-n c =
    let more = c.reserve.ensures in
    record {
      most = c.self.invariant.most;
      blocks = subst (AreBlocks c.self.inside.pages) (sym more.items) c.self.invariant.blocks;
      order = subst InOrder (sym more.items) c.self.invariant.order;
      room = omega (arith, c.in_ok-reserve.ensures.ok, more.len);
    }
