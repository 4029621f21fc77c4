use Rattle.std.proofs.Common.{subst}
use Rattle.store_model.specs.Space.{Apart, AreBlocks}
use Rattle.extent_alloc.specs.Parts.{Parts}
use Rattle.extent_alloc.proofs.Orders.{Apart-InOrder}
use Rattle.extent_alloc.proofs.space.Space.rules.Goals as goal

pub returns-clause-blocks : goal.returns-clause-blocks
returns-clause-blocks c = subst (λ (p : Parts). AreBlocks p.pages p.owned) c.self.view_is c.self.invariant.blocks

pub returns-clause-apart : goal.returns-clause-apart
returns-clause-apart c = subst (λ (p : Parts). Apart p.owned) c.self.view_is (Apart-InOrder c.self.inside.owned.items c.self.invariant.order)
