use Rattle.std.proofs.Common.{◌≡◌, ℕ, ◌+◌, get_or, ap, sym, arith, subst}
use Rattle.store_model.specs.Shape.{pages_of_tier}
use Rattle.store_model.specs.Space.{Block}
use Rattle.extent_alloc.proofs.Scans.{Ordered, Ordered-next, contains-at, shared-least}
use Rattle.extent_alloc.proofs.blocks.least_shared.Goals as goal

pub pages_of-requires : goal.pages_of-requires
pages_of-requires c =
    let last = c.requires.blocks (get_or c.args.blocks.now c.ordered.i (0, 0)) (contains-at c.args.blocks.now c.ordered.i (0, 0) c.ordered-test.true) in last.tier

pub returns-then-head-end-clause-shared : goal.returns-then-head-end-clause-shared
returns-then-head-end-clause-shared c =
    shared-least c.args.blocks.now c.ordered.i c.ordered.end (0, 0) c.requires.heads c.ordered-test.true c.if-head-end.true c.ordered.invariant

pub ordered-preserved : goal.ordered-preserved
ordered-preserved c =
    let block : Block = get_or c.args.blocks.now c.ordered.i (0, 0) in
    let its : c.pages_of.result ≡ pages_of_tier block.1 = c.pages_of.ensures.value in
    let last = c.requires.blocks block (contains-at c.args.blocks.now c.ordered.i (0, 0) c.ordered-test.true) in
    subst (Ordered c.args.blocks.now (c.ordered.i + 1)) (ap (λ (n : ℕ). block.0 + n) (sym its))
    (Ordered-next c.args.blocks.now c.ordered.i c.ordered.end (0, 0) c.ordered-test.true (omega (arith, c.if-head-end.false)) (omega (arith, last.within, c.requires.pages)) c.ordered.invariant)
