use Rattle.std.proofs.Common.{◌≡◌, ℕ, ◌%◌, length, take, get_or, ap, sym, ◌∙◌, arith, subst}
use Rattle.store_model.specs.Shape.{pages_of_tier}
use Rattle.store_model.specs.Space.{Block}
use Rattle.extent_alloc.specs.Order.{AllBelow}
use Rattle.extent_alloc.proofs.Scans.{Scanned, Scanned-next, contains-at, gap-before, gap-behind, gap-last}
use Rattle.extent_alloc.proofs.blocks.least_gap.Goals as goal

pub pages_of-requires : goal.pages_of-requires
pages_of-requires c =
    let last = c.requires.blocks (get_or c.args.owned.now c.scanned.i (0, 0)) (contains-at c.args.owned.now c.scanned.i (0, 0) c.scanned-test.true) in last.tier

pub scanned-preserved : goal.scanned-preserved
scanned-preserved c =
    let block : Block = get_or c.args.owned.now c.scanned.i (0, 0) in
    let size : c.pages_of-size.result ≡ pages_of_tier c.args.tier = c.pages_of-size.ensures.value in
    let its : c.pages_of.result ≡ pages_of_tier block.1 = c.pages_of.ensures.value in
    let next : ℕ = c.round_up-head.result in
    let rounded = c.round_up-head.ensures in
    Scanned-next c.args.owned.now c.args.tier c.args.pages c.scanned.i c.scanned.head next (0, 0) c.requires.order c.scanned-test.true
    (omega (arith, c.if-head-size.false, size))
    (ap (λ (n : ℕ). next % n) (sym size) ∙ rounded.multiple)
    (omega (arith, rounded.from, its))
    (λ m multiple from. rounded.least m (ap (λ (n : ℕ). m % n) size ∙ multiple) (omega (arith, from, its)))
    rounded.most
    c.scanned.invariant

pub returns-then-head-size-clause-least : goal.returns-then-head-size-clause-least
returns-then-head-size-clause-least c =
    gap-before c.args.owned.now c.args.tier c.args.pages c.scanned.i c.scanned.head (0, 0) c.requires.order c.requires.blocks c.scanned-test.true
    (omega (arith, c.if-head-size.true, c.pages_of-size.ensures.value)) c.scanned.invariant

pub returns-then-head-size-clause-behind : goal.returns-then-head-size-clause-behind
returns-then-head-size-clause-behind c =
    gap-behind c.args.owned.now c.scanned.i _ (0, 0) c.requires.order c.scanned-test.true (omega (arith, c.if-head-size.true, c.pages_of-size.ensures.value))

pub returns-clause-least : goal.returns-clause-least
returns-clause-least c =
    let all : c.scanned.i ≡ length c.args.owned.now = omega (arith, c.scanned.auto.i-end, c.scanned-test.false) in
    gap-last c.args.owned.now c.args.tier c.args.pages c.scanned.head (omega (arith, c.if-head-size-2.false, c.pages_of-size.ensures.value))
    (subst (λ (n : ℕ). Scanned c.args.owned.now c.args.tier c.args.pages n c.scanned.head) all c.scanned.invariant)

pub returns-clause-before : goal.returns-clause-before
returns-clause-before c =
    let all : c.scanned.i ≡ length c.args.owned.now = omega (arith, c.scanned.auto.i-end, c.scanned-test.false) in
    subst (λ (n : ℕ). AllBelow c.scanned.head (take n c.args.owned.now)) all c.scanned.invariant.below
