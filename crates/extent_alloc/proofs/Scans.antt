-- The scans of blocks in order.
use Rattle.std.proofs.Common.{◌≡◌, ℕ, zero, suc, ◌+◌, ◌%◌, ◌^◌, ◌<◌, ◌≤◌, Bool, true, false, cond, List, [], ◌∷◌, ◌++◌, take, drop, length, get_or, max, refl, sym, ◌∙◌, ap, subst, arith, inl, inr}
use Rattle.std.specs.Prelude.{Contains}
use Rattle.std.proofs.Math.Seq.{take-suc, drop-cons}
use Rattle.std.proofs.lemmas.List.{take-append-drop}
use Rattle.std.proofs.lemmas.List.Elements.{Contains-append_cases, Contains-append_right}
use Rattle.std.proofs.Math.Nat.{mod-eq_of_lt}
use Rattle.std.proofs.lemmas.Bool.{cases_lt}
use Rattle.std.proofs.lemmas.Nat.{pow_pos}
use Rattle.store_model.specs.Shape.{pages_of_tier}
use Rattle.store_model.specs.Space.{AreBlocks, Block, IsFree, IsFull, IsLeastFree, IsLeastOwnedTwice, end_of, lies_in, owners}
use Rattle.extent_alloc.specs.Order.{AllBelow, AllFrom, AreSorted, InOrder}
use Rattle.extent_alloc.proofs.Orders.{Apart-InOrder, InOrder-append, contains-cases, contains-head, contains-none, contains-tail, lies_in-from, lies_in-to, lies_in-yes, owners-below, owners-from, owners-some}

-- an element is there at its index
pub contains-at : {X : Type 0} (xs : List X) (i : ℕ) (d : X) → i < length xs → Contains xs (get_or xs i d)
contains-at [] i d less = absurd (omega arith)
contains-at (x ∷ xs) zero d less = contains-head x xs
contains-at (x ∷ xs) (suc i) d less = contains-tail x xs (get_or xs i d) (contains-at xs i d (omega arith))

-- one more element
take-more : {X : Type 0} (xs : List X) (i : ℕ) (d : X) → i < length xs → take (i + 1) xs ≡ take i xs ++ get_or xs i d ∷ []
take-more xs i d within = let next : i + 1 ≡ suc i = omega arith in ap (λ n. take n xs) next ∙ take-suc xs i d within

cond-add : (b : Bool) (m n : ℕ) → cond b (1 + (m + n)) (m + n) ≡ cond b (1 + m) m + n
cond-add true m n = omega arith
cond-add false m n = omega arith

owners-append : (xs ys : List Block) (page : ℕ) → owners (xs ++ ys) page ≡ owners xs page + owners ys page
owners-append [] ys page = omega arith
owners-append (x ∷ xs) ys page =
    ap (λ n. cond (lies_in page x) (1 + n) n) (owners-append xs ys page) ∙ cond-add (lies_in page x) (owners xs page) (owners ys page)

owners-split : (i : ℕ) (xs : List Block) (page : ℕ) → owners xs page ≡ owners (take i xs) page + owners (drop i xs) page
owners-split i xs page = sym (ap (λ zs. owners zs page) (take-append-drop i xs)) ∙ owners-append (take i xs) (drop i xs) page

-- in order, the earlier blocks end before a later one begins
pub before-at : (xs : List Block) (i : ℕ) (d one : Block) → InOrder xs → i < length xs → Contains (take i xs) one → end_of one ≤ (get_or xs i d).0
before-at [] i d one order less is = absurd (omega arith)
before-at (x ∷ xs) zero d one order less is = absurd (contains-none one is)
before-at (x ∷ xs) (suc i) d one order less is = elim (contains-cases x (take i xs) one is) [
  | inl here ↦ subst (λ (b : Block). end_of b ≤ (get_or xs i d).0) here (order.0 (get_or xs i d) (contains-at xs i d (omega arith)))
  | inr behind ↦ before-at xs i d one order.1 (omega arith) behind
]

-- and the later ones begin behind it
pub behind-at : (xs : List Block) (i : ℕ) (d : Block) → InOrder xs → i < length xs → AllFrom (get_or xs i d).0 (drop i xs)
behind-at [] i d order less one is = absurd (omega arith)
behind-at (x ∷ xs) zero d order less one is = elim (contains-cases x xs one is) [
  | inl here ↦ omega (arith, ap (λ (b : Block). b.0) here)
  | inr behind ↦ omega (arith, order.0 one behind)
]
behind-at (x ∷ xs) (suc i) d order less one is = behind-at xs i d order.1 (omega arith) one is

-- sorted, they don't begin before it
sorted-at : (xs : List Block) (i : ℕ) (d : Block) → AreSorted xs → i < length xs → AllFrom (get_or xs i d).0 (drop i xs)
sorted-at [] i d sorted less one is = absurd (omega arith)
sorted-at (x ∷ xs) zero d sorted less one is = elim (contains-cases x xs one is) [
  | inl here ↦ omega (arith, ap (λ (b : Block). b.0) here)
  | inr behind ↦ sorted.0 one behind
]
sorted-at (x ∷ xs) (suc i) d sorted less one is = sorted-at xs i d sorted.1 (omega arith) one is

-- sorted, the earlier ones don't begin behind it
sorted-before : (xs : List Block) (i : ℕ) (d one : Block) → AreSorted xs → i < length xs → Contains (take i xs) one → one.0 ≤ (get_or xs i d).0
sorted-before [] i d one sorted less is = absurd (omega arith)
sorted-before (x ∷ xs) zero d one sorted less is = absurd (contains-none one is)
sorted-before (x ∷ xs) (suc i) d one sorted less is = elim (contains-cases x (take i xs) one is) [
  | inl here ↦ subst (λ (b : Block). b.0 ≤ (get_or xs i d).0) here (sorted.0 (get_or xs i d) (contains-at xs i d (omega arith)))
  | inr behind ↦ sorted-before xs i d one sorted.1 (omega arith) behind
]

-- Some blocks are scanned for a gap: no place before `head` is free, and the blocks so far end before it.
pub record Scanned (owned : List Block) (tier pages i head : ℕ) : Type 0 where
  pub aligned : head % pages_of_tier tier ≡ 0
  pub below : AllBelow head (take i owned)
  pub least : (other : ℕ) → other < head → IsFree owned tier pages other → ⊥
  pub most : head ≤ 2 ^ 24 + 1024

pub Scanned-none : (owned : List Block) (tier pages : ℕ) → Scanned owned tier pages 0 0
Scanned-none owned tier pages = record {
  aligned = mod-eq_of_lt (pow_pos tier);
  below = λ one is. absurd (contains-none one is);
  least = λ other less. absurd (omega (arith, less));
  most = omega arith;
}

-- a block that begins before a place ends, and ends behind its begin, keeps it from being free
not-free : (owned : List Block) (tier pages head : ℕ) (block : Block) → Contains owned block → block.0 < end_of (head, tier) → head < end_of block → IsFree owned tier pages head → ⊥
not-free owned tier pages head block there begins ends free =
    let pos : 0 < pages_of_tier tier = pow_pos tier in
    let some : 0 < pages_of_tier block.1 = pow_pos block.1 in
    let page : ℕ = max head block.0 in
    let mine = lies_in-yes page (head, tier) (omega arith) (omega (arith, begins, pos)) in
    let other = lies_in-yes page block (omega arith) (omega (arith, ends, some)) in
    omega (arith, free.clear page mine, owners-some owned block page there other)

pub Scanned-next : (owned : List Block) (tier pages i head next : ℕ) (d : Block) → InOrder owned → i < length owned
    → (get_or owned i d).0 < end_of (head, tier) → next % pages_of_tier tier ≡ 0 → end_of (get_or owned i d) ≤ next
    → ((m : ℕ) → m % pages_of_tier tier ≡ 0 → end_of (get_or owned i d) ≤ m → next ≤ m) → next ≤ 2 ^ 24 + 1024
    → Scanned owned tier pages i head → Scanned owned tier pages (i + 1) next
Scanned-next owned tier pages i head next d order within begins aligned from least most scanned =
    let block : Block = get_or owned i d in
    let some : 0 < pages_of_tier block.1 = pow_pos block.1 in
    record {
      aligned = aligned;
      below = λ one is. elim (Contains-append_cases (take i owned) (block ∷ []) one (subst (λ xs. Contains xs one) (take-more owned i d within) is)) [
        | inl before ↦ omega (arith, before-at owned i d one order within before, from, some)
        | inr last ↦ elim (contains-cases block [] one last) [
          | inl here ↦ omega (arith, ap end_of here, from)
          | inr none ↦ absurd (contains-none one none)
        ]
      ];
      least = λ other less free. elim (cases_lt other head) [
        | inl before ↦ scanned.least other before free
        | inr behind ↦ elim (cases_lt other (end_of block)) [
          | inl inside ↦ not-free owned tier pages other block (contains-at owned i d within) (omega (arith, begins, behind)) inside free
          | inr past ↦ omega (arith, least other free.aligned past, less)
        ]
      ];
      most = most;
    }

-- a gap before a block, or behind them all
gap-free : (owned : List Block) (tier pages i head : ℕ) → Scanned owned tier pages i head → AllFrom (end_of (head, tier)) (drop i owned) → end_of (head, tier) ≤ pages → IsLeastFree owned tier pages head
gap-free owned tier pages i head scanned behind within = record {
  free = record {
    aligned = scanned.aligned;
    within = within;
    clear = λ page lies.
        omega (arith, owners-split i owned page, owners-below (take i owned) head page scanned.below (lies_in-from page (head, tier) lies), owners-from (drop i owned) (end_of (head, tier)) page behind (lies_in-to page (head, tier) lies));
  };
  least = scanned.least;
}

-- the blocks from one on begin behind a gap before it
pub gap-behind : (owned : List Block) (i bound : ℕ) (d : Block) → InOrder owned → i < length owned → bound ≤ (get_or owned i d).0 → AllFrom bound (drop i owned)
gap-behind owned i bound d order within le one is = omega (arith, behind-at owned i d order within one is, le)

pub gap-before : (owned : List Block) (tier pages i head : ℕ) (d : Block) → InOrder owned → AreBlocks pages owned → i < length owned → end_of (head, tier) ≤ (get_or owned i d).0
    → Scanned owned tier pages i head → IsLeastFree owned tier pages head
gap-before owned tier pages i head d order blocks within fits scanned =
    let some : 0 < pages_of_tier (get_or owned i d).1 = pow_pos (get_or owned i d).1 in
    let last = blocks (get_or owned i d) (contains-at owned i d within) in
    gap-free owned tier pages i head scanned (gap-behind owned i (end_of (head, tier)) d order within fits) (omega (arith, fits, last.within, some))

drop-all : {X : Type 0} (xs : List X) → drop (length xs) xs ≡ []
drop-all [] = refl
drop-all (x ∷ xs) = drop-all xs

pub none-behind : (owned : List Block) (bound : ℕ) → AllFrom bound (drop (length owned) owned)
none-behind owned bound one is = absurd (contains-none one (subst (λ (xs : List Block). Contains xs one) (drop-all owned) is))

pub gap-last : (owned : List Block) (tier pages head : ℕ) → end_of (head, tier) ≤ pages → Scanned owned tier pages (length owned) head → IsLeastFree owned tier pages head
gap-last owned tier pages head fits scanned = gap-free owned tier pages (length owned) head scanned (none-behind owned (end_of (head, tier))) fits

pub full-last : (owned : List Block) (tier pages head : ℕ) → pages < end_of (head, tier) → Scanned owned tier pages (length owned) head → IsFull owned tier pages
full-last owned tier pages head past scanned other free = elim (cases_lt other head) [
  | inl before ↦ scanned.least other before free
  | inr behind ↦ omega (arith, free.within, past, behind)
]

-- Some sorted blocks are in order so far, and end before this page.
pub record Ordered (blocks : List Block) (i end : ℕ) : Type 0 where
  pub order : InOrder (take i blocks)
  pub below : AllBelow end (take i blocks)
  pub last : 0 < end → (one : Block) × Contains (take i blocks) one × (end_of one ≡ end)
  pub most : end ≤ 2 ^ 24

pub Ordered-none : (blocks : List Block) → Ordered blocks 0 0
Ordered-none blocks = record {
  order = tt;
  below = λ one is. absurd (contains-none one is);
  last = λ less. absurd (omega (arith, less));
  most = omega arith;
}

pub Ordered-next : (blocks : List Block) (i end : ℕ) (d : Block) → i < length blocks → end ≤ (get_or blocks i d).0 → end_of (get_or blocks i d) ≤ 2 ^ 24
    → Ordered blocks i end → Ordered blocks (i + 1) (end_of (get_or blocks i d))
Ordered-next blocks i end d within behind most ordered =
    let block : Block = get_or blocks i d in
    let some : 0 < pages_of_tier block.1 = pow_pos block.1 in
    let more : take (i + 1) blocks ≡ take i blocks ++ block ∷ [] = take-more blocks i d within in
    record {
      order = subst InOrder (sym more) (InOrder-append (take i blocks) (block ∷ []) ordered.order ((λ one is. absurd (contains-none one is)), tt)
          (λ one is other last. elim (contains-cases block [] other last) [
            | inl here ↦ omega (arith, ordered.below one is, behind, ap (λ (b : Block). b.0) here)
            | inr none ↦ absurd (contains-none other none)
          ]));
      below = λ one is. elim (Contains-append_cases (take i blocks) (block ∷ []) one (subst (λ xs. Contains xs one) more is)) [
        | inl before ↦ omega (arith, ordered.below one before, behind, some)
        | inr last ↦ elim (contains-cases block [] one last) [
          | inl here ↦ omega (arith, ap end_of here)
          | inr none ↦ absurd (contains-none one none)
        ]
      ];
      last = λ _. (block, subst (λ xs. Contains xs block) (sym more) (Contains-append_right (take i blocks) (block ∷ []) block (contains-head block [])), refl);
      most = most;
    }

-- a block that begins before the last one ended: its first page is the least that two have
pub shared-least : (blocks : List Block) (i end : ℕ) (d : Block) → AreSorted blocks → i < length blocks → (get_or blocks i d).0 < end → Ordered blocks i end → IsLeastOwnedTwice blocks (get_or blocks i d).0
shared-least blocks i end d sorted within inside ordered =
    let block : Block = get_or blocks i d in
    let head : ℕ = block.0 in
    let some : 0 < pages_of_tier block.1 = pow_pos block.1 in
    let one = ordered.last (omega (arith, inside)) in
    let first = owners-some (take i blocks) one.0 head one.1 (lies_in-yes head one.0 (sorted-before blocks i d one.0 sorted within one.1) (omega (arith, one.2, inside))) in
    let here : Contains (drop i blocks) block = subst (λ xs. Contains xs block) (sym (drop-cons blocks i d within)) (contains-head block (drop (suc i) blocks)) in
    let second = owners-some (drop i blocks) block head here (lies_in-yes head block (omega arith) (omega (arith, some))) in
    record {
      twice = omega (arith, owners-split i blocks head, first, second);
      least = λ other less. omega (arith, owners-split i blocks other, Apart-InOrder (take i blocks) ordered.order other, owners-from (drop i blocks) head other (sorted-at blocks i d sorted within) less);
    }

take-all : {X : Type 0} (xs : List X) → take (length xs) xs ≡ xs
take-all [] = refl
take-all (x ∷ xs) = ap (λ ys. x ∷ ys) (take-all xs)

pub InOrder-all : (blocks : List Block) (end : ℕ) → Ordered blocks (length blocks) end → InOrder blocks
InOrder-all blocks end ordered = subst InOrder (take-all blocks) ordered.order
