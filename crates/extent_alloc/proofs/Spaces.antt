-- What taking and giving back a block does to a space.
use Rattle.std.proofs.Common.{◌≡◌, ℕ, zero, suc, ◌+◌, ◌<◌, ◌≤◌, Bool, false, cond, List, [], ◌∷◌, ◌++◌, take, drop, length, get_or, Result, refl, sym, ◌∙◌, ap, subst, arith, inl, inr}
use Rattle.std.specs.Prelude.{Contains, IsOk, is_ok}
use Rattle.std.specs.List.{insert, remove}
use Rattle.std.specs.List.Sorted.{IsPermutation, IsSorted}
use Rattle.std.specs.Ordering.{is_lt, nat_cmp, ordering_then}
use Rattle.std.specs.declared.cmp.Ordering.{Ordering}
use Rattle.std.specs.declared.cmp.Ordering.TheVariants.{Less}
use Rattle.std.specs.Cmp.{nat_cmp_is}
use Rattle.std.proofs.lemmas.Bool.{cases_lt}
use Rattle.std.proofs.lemmas.List.Sorted.{IsPermutation-insert, IsPermutation-remove, IsPermutation-sym, Contains-permutation}
use Rattle.store_model.specs.Space.{Apart, AreBlocks, Block, IsBlock, IsLeastFree, IsLeastOwnedTwice, end_of}
use Rattle.extent_alloc.specs.Order.{AllBelow, AllFrom, AreSorted, InOrder}
use Rattle.extent_alloc.proofs.Orders.{InOrder-append, InOrder-drop, InOrder-take, contains-cases, contains-none, contains-tail}
use Rattle.store_model.proofs.PlaceLaws.{owners-permutation}
use Rattle.extent_alloc.proofs.Scans.{before-at}

insert-is : {X : Type 0} (xs : List X) (i : ℕ) (x : X) → insert xs i x ≡ take i xs ++ x ∷ drop i xs
insert-is xs i x = refl

-- blocks in another order
pub AreBlocks-permutation : (pages : ℕ) (xs ys : List Block) → IsPermutation xs ys → AreBlocks pages xs → AreBlocks pages ys
AreBlocks-permutation pages xs ys moves blocks block is = blocks block (Contains-permutation ys xs block (IsPermutation-sym xs ys moves) is)

pub AreBlocks-cons : (pages : ℕ) (block : Block) (blocks : List Block) → IsBlock pages block → AreBlocks pages blocks → AreBlocks pages (block ∷ blocks)
AreBlocks-cons pages block blocks one all other is = elim (contains-cases block blocks other is) [
  | inl here ↦ subst (IsBlock pages) here one
  | inr behind ↦ all other behind
]

AreBlocks-tail : (pages : ℕ) (block : Block) (blocks : List Block) → AreBlocks pages (block ∷ blocks) → AreBlocks pages blocks
AreBlocks-tail pages block blocks all other is = all other (contains-tail block blocks other is)

-- a block in a gap
pub AreBlocks-insert : (owned : List Block) (tier pages head i : ℕ) → tier ≤ 10 → IsLeastFree owned tier pages head → AreBlocks pages owned → AreBlocks pages (insert owned i (head, tier))
AreBlocks-insert owned tier pages head i least fit blocks =
    AreBlocks-permutation pages ((head, tier) ∷ owned) (insert owned i (head, tier)) (IsPermutation-insert owned i (head, tier))
    (AreBlocks-cons pages (head, tier) owned (record { tier = least; aligned = fit.free.aligned; within = fit.free.within }) blocks)

pub InOrder-insert : (owned : List Block) (tier head i : ℕ) → InOrder owned → AllBelow head (take i owned) → AllFrom (end_of (head, tier)) (drop i owned) → InOrder (insert owned i (head, tier))
InOrder-insert owned tier head i order below from =
    InOrder-append (take i owned) ((head, tier) ∷ drop i owned) (InOrder-take i owned order) (from, InOrder-drop i owned order)
    (λ one is other last. elim (contains-cases (head, tier) (drop i owned) other last) [
      | inl here ↦ omega (arith, below one is, ap (λ (b : Block). b.0) here)
      | inr behind ↦ omega (arith, below one is, from other behind)
    ])

-- the later blocks don't begin before
later : (xs : List Block) (i : ℕ) (d other : Block) → InOrder xs → i < length xs → Contains (drop (suc i) xs) other → (get_or xs i d).0 ≤ other.0
later [] i d other order within is = absurd (omega arith)
later (x ∷ xs) zero d other order within is = omega (arith, order.0 other is)
later (x ∷ xs) (suc i) d other order within is = later xs i d other order.1 (omega arith) is

-- a block out of the list
pub InOrder-remove : (owned : List Block) (i : ℕ) (d : Block) → i < length owned → InOrder owned → InOrder (remove owned i)
InOrder-remove owned i d within order =
    InOrder-append (take i owned) (drop (suc i) owned) (InOrder-take i owned order) (InOrder-drop (suc i) owned order)
    (λ one is other last. omega (arith, before-at owned i d one order within is, later owned i d other order within last))

pub AreBlocks-remove : (owned : List Block) (pages i : ℕ) (block : Block) → i < length owned → block ≡ get_or owned i block → AreBlocks pages owned → AreBlocks pages (remove owned i)
AreBlocks-remove owned pages i block within is blocks =
    AreBlocks-tail pages block (remove owned i) (AreBlocks-permutation pages owned (block ∷ remove owned i) (IsPermutation-remove owned i block within is) blocks)

-- of another order the same is true
pub Apart-permutation : (xs ys : List Block) → IsPermutation xs ys → Apart ys → Apart xs
Apart-permutation xs ys moves apart page = omega (arith, owners-permutation xs ys page moves, apart page)

pub IsLeastOwnedTwice-permutation : (xs ys : List Block) (page : ℕ) → IsPermutation xs ys → IsLeastOwnedTwice ys page → IsLeastOwnedTwice xs page
IsLeastOwnedTwice-permutation xs ys page moves twice = record {
  twice = omega (arith, owners-permutation xs ys page moves, twice.twice);
  least = λ other less. omega (arith, owners-permutation xs ys other moves, twice.least other less);
}

-- a block was put into a gap
pub record Taken (pages : ℕ) (block : Block) (owned new : List Block) : Type 0 where
  pub blocks : AreBlocks pages new
  pub order : InOrder new
  pub more : IsPermutation new (block ∷ owned)

inserted-is : {A E : Type 0} (xs old new : List Block) (i : ℕ) (block : Block) (result : Result A E) → new ≡ cond (is_ok result) (insert old i block) old → IsOk result → old ≡ xs → new ≡ insert xs i block
inserted-is xs old new i block result is ok same =
    is ∙ ap (λ (b : Bool). cond b (insert old i block) old) ok ∙ ap (λ (ys : List Block). insert ys i block) same

pub Taken-insert : {A E : Type 0} (pages tier : ℕ) (owned seen new : List Block) (head i : ℕ) (result : Result A E) → seen ≡ owned
    → new ≡ cond (is_ok result) (insert owned i (head, tier)) owned → IsOk result → tier ≤ 10
    → IsLeastFree seen tier pages head → AllBelow head (take i seen) → AllFrom (end_of (head, tier)) (drop i seen) → AreBlocks pages owned → InOrder owned
    → Taken pages (head, tier) owned new
Taken-insert pages tier owned seen new head i result same is ok least fit below from blocks order =
    let new_is : new ≡ insert owned i (head, tier) = inserted-is owned owned new i (head, tier) result is ok refl in
    record {
      blocks = subst (AreBlocks pages) (sym new_is) (AreBlocks-insert owned tier pages head i least (subst (λ (xs : List Block). IsLeastFree xs tier pages head) same fit) blocks);
      order = subst InOrder (sym new_is) (InOrder-insert owned tier head i order (subst (λ (xs : List Block). AllBelow head (take i xs)) same below) (subst (λ (xs : List Block). AllFrom (end_of (head, tier)) (drop i xs)) same from));
      more = subst (λ (xs : List Block). IsPermutation xs ((head, tier) ∷ owned)) (sym new_is) (IsPermutation-sym ((head, tier) ∷ owned) (insert owned i (head, tier)) (IsPermutation-insert owned i (head, tier)));
    }

-- a block was taken out
pub record GivenBack (pages : ℕ) (block : Block) (owned new : List Block) : Type 0 where
  pub blocks : AreBlocks pages new
  pub order : InOrder new
  pub less : IsPermutation owned (block ∷ new)

pub GivenBack-remove : (pages : ℕ) (owned seen new : List Block) (i : ℕ) (block : Block) → seen ≡ owned → i < length seen → get_or seen i block ≡ block → new ≡ remove owned i
    → AreBlocks pages owned → InOrder owned → GivenBack pages block owned new
GivenBack-remove pages owned seen new i block same within there new_is blocks order =
    let inside : i < length owned = subst (λ (xs : List Block). i < length xs) same within in
    let at : block ≡ get_or owned i block = sym there ∙ ap (λ (xs : List Block). get_or xs i block) same in
    record {
      blocks = subst (AreBlocks pages) (sym new_is) (AreBlocks-remove owned pages i block inside at blocks);
      order = subst InOrder (sym new_is) (InOrder-remove owned i block inside order);
      less = subst (λ (xs : List Block). IsPermutation owned (block ∷ xs)) (sym new_is) (IsPermutation-remove owned i block inside at);
    }

-- a number that isn't less than another
not_less : (m n : ℕ) (o : Ordering) → is_lt (ordering_then (nat_cmp m n) o) ≡ false → n ≤ m
not_less m n o is = elim (cases_lt m n) [
  | inl less ↦ let e : Less ≡ nat_cmp m n = nat_cmp_is m n Less less in let wrong : is_lt (ordering_then Less o) ≡ false = ap (λ (r : Ordering). is_lt (ordering_then r o)) e ∙ is in absurd (cc wrong)
  | inr le ↦ le
]

-- blocks of which none begins before the last one
adjacent : (xs : List Block) → ((k : ℕ) → suc k < length xs → (get_or xs k (0, 0)).0 ≤ (get_or xs (suc k) (0, 0)).0) → AreSorted xs
adjacent [] rises = tt
adjacent (x ∷ []) rises = ((λ other is. absurd (contains-none other is)), tt)
adjacent (x ∷ y ∷ ys) rises =
    let rest = adjacent (y ∷ ys) (λ k less. rises (suc k) (omega (arith, less))) in (
      λ other is. elim (contains-cases y ys other is) [
        | inl here ↦ omega (arith, rises 0 (omega arith), ap (λ (b : Block). b.0) here)
        | inr behind ↦ omega (arith, rises 0 (omega arith), rest.0 other behind)
      ],
      rest,
    )

pub AreSorted-sorted : (xs : List Block) → IsSorted (λ (x y : Block). ordering_then (nat_cmp x.0 y.0) (nat_cmp x.1 y.1)) xs → AreSorted xs
AreSorted-sorted xs sorted = adjacent xs (λ k less.
    not_less (get_or xs (suc k) (0, 0)).0 (get_or xs k (0, 0)).0 (nat_cmp (get_or xs (suc k) (0, 0)).1 (get_or xs k (0, 0)).1)
    (let next : k + 1 ≡ suc k = omega arith in ap (λ (n : ℕ). is_lt (ordering_then (nat_cmp (get_or xs n (0, 0)).0 (get_or xs k (0, 0)).0) (nat_cmp (get_or xs n (0, 0)).1 (get_or xs k (0, 0)).1))) (sym next) ∙ sorted k (0, 0) (omega arith) (omega (arith, less))))

-- blocks with the same numbers
pub same-block : (x y : Block) → (y.0 ≡ x.0) × (y.1 ≡ x.1) → y ≡ x
same-block (a, b) (c, d) (one, other) = ap (λ (n : ℕ). (n, d)) one ∙ ap (λ (n : ℕ). (a, n)) other
