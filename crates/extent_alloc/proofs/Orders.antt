-- Blocks in order.
use Rattle.std.proofs.Common.{◌≡◌, ℕ, zero, suc, ◌+◌, ◌<◌, ◌≤◌, Bool, true, false, cond, ◌⊎◌, List, [], ◌∷◌, ◌++◌, take, drop, refl, ◌∙◌, ap, arith, inl, inr}
use Rattle.std.specs.Prelude.{Contains}
use Rattle.std.proofs.lemmas.Bool.{cases_Bool}
use Rattle.std.proofs.lemmas.Bool.Decides.{nat_tests}
use Rattle.std.proofs.lemmas.List.Elements.{Contains-append_cases}
use Rattle.store_model.specs.Space.{Apart, Block, end_of, lies_in, owners}
use Rattle.extent_alloc.specs.Order.{AllBelow, AllFrom, InOrder}

-- an element of a list with one more at its front
pub contains-head : {X : Type 0} (x : X) (xs : List X) → Contains (x ∷ xs) x
contains-head x xs = (0, omega arith, refl)

pub contains-tail : {X : Type 0} (x : X) (xs : List X) (y : X) → Contains xs y → Contains (x ∷ xs) y
contains-tail x xs y is = (suc is.0, omega (arith, is.1), is.2)

pub contains-cases : {X : Type 0} (x : X) (xs : List X) (y : X) → Contains (x ∷ xs) y → (x ≡ y) ⊎ Contains xs y
contains-cases x xs y (zero, less, is) = inl is
contains-cases x xs y (suc k, less, is) = inr (k, omega (arith, less), is)

pub contains-none : {X : Type 0} (y : X) → Contains [] y → ⊥
contains-none y is = omega (arith, is.1)

-- a page that lies in a block
pub lies_in-yes : (page : ℕ) (block : Block) → block.0 ≤ page → page < end_of block → lies_in page block ≡ true
lies_in-yes page block from to = grind (arith, nat_tests)

pub lies_in-from : (page : ℕ) (block : Block) → lies_in page block ≡ true → block.0 ≤ page
lies_in-from page block lies = grind (arith, nat_tests)

pub lies_in-to : (page : ℕ) (block : Block) → lies_in page block ≡ true → page < end_of block
lies_in-to page block lies = grind (arith, nat_tests)

pub lies_in-before : (page : ℕ) (block : Block) → page < block.0 → lies_in page block ≡ false
lies_in-before page block less = grind (arith, nat_tests)

pub lies_in-behind : (page : ℕ) (block : Block) → end_of block ≤ page → lies_in page block ≡ false
lies_in-behind page block le = grind (arith, nat_tests)

-- no block that ends before a page has it, nor one that begins behind it
pub owners-below : (blocks : List Block) (bound page : ℕ) → AllBelow bound blocks → bound ≤ page → owners blocks page ≡ 0
owners-below [] bound page below le = refl
owners-below (block ∷ blocks) bound page below le =
    rw (lies_in-behind page block (omega (arith, below block (contains-head block blocks), le))) (owners-below blocks bound page (λ one is. below one (contains-tail block blocks one is)) le)

pub owners-from : (blocks : List Block) (bound page : ℕ) → AllFrom bound blocks → page < bound → owners blocks page ≡ 0
owners-from [] bound page from less = refl
owners-from (block ∷ blocks) bound page from less =
    rw (lies_in-before page block (omega (arith, from block (contains-head block blocks), less))) (owners-from blocks bound page (λ one is. from one (contains-tail block blocks one is)) less)

-- blocks in order are apart
pub Apart-InOrder : (blocks : List Block) → InOrder blocks → Apart blocks
Apart-InOrder [] order page = omega arith
Apart-InOrder (block ∷ blocks) order page =
    elim (cases_Bool (lies_in page block)) [
      | inl lies ↦ rw lies (omega (arith, owners-from blocks (end_of block) page order.0 (lies_in-to page block lies)))
      | inr off ↦ rw off (Apart-InOrder blocks order.1 page)
    ]

one-more : (b : Bool) (n : ℕ) → 1 ≤ n → 1 ≤ cond b (1 + n) n
one-more true n some = omega arith
one-more false n some = some

-- a block that is there owns its pages
pub owners-some : (blocks : List Block) (block : Block) (page : ℕ) → Contains blocks block → lies_in page block ≡ true → 1 ≤ owners blocks page
owners-some [] block page is lies = absurd (contains-none block is)
owners-some (one ∷ blocks) block page is lies =
    elim (contains-cases one blocks block is) [
      | inl here ↦ let e : lies_in page one ≡ true = ap (lies_in page) here ∙ lies in rw e (omega arith)
      | inr behind ↦ one-more (lies_in page one) (owners blocks page) (owners-some blocks block page behind lies)
    ]

-- two lists of blocks in order, the second behind the first
pub InOrder-append : (xs ys : List Block) → InOrder xs → InOrder ys → ((x : Block) → Contains xs x → AllFrom (end_of x) ys) → InOrder (xs ++ ys)
InOrder-append [] ys one other behind = other
InOrder-append (x ∷ xs) ys one other behind = (
  λ y is. elim (Contains-append_cases xs ys y is) [
    | inl left ↦ one.0 y left
    | inr right ↦ behind x (contains-head x xs) y right
  ],
  InOrder-append xs ys one.1 other (λ z is. behind z (contains-tail x xs z is)),
)

-- the parts of a list of blocks in order
pub InOrder-drop : (i : ℕ) (xs : List Block) → InOrder xs → InOrder (drop i xs)
InOrder-drop zero xs order = order
InOrder-drop (suc i) [] order = order
InOrder-drop (suc i) (x ∷ xs) order = InOrder-drop i xs order.1

pub contains-take : {X : Type 0} (i : ℕ) (xs : List X) (y : X) → Contains (take i xs) y → Contains xs y
contains-take zero xs y is = absurd (contains-none y is)
contains-take (suc i) [] y is = is
contains-take (suc i) (x ∷ xs) y is = elim (contains-cases x (take i xs) y is) [
  | inl here ↦ (0, omega arith, here)
  | inr behind ↦ contains-tail x xs y (contains-take i xs y behind)
]

pub InOrder-take : (i : ℕ) (xs : List Block) → InOrder xs → InOrder (take i xs)
InOrder-take zero xs order = tt
InOrder-take (suc i) [] order = order
InOrder-take (suc i) (x ∷ xs) order = (λ y is. order.0 y (contains-take i xs y is), InOrder-take i xs order.1)

-- the later blocks begin behind the earlier ones
pub contains-drop : {X : Type 0} (i : ℕ) (xs : List X) (y : X) → Contains (drop i xs) y → Contains xs y
contains-drop zero xs y is = is
contains-drop (suc i) [] y is = is
contains-drop (suc i) (x ∷ xs) y is = contains-tail x xs y (contains-drop i xs y is)
