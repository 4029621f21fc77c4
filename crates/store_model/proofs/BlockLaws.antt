-- Lists of blocks with the same blocks, however they are ordered.
use Rattle.std.proofs.Common.{◌≡◌, ℕ, suc, ◌+◌, ◌<◌, ◌≤◌, ◌==◌, ◌&&◌, Bool, true, false, List, [], ◌∷◌, length, get_or, inl, inr, refl, ◌∙◌, ap, arith}
use Rattle.std.specs.Prelude.{if◌then◌else◌}
use Rattle.std.specs.List.{remove, sum_by}
use Rattle.std.specs.List.Sorted.{IsPermutation}
use Rattle.std.proofs.lemmas.Bool.{cases_Bool, eqb-true}
use Rattle.std.proofs.lemmas.Bool.Decides.{nat_tests}
use Rattle.std.proofs.lemmas.List.Sums.{sum_by-cons}
use Rattle.std.proofs.lemmas.List.Sorted.{IsPermutation-cons, IsPermutation-refl, IsPermutation-remove, IsPermutation-sym, IsPermutation-trans, sum_by-IsPermutation}
use Rattle.store_model.specs.Space.{Block}

-- whether two blocks are one
abbrev is_block : Block → Block → Bool
is_block one other = one.0 == other.0 && one.1 == other.1

-- one for a block that is this one, and else none
abbrev times : Block → Block → ℕ
times block other = if is_block block other then 1 else 0

-- how often a block stands in a list
abbrev count : Block → List Block → ℕ
count block blocks = sum_by (times block) blocks

and-first : (a b : Bool) → a && b ≡ true → a ≡ true
and-first true b both = refl
and-first false b both = both

and-second : (a b : Bool) → a && b ≡ true → b ≡ true
and-second true b both = both
and-second false b both = absurd (cc both)

same-block : (one other : Block) → is_block one other ≡ true → one ≡ other
same-block one other same =
    let head : one.0 ≡ other.0 = eqb-true one.0 other.0 (and-first (one.0 == other.0) (one.1 == other.1) same) in
    let tier : one.1 ≡ other.1 = eqb-true one.1 other.1 (and-second (one.0 == other.0) (one.1 == other.1) same) in
    ap (λ (h : ℕ). (h, one.1)) head ∙ ap (λ (t : ℕ). (other.0, t)) tier

is_block-self : (block : Block) → is_block block block ≡ true
is_block-self block = grind (arith, nat_tests)

count-cons : (block one : Block) (blocks : List Block) → count block (one ∷ blocks) ≡ times block one + count block blocks
count-cons block one blocks = sum_by-cons (times block) one blocks

-- a block that stands in a list has an index there
index-of : (block : Block) (blocks : List Block) → 1 ≤ count block blocks → (i : ℕ) × (i < length blocks) × (block ≡ get_or blocks i block)
index-of block [] some = absurd (omega (arith, some))
index-of block (one ∷ blocks) some = elim (cases_Bool (is_block block one)) [
  | inl here ↦ (0, omega arith, same-block block one here)
  | inr other ↦
      let none : times block one ≡ 0 = ap (λ (b : Bool). if b then 1 else 0) other in
      let behind = index-of block blocks (omega (arith, some, count-cons block one blocks, none)) in
      (suc behind.0, omega (arith, behind.1), behind.2)
]

-- Two lists in which each block stands as often are the same but for the order.
pub IsPermutation-count : (xs ys : List Block) → ((block : Block) → count block xs ≡ count block ys) → IsPermutation xs ys
IsPermutation-count [] [] same = IsPermutation-refl []
IsPermutation-count [] (y ∷ ys) same =
    let one : times y y ≡ 1 = ap (λ (b : Bool). if b then 1 else 0) (is_block-self y) in
    absurd (omega (arith, same y, count-cons y y ys, one))
IsPermutation-count (x ∷ xs) ys same =
    let one : times x x ≡ 1 = ap (λ (b : Bool). if b then 1 else 0) (is_block-self x) in
    let there = index-of x ys (omega (arith, same x, count-cons x x xs, one)) in
    let front : IsPermutation ys (x ∷ remove ys there.0) = IsPermutation-remove ys there.0 x there.1 there.2 in
    let rest = IsPermutation-count xs (remove ys there.0) (λ block. omega (
      arith,
      same block,
      count-cons block x xs,
      count-cons block x (remove ys there.0),
      sum_by-IsPermutation (times block) ys (x ∷ remove ys there.0) front,
    )) in
    IsPermutation-trans (x ∷ xs) (x ∷ remove ys there.0) ys (IsPermutation-cons x xs (remove ys there.0) rest) (IsPermutation-sym ys (x ∷ remove ys there.0) front)

-- without a block that both have
pub IsPermutation-without : (block : Block) (xs ys : List Block) → IsPermutation (block ∷ xs) (block ∷ ys) → IsPermutation xs ys
IsPermutation-without block xs ys same = IsPermutation-count xs ys (λ other. omega (
  arith,
  sum_by-IsPermutation (times other) (block ∷ xs) (block ∷ ys) same,
  count-cons other block xs,
  count-cons other block ys,
))
