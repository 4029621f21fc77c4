-- The pages of a tuple's state are blocks of the data area.
use Rattle.std.proofs.Common.{◌≡◌, ℕ, zero, suc, ◌+◌, ◌%◌, ◌<◌, ◌≤◌, List, [], ◌∷◌, ◌++◌, length, Option, Some, None, refl, sym, ap, subst, ◌∙◌, arith, inl, inr}
use Rattle.std.specs.Prelude.{IfSome, slice_get, slice_index}
use Rattle.std.specs.List.{enumerate_from, flat_map}
use Rattle.std.proofs.lemmas.List.{get_or-map, length-map}
use Rattle.std.proofs.lemmas.List.Elements.{Contains-append_cases}
use Rattle.std.proofs.lemmas.Option.{get_or_from_slice_get, slice_get_within}
use Rattle.store_model.specs.Holds.{place_of}
use Rattle.store_model.specs.Shape.{pages_of_extent, tier_of}
use Rattle.store_model.specs.Space.{AreBlocks, Block, IsBlock, blocks_of, extent_blocks, tail_blocks}
use Rattle.store_model.specs.State.{Extent, State, heads_of}
use Rattle.store_model.specs.Tuple.{IsTuple}

-- blocks one behind the other
pub AreBlocks-append : (pages : ℕ) (xs ys : List Block) → AreBlocks pages xs → AreBlocks pages ys → AreBlocks pages (xs ++ ys)
AreBlocks-append pages xs ys one other block there = elim (Contains-append_cases xs ys block there) [
  | inl here ↦ one block here
  | inr behind ↦ other block behind
]

pub AreBlocks-none : (pages : ℕ) → AreBlocks pages []
AreBlocks-none pages block there = absurd (omega (arith, there.1))

pub AreBlocks-one : (pages : ℕ) (block : Block) → IsBlock pages block → AreBlocks pages (block ∷ [])
AreBlocks-one pages block one other (zero, less, is) = subst (IsBlock pages) is one
AreBlocks-one pages block one other (suc k, less, is) = absurd (omega (arith, less))

-- the blocks of heads, the first of which has this index
abbrev from : ℕ → List ℕ → List Block
from n heads = flat_map (λ (head : ℕ × ℕ). (head.1, tier_of head.0) ∷ []) (enumerate_from n heads)

-- a head of extent i
abbrev IsHead : ℕ → ℕ → ℕ → Type 0
IsHead pages i head = (head % pages_of_extent i ≡ 0) × (head + pages_of_extent i ≤ pages)

blocks-from : (pages n : ℕ) (extents : List Extent) → ((i : ℕ) (extent : Extent) → slice_get extents i ≡ Some extent → IsHead pages (n + i) extent.head)
    → AreBlocks pages (from n (heads_of extents))
blocks-from pages n [] heads = AreBlocks-none pages
blocks-from pages n (e ∷ extents) heads =
    let first : IsHead pages n e.head = let same : n + 0 ≡ n = omega arith in subst (λ (i : ℕ). IsHead pages i e.head) same (heads 0 e refl) in
    AreBlocks-append pages ((e.head, tier_of n) ∷ []) (from (n + 1) (heads_of extents))
    (AreBlocks-one pages (e.head, tier_of n) (record { tier = omega arith; aligned = first.0; within = first.1 }))
    (blocks-from pages (n + 1) extents (λ i extent there.
    let same : n + suc i ≡ n + 1 + i = omega arith in subst (λ (j : ℕ). IsHead pages j extent.head) same (heads (suc i) extent there)))

tail-blocks : (pages : ℕ) (tail : Option ℕ) → IfSome tail (λ page. page < pages) → AreBlocks pages (tail_blocks tail)
tail-blocks pages None below = AreBlocks-none pages
tail-blocks pages (Some page) below = AreBlocks-one pages (page, 0) (record { tier = omega arith; aligned = omega arith; within = omega (arith, below) })

-- the extents and the tail of a tuple's state
pub IsTuple-blocks : (pages : ℕ) (key : List ℕ) (state : State) → IsTuple pages key state → AreBlocks pages (blocks_of (place_of state))
IsTuple-blocks pages key state tuple =
    AreBlocks-append pages (extent_blocks (heads_of state.extents)) (tail_blocks state.tail)
    (blocks-from pages 0 state.extents (λ i extent there.
    let zero_first : 0 + i ≡ i = omega arith in
    let within : i < length state.extents = slice_get_within state.extents i extent there in
    let head : slice_index (heads_of state.extents) i ≡ extent.head =
    get_or-map (λ (e : Extent). e.head) state.extents i extent 0 within ∙ ap (λ (e : Extent). e.head) (get_or_from_slice_get state.extents i extent extent there) in
    let aligned : extent.head % pages_of_extent i ≡ 0 =
    ap (λ (n : ℕ). n % pages_of_extent i) (sym head) ∙ tuple.stands.heads i (omega (arith, within, length-map state.extents (λ (e : Extent). e.head))) in
    subst (λ (j : ℕ). IsHead pages j extent.head) (sym zero_first) (aligned, tuple.extents i extent there)))
    (tail-blocks pages state.tail tuple.tail)
