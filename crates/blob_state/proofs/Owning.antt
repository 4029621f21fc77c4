-- The blocks of extents, one after the other.
use Rattle.std.proofs.Common.{◌≡◌, ℕ, zero, suc, ◌+◌, ◌<◌, List, [], ◌∷◌, ◌++◌, take, length, get_or, refl, sym, ◌∙◌, ap, arith, append_assoc}
use Rattle.std.specs.List.{enumerate_from, flat_map}
use Rattle.store_model.specs.Shape.{tier_of}
use Rattle.store_model.specs.Space.{Block, extent_blocks}
use Rattle.store_model.specs.State.{heads_of}
use Rattle.blob_state.specs.Values.{extents_of}
use Rattle.blob_state.specs.declared.values.Extent.{Extent as Kept}

-- the blocks of heads, the first of which has this index
abbrev from : ℕ → List ℕ → List Block
from n heads = flat_map (λ (head : ℕ × ℕ). (head.1, tier_of head.0) ∷ []) (enumerate_from n heads)

from-next : (n i : ℕ) (heads : List ℕ) (d : ℕ) → i < length heads → from n (take (suc i) heads) ≡ from n (take i heads) ++ (get_or heads i d, tier_of (n + i)) ∷ []
from-next n i [] d less = absurd (omega arith)
from-next n zero (h ∷ heads) d less = let same : n ≡ n + 0 = omega arith in ap (λ (m : ℕ). (h, tier_of m) ∷ []) same
from-next n (suc i) (h ∷ heads) d less =
    let same : n + 1 + i ≡ n + suc i = omega arith in
    ap (λ bs. (h, tier_of n) ∷ bs) (from-next (n + 1) i heads d (omega arith) ∙ ap (λ (m : ℕ). from (n + 1) (take i heads) ++ (get_or heads i d, tier_of m) ∷ []) same)

pub extent_blocks-next : (heads : List ℕ) (i d : ℕ) (before : List Block) → i < length heads
    → before ++ extent_blocks (take (i + 1) heads) ≡ (before ++ extent_blocks (take i heads)) ++ (get_or heads i d, tier_of i) ∷ []
extent_blocks-next heads i d before less =
    let next : i + 1 ≡ suc i = omega arith in
    let zero_first : 0 + i ≡ i = omega arith in
    ap (λ (n : ℕ). before ++ extent_blocks (take n heads)) next ∙ ap (λ bs. before ++ bs) (from-next 0 i heads d less ∙ ap (λ (m : ℕ). extent_blocks (take i heads) ++ (get_or heads i d, tier_of m) ∷ []) zero_first)
    ∙ sym (append_assoc before (extent_blocks (take i heads)) ((get_or heads i d, tier_of i) ∷ []))

-- the head of an extent at its index
pub heads-at : (extents : List Kept) (i : ℕ) (d : Kept) → i < length extents → get_or (heads_of (extents_of extents)) i 0 ≡ (get_or extents i d).head
heads-at [] i d less = absurd (omega arith)
heads-at (e ∷ extents) zero d less = refl
heads-at (e ∷ extents) (suc i) d less = heads-at extents i d (omega arith)

pub length-heads : (extents : List Kept) → length (heads_of (extents_of extents)) ≡ length extents
length-heads [] = refl
length-heads (e ∷ extents) = ap suc (length-heads extents)

pub extents-next : (extents : List Kept) (i : ℕ) (d : Kept) (tier : ℕ) (before owned new : List Block) → i < length extents → owned ≡ before ++ extent_blocks (take i (heads_of (extents_of extents))) → tier ≡ tier_of i
    → new ≡ owned ++ ((get_or extents i d).head, tier) ∷ [] → new ≡ before ++ extent_blocks (take (i + 1) (heads_of (extents_of extents)))
extents-next extents i d tier before owned new less so_far tier_is pushed =
    pushed ∙ ap (λ bs. bs ++ ((get_or extents i d).head, tier) ∷ []) so_far
    ∙ ap (λ (n : ℕ). (before ++ extent_blocks (take i (heads_of (extents_of extents)))) ++ ((get_or extents i d).head, n) ∷ []) tier_is
    ∙ ap (λ (h : ℕ). (before ++ extent_blocks (take i (heads_of (extents_of extents)))) ++ (h, tier_of i) ∷ []) (sym (heads-at extents i d less))
    ∙ sym (extent_blocks-next (heads_of (extents_of extents)) i 0 before (omega (arith, less, length-heads extents)))
