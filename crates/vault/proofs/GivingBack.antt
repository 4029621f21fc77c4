-- Blocks that are given back one after the other.
use Rattle.std.proofs.Common.{◌≡◌, ℕ, zero, suc, ◌+◌, ◌≤◌, List, [], ◌∷◌, ◌++◌, length, drop, Some, refl, sym, ◌∙◌, ap, subst, arith}
use Rattle.std.specs.Prelude.{Contains, slice_get}
use Rattle.std.specs.List.Sorted.{IsPermutation}
use Rattle.std.proofs.Math.ListN.{drop_of_length-le}
use Rattle.std.proofs.lemmas.List.Sorted.{Contains-permutation, IsPermutation-sym, IsPermutation-trans}
use Rattle.extent_alloc.specs.Parts.{Parts}
use Rattle.store_model.specs.Space.{Block}
use Rattle.store_model.proofs.BlockLaws.{IsPermutation-without}

-- The first i of these blocks were given back, and each of the others can be.
pub record Giving (i : ℕ) (blocks : List Block) (old now : Parts) : Type 0 where
  pub pages : now.pages ≡ old.pages
  pub spare : length blocks ≤ now.spare + i
  pub left : (rest : List Block) → IsPermutation old.owned (blocks ++ rest) → IsPermutation now.owned (drop i blocks ++ rest)

pub Giving-none : (blocks : List Block) (old : Parts) → length blocks ≤ old.spare → Giving 0 blocks old old
Giving-none blocks old spare = record { pages = refl; spare = omega (arith, spare); left = λ rest is. is }

-- what is left begins with the next block
pub next-block : (i : ℕ) (blocks : List Block) (block : Block) → slice_get blocks i ≡ Some block → drop i blocks ≡ block ∷ drop (i + 1) blocks
next-block i [] block is = absurd (cc is)
next-block zero (b ∷ blocks) block is =
    let same : b ≡ block = cc in
    ap (λ (x : Block). x ∷ blocks) same
next-block (suc i) (b ∷ blocks) block is =
    let next : suc i + 1 ≡ suc (i + 1) = omega arith in
    next-block i blocks block is ∙ ap (λ (n : ℕ). block ∷ drop n (b ∷ blocks)) (sym next)

-- the next one is there
pub owned-next : (i : ℕ) (blocks : List Block) (block : Block) (old now : Parts) → slice_get blocks i ≡ Some block → Giving i blocks old now → (rest : List Block) → IsPermutation old.owned (blocks ++ rest)
    → Contains now.owned block
owned-next i blocks block old now is so_far rest owned =
    Contains-permutation (drop i blocks ++ rest) now.owned block (IsPermutation-sym now.owned (drop i blocks ++ rest) (so_far.left rest owned))
    (subst (λ (bs : List Block). Contains (bs ++ rest) block) (sym (next-block i blocks block is)) (0, omega arith, refl))

pub Giving-next : (i : ℕ) (blocks : List Block) (block : Block) (old now new : Parts) → slice_get blocks i ≡ Some block → Giving i blocks old now
    → IsPermutation now.owned (block ∷ new.owned) → new.spare + 1 ≡ now.spare → new.pages ≡ now.pages → Giving (i + 1) blocks old new
Giving-next i blocks block old now new is so_far gone spare pages = record {
  pages = pages ∙ so_far.pages;
  spare = omega (arith, so_far.spare, spare);
  left = λ rest owned.
      let there : IsPermutation now.owned (block ∷ (drop (i + 1) blocks ++ rest)) = subst (λ (bs : List Block). IsPermutation now.owned (bs ++ rest)) (next-block i blocks block is) (so_far.left rest owned) in
      IsPermutation-without block new.owned (drop (i + 1) blocks ++ rest) (IsPermutation-trans (block ∷ new.owned) now.owned (block ∷ (drop (i + 1) blocks ++ rest)) (IsPermutation-sym now.owned (block ∷ new.owned) gone) there);
}

-- all were given back
pub Giving-all : (i : ℕ) (blocks : List Block) (old now : Parts) → length blocks ≤ i → Giving i blocks old now → (rest : List Block) → IsPermutation old.owned (blocks ++ rest) → IsPermutation now.owned rest
Giving-all i blocks old now all so_far rest owned =
    subst (λ (bs : List Block). IsPermutation now.owned (bs ++ rest)) (drop_of_length-le blocks all) (so_far.left rest owned)
