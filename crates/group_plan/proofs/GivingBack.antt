-- Blocks that are given back one after the other, the last one first.
use Rattle.std.proofs.Common.{◌≡◌, ℕ, zero, suc, ◌+◌, ◌<◌, ◌≤◌, List, [], ◌∷◌, ◌++◌, length, length-append, take, refl, sym, ◌∙◌, ap, subst, arith}
use Rattle.std.specs.Prelude.{Contains}
use Rattle.std.specs.List.Sorted.{IsPermutation}
use Rattle.std.proofs.lemmas.List.Sorted.{Contains-permutation, IsPermutation-append, IsPermutation-append_comm, IsPermutation-refl, IsPermutation-sym, IsPermutation-trans}
use Rattle.extent_alloc.specs.Parts.{Parts}
use Rattle.store_model.specs.Space.{Block}
use Rattle.store_model.proofs.BlockLaws.{IsPermutation-without}
use Rattle.group_plan.specs.Takings.{IsListed}
use Rattle.group_plan.specs.declared.takings.Takings.{Takings}

-- Some of the blocks were given back, and those that are listed can be.
pub record Giving (kept : ℕ) (old now : Parts) (before listed : Takings) : Type 0 where
  pub least : kept ≤ length listed.blocks.items
  pub most : length listed.blocks.items ≤ length before.blocks.items
  pub blocks : listed.blocks.items ≡ take (length listed.blocks.items) before.blocks.items
  pub spare : listed.spare ≡ before.spare
  pub pages : now.pages ≡ old.pages
  pub listed_is : IsListed now listed
  pub left : (rest : List Block) → IsPermutation old.owned (before.blocks.items ++ rest) → IsPermutation now.owned (listed.blocks.items ++ rest)

take-all : (xs : List Block) → take (length xs) xs ≡ xs
take-all [] = refl
take-all (x ∷ xs) = ap (λ (ys : List Block). x ∷ ys) (take-all xs)

pub Giving-none : (kept : ℕ) (old : Parts) (before : Takings) → kept ≤ length before.blocks.items → IsListed old before → Giving kept old old before before
Giving-none kept old before least listed = record {
  least = least;
  most = omega arith;
  blocks = sym (take-all before.blocks.items);
  spare = refl;
  pages = refl;
  listed_is = listed;
  left = λ rest is. is;
}

-- the last block stands in front too
front : (xs : List Block) (block : Block) (rest : List Block) → IsPermutation ((xs ++ block ∷ []) ++ rest) (block ∷ (xs ++ rest))
front xs block rest = IsPermutation-append (xs ++ block ∷ []) (block ∷ xs) rest rest (IsPermutation-append_comm xs (block ∷ [])) (IsPermutation-refl rest)

-- the next one is there
pub owned-next : (kept : ℕ) (old now : Parts) (before listed fewer : Takings) (block : Block) → Giving kept old now before listed → listed.blocks.items ≡ fewer.blocks.items ++ block ∷ []
    → (rest : List Block) → IsPermutation old.owned (before.blocks.items ++ rest) → IsPermutation now.owned (block ∷ (fewer.blocks.items ++ rest))
owned-next kept old now before listed fewer block so_far is rest owned =
    IsPermutation-trans now.owned ((fewer.blocks.items ++ block ∷ []) ++ rest) (block ∷ (fewer.blocks.items ++ rest))
    (subst (λ (bs : List Block). IsPermutation now.owned (bs ++ rest)) is (so_far.left rest owned)) (front fewer.blocks.items block rest)

take-shorter : (xs ys : List Block) (x : Block) (zs : List Block) (n : ℕ) → xs ++ x ∷ [] ≡ take n zs → xs ≡ take (length xs) zs
take-shorter [] ys x zs n is = refl
take-shorter (y ∷ xs) ys x [] zero is = absurd (cc is)
take-shorter (y ∷ xs) ys x [] (suc n) is = absurd (cc is)
take-shorter (y ∷ xs) ys x (z ∷ zs) zero is = absurd (cc is)
take-shorter (y ∷ xs) ys x (z ∷ zs) (suc n) is =
    let here : y ≡ z = cc is in
    let rest : xs ++ x ∷ [] ≡ take n zs = cc is in
    ap (λ (b : Block). b ∷ xs) here ∙ ap (λ (bs : List Block). z ∷ bs) (take-shorter xs ys x zs n rest)

-- it was given back
pub Giving-next : (kept : ℕ) (old now new : Parts) (before listed fewer : Takings) (block : Block) → Giving kept old now before listed → kept < length listed.blocks.items
    → listed.blocks.items ≡ fewer.blocks.items ++ block ∷ [] → fewer.spare ≡ listed.spare → IsPermutation now.owned (block ∷ new.owned) → new.spare + 1 ≡ now.spare → new.pages ≡ now.pages
    → Giving kept old new before fewer
Giving-next kept old now new before listed fewer block so_far more is spare gone fewer_spare pages =
    let count : length listed.blocks.items ≡ length fewer.blocks.items + 1 = ap length is ∙ length-append fewer.blocks.items (block ∷ []) in
    record {
      least = omega (arith, more, count);
      most = omega (arith, so_far.most, count);
      blocks = take-shorter fewer.blocks.items [] block before.blocks.items (length listed.blocks.items) (sym is ∙ so_far.blocks);
      spare = spare ∙ so_far.spare;
      pages = pages ∙ so_far.pages;
      listed_is = omega (arith, so_far.listed_is, count, fewer_spare, spare);
      left = λ rest owned.
          IsPermutation-without block new.owned (fewer.blocks.items ++ rest)
          (IsPermutation-trans (block ∷ new.owned) now.owned (block ∷ (fewer.blocks.items ++ rest)) (IsPermutation-sym now.owned (block ∷ new.owned) gone)
          (owned-next kept old now before listed fewer block so_far is rest owned));
    }

-- it can be given back
pub Contains-next : (kept : ℕ) (old now : Parts) (before listed fewer : Takings) (block : Block) → Giving kept old now before listed → listed.blocks.items ≡ fewer.blocks.items ++ block ∷ []
    → (rest : List Block) → IsPermutation old.owned (before.blocks.items ++ rest) → Contains now.owned block
Contains-next kept old now before listed fewer block so_far is rest owned =
    Contains-permutation (block ∷ (fewer.blocks.items ++ rest)) now.owned block
    (IsPermutation-sym now.owned (block ∷ (fewer.blocks.items ++ rest)) (owned-next kept old now before listed fewer block so_far is rest owned)) (0, omega arith, refl)
