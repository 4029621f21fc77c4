-- The places that contents take don't hang on the order of what is owned.
use Rattle.std.proofs.Common.{◌≡◌, ℕ, List, [], ◌∷◌, ◌++◌, Option, Some, None, refl, ◌∙◌}
use Rattle.std.specs.List.Sorted.{IsPermutation}
use Rattle.std.proofs.lemmas.List.Sorted.{IsPermutation-append_right, IsPermutation-cons, IsPermutation-sym}
use Rattle.store_model.specs.Places.{fit, found_then, taken}
use Rattle.store_model.specs.Placing.{Holding, Need, new_blocks, place_all, placed_then, tiers_of}
use Rattle.store_model.specs.Space.{Block, Fit, IsFree, IsFull, IsLeastFree}
use Rattle.store_model.proofs.FitLaws.{Fit-fit, Fit-unique}
use Rattle.store_model.proofs.PlaceLaws.{owners-permutation}

-- the least free place is the one that fits
pub taken-found : (owned : List Block) (tier pages head : ℕ) → IsLeastFree owned tier pages head
    → fit owned tier pages ≡ Some head
taken-found owned tier pages head least =
    Fit-unique owned tier pages (fit owned tier pages) (Some head) (Fit-fit owned tier pages) least

-- where no place is free, none fits
pub taken-full : (owned : List Block) (tier pages : ℕ) → IsFull owned tier pages → fit owned tier pages ≡ None
taken-full owned tier pages full = Fit-unique owned tier pages (fit owned tier pages) None (Fit-fit owned tier pages) full

-- a free place is free in each order of what is owned
free-moved : (a b : List Block) (tier pages head : ℕ) → IsPermutation a b → IsFree a tier pages head
    → IsFree b tier pages head
free-moved a b tier pages head moves free = record {
  aligned = free.aligned;
  within = free.within;
  clear = λ page lies. owners-permutation a b page moves ∙ free.clear page lies;
}

fit-moved : (a b : List Block) (tier pages : ℕ) (o : Option ℕ) → IsPermutation a b → Fit a tier pages o → Fit b tier pages o
fit-moved a b tier pages None moves full = λ head free.
    full head (free-moved b a tier pages head (IsPermutation-sym a b moves) free)
fit-moved a b tier pages (Some head) moves least = record {
  free = free-moved a b tier pages head moves least.free;
  least = λ other less free. least.least other less (free-moved b a tier pages other (IsPermutation-sym a b moves) free);
}

-- what fits doesn't hang on the order
pub fit-permutation : (a b : List Block) (tier pages : ℕ) → IsPermutation a b → fit a tier pages ≡ fit b tier pages
fit-permutation a b tier pages moves =
    Fit-unique b tier pages (fit a tier pages) (fit b tier pages)
    (fit-moved a b tier pages (fit a tier pages) moves (Fit-fit a tier pages)) (Fit-fit b tier pages)

-- nor do the blocks that are taken one after the other
pub taken-permutation : (pages : ℕ) (tiers : List ℕ) (a b : List Block) → IsPermutation a b
    → taken pages tiers a ≡ taken pages tiers b
taken-permutation pages [] a b moves = refl
taken-permutation pages (tier ∷ tiers) a b moves = λ i.
    found_then tier (fit-permutation a b tier pages moves i)
    (λ head.
    taken-permutation pages tiers ((head, tier) ∷ a) ((head, tier) ∷ b) (IsPermutation-cons (head, tier) a b moves) i)

-- nor do the places of changes
pub place_all-permutation : (pages : ℕ) (held : List ℕ → Option Holding) (needs : List (List ℕ × Need)) (a b : List Block) → IsPermutation a b
    → place_all pages held needs a ≡ place_all pages held needs b
place_all-permutation pages held [] a b moves = refl
place_all-permutation pages held (one ∷ others) a b moves = λ i.
    placed_then one.0 (taken-permutation pages (tiers_of one.1 (held one.0)) a b moves i)
    (λ heads. record { key = one.0; need = one.1; old = held one.0; heads = heads })
    (λ placed.
    place_all-permutation pages held others (new_blocks placed ++ a) (new_blocks placed ++ b)
    (IsPermutation-append_right (new_blocks placed) a b moves) i)
