-- Blocks that are taken from a space one after the other, in the words of the definitions.
use Rattle.std.specs.Prelude.{ℕ, ◌≡◌, ◌+◌, ◌≤◌, List, [], ◌∷◌, ◌++◌, length, drop, zip, Option, Some, None, Result, Ok, Err}
use Rattle.std.specs.List.Sorted.{IsPermutation}
use Rattle.extent_alloc.specs.Parts.{Parts}
use Rattle.store_model.specs.Places.{extent_tiers, taken}
use Rattle.store_model.specs.Space.{Block}
use Rattle.store_model.specs.State.{AreAligned}
use Rattle.group_plan.specs.declared.takings.Takings.{Takings}
use Rattle.group_plan.specs.declared.takings.TakeFault.{TakeFault}
use Rattle.group_plan.specs.declared.takings.TakeFault.TheVariants as take

-- the page of a tail, where there is one
abbrev pub tail_list : Option ℕ → List ℕ
tail_list None = []
tail_list (Some page) = page ∷ []

-- these heads before the others
abbrev pub heads_then : List ℕ → Result (List ℕ) ℕ → Result (List ℕ) ℕ
heads_then before (Ok heads) = Ok (before ++ heads)
heads_then before (Err tier) = Err tier

-- Blocks of these tiers have these heads in the old space, and what further tiers take is taken in the new one.
abbrev pub TakesHeads : List ℕ → List ℕ → Parts → Parts → Type 0
TakesHeads tiers heads old new = (rest : List ℕ) → taken old.pages (tiers ++ rest) old.owned ≡ heads_then heads (taken old.pages rest new.owned)

-- one of these tiers finds no place: this one
abbrev pub Fails : List ℕ → ℕ → Parts → Type 0
Fails tiers tier old = (rest : List ℕ) → taken old.pages (tiers ++ rest) old.owned ≡ Err tier

-- each block that was taken can be given back without taking memory
abbrev pub IsListed : Parts → Takings → Type 0
IsListed space takings = takings.spare + length takings.blocks.items ≤ space.spare

-- These blocks were taken from a space and listed.
pub record Moves (more : List Block) (old new : Parts) (before after : Takings) : Type 0 where
  pub owned : IsPermutation new.owned (more ++ old.owned)
  pub pages : new.pages ≡ old.pages
  pub blocks : after.blocks.items ≡ before.blocks.items ++ more
  pub spare : after.spare ≡ before.spare
  pub listed : IsListed new after

-- some blocks were
abbrev pub HasMoved : Parts → Parts → Takings → Takings → Type 0
HasMoved old new before after = (more : List Block) × Moves more old new before after

-- Blocks of these tiers were taken, with these heads.
pub record Takes (tiers heads : List ℕ) (old new : Parts) (before after : Takings) : Type 0 where
  pub took : TakesHeads tiers heads old new
  pub count : length heads ≡ length tiers
  pub moves : Moves (zip heads tiers) old new before after

-- why blocks of these tiers weren't taken; those before the one that found no place are
abbrev pub IsTakeFault : List ℕ → Parts → Parts → Takings → Takings → TakeFault → Type 0
IsTakeFault tiers old new before after (take.NoSpace tier) = Fails tiers tier old × HasMoved old new before after
IsTakeFault tiers old new before after take.OutOfMemory = HasMoved old new before after

-- The extents behind the kept ones have heads, up to so many extents.
pub record TakesExtents (n : ℕ) (kept heads : List ℕ) (old new : Parts) (before after : Takings) : Type 0 where
  pub more : List ℕ
  pub heads_are : heads ≡ kept ++ more
  pub takes : Takes (drop (length kept) (extent_tiers n)) more old new before after
  pub aligned : AreAligned heads
  pub count : length heads ≡ n
