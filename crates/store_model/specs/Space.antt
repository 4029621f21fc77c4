-- Space: which pages of the data area are owned, and which place is the next free one.
use Rattle.std.specs.Prelude.{ℕ, ◌+◌, ◌%◌, ◌<◌, ◌≤◌, ◌≡◌, ◌&&◌, nat_le, nat_lt, Bool, IsTrue, List, [], ◌∷◌, ◌++◌, Option, Some, None, Contains, if◌then◌else◌}
use Rattle.std.specs.List.{enumerate_from, flat_map}
use Rattle.store_model.specs.Layout.{Layout, data_page, data_pages}
use Rattle.store_model.specs.Shape.{pages_of_tier, tier_of}
use Rattle.store_model.specs.Store.{Placement}

-- a block of pages: the first of them, counted in the data area, and its tier
abbrev pub Block : Type 0
Block = ℕ × ℕ

-- the page behind a block's last
abbrev pub end_of : Block → ℕ
end_of block = block.0 + pages_of_tier block.1

-- whether a page lies in a block
abbrev pub lies_in : ℕ → Block → Bool
lies_in page block = nat_le block.0 page && nat_lt page (end_of block)

-- how many of some blocks a page lies in
abbrev pub owners : List Block → ℕ → ℕ
owners [] page = 0
owners (block ∷ blocks) page = if lies_in page block then 1 + owners blocks page else owners blocks page

-- a block of a known tier, at a multiple of its pages among the first so many
pub record IsBlock (pages : ℕ) (block : Block) : Type 0 where
  pub tier : block.1 ≤ 10
  pub aligned : block.0 % pages_of_tier block.1 ≡ 0
  pub within : end_of block ≤ pages

-- each is such a block
abbrev pub AreBlocks : ℕ → List Block → Type 0
AreBlocks pages blocks = (block : Block) → Contains blocks block → IsBlock pages block

-- no page lies in two of the blocks
abbrev pub Apart : List Block → Type 0
Apart blocks = (page : ℕ) → owners blocks page ≤ 1

-- the least page that lies in two of the blocks
pub record IsLeastOwnedTwice (blocks : List Block) (page : ℕ) : Type 0 where
  pub twice : 2 ≤ owners blocks page
  pub least : (other : ℕ) → other < page → owners blocks other ≤ 1

-- a free place of a tier among the first so many pages: a multiple of its pages, within, and no page of it is owned
pub record IsFree (owned : List Block) (tier pages head : ℕ) : Type 0 where
  pub aligned : head % pages_of_tier tier ≡ 0
  pub within : end_of (head, tier) ≤ pages
  pub clear : (page : ℕ) → IsTrue (lies_in page (head, tier)) → owners owned page ≡ 0

-- the least free place of a tier
pub record IsLeastFree (owned : List Block) (tier pages head : ℕ) : Type 0 where
  pub free : IsFree owned tier pages head
  pub least : (other : ℕ) → other < head → IsFree owned tier pages other → ⊥

-- no place of a tier is free
abbrev pub IsFull : List Block → ℕ → ℕ → Type 0
IsFull owned tier pages = (head : ℕ) → IsFree owned tier pages head → ⊥

-- what fits a tier: the least free place, or none
abbrev pub Fit : List Block → ℕ → ℕ → Option ℕ → Type 0
Fit owned tier pages (Some head) = IsLeastFree owned tier pages head
Fit owned tier pages None = IsFull owned tier pages

-- a tail's page is a block of tier 0
abbrev pub tail_blocks : Option ℕ → List Block
tail_blocks None = []
tail_blocks (Some page) = (page, 0) ∷ []

-- the blocks of extents with these heads, in order
abbrev pub extent_blocks : List ℕ → List Block
extent_blocks heads = flat_map (λ head. (head.1, tier_of head.0) ∷ []) (enumerate_from 0 heads)

-- the blocks of an object's place: its extents in order, and then its tail
abbrev pub blocks_of : Placement → List Block
blocks_of place = extent_blocks place.heads ++ tail_blocks place.tail

-- page p of a disk is one of the data area that some of these blocks own
pub record IsOwnedPage (layout : Layout) (blocks : List Block) (p : ℕ) : Type 0 where
  pub at : ℕ
  pub is : p ≡ data_page layout + at
  pub within : at < data_pages layout
  pub owned : 1 ≤ owners blocks at
