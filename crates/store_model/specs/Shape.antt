-- Tiers and shapes: which pages of which extents a content of some size takes.
use Rattle.std.specs.Prelude.{ℕ, zero, suc, ◌+◌, ◌-◌, ◌/◌, ◌%◌, ◌^◌, ◌<◌, ◌≤◌, ◌≡◌, min}
use Rattle.store_model.specs.Disk.{page_bytes}

-- the tier of extent i
abbrev pub tier_of : ℕ → ℕ
tier_of i = min (i / 4) 10

-- how many pages an extent of a tier has
abbrev pub pages_of_tier : ℕ → ℕ
pages_of_tier tier = 2 ^ tier

-- how many pages extent i has
abbrev pub pages_of_extent : ℕ → ℕ
pages_of_extent i = pages_of_tier (tier_of i)

-- how many pages the first n extents hold together
unfoldable pub held_by : ℕ → ℕ
held_by zero = 0
held_by (suc n) = held_by n + pages_of_extent n

-- how many extents a content has at most
abbrev pub most_extents : ℕ
most_extents = 127

-- the greatest size of a content, in bytes
abbrev pub greatest_size : ℕ
greatest_size = 381669375

-- how many full pages a content has, in how many extents they stand, and how many bytes its tail has
pub record Shape : Type 0 where
  pub full : ℕ
  pub extents : ℕ
  pub tail : ℕ

-- The shape of a content of this size. Its extents are the least number that holds the full pages: any fewer hold less.
pub record HasShape (size : ℕ) (shape : Shape) : Type 0 where
  pub full : shape.full ≡ size / page_bytes
  pub tail : shape.tail ≡ size % page_bytes
  pub held : shape.full ≤ held_by shape.extents
  pub least : (n : ℕ) → n < shape.extents → held_by n < shape.full

-- Full page number `page` of a content stands in this extent, behind `offset` other pages of the extent.
pub record LiesAt (page extent offset : ℕ) : Type 0 where
  pub at : page ≡ held_by extent + offset
  pub within : offset < pages_of_extent extent

-- extent i is one of those of a size: the extents before it don't hold the full pages
abbrev pub UsesExtent : ℕ → ℕ → Type 0
UsesExtent size i = held_by i < size / page_bytes

-- how many pages of extent i a size uses: all of them, or what is left of the full pages
abbrev pub pages_used : ℕ → ℕ → ℕ
pages_used size i = min (pages_of_extent i) (size / page_bytes - held_by i)
