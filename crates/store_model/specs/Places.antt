-- The places that contents take: for each block the least free place of its tier, one block after the other.
use Rattle.std.specs.Prelude.{ℕ, ◌/◌, ◌%◌, ◌==◌, ◌&&◌, nat_le, nat_lt, not, Bool, List, [], ◌∷◌, ◌++◌, map, take, drop, Option, Some, None, Result, Ok, Err, if◌then◌else◌}
use Rattle.std.specs.List.{list_all, position, position_or_len, range_with_len}
use Rattle.store_model.specs.Disk.{page_bytes}
use Rattle.store_model.specs.Shape.{held_by, most_extents, pages_of_tier, tier_of}
use Rattle.store_model.specs.Space.{Block, end_of}
use Rattle.store_model.specs.Store.{Placement}

-- whether two blocks have a page in common
abbrev pub do_meet : Block → Block → Bool
do_meet one other = nat_lt one.0 (end_of other) && nat_lt other.0 (end_of one)

-- whether the place of a tier at `head` is a multiple of its pages, within so many pages, and meets nothing owned
abbrev pub is_free : List Block → ℕ → ℕ → ℕ → Bool
is_free owned tier pages head =
    head % pages_of_tier tier == 0 && (nat_le (end_of (head, tier)) pages && list_all (λ one. not (do_meet one (head, tier))) owned)

-- the least free place of a tier among the first so many pages, or none
abbrev pub fit : List Block → ℕ → ℕ → Option ℕ
fit owned tier pages = position (is_free owned tier pages) (range_with_len 0 pages)

-- how many extents a content of this size has: the least number that holds its full pages
abbrev pub extent_count : ℕ → ℕ
extent_count size = position_or_len (λ n. nat_le (size / page_bytes) (held_by n)) (range_with_len 0 most_extents)

-- the tiers of the first n extents
abbrev pub extent_tiers : ℕ → List ℕ
extent_tiers n = map tier_of (range_with_len 0 n)

-- the tier of a tail, where a content of this size has one
abbrev pub tail_tiers : ℕ → List ℕ
tail_tiers size = if size % page_bytes == 0 then [] else 0 ∷ []

-- the tiers of the blocks that a content of this size takes: those of its extents in order, and that of its tail
abbrev pub tiers_for : ℕ → List ℕ
tiers_for size = extent_tiers (extent_count size) ++ tail_tiers size

-- one head before the others, or the tier that found no place
abbrev pub head_then : ℕ → Result (List ℕ) ℕ → Result (List ℕ) ℕ
head_then head (Ok heads) = Ok (head ∷ heads)
head_then head (Err tier) = Err tier

-- what a place that was found leads to
abbrev pub found_then : ℕ → Option ℕ → (ℕ → Result (List ℕ) ℕ) → Result (List ℕ) ℕ
found_then tier None rest = Err tier
found_then tier (Some head) rest = head_then head (rest head)

-- the heads of blocks of these tiers, taken one after the other, or the first tier for which there is no place
abbrev pub taken : ℕ → List ℕ → List Block → Result (List ℕ) ℕ
taken pages [] owned = Ok []
taken pages (tier ∷ tiers) owned = found_then tier (fit owned tier pages) (λ head. taken pages tiers ((head, tier) ∷ owned))

-- the first of some heads, where there is one
abbrev pub first_of : List ℕ → Option ℕ
first_of [] = None
first_of (head ∷ heads) = Some head

-- the place of a content of this size whose blocks have these heads
abbrev pub place_with : ℕ → List ℕ → Placement
place_with size heads = record { heads = take (extent_count size) heads; tail = first_of (drop (extent_count size) heads) }
