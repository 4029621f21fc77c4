-- What changes need of the space, and the places that they take there. Sizes and places count here, and no content.
use Rattle.std.specs.Prelude.{ℕ, ◌+◌, ◌*◌, ◌/◌, List, [], ◌∷◌, ◌++◌, length, drop, zip, Option, Some, None, Result, Ok, Err}
use Rattle.store_model.specs.Disk.{page_bytes}
use Rattle.store_model.specs.Holds.{pages_from}
use Rattle.store_model.specs.Places.{extent_count, extent_tiers, place_with, tail_tiers, taken}
use Rattle.store_model.specs.Space.{Block, blocks_of, tail_blocks}
use Rattle.store_model.specs.Store.{Placement}
use Rattle.store_model.specs.Tuple.{stored_extent, stored_fields, stored_tail}

-- what is known of an object besides its content: its size, its number, and where it lies
pub record Holding : Type 0 where
  pub size : ℕ
  pub number : ℕ
  pub place : Placement

-- What a change needs: a place of its own for a content of this size; more place behind the one that stands, for a content that
-- is then of this size; or nothing, where its key goes.
pub data Need : Type 0 where
  Whole : ℕ → Need
  Longer : ℕ → Need
  Nothing : Need

-- the heads that stay with the object: those of the content that gets longer
abbrev pub kept_heads : Need → Option Holding → List ℕ
kept_heads (Longer size) (Some old) = old.place.heads
kept_heads (Longer size) None = []
kept_heads (Whole size) old = []
kept_heads Nothing old = []

-- the tiers of the blocks that are taken for a content of this size of which so many extents stand already
abbrev pub tiers_behind : ℕ → ℕ → List ℕ
tiers_behind kept size = drop kept (extent_tiers (extent_count size)) ++ tail_tiers size

-- the tiers of the blocks that a change takes, in order
abbrev pub tiers_of : Need → Option Holding → List ℕ
tiers_of (Whole size) old = tiers_behind 0 size
tiers_of (Longer size) old = tiers_behind (length (kept_heads (Longer size) old)) size
tiers_of Nothing old = []

-- A change that has its blocks: its key, what it needs, what is known of the object that was there, and the heads of the blocks
-- that were taken for it.
pub record Placed : Type 0 where
  pub key : List ℕ
  pub need : Need
  pub old : Option Holding
  pub heads : List ℕ

-- the place that a change gives its key's object, or none where the key goes
abbrev pub place_of_need : Need → List ℕ → Option Placement
place_of_need (Whole size) heads = Some (place_with size heads)
place_of_need (Longer size) heads = Some (place_with size heads)
place_of_need Nothing heads = None

abbrev pub new_place : Placed → Option Placement
new_place placed = place_of_need placed.need (kept_heads placed.need placed.old ++ placed.heads)

-- the blocks that were taken for it
abbrev pub new_blocks : Placed → List Block
new_blocks placed = zip placed.heads (tiers_of placed.need placed.old)

-- the blocks that no state owns after it: those of the object that was there, or the tail's alone where the content gets longer
abbrev pub left_blocks : Need → Option Holding → List Block
left_blocks need None = []
left_blocks (Whole size) (Some old) = blocks_of old.place
left_blocks (Longer size) (Some old) = tail_blocks old.place.tail
left_blocks Nothing (Some old) = blocks_of old.place

abbrev pub freed_blocks : Placed → List Block
freed_blocks placed = left_blocks placed.need placed.old

-- how many pages are written for a change: those of its content, or of a longer one those behind the full pages that stand
abbrev pub pages_of_need : Need → Option Holding → ℕ
pages_of_need (Whole size) old = pages_from size 0
pages_of_need (Longer size) (Some old) = pages_from size (old.size / page_bytes)
pages_of_need (Longer size) None = pages_from size 0
pages_of_need Nothing old = 0

abbrev pub pages_written : Placed → ℕ
pages_written placed = pages_of_need placed.need placed.old

-- how many bytes an object takes where its state is stored
abbrev pub object_bytes : List ℕ → Placement → ℕ
object_bytes key place = 1 + length key + stored_fields + stored_extent * length place.heads + stored_tail place.tail

-- how many its state takes before and after a change, and 0 for none
abbrev pub bytes_at : List ℕ → Option Placement → ℕ
bytes_at key (Some place) = object_bytes key place
bytes_at key None = 0

abbrev pub place_held : Option Holding → Option Placement
place_held (Some old) = Some old.place
place_held None = None

abbrev pub bytes_before : Placed → ℕ
bytes_before placed = bytes_at placed.key (place_held placed.old)

abbrev pub bytes_after : Placed → ℕ
bytes_after placed = bytes_at placed.key (new_place placed)

-- one placed change before the others, or the key and tier that found none
abbrev pub placed_before : Placed → Result (List Placed) (List ℕ × ℕ) → Result (List Placed) (List ℕ × ℕ)
placed_before placed (Ok others) = Ok (placed ∷ others)
placed_before placed (Err none) = Err none

-- the heads that were found for a key, and then the others, or the tier that found no place
abbrev pub placed_then : List ℕ → Result (List ℕ) ℕ → (List ℕ → Placed) → (Placed → Result (List Placed) (List ℕ × ℕ)) → Result (List Placed) (List ℕ × ℕ)
placed_then key (Ok heads) make rest = placed_before (make heads) (rest (make heads))
placed_then key (Err tier) make rest = Err (key, tier)

-- The changes of keys with their blocks, in the order of the list, over the blocks that are owned: or the first key, with its first
-- tier, for which there is no place.
abbrev pub place_all : ℕ → (List ℕ → Option Holding) → List (List ℕ × Need) → List Block → Result (List Placed) (List ℕ × ℕ)
place_all pages held [] owned = Ok []
place_all pages held (one ∷ others) owned =
    placed_then one.0 (taken pages (tiers_of one.1 (held one.0)) owned)
    (λ heads. record { key = one.0; need = one.1; old = held one.0; heads = heads })
    (λ placed. place_all pages held others (new_blocks placed ++ owned))
