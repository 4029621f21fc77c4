-- The stored form of a half: its header, and the states of a store. Number fields have their high byte first.
use Rattle.std.specs.Prelude.{ℕ, ◌≡◌, ◌*◌, ◌≤◌, List, ◌++◌, length, codes, Some, bytes_eq, if◌then◌else◌, take}
use Rattle.std.specs.Int.{w32, w64, to_be_bytes}
use Rattle.std.specs.List.{flat_map}
use Rattle.std.specs.FinMap.{FinMap, entries, get, len}
use Rattle.store_model.specs.Disk.{page_bytes}
use Rattle.store_model.specs.Key.{key_order}
use Rattle.store_model.specs.Layout.{IsLayout, Layout, data_pages}
use Rattle.store_model.specs.State.{State, greatest_number}
use Rattle.store_model.specs.Tuple.{IsTuple, spelling}

-- the half that a selector's page picks: half 1 exactly where it begins with this text
abbrev pub selector_text : List ℕ
selector_text = codes "HALFONE1"

abbrev pub picked : List ℕ → ℕ
picked page = if bytes_eq (take 8 page) selector_text then 1 else 0

-- the states' tuples, one behind the other in the order of their keys
abbrev pub tuples_spelling : FinMap key_order State → List ℕ
tuples_spelling states = flat_map (λ entry. spelling entry.0 entry.1) (entries states)

-- The text, the version 1, UNITS, ROOM, the last number, how many states there are, and how many bytes their tuples take.
abbrev pub header_spelling : Layout → ℕ → ℕ → ℕ → List ℕ
header_spelling layout last count bytes =
    codes "BLOBHALF" ++ to_be_bytes w32 1 ++ to_be_bytes w32 layout.units ++ to_be_bytes w32 layout.room
    ++ to_be_bytes w64 last ++ to_be_bytes w32 count ++ to_be_bytes w32 bytes

-- States that a half of this layout may have, with this last number: each among its data pages, and written by an entry up to the
-- last one; all of them in the room.
pub record IsHalf (layout : Layout) (last : ℕ) (states : FinMap key_order State) : Type 0 where
  pub sound : IsLayout layout
  pub most : last ≤ greatest_number
  pub tuples : (key : List ℕ) (state : State) → get states key ≡ Some state → IsTuple (data_pages layout) key state
  pub born : (key : List ℕ) (state : State) → get states key ≡ Some state → state.born ≤ last
  pub room : length (tuples_spelling states) ≤ page_bytes * layout.room

-- A header's page and the bytes of a states area are those of these states; anything may follow both.
pub record SpellsHalf (header area : List ℕ) (layout : Layout) (last : ℕ) (states : FinMap key_order State) : Type 0 where
  pub half : IsHalf layout last states
  pub header_rest : List ℕ
  pub header_is : header ≡ header_spelling layout last (len states) (length (tuples_spelling states)) ++ header_rest
  pub area_rest : List ℕ
  pub area_is : area ≡ tuples_spelling states ++ area_rest
