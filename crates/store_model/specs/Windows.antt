-- The two windows of a commit. In the first a frame's body and the next gate, closed, are written behind the first closed gate of the
-- log; in the second the contents that the frame's entries set are written, and that gate, open. A crash in a window may leave any
-- bytes on the pages that are written in it.
use Rattle.std.specs.Prelude.{ℕ, ◌+◌, ◌-◌, ◌*◌, ◌≤◌, ◌≡◌, ◌⊎◌, false, List, [], ◌∷◌, ◌++◌, length}
use Rattle.std.specs.List.{flat_map}
use Rattle.std.specs.FinMap.{FinMap}
use Rattle.store_model.specs.Dependence.{IsContentPage, LosesNone}
use Rattle.store_model.specs.Disk.{HasPages, Image, SameOff, page_bytes}
use Rattle.store_model.specs.Frame.{Del, Entry, Set, Spells, Write}
use Rattle.store_model.specs.Half.{picked, tuples_spelling}
use Rattle.store_model.specs.Holds.{place_of}
use Rattle.store_model.specs.Key.{key_order}
use Rattle.store_model.specs.Layout.{Layout, data_pages}
use Rattle.store_model.specs.Log.{IsLogPage, at_log, body_pages, log_pages}
use Rattle.store_model.specs.LogReading.{IsBodyAt, gate_is_open, next_gate}
use Rattle.store_model.specs.Reading.{AreKept, Found, Gives, GoesOn, Opened, Reads, blocks_of_states, with_entries, with_entry, with_frame}
use Rattle.store_model.specs.Space.{Apart, AreBlocks, Block, blocks_of}
use Rattle.store_model.specs.State.{State}

-- the blocks of the state that a write sets, where it sets one
abbrev pub blocks_of_write : Write → List Block
blocks_of_write (Set key state) = blocks_of (place_of state)
blocks_of_write (Del key) = []

-- the blocks of the states that an entry sets, in the order of its writes
abbrev pub blocks_of_entry : Entry → List Block
blocks_of_entry entry = flat_map blocks_of_write entry.writes

-- and of those that some entries set
abbrev pub blocks_of_sets : List Entry → List Block
blocks_of_sets entries = flat_map blocks_of_entry entries

-- The states that entries set have new places: these lie in the data area, and apart from one another and from those of the states
-- before.
pub record HasPlaces (layout : Layout) (states : FinMap key_order State) (entries : List Entry) : Type 0 where
  pub blocks : AreBlocks (data_pages layout) (blocks_of_sets entries)
  pub apart : Apart (blocks_of_states states ++ blocks_of_sets entries)

-- these are some of the entries, in their order
abbrev pub IsPartOf : List Entry → List Entry → Type 0
IsPartOf part [] = part ≡ []
IsPartOf part (entry ∷ entries) = ((rest : List Entry) × (part ≡ entry ∷ rest) × IsPartOf rest entries) ⊎ IsPartOf part entries

-- whichever of the entries are kept, a half has room for the tuples of the states behind them
abbrev pub HasRoomFor : Layout → FinMap key_order State → List Entry → Type 0
HasRoomFor layout states entries =
    (kept : List Entry) → IsPartOf kept entries → length (tuples_spelling (with_entries states kept)) ≤ page_bytes * layout.room

-- These entries may follow as the next frame of a disk's log, with these bytes as their body: their numbers go on, the log area has
-- room for the body and the next gate, the states that they set have new places, and a half has room for the states.
pub record MayFollow (pages : ℕ) (base : Image) (found : Found) (gives : Gives pages base found) (bytes : List ℕ) (entries : List Entry) : Type 0 where
  pub spells : Spells (data_pages found.layout) bytes entries
  pub goes_on : GoesOn found.last entries
  pub fits : next_gate gives.gate (length bytes) ≤ log_pages - 1
  pub places : HasPlaces found.layout found.states entries
  pub room : HasRoomFor found.layout found.states entries

-- a page that is written in the first window: one of the body's behind its gate, or the next gate
abbrev pub IsBodyPage : ℕ → ℕ → List ℕ → ℕ → Type 0
IsBodyPage half gate bytes p = IsLogPage half (gate + 1) (body_pages (length bytes) + 1) p

-- a page that is written in the second window: one of the contents that the entries set, or the body's gate
abbrev pub IsPouredPage : Layout → ℕ → ℕ → List Entry → ℕ → Type 0
IsPouredPage layout half gate entries p = IsContentPage layout entries p ⊎ (p ≡ at_log half gate)

-- Between the windows: the body stands behind the first closed gate of the disk's log, and the next gate is closed.
pub record IsLaid (pages : ℕ) (base laid : Image) (found : Found) (gives : Gives pages base found) (bytes : List ℕ) : Type 0 where
  pub same : SameOff (IsBodyPage (picked (base 0)) gives.gate bytes) base laid
  pub body : IsBodyAt laid (picked (base 0)) gives.gate bytes
  pub closed : gate_is_open laid (picked (base 0)) (next_gate gives.gate (length bytes)) ≡ false

-- What a crash in the second window, or behind it, may leave of a disk whose last frame lost no entry: any bytes on the contents'
-- pages and on the body's gate.
pub record InSecondWindow (pages : ℕ) (base image : Image) (found : Found) (gives : Gives pages base found) (bytes : List ℕ) (entries : List Entry) : Type 0 where
  pub whole : HasPages base
  pub lossless : LosesNone base gives.start.layout gives.bodies
  pub follows : MayFollow pages base found gives bytes entries
  pub laid : Image
  pub stands : IsLaid pages base laid found gives bytes
  pub same : SameOff (IsPouredPage found.layout (picked (base 0)) gives.gate entries) laid image

-- the disk reads as the store behind exactly those of the entries of which all the states verify
abbrev pub ReadsKept : ℕ → Image → Found → List Entry → Type 0
ReadsKept pages image found entries =
    (kept : List Entry) × AreKept image found.layout entries kept × Reads pages image (Opened (with_frame found entries kept))

-- by how many bytes an entry makes the tuples of states grow: 0 where it makes them shrink
abbrev pub growth_by : FinMap key_order State → Entry → ℕ
growth_by states entry = length (tuples_spelling (with_entry states entry)) - length (tuples_spelling states)
