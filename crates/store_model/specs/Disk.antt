-- What the pages of a disk read as.
use Rattle.std.specs.Prelude.{ℕ, ◌+◌, ◌-◌, ◌<◌, ◌==◌, ◌≡◌, List, [], ◌∷◌, ◌++◌, length, replicate, slice_index, if◌then◌else◌}
use Rattle.std.specs.List.{flat_map, range_with_len}

-- the bytes of each page
abbrev pub Image : Type 0
Image = ℕ → List ℕ

-- how many bytes a page has
abbrev pub page_bytes : ℕ
page_bytes = 4096

-- a page of zeros
abbrev pub zero_page : List ℕ
zero_page = replicate page_bytes 0

-- as many bytes as a page has
pub record IsPage (bytes : List ℕ) : Type 0 where
  pub whole : length bytes ≡ page_bytes
  pub each : (i : ℕ) → slice_index bytes i < 256

-- the bytes of so many pages, from page `first` on, one behind the other
abbrev pub area_of : Image → ℕ → ℕ → List ℕ
area_of image first count = flat_map image (range_with_len first count)

-- each page is one
abbrev pub HasPages : Image → Type 0
HasPages image = (page : ℕ) → IsPage (image page)

-- at most a page of bytes, and zeros behind them
abbrev pub page_of : List ℕ → List ℕ
page_of bytes = bytes ++ replicate (page_bytes - length bytes) 0

-- with these bytes on this page
abbrev pub with_page : Image → ℕ → List ℕ → Image
with_page image page bytes p = if p == page then bytes else image p

-- with these bytes on the pages from the first on
abbrev pub with_pages : Image → ℕ → List (List ℕ) → Image
with_pages image first [] = image
with_pages image first (bytes ∷ pages) = with_pages (with_page image first bytes) (first + 1) pages

-- new is old with other bytes on at most these pages
abbrev pub SameOff : (ℕ → Type 0) → Image → Image → Type 0
SameOff pages old new = (p : ℕ) → (pages p → ⊥) → new p ≡ old p

-- how many calls of each kind a disk has taken
pub record Calls : Type 0 where
  pub reads : ℕ
  pub writes : ℕ
  pub syncs : ℕ

-- one more read
abbrev pub with_read : Calls → Calls
with_read calls = record { reads = calls.reads + 1; writes = calls.writes; syncs = calls.syncs }

-- one more write
abbrev pub with_write : Calls → Calls
with_write calls = record { reads = calls.reads; writes = calls.writes + 1; syncs = calls.syncs }

-- one more sync
abbrev pub with_sync : Calls → Calls
with_sync calls = record { reads = calls.reads; writes = calls.writes; syncs = calls.syncs + 1 }

-- a disk has taken so many more calls of each kind
pub record Took (more_reads more_writes more_syncs : ℕ) (old new : Calls) : Type 0 where
  pub reads : new.reads ≡ old.reads + more_reads
  pub writes : new.writes ≡ old.writes + more_writes
  pub syncs : new.syncs ≡ old.syncs + more_syncs
