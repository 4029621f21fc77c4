-- The layout of a disk: which pages are what.
use Rattle.std.specs.Prelude.{ℕ, ◌+◌, ◌*◌, ◌≤◌}

-- the number of units of 1024 data pages, and of pages for the states of a half
pub record Layout : Type 0 where
  pub units : ℕ
  pub room : ℕ

-- the limits of both
pub record IsLayout (layout : Layout) : Type 0 where
  pub some_units : 1 ≤ layout.units
  pub most_units : layout.units ≤ 16384
  pub some_room : 1 ≤ layout.room
  pub most_room : layout.room ≤ 1024

-- The selector is page 0, and the header of a half is the page behind it or the next.
abbrev pub header_page : ℕ → ℕ
header_page half = 1 + half

-- the first of the 512 pages of a half's log area
abbrev pub log_page : ℕ → ℕ
log_page half = 3 + 512 * half

-- the first page of a half's states
abbrev pub states_page : Layout → ℕ → ℕ
states_page layout half = 1027 + layout.room * half

-- the first page of the data area
abbrev pub data_page : Layout → ℕ
data_page layout = 1027 + 2 * layout.room

-- how many pages the data area has
abbrev pub data_pages : Layout → ℕ
data_pages layout = 1024 * layout.units

-- how many pages the layout takes
abbrev pub total_pages : Layout → ℕ
total_pages layout = 1027 + 2 * layout.room + 1024 * layout.units
