-- What pages of a disk read as, page by page.
use Rattle.std.specs.Prelude.{ℕ, ◌+◌, ◌-◌, ◌*◌, ◌/◌, ◌%◌, ◌<◌, ◌≤◌, ◌≡◌, min, nat_lt, if◌then◌else◌, List, [], length, take, drop, slice_index_or}
use Rattle.store_model.specs.Disk.{Image, page_bytes}
use Rattle.store_model.specs.Holds.{StandsAt, full_page, pages_from}
use Rattle.store_model.specs.Shape.{held_by, pages_used}
use Rattle.store_model.specs.State.{State}
use Rattle.store_model.specs.Store.{Placement}

-- the full pages from number `from` up to `to` read as these
abbrev pub PagesRead : ℕ → Placement → ℕ → ℕ → List (List ℕ) → Image → Type 0
PagesRead first place from to pages image =
    (page at : ℕ) → from ≤ page → page < to → StandsAt place page at → image (first + at) ≡ slice_index_or pages (page - from) []

-- a page begins with the bytes of page number `number` of a content: a full page, or those behind the full pages
abbrev pub BeginsAs : List ℕ → ℕ → List ℕ → Type 0
BeginsAs page number content = take (min page_bytes (length content - page_bytes * number)) page ≡ full_page content number

-- how many of the bytes from `off` on, of which there are `count`, stand before page number `number`
abbrev pub bytes_before : ℕ → ℕ → ℕ → ℕ
bytes_before off count number = min count (page_bytes * number - off)

-- the first n of these bytes are those of a content from `off` on
abbrev pub FrontAs : List ℕ → ℕ → List ℕ → ℕ → Type 0
FrontAs bytes off content n = take n bytes ≡ take n (drop off content)

-- how many pages a link reads
abbrev pub pages_of_link : State → ℕ → ℕ
pages_of_link state link = if nat_lt link (length state.extents) then pages_used state.size link else min 1 (state.size % page_bytes)

-- how many pages the links before it read
abbrev pub pages_of_links : State → ℕ → ℕ
pages_of_links state link = if nat_lt (length state.extents) link then pages_from state.size 0 else min (held_by link) (state.size / page_bytes)

-- where the bytes of a link begin in a content of the state's size; behind the last link, where the content ends
abbrev pub part_begin : State → ℕ → ℕ
part_begin state link = if nat_lt (length state.extents) link then state.size else page_bytes * min (held_by link) (state.size / page_bytes)
