-- What the data area holds of a content: where its pages stand, and that they read as it.
use Rattle.std.specs.Prelude.{ℕ, ◌+◌, ◌-◌, ◌*◌, ◌/◌, ◌%◌, ◌<◌, ◌≤◌, ◌≡◌, ◌⊎◌, min, nat_lt, if◌then◌else◌, List, length, take, drop, slice_get, Some}
use Rattle.store_model.specs.Disk.{Image, page_bytes, page_of}
use Rattle.store_model.specs.Layout.{Layout, data_page}
use Rattle.store_model.specs.Shape.{LiesAt}
use Rattle.store_model.specs.State.{HasTail, State, heads_of}
use Rattle.store_model.specs.Store.{Object, Placement}

-- where a state's pages stand
abbrev pub place_of : State → Placement
place_of state = record { heads = heads_of state.extents; tail = state.tail }

-- Full page number `page` of a content stands on data page `at`: in the extent that it lies in, as many pages behind the
-- head as it lies behind the extent's first page.
pub record StandsAt (place : Placement) (page at : ℕ) : Type 0 where
  pub extent : ℕ
  pub offset : ℕ
  pub lies : LiesAt page extent offset
  pub head : ℕ
  pub there : slice_get place.heads extent ≡ Some head
  pub at_is : at ≡ head + offset

-- full page number `page` of a content
abbrev pub full_page : List ℕ → ℕ → List ℕ
full_page content page = take page_bytes (drop (page_bytes * page) content)

-- the bytes of a content behind its full pages
abbrev pub rest_of : List ℕ → List ℕ
rest_of content = drop (page_bytes * (length content / page_bytes)) content

-- Full page number `page` of a content stands somewhere, and reads as it there.
abbrev pub HoldsPage : Image → ℕ → Placement → List ℕ → ℕ → Type 0
HoldsPage image first place content page = (at : ℕ) × StandsAt place page at × (image (first + at) ≡ full_page content page)

-- The data area that begins at page `first` holds a content at a place: each of its full pages stands somewhere and reads as
-- it there, a tail page is there exactly where bytes are left behind them, and these stand at its front.
pub record HoldsAt (image : Image) (first : ℕ) (place : Placement) (content : List ℕ) : Type 0 where
  pub full : (page : ℕ) → page < length content / page_bytes → HoldsPage image first place content page
  pub tailed : HasTail (length content) place.tail
  pub tail : (page : ℕ) → place.tail ≡ Some page → take (length content % page_bytes) (image (first + page)) ≡ rest_of content

-- It holds a content of the state's size at the state's place.
pub record Holds (image : Image) (first : ℕ) (state : State) (content : List ℕ) : Type 0 where
  pub size : length content ≡ state.size
  pub at : HoldsAt image first (place_of state) content

-- An object stands in the data area that begins at page `first`: its content is held at its place, with zeros behind it on
-- the tail page.
pub record ObjectStands (image : Image) (first : ℕ) (object : Object) : Type 0 where
  pub held : HoldsAt image first object.place object.content
  pub filled : (page : ℕ) → object.place.tail ≡ Some page → image (first + page) ≡ page_of (rest_of object.content)

-- each full page of a content below number n reads as it from where it stands
abbrev pub HoldsFront : ℕ → Image → ℕ → Placement → List ℕ → Type 0
HoldsFront n image first place content = (page at : ℕ) → page < n → StandsAt place page at → image (first + at) ≡ full_page content page

-- page p of a disk is where one of the full pages from number `from` up to `to` stands
pub record IsFullPage (first : ℕ) (place : Placement) (from to p : ℕ) : Type 0 where
  pub page : ℕ
  pub least : from ≤ page
  pub below : page < to
  pub at : ℕ
  pub stands : StandsAt place page at
  pub is : p ≡ first + at

-- page p of a disk is the tail page of a place
pub record IsTailPage (first : ℕ) (place : Placement) (p : ℕ) : Type 0 where
  pub at : ℕ
  pub tail : place.tail ≡ Some at
  pub is : p ≡ first + at

-- page p is one of those of a state's content: one of its full pages from number `from` on, or its tail page
abbrev pub IsPoured : Layout → State → ℕ → ℕ → Type 0
IsPoured layout state from p =
    IsFullPage (data_page layout) (place_of state) from (state.size / page_bytes) p ⊎ IsTailPage (data_page layout) (place_of state) p

-- how many pages a content of this size has from full page number `from` on, its tail page too
abbrev pub pages_from : ℕ → ℕ → ℕ
pages_from size from = size / page_bytes - from + min 1 (size % page_bytes)

-- how many pages the bytes from `off` on lie in, so many of them
abbrev pub pages_across : ℕ → ℕ → ℕ
pages_across off count = if nat_lt 0 count then (off + count - 1) / page_bytes + 1 - off / page_bytes else 0
