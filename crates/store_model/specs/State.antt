-- States of objects: what is kept of a content, and where its pages stand.
use Rattle.std.specs.Prelude.{ℕ, ◌+◌, ◌-◌, ◌*◌, ◌/◌, ◌%◌, ◌^◌, ◌<◌, ◌≤◌, ◌≡◌, ◌↔◌, List, ◌++◌, length, map, take, replicate, slice_get, slice_index, Option, Some, IsSome}
use Rattle.store_model.specs.Disk.{page_bytes}
use Rattle.store_model.specs.Hash.{Leads, initial_state, sha256}
use Rattle.store_model.specs.Shape.{HasShape, greatest_size, held_by, pages_of_extent, pages_used}

-- an extent of a content: its first page, counted in the data area, and its mark
pub record Extent : Type 0 where
  pub head : ℕ
  pub mark : List ℕ

-- What is kept of a content, the number of the entry that wrote it, and where its pages stand. The prefix is its first
-- bytes, and the tail the page of the bytes behind its full pages.
pub record State : Type 0 where
  pub size : ℕ
  pub born : ℕ
  pub digest : List ℕ
  pub prefix : List ℕ
  pub extents : List Extent
  pub tail : Option ℕ

-- a content of this size has so many extents
abbrev pub HasExtents : ℕ → ℕ → Type 0
HasExtents size n = HasShape size (record { full = size / page_bytes; extents = n; tail = size % page_bytes })

-- a tail page is there exactly where the full pages leave bytes over
abbrev pub HasTail : ℕ → Option ℕ → Type 0
HasTail size tail = IsSome tail ↔ (0 < size % page_bytes)

-- eight words
pub record IsMark (mark : List ℕ) : Type 0 where
  pub eight : length mark ≡ 8
  pub words : (k : ℕ) → slice_index mark k < 2 ^ 32

-- 32 bytes, of which those past the size are zeros
pub record IsPrefix (size : ℕ) (prefix : List ℕ) : Type 0 where
  pub bytes : length prefix ≡ 32
  pub zeros : (k : ℕ) → size ≤ k → slice_index prefix k ≡ 0

-- the greatest number of an entry
abbrev pub greatest_number : ℕ
greatest_number = 2 ^ 62

-- the numbers of the entries that write states
pub record IsNumber (number : ℕ) : Type 0 where
  pub least : 1 ≤ number
  pub most : number ≤ greatest_number

-- each extent stands at a multiple of its pages
abbrev pub AreAligned : List ℕ → Type 0
AreAligned heads = (i : ℕ) → i < length heads → slice_index heads i % pages_of_extent i ≡ 0

-- each is a mark
abbrev pub AreMarks : List (List ℕ) → Type 0
AreMarks marks = (i : ℕ) (mark : List ℕ) → slice_get marks i ≡ Some mark → IsMark mark

-- the heads of extents, and their marks
abbrev pub heads_of : List Extent → List ℕ
heads_of extents = map (λ extent. extent.head) extents

abbrev pub marks_of : List Extent → List (List ℕ)
marks_of extents = map (λ extent. extent.mark) extents

-- which states there are
pub record IsState (state : State) : Type 0 where
  pub size : state.size ≤ greatest_size
  pub born : IsNumber state.born
  pub digest : length state.digest ≡ 32
  pub prefix : IsPrefix state.size state.prefix
  pub extents : HasExtents state.size (length state.extents)
  pub heads : AreAligned (heads_of state.extents)
  pub marks : AreMarks (marks_of state.extents)
  pub tail : HasTail state.size state.tail

-- the first 32 bytes of a content, and zeros behind fewer
abbrev pub prefix_of : List ℕ → List ℕ
prefix_of content = take 32 content ++ replicate (32 - length content) 0

-- how many bytes of a content stand up to the end of the pages that it uses of extent i
abbrev pub bytes_through : ℕ → ℕ → ℕ
bytes_through size i = page_bytes * (held_by i + pages_used size i)

-- Mark i is the hash's state after all bytes of the content up to the end of the pages that it uses of extent i.
abbrev pub MarksTell : List (List ℕ) → List ℕ → Type 0
MarksTell marks content =
    (i : ℕ) (mark : List ℕ) → slice_get marks i ≡ Some mark
    → Leads initial_state (take (bytes_through (length content) i) content) mark

-- the state is one of this content: its size, its digest, its prefix and each mark are those of the content
pub record Tells (state : State) (content : List ℕ) : Type 0 where
  pub size : state.size ≡ length content
  pub digest : state.digest ≡ sha256 content
  pub prefix : state.prefix ≡ prefix_of content
  pub marks : MarksTell (marks_of state.extents) content

-- A state that has no place yet: what is kept of a content.
pub record Draft : Type 0 where
  pub size : ℕ
  pub digest : List ℕ
  pub prefix : List ℕ
  pub marks : List (List ℕ)

-- which drafts there are
pub record IsDraft (draft : Draft) : Type 0 where
  pub size : draft.size ≤ greatest_size
  pub digest : length draft.digest ≡ 32
  pub prefix : IsPrefix draft.size draft.prefix
  pub extents : HasExtents draft.size (length draft.marks)
  pub marks : AreMarks draft.marks

-- the draft is one of this content: its size, its digest, its prefix and each mark are those of the content
pub record IsDraftOf (draft : Draft) (content : List ℕ) : Type 0 where
  pub size : draft.size ≡ length content
  pub digest : draft.digest ≡ sha256 content
  pub prefix : draft.prefix ≡ prefix_of content
  pub marks : MarksTell draft.marks content

-- the state is this draft with its extents at these heads and its tail at this end, written by the entry of this number
pub record Places (draft : Draft) (at : List ℕ) (end : Option ℕ) (number : ℕ) (state : State) : Type 0 where
  pub size : state.size ≡ draft.size
  pub born : state.born ≡ number
  pub digest : state.digest ≡ draft.digest
  pub prefix : state.prefix ≡ draft.prefix
  pub heads : heads_of state.extents ≡ at
  pub marks : marks_of state.extents ≡ draft.marks
  pub tail : state.tail ≡ end
