-- What shows that the pages of a state hold its content: a chain of hash states, link by link.
use Rattle.std.specs.Prelude.{ℕ, ◌+◌, ◌*◌, ◌/◌, ◌%◌, ◌<◌, ◌≤◌, ◌-◌, ◌≡◌, ◌≢◌, nat_lt, List, [], length, take, drop, slice_index, slice_index_or, Option, Some, None, if◌then◌else◌}
use Rattle.std.specs.List.{flat_map, range_with_len}
use Rattle.store_model.specs.Disk.{Image, page_bytes}
use Rattle.store_model.specs.Hash.{bytes_of_state, close, initial_state, state_after}
use Rattle.store_model.specs.Holds.{rest_of}
use Rattle.store_model.specs.Shape.{held_by, pages_used}
use Rattle.store_model.specs.State.{State, heads_of, marks_of}

-- the bytes of the pages that a state uses of extent i, read from a data area that begins at page `first`
abbrev pub extent_bytes : Image → ℕ → State → ℕ → List ℕ
extent_bytes image first state i =
    flat_map (λ page. image (first + page)) (range_with_len (slice_index (heads_of state.extents) i) (pages_used state.size i))

-- the bytes of the content that the tail page has
abbrev pub tail_on : Image → ℕ → ℕ → Option ℕ → List ℕ
tail_on image first size None = []
tail_on image first size (Some page) = take (size % page_bytes) (image (first + page))

-- The mark of extent i.
abbrev pub mark_at : State → ℕ → List ℕ
mark_at state i = slice_index_or (marks_of state.extents) i []

-- the hash state that link i begins with: the initial one, or the mark of the extent before
abbrev pub link_from : State → ℕ → List ℕ
link_from state i = if nat_lt i 1 then initial_state else mark_at state (i - 1)

-- Links are numbered: one for each extent, which ends with its mark, and the last, which ends with the digest. What a
-- state keeps of a link, as 32 bytes.
abbrev pub kept : State → ℕ → List ℕ
kept state i = if nat_lt i (length state.extents) then bytes_of_state (mark_at state i) else state.digest

-- What a link gives where the extents have these bytes, and the tail these.
abbrev pub link_value : (ℕ → List ℕ) → List ℕ → State → ℕ → List ℕ
link_value extent tail state i =
    if nat_lt i (length state.extents) then bytes_of_state (state_after (link_from state i) (extent i))
    else close (link_from state i) (64 * (state.size / page_bytes)) tail

-- what the pages give for a link
abbrev pub computed : Image → ℕ → State → ℕ → List ℕ
computed image first state i = link_value (extent_bytes image first state) (tail_on image first state.size state.tail) state i

-- the bytes of a content that the pages have which a size uses of extent i
abbrev pub extent_part : List ℕ → ℕ → ℕ → List ℕ
extent_part content size i = take (page_bytes * pages_used size i) (drop (page_bytes * held_by i) content)

-- what a content gives for a link
abbrev pub given : List ℕ → State → ℕ → List ℕ
given content state i = link_value (extent_part content state.size) (rest_of content) state i

-- each link gives what the state keeps of it
abbrev pub LinksHold : (ℕ → List ℕ) → State → Type 0
LinksHold value state = (i : ℕ) → i ≤ length state.extents → value i ≡ kept state i

-- The first link that doesn't, with the value that the state keeps and the one that the link gives.
pub record FailsFirst (value : ℕ → List ℕ) (state : State) (link : ℕ) (want got : List ℕ) : Type 0 where
  pub exists : link ≤ length state.extents
  pub before : (i : ℕ) → i < link → value i ≡ kept state i
  pub want_is : want ≡ kept state link
  pub got_is : got ≡ value link
  pub differ : want ≢ got

-- each link holds over the pages
abbrev pub Verifies : Image → ℕ → State → Type 0
Verifies image first state = LinksHold (computed image first state) state

-- This content has the state's size, and each link holds over it.
pub record LeadsTo (content : List ℕ) (state : State) : Type 0 where
  pub size : length content ≡ state.size
  pub links : LinksHold (given content state) state

-- A content of the state's size over which this link is the first that fails.
pub record IsDamage (state : State) (link : ℕ) (want got : List ℕ) : Type 0 where
  pub content : List ℕ
  pub size : length content ≡ state.size
  pub fails : FailsFirst (given content state) state link want got
