-- The stored form of a key with its object's state. Number fields have their high byte first.
use Rattle.std.specs.Prelude.{ℕ, ◌+◌, ◌<◌, ◌≤◌, IsTrue, List, [], ◌∷◌, ◌++◌, length, slice_get, Option, Some, None, IfSome, ◌≡◌}
use Rattle.std.specs.Int.{w32, w64, to_be_bytes}
use Rattle.std.specs.List.{flat_map}
use Rattle.store_model.specs.Hash.{bytes_of_state}
use Rattle.store_model.specs.Key.{is_key}
use Rattle.store_model.specs.Shape.{pages_of_extent}
use Rattle.store_model.specs.State.{Extent, State, IsState}

-- How many bytes of a stored state stand before its extents: its size, its number, its digest and its prefix.
abbrev pub stored_fields : ℕ
stored_fields = 76

-- how many an extent takes: its head and its mark
abbrev pub stored_extent : ℕ
stored_extent = 36

-- how many a tail takes, where there is one
abbrev pub stored_tail : Option ℕ → ℕ
stored_tail None = 0
stored_tail (Some page) = 4

-- how many a key and its state take at most: with a key of 64 characters, 127 extents and a tail
abbrev pub greatest_tuple : ℕ
greatest_tuple = 4717

-- a length of one byte, and the key
abbrev pub key_spelling : List ℕ → List ℕ
key_spelling key = length key ∷ key

-- a head of four bytes, and the mark's eight words
abbrev pub extent_spelling : Extent → List ℕ
extent_spelling extent = to_be_bytes w32 extent.head ++ bytes_of_state extent.mark

-- four bytes where there is a tail, and nothing where there is none
abbrev pub tail_spelling : Option ℕ → List ℕ
tail_spelling None = []
tail_spelling (Some page) = to_be_bytes w32 page

-- the size in four bytes, the number in eight, the digest and the prefix
abbrev pub fields_spelling : State → List ℕ
fields_spelling state = to_be_bytes w32 state.size ++ to_be_bytes w64 state.born ++ state.digest ++ state.prefix

-- each extent in turn, and the tail
abbrev pub places_spelling : List Extent → Option ℕ → List ℕ
places_spelling extents tail = flat_map extent_spelling extents ++ tail_spelling tail

-- a state without a key
abbrev pub state_spelling : State → List ℕ
state_spelling state = fields_spelling state ++ places_spelling state.extents state.tail

-- The key, and the state. How many extents there are, and whether there is a tail, follows from the size.
abbrev pub spelling : List ℕ → State → List ℕ
spelling key state = key_spelling key ++ state_spelling state

-- a key and a state whose pages are among so many data pages
pub record IsTuple (pages : ℕ) (key : List ℕ) (state : State) : Type 0 where
  pub named : IsTrue (is_key key)
  pub stands : IsState state
  pub extents : (i : ℕ) (extent : Extent) → slice_get state.extents i ≡ Some extent → extent.head + pages_of_extent i ≤ pages
  pub tail : IfSome state.tail (λ page. page < pages)

-- the key stands at the front of these bytes, behind its length; anything may follow it
pub record IsKeyAtFront (stored key : List ℕ) : Type 0 where
  pub named : IsTrue (is_key key)
  pub rest : List ℕ
  pub stored_is : stored ≡ key_spelling key ++ rest

-- the tuple stands at the front of these bytes; anything may follow it
pub record IsAtFront (pages : ℕ) (stored key : List ℕ) (state : State) : Type 0 where
  pub tuple : IsTuple pages key state
  pub rest : List ℕ
  pub stored_is : stored ≡ spelling key state ++ rest
