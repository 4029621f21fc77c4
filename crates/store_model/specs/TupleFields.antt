-- The fields of a stored tuple, by their offsets, and what is no tuple.
use Rattle.std.specs.Prelude.{◌≡◌, ℕ, ◌+◌, ◌*◌, ◌%◌, ◌≤◌, ◌==◌, ◌&&◌, nat_le, nat_lt, Bool, true, List, [], ◌∷◌, ◌++◌, take, drop, slice_get, slice_index, Some, if◌then◌else◌}
use Rattle.std.specs.Int.{w8, w32, w64}
use Rattle.std.specs.List.{flat_map, list_all, range_with_len}
use Rattle.store_model.specs.Disk.{page_bytes}
use Rattle.store_model.specs.Field.{Field, KeyText, Number, Bytes, IsFirstBroken, told_four}
use Rattle.store_model.specs.Hash.{bytes_of_state}
use Rattle.store_model.specs.Shape.{greatest_size, pages_of_extent}
use Rattle.store_model.specs.State.{Extent, HasExtents, IsMark, greatest_number}
use Rattle.store_model.specs.Tuple.{stored_extent, stored_fields}

-- from least to most
abbrev pub is_within : ℕ → ℕ → ℕ → Bool
is_within least most n = nat_le least n && nat_le n most

-- whatever the bytes are
abbrev pub any_bytes : List ℕ → Bool
any_bytes bytes = true

-- zeros past the size
abbrev pub is_filled : ℕ → List ℕ → Bool
is_filled size prefix = list_all (λ byte. byte == 0) (drop size prefix)

-- a head of extent i: a multiple of its pages, which are among so many data pages
abbrev pub is_head : ℕ → ℕ → ℕ → Bool
is_head pages i head = head % pages_of_extent i == 0 && nat_le (head + pages_of_extent i) pages

-- The rules of the form that a tuple stands in: which keys it may have there, and the least and the greatest number.
pub record Rules : Type 0 where
  pub key : List ℕ → Bool
  pub least : ℕ
  pub most : ℕ

-- all keys, and all numbers of entries
abbrev pub any_tuple : Rules
any_tuple = record { key = λ key. true; least = 1; most = greatest_number }

-- the key's length, 3 to 64, and the key
abbrev pub key_fields : ℕ → List Field
key_fields key =
    record { at = 0; bytes = 1; rule = Number w8 (is_within 3 64) }
    ∷ record { at = 1; bytes = key; rule = KeyText }
    ∷ []

-- These, and then both once more, where the form's rule of keys is judged: what breaks it is named by the key's length.
abbrev pub ruled_key_fields : (List ℕ → Bool) → ℕ → List Field
ruled_key_fields may_stand key = key_fields key ++ record { at = 0; bytes = 1 + key; rule = Bytes (λ bytes. may_stand (drop 1 bytes)) } ∷ []

-- the size, the number of the entry from least to most, the digest and the prefix of a content of this size
abbrev pub content_fields : ℕ → ℕ → ℕ → ℕ → List Field
content_fields least most at size =
    record { at = at; bytes = 4; rule = Number w32 (λ n. nat_le n greatest_size) }
    ∷ record { at = at + 4; bytes = 8; rule = Number w64 (is_within least most) }
    ∷ record { at = at + 12; bytes = 32; rule = Bytes any_bytes }
    ∷ record { at = at + 44; bytes = 32; rule = Bytes (is_filled size) }
    ∷ []

-- the head and the mark of extent i; the extents begin at `at`
abbrev pub extent_fields : ℕ → ℕ → ℕ → List Field
extent_fields pages at i =
    record { at = at + stored_extent * i; bytes = 4; rule = Number w32 (is_head pages i) }
    ∷ record { at = at + (stored_extent * i + 4); bytes = 32; rule = Bytes any_bytes }
    ∷ []

-- the tail, where the size has one
abbrev pub tail_fields : ℕ → ℕ → ℕ → List Field
tail_fields pages at size =
    if size % page_bytes == 0 then []
    else record { at = at; bytes = 4; rule = Number w32 (λ page. nat_lt page pages) } ∷ []

-- so many extents, and the tail
abbrev pub places_fields : ℕ → ℕ → ℕ → ℕ → List Field
places_fields pages at size extents =
    flat_map (extent_fields pages at) (range_with_len 0 extents)
    ++ tail_fields pages (at + stored_extent * extents) size

-- the length that is told of the key
abbrev pub told_key : List ℕ → ℕ
told_key stored = slice_index stored 0

-- where the fields behind the key begin
abbrev pub fields_at : List ℕ → ℕ
fields_at stored = 1 + told_key stored

-- the size that is told
abbrev pub told_size : List ℕ → ℕ
told_size stored = told_four stored (fields_at stored)

-- The fields of a state with so many extents behind its key, and of the whole tuple, whose key's length and size are those that
-- these bytes tell.
abbrev pub state_fields : ℕ → ℕ → ℕ → List ℕ → ℕ → List Field
state_fields least most pages stored extents =
    content_fields least most (fields_at stored) (told_size stored)
    ++ places_fields pages (fields_at stored + stored_fields) (told_size stored) extents

abbrev pub tuple_fields : Rules → ℕ → List ℕ → ℕ → List Field
tuple_fields rules pages stored extents =
    ruled_key_fields rules.key (told_key stored) ++ state_fields rules.least rules.most pages stored extents

-- the extent that the bytes at an offset tell
pub record IsExtentTold (stored : List ℕ) (at : ℕ) (extent : Extent) : Type 0 where
  pub head : extent.head ≡ told_four stored at
  pub mark : bytes_of_state extent.mark ≡ take 32 (drop (at + 4) stored)
  pub sound : IsMark extent.mark

-- the extents that the bytes from an offset on tell, one behind the other
abbrev pub AreExtentsTold : List ℕ → ℕ → List Extent → Type 0
AreExtentsTold stored at extents =
    (i : ℕ) (extent : Extent) → slice_get extents i ≡ Some extent → IsExtentTold stored (at + stored_extent * i) extent

-- The first field of a state behind its key that is cut short or breaks its rule is named by this offset. There are as many extents
-- as the size has, where it is one.
pub record IsBadState (least most pages : ℕ) (stored : List ℕ) (at : ℕ) : Type 0 where
  pub extents : ℕ
  pub counted : told_size stored ≤ greatest_size → HasExtents (told_size stored) extents
  pub first : IsFirstBroken stored (state_fields least most pages stored extents) at

-- The same of the fields of a whole tuple.
pub record IsBadTuple (rules : Rules) (pages : ℕ) (stored : List ℕ) (at : ℕ) : Type 0 where
  pub extents : ℕ
  pub counted : told_size stored ≤ greatest_size → HasExtents (told_size stored) extents
  pub first : IsFirstBroken stored (tuple_fields rules pages stored extents) at
