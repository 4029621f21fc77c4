-- The fields of a half, by their offsets, and what a half is refused for.
use Rattle.std.specs.Prelude.{ℕ, ◌*◌, ◌==◌, nat_le, List, [], ◌∷◌, take, drop, codes, bytes_eq}
use Rattle.std.specs.Int.{w32, w64, from_be_bytes}
use Rattle.store_model.specs.Disk.{page_bytes}
use Rattle.store_model.specs.Field.{Field, Number, Bytes, told_four}
use Rattle.store_model.specs.Layout.{Layout}
use Rattle.store_model.specs.State.{greatest_number}
use Rattle.store_model.specs.TupleFields.{is_within}

-- the text, the version 1, UNITS and ROOM
abbrev pub first_fields : List Field
first_fields =
    record { at = 0; bytes = 8; rule = Bytes (λ text. bytes_eq text (codes "BLOBHALF")) }
    ∷ record { at = 8; bytes = 4; rule = Number w32 (λ version. version == 1) }
    ∷ record { at = 12; bytes = 4; rule = Number w32 (is_within 1 16384) }
    ∷ record { at = 16; bytes = 4; rule = Number w32 (is_within 1 1024) }
    ∷ []

-- the layout that a header tells
abbrev pub told_layout : List ℕ → Layout
told_layout header = record { units = told_four header 12; room = told_four header 16 }

-- the last number, how many states there are, and how many bytes their tuples take, as a header tells them
abbrev pub told_last : List ℕ → ℕ
told_last header = from_be_bytes w64 (take 8 (drop 20 header))

abbrev pub told_count : List ℕ → ℕ
told_count header = told_four header 28

abbrev pub told_length : List ℕ → ℕ
told_length header = told_four header 32

-- the last number, and the length, which has the room that the header tells
abbrev pub other_fields : List ℕ → List Field
other_fields header =
    record { at = 20; bytes = 8; rule = Number w64 (λ last. nat_le last greatest_number) }
    ∷ record { at = 32; bytes = 4; rule = Number w32 (λ bytes. nat_le bytes (page_bytes * told_four header 16)) }
    ∷ []
