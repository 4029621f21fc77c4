-- The fields before the entries of a body and before the writes of an entry, one by one.
use Rattle.std.specs.Prelude.{ℕ, ◌==◌, ◌&&◌, nat_le, nat_lt, List, codes, bytes_eq}
use Rattle.std.specs.Int.{w8, w32, w64}
use Rattle.store_model.specs.BodyRefusals.{may_number}
use Rattle.store_model.specs.Field.{Bytes, Field, Number}
use Rattle.store_model.specs.Frame.{Entry}
use Rattle.store_model.specs.State.{greatest_number}
use Rattle.store_model.specs.TupleFields.{is_within}

-- the text, the length of so many bytes, and how many entries there are
abbrev pub text_field : Field
text_field = record { at = 0; bytes = 8; rule = Bytes (λ text. bytes_eq text (codes "BLOBFRM1")) }

abbrev pub length_field : ℕ → Field
length_field long = record { at = 8; bytes = 4; rule = Number w32 (λ count. nat_le 13 count && count == long) }

abbrev pub entries_field : Field
entries_field = record { at = 12; bytes = 1; rule = Number w8 (is_within 1 16) }

-- the number of the entry behind these, the session, the number of its transaction there, and how many writes there are
abbrev pub number_field : List Entry → Field
number_field entries = record { at = 0; bytes = 8; rule = Number w64 (λ n. is_within 1 greatest_number n && may_number entries n) }

abbrev pub session_field : Field
session_field = record { at = 8; bytes = 1; rule = Number w8 (λ session. nat_lt session 16) }

abbrev pub nth_field : Field
nth_field = record { at = 9; bytes = 8; rule = Number w64 (λ nth. nat_le 1 nth) }

abbrev pub count_field : Field
count_field = record { at = 17; bytes = 1; rule = Number w8 (λ count. nat_le count 16) }

-- the byte that tells a write with a state, or one without
abbrev pub kind_field : Field
kind_field = record { at = 0; bytes = 1; rule = Number w8 (is_within 1 2) }
