-- The fields of a header, one by one.
use Rattle.std.specs.Prelude.{ℕ, ◌*◌, ◌==◌, nat_le, codes, bytes_eq}
use Rattle.std.specs.Int.{w32, w64}
use Rattle.store_model.specs.Disk.{page_bytes}
use Rattle.store_model.specs.Field.{Bytes, Field, Number}
use Rattle.store_model.specs.State.{greatest_number}
use Rattle.store_model.specs.TupleFields.{is_within}

-- the text, and the version
abbrev pub text_field : Field
text_field = record { at = 0; bytes = 8; rule = Bytes (λ text. bytes_eq text (codes "BLOBHALF")) }

abbrev pub version_field : Field
version_field = record { at = 8; bytes = 4; rule = Number w32 (λ version. version == 1) }

-- UNITS or ROOM, with the most that it may be
abbrev pub count_field : ℕ → ℕ → Field
count_field at most = record { at = at; bytes = 4; rule = Number w32 (is_within 1 most) }

-- the last number
abbrev pub last_field : Field
last_field = record { at = 20; bytes = 8; rule = Number w64 (λ last. nat_le last greatest_number) }

-- the length of the tuples, for which there is so much room
abbrev pub length_field : ℕ → Field
length_field room = record { at = 32; bytes = 4; rule = Number w32 (λ bytes. nat_le bytes (page_bytes * room)) }
