-- The fields of a stored tuple, one by one.
use Rattle.std.specs.Prelude.{ℕ, nat_le, nat_lt}
use Rattle.std.specs.Int.{w8, w32, w64}
use Rattle.store_model.specs.Field.{Bytes, Field, KeyText, Number}
use Rattle.store_model.specs.Shape.{greatest_size}
use Rattle.store_model.specs.TupleFields.{any_bytes, is_filled, is_head, is_within}

-- the key's length, and the key
abbrev pub length_field : Field
length_field = record { at = 0; bytes = 1; rule = Number w8 (is_within 3 64) }

abbrev pub key_field : ℕ → Field
key_field length = record { at = 1; bytes = length; rule = KeyText }

-- the size, and the number of the entry from least to most
abbrev pub size_field : ℕ → Field
size_field at = record { at = at; bytes = 4; rule = Number w32 (λ n. nat_le n greatest_size) }

abbrev pub born_field : ℕ → ℕ → ℕ → Field
born_field least most at = record { at = at; bytes = 8; rule = Number w64 (is_within least most) }

-- 32 bytes, whatever they are
abbrev pub any_field : ℕ → Field
any_field at = record { at = at; bytes = 32; rule = Bytes any_bytes }

-- the prefix of a content of some size
abbrev pub prefix_field : ℕ → ℕ → Field
prefix_field at size = record { at = at; bytes = 32; rule = Bytes (is_filled size) }

-- the head of extent i
abbrev pub head_field : ℕ → ℕ → ℕ → Field
head_field pages at i = record { at = at; bytes = 4; rule = Number w32 (is_head pages i) }

-- the page of a tail
abbrev pub page_field : ℕ → ℕ → Field
page_field pages at = record { at = at; bytes = 4; rule = Number w32 (λ page. nat_lt page pages) }
