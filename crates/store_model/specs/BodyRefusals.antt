-- What is no body: its first field that is cut short or breaks its rule.
use Rattle.std.specs.Prelude.{◌≡◌, ◌==◌, ◌&&◌, ℕ, ◌+◌, ◌<◌, ◌⊎◌, nat_le, nat_lt, not, Bool, true, false, List, [], ◌∷◌, ◌++◌, length, map, take, drop, codes, bytes_eq, slice_index}
use Rattle.std.specs.Int.{w8, w32, w64, from_be_bytes}
use Rattle.std.specs.List.{All, flat_map, list_any}
use Rattle.std.specs.Ordering.{is_lt}
use Rattle.store_model.specs.Field.{Field, Number, Bytes, AreGood, IsFirstBroken}
use Rattle.store_model.specs.Frame.{AreKeysApart, DoKeysRise, DoNumbersGoOn, Entry, IsEntry, IsWrite, Write, body_front, entries_spelling, key_of_write, write_spelling}
use Rattle.store_model.specs.Key.{key_order}
use Rattle.store_model.specs.State.{greatest_number}
use Rattle.store_model.specs.TupleFields.{IsBadTuple, Rules, is_within, ruled_key_fields, told_key}

-- the text, the length, 13 or more, which is that of all these bytes, and how many entries there are
abbrev pub front_fields : List ℕ → List Field
front_fields stored =
    record { at = 0; bytes = 8; rule = Bytes (λ text. bytes_eq text (codes "BLOBFRM1")) }
    ∷ record { at = 8; bytes = 4; rule = Number w32 (λ count. nat_le 13 count && count == length stored) }
    ∷ record { at = 12; bytes = 1; rule = Number w8 (is_within 1 16) }
    ∷ []

-- how many entries these bytes tell
abbrev pub told_entries : List ℕ → ℕ
told_entries stored = slice_index stored 12

-- whether an entry of this number may follow these
abbrev pub may_number : List Entry → ℕ → Bool
may_number [] number = true
may_number (one ∷ []) number = number == one.number + 1
may_number (one ∷ other ∷ entries) number = may_number (other ∷ entries) number

-- the number, the session, the number of its transaction there, and how many writes there are, of the entry behind these
abbrev pub entry_fields : List Entry → List Field
entry_fields entries =
    record { at = 0; bytes = 8; rule = Number w64 (λ n. is_within 1 greatest_number n && may_number entries n) }
    ∷ record { at = 8; bytes = 1; rule = Number w8 (λ session. nat_lt session 16) }
    ∷ record { at = 9; bytes = 8; rule = Number w64 (λ nth. nat_le 1 nth) }
    ∷ record { at = 17; bytes = 1; rule = Number w8 (λ count. nat_le count 16) }
    ∷ []

-- how many bytes of an entry stand before its writes
abbrev pub entry_front : ℕ
entry_front = 18

-- the number that an entry's front tells, and how many writes
abbrev pub told_number : List ℕ → ℕ
told_number stored = from_be_bytes w64 (take 8 stored)

abbrev pub told_writes : List ℕ → ℕ
told_writes stored = slice_index stored 17

-- whether a key stands among others
abbrev pub stands_in : List (List ℕ) → List ℕ → Bool
stands_in keys key = list_any (λ other. bytes_eq key other) keys

-- the keys of entries
abbrev pub keys_in : List Entry → List (List ℕ)
keys_in entries = flat_map (λ entry. map key_of_write entry.writes) entries

-- whether a key may stand behind those of these writes
abbrev pub may_rise : List Write → List ℕ → Bool
may_rise [] key = true
may_rise (one ∷ []) key = is_lt (key_order (key_of_write one) key)
may_rise (one ∷ other ∷ writes) key = may_rise (other ∷ writes) key

-- whether a key may stand behind these entries and these writes of the next one
abbrev pub may_stand : List Entry → List Write → List ℕ → Bool
may_stand entries writes key = may_rise writes key && not (stands_in (keys_in entries) key)

-- the rules of the tuple behind these entries and these writes of the next one, of this number
abbrev pub write_rules : List Entry → List Write → ℕ → Rules
write_rules entries writes number = record { key = may_stand entries writes; least = number; most = number }

-- the byte that tells a write with a state, or one without
abbrev pub kind_fields : List Field
kind_fields = record { at = 0; bytes = 1; rule = Number w8 (is_within 1 2) } ∷ []

abbrev pub told_kind : List ℕ → ℕ
told_kind stored = slice_index stored 0

-- A write at the front of these bytes is refused under these rules, and this offset names it.
abbrev pub IsBadWrite : Rules → ℕ → List ℕ → ℕ → Type 0
IsBadWrite rules pages stored at =
    IsFirstBroken stored kind_fields at
    ⊎ ((told_kind stored ≡ 1) × ((place : ℕ) × IsBadTuple rules pages (drop 1 stored) place × (at ≡ 1 + place)))
    ⊎ ((told_kind stored ≡ 2) × ((place : ℕ) × IsFirstBroken (drop 1 stored) (ruled_key_fields rules.key (told_key (drop 1 stored))) place × (at ≡ 1 + place)))

-- These entries may stand at the front of a frame.
pub record AreFirstEntries (pages : ℕ) (entries : List Entry) : Type 0 where
  pub each : All (IsEntry pages) entries
  pub numbers : DoNumbersGoOn entries
  pub apart : AreKeysApart entries

-- These writes may stand at the front of the entry of this number behind these entries: none of those has a key of theirs.
pub record AreFirstWrites (pages : ℕ) (entries : List Entry) (number : ℕ) (writes : List Write) : Type 0 where
  pub each : All (IsWrite pages number) writes
  pub rise : DoKeysRise writes
  pub apart : All (λ one. stands_in (keys_in entries) (key_of_write one) ≡ false) writes

-- A write of the entry at the front of these bytes is refused, behind those that are good.
pub record IsRefusedWrite (pages : ℕ) (entries : List Entry) (stored : List ℕ) (at : ℕ) : Type 0 where
  pub writes : List Write
  pub are : AreFirstWrites pages entries (told_number stored) writes
  pub rest : List ℕ
  pub stored_is : drop entry_front stored ≡ flat_map write_spelling writes ++ rest
  pub few : length writes < told_writes stored
  pub place : ℕ
  pub bad : IsBadWrite (write_rules entries writes (told_number stored)) pages rest place
  pub at_is : at ≡ entry_front + length (flat_map write_spelling writes) + place

-- The entry at the front of these bytes is refused, behind these.
abbrev pub IsBadEntry : ℕ → List Entry → List ℕ → ℕ → Type 0
IsBadEntry pages entries stored at =
    IsFirstBroken stored (entry_fields entries) at
    ⊎ (AreGood stored (entry_fields entries) × IsRefusedWrite pages entries stored at)

-- An entry of a body is refused, behind those that are good.
pub record IsRefusedEntry (pages : ℕ) (stored : List ℕ) (at : ℕ) : Type 0 where
  pub entries : List Entry
  pub are : AreFirstEntries pages entries
  pub rest : List ℕ
  pub stored_is : drop body_front stored ≡ entries_spelling entries ++ rest
  pub few : length entries < told_entries stored
  pub place : ℕ
  pub bad : IsBadEntry pages entries rest place
  pub at_is : at ≡ body_front + length (entries_spelling entries) + place

-- Bytes stand behind as many entries as the body tells.
pub record HasMoreBytes (pages : ℕ) (stored : List ℕ) (at : ℕ) : Type 0 where
  pub entries : List Entry
  pub are : AreFirstEntries pages entries
  pub rest : List ℕ
  pub stored_is : drop body_front stored ≡ entries_spelling entries ++ rest
  pub all : length entries ≡ told_entries stored
  pub more : 0 < length rest
  pub at_is : at ≡ body_front + length (entries_spelling entries)

-- The first field of a body that is cut short or breaks its rule is named by this offset: one of its front, one of the entry behind
-- those that are good, or the first byte behind the last entry.
abbrev pub IsBadBody : ℕ → List ℕ → ℕ → Type 0
IsBadBody pages stored at =
    IsFirstBroken stored (front_fields stored) at
    ⊎ (AreGood stored (front_fields stored) × (IsRefusedEntry pages stored at ⊎ HasMoreBytes pages stored at))
