-- The log's entries, and the stored form of a body: the entries that are written together. Number fields have their high byte
-- first.
use Rattle.std.specs.Prelude.{ℕ, ◌≡◌, ◌+◌, ◌^◌, ◌<◌, ◌≤◌, IsTrue, List, ◌∷◌, ◌++◌, length, map, codes, slice_get, Some, Contains}
use Rattle.std.specs.Int.{w32, w64, to_be_bytes}
use Rattle.std.specs.List.{All, flat_map}
use Rattle.std.specs.declared.cmp.Ordering.TheVariants.{Less}
use Rattle.store_model.specs.Key.{is_key, key_order}
use Rattle.store_model.specs.State.{IsNumber, State}
use Rattle.store_model.specs.Tuple.{IsTuple, key_spelling, spelling}

-- what an entry writes under a key: this state, or that there is none
pub data Write : Type 0 where
  Set : List ℕ → State → Write
  Del : List ℕ → Write

-- An entry: its number, its session, the number of its transaction among those that the session began, and what it writes.
pub record Entry : Type 0 where
  pub number : ℕ
  pub session : ℕ
  pub nth : ℕ
  pub writes : List Write

-- the byte 1 and the key with its state, or the byte 2 and the key
abbrev pub write_spelling : Write → List ℕ
write_spelling (Set key state) = 1 ∷ spelling key state
write_spelling (Del key) = 2 ∷ key_spelling key

-- the number in eight bytes, the session in one, the transaction's number in eight, how many writes there are in one, and these
abbrev pub entry_spelling : Entry → List ℕ
entry_spelling entry =
    to_be_bytes w64 entry.number ++ entry.session ∷ (to_be_bytes w64 entry.nth ++ length entry.writes ∷ flat_map write_spelling entry.writes)

abbrev pub entries_spelling : List Entry → List ℕ
entries_spelling entries = flat_map entry_spelling entries

-- how many bytes stand before the entries: the text, the length and the count
abbrev pub body_front : ℕ
body_front = 13

-- how many bytes a body has
abbrev pub body_bytes : List Entry → ℕ
body_bytes entries = body_front + length (entries_spelling entries)

-- The text, the length of the whole body in four bytes, how many entries there are in one, and these.
abbrev pub body_spelling : List Entry → List ℕ
body_spelling entries = codes "BLOBFRM1" ++ (to_be_bytes w32 (body_bytes entries) ++ length entries ∷ entries_spelling entries)

-- the key of a write
abbrev pub key_of_write : Write → List ℕ
key_of_write (Set key state) = key
key_of_write (Del key) = key

-- A write of the entry of this number: a key with a state that the entry wrote, among so many data pages, or a key.
abbrev pub IsWrite : ℕ → ℕ → Write → Type 0
IsWrite pages number (Set key state) = IsTuple pages key state × (state.born ≡ number)
IsWrite pages number (Del key) = IsTrue (is_key key)

-- each key is greater than the one before
abbrev pub DoKeysRise : List Write → Type 0
DoKeysRise writes =
    (i : ℕ) (one other : Write) → slice_get writes i ≡ Some one → slice_get writes (i + 1) ≡ Some other → key_order (key_of_write one) (key_of_write other) ≡ Less

-- which entries there are
pub record IsEntry (pages : ℕ) (entry : Entry) : Type 0 where
  pub number : IsNumber entry.number
  pub session : entry.session < 16
  pub begun : 1 ≤ entry.nth
  pub counted : entry.nth < 2 ^ 64
  pub few : length entry.writes ≤ 16
  pub rise : DoKeysRise entry.writes
  pub writes : All (IsWrite pages entry.number) entry.writes

-- each number is one more than the one before
abbrev pub DoNumbersGoOn : List Entry → Type 0
DoNumbersGoOn entries = (i : ℕ) (one other : Entry) → slice_get entries i ≡ Some one → slice_get entries (i + 1) ≡ Some other → other.number ≡ one.number + 1

-- no key stands in two of the entries
abbrev pub AreKeysApart : List Entry → Type 0
AreKeysApart entries =
    (i j : ℕ) (one other : Entry) (key : List ℕ) → i < j → slice_get entries i ≡ Some one → slice_get entries j ≡ Some other
    → Contains (map key_of_write one.writes) key → Contains (map key_of_write other.writes) key → ⊥

-- which entries are written together
pub record IsFrame (pages : ℕ) (entries : List Entry) : Type 0 where
  pub some : 1 ≤ length entries
  pub few : length entries ≤ 16
  pub each : All (IsEntry pages) entries
  pub numbers : DoNumbersGoOn entries
  pub apart : AreKeysApart entries

-- These bytes are the body of these entries, in a store of so many data pages
pub record Spells (pages : ℕ) (bytes : List ℕ) (entries : List Entry) : Type 0 where
  pub frame : IsFrame pages entries
  pub bytes_are : bytes ≡ body_spelling entries
