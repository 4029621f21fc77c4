-- What was read of writes and of entries.
use Rattle.std.specs.Prelude.{ℕ, ◌≡◌, ◌+◌, ◌≤◌, List, ◌++◌, length, drop, IsTrue, false}
use Rattle.std.specs.List.{All, flat_map}
use Rattle.store_model.specs.BodyRefusals.{AreFirstEntries, AreFirstWrites, entry_front, keys_in, may_number, may_stand, stands_in}
use Rattle.store_model.specs.Frame as model
use Rattle.store_model.specs.State.{State}
use Rattle.store_model.specs.Tuple.{IsAtFront, spelling}
use Rattle.frame_codec.specs.declared.entry.Write.{Write}
use Rattle.frame_codec.specs.Values.{model_write}

-- The write is that of the state which stands behind this key, written by the entry of this number, and so many bytes are both.
pub record IsSetRead (pages number : ℕ) (bytes key : List ℕ) (one : Write) (long : ℕ) : Type 0 where
  pub state : State
  pub set : model_write one ≡ model.Set key state
  pub front : IsAtFront pages bytes key state
  pub born : state.born ≡ number
  pub long_is : long ≡ length (spelling key state)

-- The write stands at the front of the bytes, may stand behind these entries and these writes of the next one, of this number, and
-- has so many bytes.
pub record IsWriteRead (pages number : ℕ) (before : List model.Entry) (writes : List model.Write) (bytes : List ℕ) (one : model.Write) (long : ℕ) : Type 0 where
  pub write : model.IsWrite pages number one
  pub may : IsTrue (may_stand before writes (model.key_of_write one))
  pub stands : bytes ≡ model.write_spelling one ++ drop long bytes
  pub long_is : long ≡ length (model.write_spelling one)

-- Writes of the entry behind these, of this number, stand behind its front, and end at this offset.
pub record DoWritesEnd (pages : ℕ) (before : List model.Entry) (number : ℕ) (bytes : List ℕ) (writes : List model.Write) (at : ℕ) : Type 0 where
  pub are : AreFirstWrites pages before number writes
  pub stand : drop entry_front bytes ≡ flat_map model.write_spelling writes ++ drop at bytes
  pub at_is : at ≡ entry_front + length (flat_map model.write_spelling writes)
  pub within : at ≤ length bytes

-- The entry stands at the front of the bytes, may stand behind these, and has so many bytes.
pub record IsEntryRead (pages : ℕ) (before : List model.Entry) (bytes : List ℕ) (one : model.Entry) (long : ℕ) : Type 0 where
  pub is_entry : model.IsEntry pages one
  pub may : IsTrue (may_number before one.number)
  pub apart : All (λ write. stands_in (keys_in before) (model.key_of_write write) ≡ false) one.writes
  pub stands : bytes ≡ model.entry_spelling one ++ drop long bytes
  pub long_is : long ≡ length (model.entry_spelling one)

-- Entries stand behind the front of a body, and end at this offset.
pub record DoEntriesEnd (pages : ℕ) (bytes : List ℕ) (entries : List model.Entry) (at : ℕ) : Type 0 where
  pub are : AreFirstEntries pages entries
  pub stand : drop model.body_front bytes ≡ model.entries_spelling entries ++ drop at bytes
  pub at_is : at ≡ model.body_front + length (model.entries_spelling entries)
  pub within : at ≤ length bytes
