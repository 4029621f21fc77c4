-- What is known of entries by the types of their parts.
use Rattle.std.specs.Prelude.{◌^◌, ◌<◌, IsTrue}
use Rattle.std.specs.List.{All}
use Rattle.frame_codec.specs.Values.{model_write}
use Rattle.frame_codec.specs.declared.entry.Entry.{Entry}
use Rattle.frame_codec.specs.declared.entry.Write.{Write}
use Rattle.store_model.specs.Frame.{key_of_write}
use Rattle.store_model.specs.Key.{is_key}

-- a write is of a key
abbrev pub IsOfKey : Write → Type 0
IsOfKey one = IsTrue (is_key (key_of_write (model_write one)))

-- an entry's transaction has a number of eight bytes, and its writes are of keys
pub record IsKnown (entry : Entry) : Type 0 where
  pub nth : entry.nth < 2 ^ 64
  pub keys : All IsOfKey entry.writes
