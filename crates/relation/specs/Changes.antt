-- States by their keys where writes have changed them.
use Rattle.std.specs.Prelude.{ℕ, ◌^◌, List, fold}
use Rattle.std.specs.FinMap.{FinMap, insert, remove}
use Rattle.frame_codec.specs.declared.entry.Entry.{Entry}
use Rattle.frame_codec.specs.declared.entry.Write.{Write}
use Rattle.frame_codec.specs.declared.entry.Write.TheVariants as write
use Rattle.store_model.specs.Key.{key_order}
use Rattle.store_model.specs.State.{State}

-- the states after one write
abbrev pub with_write : FinMap key_order State → Write → FinMap key_order State
with_write states (write.Set key state) = insert states key state.value
with_write states (write.Del key) = remove states key

-- the states after writes, after those of an entry, and after those of entries
abbrev pub with_writes : FinMap key_order State → List Write → FinMap key_order State
with_writes states writes = fold with_write states writes

abbrev pub with_entry : FinMap key_order State → Entry → FinMap key_order State
with_entry states entry = with_writes states entry.writes

abbrev pub with_entries : FinMap key_order State → List Entry → FinMap key_order State
with_entries states entries = fold with_entry states entries

-- how many bytes states take at most that an entry is made in
abbrev pub bytes_limit : ℕ
bytes_limit = 2 ^ 61
