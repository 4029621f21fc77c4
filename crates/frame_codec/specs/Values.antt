-- Entries, in the words of the definitions.
use Rattle.std.specs.Prelude.{ℕ, Bool, List, map, bytes_eq}
use Rattle.std.specs.List.{list_any}
use Rattle.frame_codec.specs.declared.entry.Entry.{Entry}
use Rattle.frame_codec.specs.declared.entry.Write.{Write}
use Rattle.frame_codec.specs.declared.entry.Write.TheVariants as write
use Rattle.frame_codec.specs.Writes.{key_of_write}
use Rattle.store_model.specs.Frame as model

-- what an entry writes under a key
abbrev pub model_write : Write → model.Write
model_write (write.Set key state) = model.Set key state.value
model_write (write.Del key) = model.Del key

-- whether one of these writes has a key
abbrev pub has_key : List ℕ → List Write → Bool
has_key key writes = list_any (λ one. bytes_eq key (key_of_write one)) writes

-- an entry
abbrev pub model_entry : Entry → model.Entry
model_entry entry = record { number = entry.number; session = entry.session; nth = entry.nth; writes = map model_write entry.writes }

-- entries, in their order
abbrev pub model_entries : List Entry → List model.Entry
model_entries entries = map model_entry entries
