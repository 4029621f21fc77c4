-- The keys that entries write.
use Rattle.std.specs.Prelude.{ℕ, List, map}
use Rattle.std.specs.List.{flat_map}
use Rattle.frame_codec.specs.Writes.{key_of_write}
use Rattle.frame_codec.specs.declared.entry.Entry.{Entry}
use Rattle.frame_codec.specs.declared.entry.Write.{Write}

-- the keys of writes
abbrev pub write_keys : List Write → List (List ℕ)
write_keys writes = map key_of_write writes

-- the keys of the writes of entries
abbrev pub entry_keys : List Entry → List (List ℕ)
entry_keys entries = flat_map (λ entry. write_keys entry.writes) entries
