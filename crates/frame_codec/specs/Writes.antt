-- Writes of an entry.
use Rattle.std.specs.Prelude.{ℕ, ◌≤◌, List, length, map}
use Rattle.frame_codec.specs.declared.entry.Write.{Write}
use Rattle.frame_codec.specs.declared.entry.Write.TheVariants as write
use Rattle.blob_base.specs.Sorted.{are_sorted}

-- how many writes an entry has at most
abbrev pub most_writes : ℕ
most_writes = 16

-- the key of a write
abbrev pub key_of_write : Write → List ℕ
key_of_write (write.Set key state) = key
key_of_write (write.Del key) = key

-- the keys of writes strictly rise
abbrev pub do_rise : List Write → Type 0
do_rise writes = are_sorted (map (λ one. (key_of_write one, one)) writes)

-- which lists are the writes of an entry
pub record AreWrites (writes : List Write) : Type 0 where
  pub few : length writes ≤ most_writes
  pub rise : do_rise writes
