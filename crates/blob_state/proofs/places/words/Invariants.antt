use Rattle.std.proofs.Common.{◌≡◌, ◌*◌, length, take}
use Rattle.store_model.specs.Hash.{bytes_of_state}
use Rattle.blob_state.proofs.places.words.Given as goal

-- the words so far
abbrev pub invariant-words : goal.invariant-words
invariant-words l =
    record {
      eight : length l.words ≡ 8;
      spelled : bytes_of_state (take l.i l.words) ≡ take (4 * l.i) l.bytes;
    }
