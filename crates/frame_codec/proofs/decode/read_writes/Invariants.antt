use Rattle.std.proofs.Common.{◌≡◌, length, map}
use Rattle.frame_codec.specs.Reading.{DoWritesEnd}
use Rattle.frame_codec.specs.Values.{model_entries, model_write}
use Rattle.frame_codec.proofs.decode.read_writes.Given as goal

-- the writes so far
abbrev pub invariant-read : goal.invariant-read
invariant-read l =
    record {
      count : length l.writes ≡ l.i;
      end : DoWritesEnd l.pages (model_entries l.before) l.number l.bytes (map model_write l.writes) l.at;
    }
