use Rattle.std.proofs.Common.{◌≡◌, length}
use Rattle.frame_codec.specs.Reading.{DoEntriesEnd}
use Rattle.frame_codec.specs.Values.{model_entries}
use Rattle.frame_codec.proofs.decode.read_entries.Given as goal

-- the entries so far
abbrev pub invariant-read : goal.invariant-read
invariant-read l =
    record {
      count : length l.entries ≡ l.i;
      end : DoEntriesEnd l.pages l.bytes (model_entries l.entries) l.at;
    }
