use Rattle.std.proofs.Common.{◌≡◌, ◌+◌, ◌*◌, ◌≤◌, length, map, take}
use Rattle.std.specs.List.{flat_map}
use Rattle.store_model.specs.Frame.{write_spelling}
use Rattle.frame_codec.specs.Values.{model_write}
use Rattle.frame_codec.proofs.encode.entry_bytes.Given as goal

-- the writes so far
abbrev pub invariant-counted : goal.invariant-counted
invariant-counted l =
    record {
      value : l.count ≡ 18 + length (flat_map write_spelling (map model_write (take l.i l.writes)));
      most : l.count ≤ 18 + 4718 * l.i;
    }
