use Rattle.std.proofs.Common.{◌≡◌, ◌*◌, ◌≤◌, length, map, take}
use Rattle.std.specs.List.{flat_map}
use Rattle.store_model.specs.Frame.{entry_spelling}
use Rattle.frame_codec.specs.Values.{model_entry}
use Rattle.frame_codec.proofs.encode.entries_bytes.Given as goal

-- the entries so far
abbrev pub invariant-counted : goal.invariant-counted
invariant-counted l =
    record {
      value : l.count ≡ length (flat_map entry_spelling (map model_entry (take l.i l.entries)));
      most : l.count ≤ 75506 * l.i;
    }
