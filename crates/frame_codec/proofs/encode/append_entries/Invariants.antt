use Rattle.std.proofs.Common.{◌≡◌, ◌++◌, map, take}
use Rattle.std.specs.List.{flat_map}
use Rattle.store_model.specs.Frame.{entry_spelling}
use Rattle.frame_codec.specs.Values.{model_entry}
use Rattle.frame_codec.proofs.encode.append_entries.Given as goal

-- the entries so far
abbrev pub invariant-written : goal.invariant-written
invariant-written l = l.out ≡ l.fn.out ++ flat_map entry_spelling (map model_entry (take l.i l.entries))
