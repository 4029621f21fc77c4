use Rattle.std.proofs.Common.{◌≡◌, ◌++◌, map, take}
use Rattle.std.specs.List.{flat_map}
use Rattle.store_model.specs.Frame.{write_spelling}
use Rattle.frame_codec.specs.Values.{model_write}
use Rattle.frame_codec.proofs.Fronts.{with_front}
use Rattle.frame_codec.proofs.encode.append_entry.Given as goal

-- the writes so far
abbrev pub invariant-written : goal.invariant-written
invariant-written l = l.out ≡ with_front l.fn.out l.entry ++ flat_map write_spelling (map model_write (take l.i l.writes))
