use Rattle.std.proofs.Common.{◌≡◌, ◌*◌, take}
use Rattle.std.specs.List.{flat_map}
use Rattle.store_model.specs.Tuple.{extent_spelling}
use Rattle.blob_state.specs.Values.{extents_of}
use Rattle.blob_state.proofs.tuple.write_extents.Given as goal

-- the extents so far
abbrev pub invariant-written : goal.invariant-written
invariant-written l = take (36 * l.i) l.out ≡ flat_map extent_spelling (extents_of (take l.i l.extents))
