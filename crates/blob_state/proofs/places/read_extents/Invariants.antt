use Rattle.std.proofs.Common.{◌≡◌, ◌+◌, ◌*◌, ◌≤◌, length}
use Rattle.std.specs.List.{flat_map, range_with_len}
use Rattle.store_model.specs.Field.{AreGood}
use Rattle.store_model.specs.TupleFields.{AreExtentsTold, extent_fields}
use Rattle.blob_state.specs.Values.{extents_of}
use Rattle.blob_state.proofs.places.read_extents.Given as goal

-- the extents so far
abbrev pub invariant-read : goal.invariant-read
invariant-read l =
    record {
      number : length l.extents.items ≡ l.i;
      within : l.at + 36 * l.i ≤ length l.bytes;
      told : AreExtentsTold l.bytes l.at (extents_of l.extents.items);
      good : AreGood l.bytes (flat_map (extent_fields l.pages l.at) (range_with_len 0 l.i));
    }
