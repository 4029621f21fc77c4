use Rattle.std.proofs.Common.{◌≡◌, ◌++◌, take}
use Rattle.store_model.specs.State.{heads_of}
use Rattle.blob_state.specs.Values.{extents_of}
use Rattle.store_model.specs.Space.{extent_blocks}
use Rattle.blob_state.proofs.state.add_extents.Given as goal

abbrev pub invariant-added : goal.invariant-added
invariant-added l = l.owned ≡ l.fn.owned ++ extent_blocks (take l.i (heads_of (extents_of l.fn.extents)))
