use Rattle.std.proofs.Common.{◌≡◌, take, length}
use Rattle.store_model.specs.State.{heads_of}
use Rattle.blob_state.specs.Values.{extents_of}
use Rattle.group_plan.proofs.placing.heads_of.Given as goal

abbrev pub invariant-copied : goal.invariant-copied
invariant-copied l = record {
  heads : l.heads.items ≡ heads_of (extents_of (take l.i l.fn.extents));
  count : length l.heads.items ≡ l.i;
}
