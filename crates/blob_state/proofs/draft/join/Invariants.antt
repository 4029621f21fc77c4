use Rattle.std.proofs.Common.{◌≡◌, take, length}
use Rattle.store_model.specs.State.{heads_of, marks_of}
use Rattle.blob_state.specs.Values.{extents_of, words_of}
use Rattle.blob_state.proofs.draft.join.Given as goal

-- the extents so far
abbrev pub invariant-loop-i : goal.invariant-loop-i
invariant-loop-i l =
    record {
      number : length l.extents.items ≡ l.i;
      heads : heads_of (extents_of l.extents.items) ≡ take l.i l.heads;
      marks : marks_of (extents_of l.extents.items) ≡ words_of (take l.i l.marks);
    }
