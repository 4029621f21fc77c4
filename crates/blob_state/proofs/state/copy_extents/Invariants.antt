use Rattle.std.proofs.Common.{◌≡◌, take}
use Rattle.blob_state.proofs.state.copy_extents.Given as goal

-- the extents so far
abbrev pub invariant-loop-extent : goal.invariant-loop-extent
invariant-loop-extent l = l.copy.items ≡ take l.extent-index l.from.items
