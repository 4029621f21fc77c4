use Rattle.std.proofs.Common.{◌≡◌, take}
use Rattle.disk_model.specs.Calls.{settled, replay_calls}
use Rattle.store_model.specs.Disk.{Image}
use Rattle.disk_model.proofs.record.is_pending_after.Given as goal

-- whether the calls so far left the page pending
abbrev pub invariant-loop-call : goal.invariant-loop-call
invariant-loop-call l = (image : Image) → l.pending ≡ (replay_calls (settled image) (take l.call-index l.calls)).pending l.page
