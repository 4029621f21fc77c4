use Rattle.std.proofs.Common.{◌≡◌, ◌≤◌, length, take}
use Rattle.disk_model.specs.Calls.{settled, replay_calls}
use Rattle.store_model.specs.Disk.{Image}
use Rattle.disk_model.proofs.record.synced_count.Given as goal

-- no call behind this place is a sync that was done
abbrev pub invariant-loop-rest : goal.invariant-loop-rest
invariant-loop-rest l = (l.rest ≤ length l.calls)
    × ((image : Image) → (replay_calls (settled image) l.calls).synced ≡ (replay_calls (settled image) (take l.rest l.calls)).synced)

abbrev pub decreases-loop-rest : goal.decreases-loop-rest
decreases-loop-rest l = l.rest
