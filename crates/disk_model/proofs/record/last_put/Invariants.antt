use Rattle.std.proofs.Common.{◌≡◌, ◌≤◌, length, take}
use Rattle.disk_model.specs.Calls.{image_of}
use Rattle.disk_model.proofs.record.last_put.Given as goal

-- nothing behind this place was put on the page
abbrev pub invariant-loop-rest : goal.invariant-loop-rest
invariant-loop-rest l = (l.rest ≤ length l.writes) × (image_of l.writes l.page ≡ image_of (take l.rest l.writes) l.page)

abbrev pub decreases-loop-rest : goal.decreases-loop-rest
decreases-loop-rest l = l.rest
