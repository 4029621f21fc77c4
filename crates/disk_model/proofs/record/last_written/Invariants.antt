use Rattle.std.proofs.Common.{◌≡◌, ◌≤◌, length, take}
use Rattle.std.specs.Prelude.{fold}
use Rattle.disk_model.specs.Calls.{image_after}
use Rattle.store_model.specs.Disk.{Image}
use Rattle.disk_model.proofs.record.last_written.Given as goal

-- the calls behind this place didn't write the page
abbrev pub invariant-loop-rest : goal.invariant-loop-rest
invariant-loop-rest l = (l.rest ≤ length l.calls)
    × ((image : Image) → fold image_after image l.calls l.page ≡ fold image_after image (take l.rest l.calls) l.page)

abbrev pub decreases-loop-rest : goal.decreases-loop-rest
decreases-loop-rest l = l.rest
