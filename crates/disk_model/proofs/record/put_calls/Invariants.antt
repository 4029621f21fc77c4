use Rattle.std.proofs.Common.{◌≡◌, take}
use Rattle.std.specs.Prelude.{fold}
use Rattle.disk_model.specs.Calls.{with_written, image_after}
use Rattle.store_model.specs.Disk.{Image}
use Rattle.disk_model.proofs.record.put_calls.Given as goal

-- what the calls so far wrote
abbrev pub invariant-loop-call : goal.invariant-loop-call
invariant-loop-call l = (image : Image) → fold with_written image l.writes.items
    ≡ fold image_after (fold with_written image l.initial.writes.items) (take l.call-index l.calls)
