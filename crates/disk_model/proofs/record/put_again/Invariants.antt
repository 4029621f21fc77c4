use Rattle.std.proofs.Common.{◌≡◌, take}
use Rattle.std.specs.Prelude.{fold}
use Rattle.disk_model.specs.Calls.{with_written}
use Rattle.store_model.specs.Disk.{Image}
use Rattle.disk_model.proofs.record.put_again.Given as goal

-- what was put so far
abbrev pub invariant-loop-written : goal.invariant-loop-written
invariant-loop-written l = (image : Image) → fold with_written image l.writes.items
    ≡ fold with_written (fold with_written image l.initial.writes.items) (take l.written-index l.from)
