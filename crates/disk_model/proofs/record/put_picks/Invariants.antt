use Rattle.std.proofs.Common.{◌≡◌, take}
use Rattle.std.specs.Prelude.{fold}
use Rattle.disk_model.specs.Calls.{with_written, with_picks}
use Rattle.store_model.specs.Disk.{Image}
use Rattle.disk_model.proofs.record.put_picks.Given as goal

-- the picks so far
abbrev pub invariant-loop-pick : goal.invariant-loop-pick
invariant-loop-pick l = (image : Image) → fold with_written image l.writes.items
    ≡ with_picks (fold with_written image l.initial.writes.items) (take l.pick-index l.picks)
