use Rattle.std.proofs.Common.{◌-◌}
use Rattle.disk_model.specs.Disks.{OnlyReads}
use Rattle.meta_log.proofs.Walks.{Walking}
use Rattle.meta_log.proofs.log.Log.read.Given as goal

abbrev pub invariant-loop-opened : goal.invariant-loop-opened
invariant-loop-opened g l =
    let disk = g.D.Disk in
    Walking disk.tells l.fn.half l.gate l.bodies l.opened (disk.story l.fn.disk) (disk.calls l.fn.disk) (disk.calls l.disk)
    × OnlyReads disk l.fn.disk l.disk

abbrev pub decreases-loop-opened : goal.decreases-loop-opened
decreases-loop-opened g l = 511 - l.gate
