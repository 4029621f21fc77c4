use Rattle.disk_model.specs.Disks.{OnlyReads}
use Rattle.disk_model.proofs.Areas.{Filling}
use Rattle.disk_model.proofs.area.append_pages.Given as goal

abbrev pub invariant-loop-number : goal.invariant-loop-number
invariant-loop-number g l =
    let disk = g.D.Disk in
    Filling disk.tells l.fn.first l.fn.from l.fn.count l.number l.fn.into l.into (disk.story l.fn.disk) (disk.calls l.fn.disk) (disk.calls l.disk)
    × OnlyReads disk l.fn.disk l.disk
