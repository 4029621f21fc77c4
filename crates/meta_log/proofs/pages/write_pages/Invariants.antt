use Rattle.disk_model.specs.Disks.{Keeps}
use Rattle.meta_log.proofs.Writings.{Writing}
use Rattle.meta_log.proofs.pages.write_pages.Given as goal

abbrev pub invariant-loop-number : goal.invariant-loop-number
invariant-loop-number g l =
    let disk = g.D.Disk in
    Writing disk.tells l.fn.first l.number l.fn.count l.fn.body (disk.story l.fn.disk) (disk.story l.disk) (disk.calls l.fn.disk) (disk.calls l.disk)
    × Keeps disk l.fn.disk l.disk
