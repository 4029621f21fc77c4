use Rattle.store_model.specs.Layout.{data_page}
use Rattle.extent_io.proofs.Gatherings.{Gathering}
use Rattle.disk_model.specs.Disks.{Keeps}
use Rattle.extent_io.proofs.gathering.gather_pages.Given as goal

abbrev pub invariant-loop-number : goal.invariant-loop-number
invariant-loop-number g l =
    let disk = g.D.Disk in
    Gathering disk.tells (data_page l.fn.layout) l.fn.state l.fn.off l.initial.number l.number l.fn.into l.into
    (disk.story l.fn.disk) (disk.story l.disk) (disk.calls l.fn.disk) (disk.calls l.disk)
    × Keeps disk l.fn.disk l.disk
