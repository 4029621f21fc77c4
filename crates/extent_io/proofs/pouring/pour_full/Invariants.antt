use Rattle.std.proofs.Common.{◌/◌}
use Rattle.store_model.specs.Disk.{page_bytes}
use Rattle.store_model.specs.Holds.{place_of}
use Rattle.store_model.specs.Layout.{data_page}
use Rattle.disk_model.specs.Disks.{Keeps}
use Rattle.extent_io.proofs.Pourings.{Pouring}
use Rattle.extent_io.proofs.pouring.pour_full.Given as goal

abbrev pub invariant-loop-number : goal.invariant-loop-number
invariant-loop-number g l =
    let disk = g.D.Disk in
    Pouring disk.tells (data_page l.fn.layout) (place_of l.fn.state) l.fn.from_page l.number (l.fn.state.size / page_bytes) l.fn.pages
    (disk.story l.fn.disk) (disk.story l.disk) (disk.calls l.fn.disk) (disk.calls l.disk)
    × Keeps disk l.fn.disk l.disk
