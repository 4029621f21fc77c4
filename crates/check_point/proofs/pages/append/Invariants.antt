use Rattle.std.proofs.Common.{◌+◌, ◌-◌, ◌/◌, length}
use Rattle.disk_model.specs.Disks.{OnlyWrites}
use Rattle.store_model.specs.Disk.{page_bytes}
use Rattle.store_model.specs.Images.{Within}
use Rattle.check_point.specs.Halves.{filled_pages}
use Rattle.check_point.proofs.Standings.{Appending}
use Rattle.check_point.proofs.pages.append.Given as goal

abbrev pub invariant-loop-rest : goal.invariant-loop-rest
invariant-loop-rest g l =
    let disk = g.D.Disk in
    Appending disk.tells l.fn.first l.fn.taken l.sum l.fn.bytes l.rest l.fn.page l.page (disk.story l.fn.disk).reads (disk.story l.disk).reads (disk.calls l.fn.disk) (disk.calls l.disk)
    × OnlyWrites disk (Within (l.fn.first + l.fn.taken / page_bytes) (filled_pages l.fn.taken (l.sum - l.fn.taken))) l.fn.disk l.disk

abbrev pub decreases-loop-rest : goal.decreases-loop-rest
decreases-loop-rest g l = length l.rest
