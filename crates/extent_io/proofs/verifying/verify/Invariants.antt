use Rattle.std.specs.Prelude.{IsTrue}
use Rattle.store_model.specs.Disk.{Took}
use Rattle.store_model.specs.Layout.{data_page}
use Rattle.extent_io.specs.Pages.{pages_of_links}
use Rattle.disk_model.specs.Disks.{Keeps}
use Rattle.extent_io.proofs.Verifyings.{Verifying}
use Rattle.extent_io.proofs.ReadParts.{Read}
use Rattle.extent_io.proofs.verifying.verify.Given as goal

abbrev pub invariant-loop-link : goal.invariant-loop-link
invariant-loop-link g l =
    let disk = g.D.Disk in
    Verifying disk.tells (data_page l.fn.layout) l.fn.state l.link (disk.story l.fn.disk) (disk.story l.disk)
    × Keeps disk l.fn.disk l.disk
    × Read l.fn.state l.link
    × (IsTrue disk.tells → Took (pages_of_links l.fn.state l.link) 0 0 (disk.calls l.fn.disk) (disk.calls l.disk))
