use Rattle.std.proofs.Common.{slice_index}
use Rattle.std.specs.Prelude.{IsTrue}
use Rattle.store_model.specs.Disk.{Took}
use Rattle.store_model.specs.Layout.{data_page}
use Rattle.store_model.specs.State.{heads_of}
use Rattle.disk_model.specs.Disks.{Keeps}
use Rattle.extent_io.proofs.Verifyings.{Hashing}
use Rattle.extent_io.specs.ReadBytes.{LeadOver}
use Rattle.extent_io.proofs.verifying.hash_extent.Given as goal

abbrev pub invariant-loop-number : goal.invariant-loop-number
invariant-loop-number g l =
    let disk = g.D.Disk in
    Hashing disk.tells (data_page l.fn.layout) (slice_index (heads_of l.fn.state.extents) l.fn.i) l.number l.fn.before.words l.chain.mark l.chain.count (disk.story l.fn.disk) (disk.story l.disk)
    × Keeps disk l.fn.disk l.disk
    × LeadOver l.number l.fn.before.words l.chain.mark
    × (IsTrue disk.tells → Took l.number 0 0 (disk.calls l.fn.disk) (disk.calls l.disk))
