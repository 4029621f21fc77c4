use Rattle.std.proofs.Common.{map}
use Rattle.std.specs.Prelude.{IsTrue}
use Rattle.disk_model.specs.Disks.{OnlyReads}
use Rattle.frame_codec.specs.Values.{model_write}
use Rattle.store_model.specs.Cost.{Reads}
use Rattle.store_model.specs.Reading.{DoesWriteVerify}
use Rattle.recover.proofs.Verifyings.{AllBefore}
use Rattle.recover.proofs.verifying.verifies.Given as goal

abbrev pub invariant-verified : goal.invariant-verified
invariant-verified g l =
    let disk = g.D.Disk in
    (IsTrue disk.tells → AllBefore (DoesWriteVerify (disk.story l.fn.disk).reads l.fn.layout) (map model_write l.writes) l.i)
    × OnlyReads disk l.fn.disk l.disk
    × (IsTrue disk.tells → Reads (disk.calls l.fn.disk) (disk.calls l.disk))
