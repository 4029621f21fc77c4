use Rattle.std.proofs.Common.{◌≡◌, subst, sym}
use Rattle.disk_model.proofs.DiskLaws.{OnlyReads-then}
use Rattle.extent_io.proofs.Stills.{Reads-then}
use Rattle.frame_codec.specs.Values.{model_write}
use Rattle.store_model.specs.Disk.{Image}
use Rattle.store_model.specs.Frame.{IsWrite}
use Rattle.store_model.specs.Layout.{data_pages}
use Rattle.store_model.specs.Reading.{DoesWriteVerify}
use Rattle.recover.proofs.Verifyings.{All-at, AllBefore-next}
use Rattle.recover.proofs.verifying.verifies.Goals as goal

pub write_verifies-requires-clause-write : goal.write_verifies-requires-clause-write
write_verifies-requires-clause-write g c = (
  c.requires.writes.0,
  All-at (IsWrite (data_pages c.args.layout) c.requires.writes.0) model_write c.args.writes.now c.verified.i c.get.result.now c.get.ensures c.requires.writes.1,
)

pub returns-then-not-does_verify-clause-fails : goal.returns-then-not-does_verify-clause-fails
returns-then-not-does_verify-clause-fails g c tells isnt all =
    let disk = g.D.Disk in
    let image : Image = (disk.story c.args.disk.now).reads in
    let same : (disk.story c.verified.disk).reads ≡ image = (c.verified.invariant.1.stayed tells).reads in
    c.in_ok-does_verify.ensures.fails tells c.if-not-does_verify.true
    (subst (λ (pages : Image). DoesWriteVerify pages c.args.layout (model_write c.get.result.now)) (sym same)
    (All-at (DoesWriteVerify image c.args.layout) model_write c.args.writes.now c.verified.i c.get.result.now c.get.ensures all))

pub verified-preserved : goal.verified-preserved
verified-preserved g c =
    let disk = g.D.Disk in
    let image : Image = (disk.story c.args.disk.now).reads in (
      λ tells.
          let same : (disk.story c.verified.disk).reads ≡ image = (c.verified.invariant.1.stayed tells).reads in
          AllBefore-next (DoesWriteVerify image c.args.layout) model_write c.args.writes.now c.verified.i c.get.result.now (c.verified.invariant.0 tells) c.get.ensures
          (subst (λ (pages : Image). DoesWriteVerify pages c.args.layout (model_write c.get.result.now)) same
          (c.in_ok-does_verify.ensures.verifies tells c.if-not-does_verify.false)),
      OnlyReads-then disk c.args.disk.now c.verified.disk c.write_verifies.new.disk c.verified.invariant.1 c.write_verifies.ensures.only,
      λ tells. Reads-then (disk.calls c.args.disk.now) (disk.calls c.verified.disk) (disk.calls c.write_verifies.new.disk) (c.verified.invariant.2 tells) (c.write_verifies.ensures.still tells),
    )
