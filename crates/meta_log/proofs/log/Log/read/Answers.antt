use Rattle.std.proofs.Common.{◌+◌, arith, refl}
use Rattle.disk_model.proofs.DiskLaws.{OnlyReads-then}
use Rattle.meta_log.proofs.Walks.{Walking-next}
use Rattle.meta_log.proofs.log.Log.read.Goals as goal

pub loop-opened-preserved : goal.loop-opened-preserved
loop-opened-preserved g c =
    let disk = g.D.Disk in
    let before = c.loop-opened.invariant.1 in
    let body = c.in_ok-bytes.ensures.only in (
      Walking-next disk.tells c.args.half c.log-in-loop-opened.result c.loop-opened.gate c.pages_for.result (c.loop-opened.gate + c.pages_for.result + 1)
          c.loop-opened.bodies c.push.new.self c.in-Some.bytes c.loop-opened.opened c.in_ok-opened-2.opened
          (disk.story c.args.disk.now) (disk.story c.loop-opened.disk) (disk.story c.read_body.new.disk)
          (disk.calls c.args.disk.now) (disk.calls c.loop-opened.disk) (disk.calls c.read_body.new.disk) (disk.calls c.read_gate-in-loop-opened.new.disk)
          c.log-in-loop-opened.ensures c.loop-opened-test.true (omega (arith, c.pages_for.ensures, c.len.ensures)) refl (rw c.in-Some.is at c.in_ok-bytes.ensures.room) c.loop-opened.invariant.0
          c.in_ok-push-in-Some.ensures.ok (λ tells. (before.stayed tells).reads) (λ tells. (body.stayed tells).reads) (rw c.in-Some.is at c.in_ok-bytes.ensures.found)
          c.in_ok-opened-2.ensures.told (rw c.in-Some.is at c.in_ok-bytes.ensures.reads) c.in_ok-opened-2.ensures.reads,
      OnlyReads-then disk c.args.disk.now c.read_body.new.disk c.read_gate-in-loop-opened.new.disk
          (OnlyReads-then disk c.args.disk.now c.loop-opened.disk c.read_body.new.disk before body)
          c.in_ok-opened-2.ensures.only,
    )
