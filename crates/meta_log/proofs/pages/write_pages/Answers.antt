use Rattle.std.proofs.Common.{arith}
use Rattle.disk_model.proofs.DiskLaws.{Keeps-then}
use Rattle.meta_log.proofs.Writings.{Writing-next, wrote-next}
use Rattle.meta_log.proofs.pages.write_pages.Goals as goal

pub returns-in_err-write-clause-wrote : goal.returns-in_err-write-clause-wrote
returns-in_err-write-clause-wrote g c =
    let disk = g.D.Disk in
    record {
      keeps = Keeps-then disk c.args.disk.now c.loop-number.disk c.write.new.self c.loop-number.invariant.1 c.write.ensures.keeps;
      wrote = λ tells. wrote-next c.args.first c.loop-number.number c.args.count (disk.story c.args.disk.now) (disk.story c.loop-number.disk) (disk.story c.write.new.self) (omega arith)
          (c.loop-number.invariant.0.wrote tells) (c.write.ensures.images tells);
    }

pub loop-number-preserved : goal.loop-number-preserved
loop-number-preserved g c =
    let disk = g.D.Disk in (
      Writing-next disk.tells c.args.first c.loop-number.number c.args.count c.args.body.now c.page.result
          (disk.story c.args.disk.now) (disk.story c.loop-number.disk) (disk.story c.write.new.self) (disk.calls c.args.disk.now) (disk.calls c.loop-number.disk) (disk.calls c.write.new.self)
          (omega arith) c.page.ensures c.loop-number.invariant.0 c.in_ok-write.ensures.bytes c.write.ensures.images c.in_ok-write.ensures.counted.made,
      Keeps-then disk c.args.disk.now c.loop-number.disk c.write.new.self c.loop-number.invariant.1 c.write.ensures.keeps,
    )
