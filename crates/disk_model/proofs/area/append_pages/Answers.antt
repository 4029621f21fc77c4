use Rattle.std.proofs.Common.{rules, arith}
use Rattle.disk_model.proofs.Areas.{Filling-begun, Filling-next}
use Rattle.disk_model.proofs.DiskLaws.{OnlyReads-none, OnlyReads-then}
use Rattle.disk_model.proofs.area.append_pages.Goals as goal

pub loop-number-init : goal.loop-number-init
loop-number-init g c =
    let disk = g.D.Disk in (
      Filling-begun disk.tells c.args.first c.args.from c.args.count c.args.into.now (disk.story c.args.disk.now) (disk.calls c.args.disk.now) c.requires.before,
      OnlyReads-none disk c.args.disk.now,
    )

pub loop-number-preserved : goal.loop-number-preserved
loop-number-preserved g c =
    let disk = g.D.Disk in (
      Filling-next disk.tells c.args.first c.args.from c.args.count c.loop-number.number c.args.into.now c.loop-number.into c.append_page.new.into c.read.new.into
          (disk.story c.args.disk.now) (disk.story c.loop-number.disk) (disk.calls c.args.disk.now) (disk.calls c.loop-number.disk) (disk.calls c.read.new.self)
          (omega arith) (omega (arith, c.pages_for-number-end.ensures)) (search rules) c.loop-number.invariant.0 (λ tells. (c.loop-number.invariant.1.stayed tells).reads)
          c.in_ok-read.ensures.bytes c.in_ok-append_page.ensures.ok c.in_ok-read.ensures.counted.made,
      OnlyReads-then disk c.args.disk.now c.loop-number.disk c.read.new.self c.loop-number.invariant.1
          (record { keeps = c.read.ensures.keeps; stayed = c.read.ensures.images }),
    )
