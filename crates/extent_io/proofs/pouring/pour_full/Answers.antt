use Rattle.std.proofs.Common.{◌-◌, ◌/◌, slice_index_or, [], refl, arith}
use Rattle.store_model.specs.Disk.{page_bytes}
use Rattle.store_model.specs.Holds.{place_of}
use Rattle.store_model.specs.Layout.{data_page}
use Rattle.disk_model.proofs.DiskLaws.{Keeps-then}
use Rattle.extent_io.proofs.Pourings.{Pouring-next, Pouring-torn}
use Rattle.extent_io.proofs.pouring.pour_full.Goals as goal

pub returns-in_err-write-clause-wrote : goal.returns-in_err-write-clause-wrote
returns-in_err-write-clause-wrote g c =
    let disk = g.D.Disk in
    record {
      keeps = Keeps-then disk c.args.disk.now c.loop-number.disk c.write.new.self c.loop-number.invariant.1 c.write.ensures.keeps;
      wrote = λ tells. Pouring-torn disk.tells (data_page c.args.layout) (place_of c.args.state.now) c.args.from_page c.loop-number.number (c.args.state.now.size / page_bytes) c.args.pages.now
          (disk.story c.args.disk.now) (disk.story c.loop-number.disk) (disk.story c.write.new.self) (disk.calls c.args.disk.now) (disk.calls c.loop-number.disk)
          c.data.result c.stand-at.result tells c.stand-at.ensures.stands (omega arith) (omega arith) c.data.ensures c.loop-number.invariant.0 (c.write.ensures.images tells);
    }

pub loop-number-preserved : goal.loop-number-preserved
loop-number-preserved g c =
    let disk = g.D.Disk in
    let kept = c.loop-number.invariant.1 in (
      Pouring-next disk.tells (data_page c.args.layout) (place_of c.args.state.now) c.args.from_page c.loop-number.number (c.args.state.now.size / page_bytes) c.args.pages.now
          (disk.story c.args.disk.now) (disk.story c.loop-number.disk) (disk.story c.write.new.self) (disk.calls c.args.disk.now) (disk.calls c.loop-number.disk) (disk.calls c.write.new.self)
          c.data.result c.stand-at.result (slice_index_or c.args.pages.now (c.loop-number.number - c.args.from_page) []) c.requires.apart c.stand-at.ensures.stands (omega arith) (omega arith) c.data.ensures refl c.loop-number.invariant.0
          c.in_ok-write.ensures.bytes c.write.ensures.images c.in_ok-write.ensures.counted.made,
      Keeps-then disk c.args.disk.now c.loop-number.disk c.write.new.self kept c.write.ensures.keeps,
    )

pub returns-clause-reads : goal.returns-clause-reads
returns-clause-reads g c tells page at least below stands =
    c.loop-number.invariant.0.reads tells page at least (omega arith) stands
