use Rattle.std.proofs.Common.{rules, ◌+◌, [], refl, arith, slice_index, slice_index_or}
use Rattle.store_model.specs.Layout.{data_page, data_pages}
use Rattle.store_model.specs.State.{heads_of}
use Rattle.disk_model.proofs.DiskLaws.{Keeps-none, Keeps-then}
use Rattle.extent_io.proofs.Stands.{head-there, used-within, uses-some}
use Rattle.extent_io.proofs.Verifyings.{Hashing-next, Hashing-none, took-none, took-read}
use Rattle.extent_io.proofs.ReadParts.{LeadOver-next, LeadOver-none}
use Rattle.extent_io.proofs.verifying.hash_extent.Goals as goal

pub overflow_add-first : goal.overflow_add-first
overflow_add-first g c =
    let some = uses-some c.args.state.now c.args.i c.rules.ensures c.requires.extent in
    let within = used-within (data_pages c.args.layout) c.args.state.now c.extents.result.now c.args.i 0 (record { head = 0; mark = record { words = [] } }) c.requires.within c.extents.ensures.value
    c.rules.ensures c.requires.extent some.1 in
    omega (arith, within, c.rules-2.ensures, c.data.ensures)

pub loop-number-init : goal.loop-number-init
loop-number-init g c =
    let disk = g.D.Disk in (
      Hashing-none disk.tells (data_page c.args.layout) (slice_index (heads_of c.args.state.now.extents) c.args.i) c.args.before.words c.at-chain.result.mark c.at-chain.result.count
          (disk.story c.args.disk.now) c.at-chain.ensures.mark c.at-chain.ensures.count,
      Keeps-none disk c.args.disk.now,
      LeadOver-none c.args.before.words c.at-chain.result.mark c.at-chain.ensures.mark,
      λ tells. took-none (disk.calls c.args.disk.now),
    )

pub overflow_add-first-in-loop-number : goal.overflow_add-first-in-loop-number
overflow_add-first-in-loop-number g c =
    let within = used-within (data_pages c.args.layout) c.args.state.now c.extents.result.now c.args.i c.loop-number.number (record { head = 0; mark = record { words = [] } }) c.requires.within c.extents.ensures.value
    c.rules.ensures c.requires.extent (omega (arith, c.used-number-end.ensures, c.size.ensures)) in
    omega (arith, within, c.rules-2.ensures, c.data.ensures)

pub read-requires : goal.read-requires
read-requires g c =
    let within = used-within (data_pages c.args.layout) c.args.state.now c.extents.result.now c.args.i c.loop-number.number (record { head = 0; mark = record { words = [] } }) c.requires.within c.extents.ensures.value
    c.rules.ensures c.requires.extent (omega (arith, c.used-number-end.ensures, c.size.ensures)) in
    omega (arith, within, c.data.ensures, c.requires.disk, c.loop-number.invariant.1.size)

pub loop-number-preserved : goal.loop-number-preserved
loop-number-preserved g c =
    let disk = g.D.Disk in
    let kept = c.loop-number.invariant.1 in (
      Hashing-next disk.tells (data_page c.args.layout) (slice_index (heads_of c.args.state.now.extents) c.args.i) c.loop-number.number c.args.before.words
          c.loop-number.chain.mark c.blocks-in-loop-number.new.self.mark c.loop-number.chain.count c.blocks-in-loop-number.new.self.count
          (disk.story c.args.disk.now) (disk.story c.loop-number.disk) (disk.story c.read.new.self) c.data.result
          (slice_index_or c.extents.result.now c.args.i (record { head = 0; mark = record { words = [] } })).head c.read.new.into
          c.data.ensures (head-there c.args.state.now c.extents.result.now c.args.i (record { head = 0; mark = record { words = [] } }) c.extents.ensures.value c.requires.extent) (search rules)
          c.loop-number.invariant.0 c.in_ok-read.ensures.bytes c.read.ensures.images c.blocks-in-loop-number.ensures.longer c.blocks-in-loop-number.ensures.count,
      Keeps-then disk c.args.disk.now c.loop-number.disk c.read.new.self kept c.read.ensures.keeps,
      LeadOver-next c.loop-number.number c.args.before.words c.loop-number.chain.mark c.blocks-in-loop-number.new.self.mark c.read.new.into (search rules)
          c.loop-number.invariant.2 c.blocks-in-loop-number.ensures.longer,
      λ tells. took-read c.loop-number.number (c.loop-number.number + 1) (disk.calls c.args.disk.now) (disk.calls c.loop-number.disk) (disk.calls c.read.new.self)
          (c.loop-number.invariant.3 tells) (c.in_ok-read.ensures.counted.made tells) refl,
    )
