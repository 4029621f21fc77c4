use Rattle.std.proofs.Common.{◌+◌, ◌-◌, ◌/◌, length, arith}
use Rattle.disk_model.proofs.DiskLaws.{OnlyWrites-more, OnlyWrites-none, OnlyWrites-wider}
use Rattle.store_model.specs.Disk.{page_bytes}
use Rattle.store_model.specs.Images.{Within}
use Rattle.check_point.specs.Halves.{filled_pages}
use Rattle.check_point.proofs.Standings.{Appending-next, Appending-none, Ends-all, Stand-all}
use Rattle.check_point.proofs.pages.append.Goals as goal

pub loop-rest-init : goal.loop-rest-init
loop-rest-init g c =
    let disk = g.D.Disk in (
      Appending-none disk.tells c.args.first c.args.taken c.args.bytes.now c.args.page.now (disk.story c.args.disk.now).reads (disk.calls c.args.disk.now),
      OnlyWrites-none disk (Within (c.args.first + c.args.taken / page_bytes) (filled_pages c.args.taken (c.args.taken - c.args.taken))) c.args.disk.now,
    )

pub add-requires-clause-within : goal.add-requires-clause-within
add-requires-clause-within g c =
    omega (arith, c.requires.within, c.loop-rest.invariant.0.from, c.loop-rest.invariant.0.to, c.min.ensures, c.split_at.ensures.front_len, c.loop-rest.invariant.1.keeps.size)

pub add-requires-clause-most : goal.add-requires-clause-most
add-requires-clause-most g c =
    omega (arith, c.requires.most, c.loop-rest.invariant.0.from, c.loop-rest.invariant.0.to, c.min.ensures, c.split_at.ensures.front_len)

pub add-requires-clause-some : goal.add-requires-clause-some
add-requires-clause-some g c = omega (arith, c.requires.some, c.loop-rest.invariant.0.to)

pub returns-in_err-add-clause-wrote : goal.returns-in_err-add-clause-wrote
returns-in_err-add-clause-wrote g c =
    let disk = g.D.Disk in
    let begun = c.loop-rest.invariant.0 in
    let pages = Within (c.args.first + c.args.taken / page_bytes) (filled_pages c.args.taken (length c.args.bytes.now)) in
    let more = Within (c.args.first + c.loop-rest.sum / page_bytes) (filled_pages c.loop-rest.sum (length c.split_at.result.0.now)) in
    OnlyWrites-more disk more pages c.args.disk.now c.loop-rest.disk c.add.new.disk
    (λ p there. record { from = omega (arith, begun.from, there.from); to = omega (arith, begun.from, begun.to, there.to, c.min.ensures, c.split_at.ensures.front_len) })
    (OnlyWrites-wider disk (Within (c.args.first + c.args.taken / page_bytes) (filled_pages c.args.taken (c.loop-rest.sum - c.args.taken))) pages c.args.disk.now c.loop-rest.disk
    (λ p there. record { from = there.from; to = omega (arith, begun.from, begun.to, there.to) }) c.loop-rest.invariant.1)
    c.add.ensures.wrote

pub overflow_add-sum : goal.overflow_add-sum
overflow_add-sum g c = omega (arith, c.requires.some, c.loop-rest.invariant.0.from, c.loop-rest.invariant.0.to, c.min.ensures, c.split_at.ensures.front_len)

pub loop-rest-smaller : goal.loop-rest-smaller
loop-rest-smaller g c = omega (arith, c.loop-rest-test.true, c.min.ensures, c.split_at.ensures.front_len, c.split_at.ensures.back_len)

pub loop-rest-preserved : goal.loop-rest-preserved
loop-rest-preserved g c =
    let disk = g.D.Disk in
    let begun = c.loop-rest.invariant.0 in
    let sum = c.loop-rest.sum + length c.split_at.result.0.now in
    let pages = Within (c.args.first + c.args.taken / page_bytes) (filled_pages c.args.taken (sum - c.args.taken)) in
    let more = Within (c.args.first + c.loop-rest.sum / page_bytes) (filled_pages c.loop-rest.sum (length c.split_at.result.0.now)) in (
      Appending-next disk.tells c.args.first c.args.taken c.loop-rest.sum c.min.result c.args.bytes.now c.loop-rest.rest.now c.split_at.result.0.now c.split_at.result.1.now
          c.args.page.now c.loop-rest.page c.add.new.page (disk.story c.args.disk.now).reads (disk.story c.loop-rest.disk).reads (disk.story c.add.new.disk).reads
          (disk.calls c.args.disk.now) (disk.calls c.loop-rest.disk) (disk.calls c.add.new.disk)
          begun (omega (arith, c.min.ensures)) c.split_at.ensures.front c.split_at.ensures.back (omega (arith, c.min.ensures, c.split_at.ensures.back_len))
          c.in_ok-add.ensures.page c.in_ok-add.ensures.reads c.in_ok-add.ensures.calls,
      OnlyWrites-more disk more pages c.args.disk.now c.loop-rest.disk c.add.new.disk
          (λ p there. record { from = omega (arith, begun.from, there.from); to = omega (arith, begun.from, there.to) })
          (OnlyWrites-wider disk (Within (c.args.first + c.args.taken / page_bytes) (filled_pages c.args.taken (c.loop-rest.sum - c.args.taken))) pages c.args.disk.now c.loop-rest.disk
          (λ p there. record { from = there.from; to = omega (arith, begun.from, there.to) }) c.loop-rest.invariant.1)
          c.add.ensures.wrote,
    )

pub returns-clause-page : goal.returns-clause-page
returns-clause-page g c past had =
    let disk = g.D.Disk in
    Ends-all disk.tells c.args.first c.args.taken c.loop-rest.sum c.args.bytes.now c.loop-rest.rest.now c.args.page.now c.loop-rest.page
    (disk.story c.args.disk.now).reads (disk.story c.loop-rest.disk).reads (disk.calls c.args.disk.now) (disk.calls c.loop-rest.disk)
    c.loop-rest.invariant.0 (omega (arith, c.loop-rest-test.false)) past had

pub returns-clause-reads : goal.returns-clause-reads
returns-clause-reads g c tells past had stood =
    let disk = g.D.Disk in
    Stand-all disk.tells c.args.first c.args.taken c.loop-rest.sum c.args.bytes.now c.loop-rest.rest.now c.args.page.now c.loop-rest.page
    (disk.story c.args.disk.now).reads (disk.story c.loop-rest.disk).reads (disk.calls c.args.disk.now) (disk.calls c.loop-rest.disk)
    c.loop-rest.invariant.0 (omega (arith, c.loop-rest-test.false)) tells past had stood

pub returns-clause-wrote : goal.returns-clause-wrote
returns-clause-wrote g c =
    let begun = c.loop-rest.invariant.0 in
    OnlyWrites-wider g.D.Disk (Within (c.args.first + c.args.taken / page_bytes) (filled_pages c.args.taken (c.loop-rest.sum - c.args.taken)))
    (Within (c.args.first + c.args.taken / page_bytes) (filled_pages c.args.taken (length c.args.bytes.now))) c.args.disk.now c.loop-rest.disk
    (λ p there. record { from = there.from; to = omega (arith, begun.from, begun.to, there.to) }) c.loop-rest.invariant.1

pub returns-clause-calls : goal.returns-clause-calls
returns-clause-calls g c tells =
    let begun = c.loop-rest.invariant.0 in
    let took = begun.calls tells in
    record { reads = took.reads; writes = omega (arith, took.writes, begun.from, begun.to, c.loop-rest-test.false); syncs = took.syncs }
