use Rattle.std.proofs.Common.{◌+◌, ◌/◌, length, arith}
use Rattle.store_model.specs.Disk.{page_bytes}
use Rattle.check_point.proofs.Standings.{Ends-full, Ends-more, Stand-kept, Stand-next}
use Rattle.check_point.proofs.pages.add.Goals as goal

pub returns-in_ok-write-clause-page : goal.returns-in_ok-write-clause-page
returns-in_ok-write-clause-page g c before ends =
    Ends-full before c.args.piece.now c.args.page.now c.args.taken ends c.if-taken-piece-eq-PAGE_BYTES.true

pub returns-in_ok-write-clause-reads : goal.returns-in_ok-write-clause-reads
returns-in_ok-write-clause-reads g c tells before ends stand =
    let disk = g.D.Disk in
    Stand-next c.args.first (c.args.taken / page_bytes) ((c.args.taken + length c.args.piece.now) / page_bytes) before c.args.piece.now c.fill.new.page
    (disk.story c.args.disk.now).reads (disk.story c.write.new.self).reads (omega (arith, ends.taken_is)) (omega (arith, c.if-taken-piece-eq-PAGE_BYTES.true)) stand
    (c.in_ok-write.ensures.bytes tells) (c.fill.ensures before ends)

pub returns-else-taken-piece-eq-PAGE_BYTES-clause-page : goal.returns-else-taken-piece-eq-PAGE_BYTES-clause-page
returns-else-taken-piece-eq-PAGE_BYTES-clause-page g c before ends =
    Ends-more before c.args.piece.now c.args.page.now c.fill.new.page c.args.taken ends (omega (arith, c.requires.room, c.if-taken-piece-eq-PAGE_BYTES.false)) (c.fill.ensures before ends)

pub returns-else-taken-piece-eq-PAGE_BYTES-clause-reads : goal.returns-else-taken-piece-eq-PAGE_BYTES-clause-reads
returns-else-taken-piece-eq-PAGE_BYTES-clause-reads g c tells before ends stand =
    Stand-kept c.args.first (c.args.taken / page_bytes) ((c.args.taken + length c.args.piece.now) / page_bytes) before c.args.piece.now
    (g.D.Disk.story c.args.disk.now).reads (omega (arith, ends.taken_is)) (omega (arith, c.requires.room, c.if-taken-piece-eq-PAGE_BYTES.false)) stand
