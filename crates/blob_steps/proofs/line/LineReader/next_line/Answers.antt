use Rattle.std.proofs.Common.{◌≤◌, length, arith, inl, inr}
use Rattle.std.proofs.lemmas.Bool.{both_ways, cases_lt}
use Rattle.std.specs.Io.KnownBytes.{prepend_known}
use Rattle.std.specs.List.{position_or_len}
use Rattle.blob_base.proofs.FaultLaws.{KeepsEnd-then}
use Rattle.blob_steps.specs.Lines.{is_line_end, LineTaken}
use Rattle.blob_steps.proofs.Splitting.{Reading-kept, Reading-more, LineTaken-ended, LineTaken-last, LongLine-begun, LongLine-ended, some_bytes}
use Rattle.blob_steps.proofs.line.LineReader.next_line.Goals as goal

pub returns-then-len-le-MAX_LINE_BYTES-clause-line : goal.returns-then-len-le-MAX_LINE_BYTES-clause-line
returns-then-len-le-MAX_LINE_BYTES-clause-line g c = λ _.
    let part = c.in_ok-take_part.ensures in
    LineTaken-ended (prepend_known c.args.self.now (g.S.Source.left c.args.source.now)) (g.S.Source.left c.fill.new.source) c.fill.new.self c.loop-alloc.line c.take_part.new.line c.take_part.new.self
    (Reading-kept _ _ _ c.loop-alloc.line c.loop-alloc.invariant.reading c.in_ok-fill.ensures.kept) (part.found.0 c.if-branch-2.true) part.part part.rest

pub returns-else-len-le-MAX_LINE_BYTES-clause-long : goal.returns-else-len-le-MAX_LINE_BYTES-clause-long
returns-else-len-le-MAX_LINE_BYTES-clause-long g c = λ _.
    let part = c.in_ok-take_part.ensures in
    let old = prepend_known c.args.self.now (g.S.Source.left c.args.source.now) in
    let left = g.S.Source.left c.fill.new.source in
    let taken : LineTaken old c.take_part.new.line (prepend_known c.take_part.new.self left) =
    LineTaken-ended old left c.fill.new.self c.loop-alloc.line c.take_part.new.line c.take_part.new.self
    (Reading-kept _ _ _ c.loop-alloc.line c.loop-alloc.invariant.reading c.in_ok-fill.ensures.kept) (part.found.0 c.if-branch-2.true) part.part part.rest in
    LongLine-ended old (prepend_known c.take_part.new.self left) c.take_part.new.line taken (omega arith)

pub loop-alloc-preserved : goal.loop-alloc-preserved
loop-alloc-preserved g c =
    let part = c.in_ok-take_part.ensures in
    let filled = c.in_ok-fill.ensures in
    let ahead = c.fill.new.self in
    let none : length ahead ≤ position_or_len is_line_end ahead = elim (cases_lt (position_or_len is_line_end ahead) (length ahead)) [
      | inl found ↦ absurd (both_ways _ c.if-branch-2.false (part.found.1 found))
      | inr past ↦ past
    ] in
    record {
      reading = Reading-more (prepend_known c.args.self.now (g.S.Source.left c.args.source.now)) (g.S.Source.left c.fill.new.source) ahead c.loop-alloc.line c.take_part.new.line c.take_part.new.self
          (Reading-kept _ _ _ c.loop-alloc.line c.loop-alloc.invariant.reading filled.kept) none part.part part.rest;
      keeps = KeepsEnd-then g.S.Source.faults g.S.Source.frugal c.args.source.now c.loop-alloc.source c.fill.new.source
          c.loop-alloc.invariant.keeps filled.keeps;
    }

pub returns-else-is_empty-clause-line : goal.returns-else-is_empty-clause-line
returns-else-is_empty-clause-line g c = λ _.
    let filled = c.in_ok-fill.ensures in
    LineTaken-last (prepend_known c.args.self.now (g.S.Source.left c.args.source.now)) (prepend_known c.fill.new.self (g.S.Source.left c.fill.new.source)) c.loop-alloc.line
    (Reading-kept _ _ _ c.loop-alloc.line c.loop-alloc.invariant.reading filled.kept) (filled.at_end c.if-branch.false) (some_bytes (length c.loop-alloc.line) (c.if-is_empty.ensures))

pub returns-clause-long : goal.returns-clause-long
returns-clause-long g c = λ _.
    LongLine-begun (prepend_known c.args.self.now (g.S.Source.left c.args.source.now)) (prepend_known c.loop-alloc.self (g.S.Source.left c.loop-alloc.source)) c.loop-alloc.line
    c.loop-alloc.invariant.reading (omega arith)
