use Rattle.std.proofs.Common.{◌∙◌, ◌^◌, Ok, ap, arith, refl, subst}
use Rattle.std.proofs.lemmas.Result.{err_from_is_err_and}
use Rattle.blob_steps.specs.Breaks.{ComingTo}
use Rattle.blob_steps.specs.Going.{Going, GoingSo}
use Rattle.blob_steps.proofs.Closings.{KeepsEnds-none, KeepsEnds-then}
use Rattle.blob_steps.proofs.OnTheWay.{GoingSo-first, Going-first, HaveBegun-more, prepend-none}
use Rattle.blob_steps.proofs.run.Run.answer_all.Goals as goal

pub loop-number-init : goal.loop-number-init
loop-number-init g c =
    let mine = c.args.self.now in
    let left = g.S.Source.left c.args.source.now in
    let taken = g.K.Sink.taken c.args.sink.now in
    let ahead = prepend-none mine.reader left c.requires.none in (
      λ start cost since starts.
          subst (λ from. Going g.D.Disk start cost cost since mine.world 1 left from taken taken mine.world.vault.disk) ahead
          (Going-first g.D.Disk mine.world start cost since left taken c.rules.ensures starts),
      subst (λ from. GoingSo 1 left from taken taken) ahead (GoingSo-first left taken),
      λ told layout image states one coming. subst (λ from. ComingTo g.D.Disk layout image states one 1 from mine.world) ahead coming,
      record {
        sound = c.requires.sound;
        layout_is = refl;
        begun = HaveBegun-more mine.world 0 1 c.requires.begun (omega arith);
        few = omega arith;
        keeps = KeepsEnds-none g.S.Source g.K.Sink g.D.Disk c.args.source.now c.args.sink.now mine.world.vault.disk;
      },
    )

pub answer_line-requires-clause-begun : goal.answer_line-requires-clause-begun
answer_line-requires-clause-begun g c =
    HaveBegun-more c.loop-number.self.world c.loop-number.number (2 ^ 61) c.loop-number.invariant.3.begun (omega (arith, c.loop-number.invariant.3.few))

pub loop-number-preserved : goal.loop-number-preserved
loop-number-preserved g c =
    let so_far = c.loop-number.invariant in
    let kept = so_far.3 in
    let done = c.in_ok-answer_line.ensures in
    let left = g.S.Source.left c.args.source.now in
    let taken = g.K.Sink.taken c.args.sink.now in
    let so = done.so left taken so_far.1 in (
      λ start cost since starts. (let next = done.going start cost cost since left taken c.args.self.now.world.vault.disk (so_far.0 start cost since starts) in rw c.if-not-branch.false at next),
      rw c.if-not-branch.false at so,
      λ told layout image states one coming. (let next = done.breaks told layout image states one (so_far.2 told layout image states one coming) in rw c.if-not-branch.false at next),
      record {
        sound = done.sound;
        layout_is = done.layout ∙ kept.layout_is;
        begun = done.begun c.loop-number.number kept.begun;
        few = omega (arith, done.few (ap Ok c.if-not-branch.false));
        keeps = KeepsEnds-then g.S.Source g.K.Sink g.D.Disk c.args.source.now c.loop-number.source c.answer_line.new.source
            c.args.sink.now c.loop-number.sink c.answer_line.new.sink c.args.self.now.world.vault.disk c.loop-number.self.world.vault.disk c.answer_line.new.self.world.vault.disk
            kept.keeps done.keeps;
      },
    )

pub returns-in_err-answer_line-clause-breaks : goal.returns-in_err-answer_line-clause-breaks
returns-in_err-answer_line-clause-breaks g c = λ told layout image states one coming.
    let p = err_from_is_err_and c.from_residual.result c.from_residual.ensures.1 in
    rw (p.1, p.2) (c.in_err-answer_line.ensures.breaks told layout image states one (c.loop-number.invariant.2 told layout image states one coming))

pub returns-then-not-branch-clause-breaks : goal.returns-then-not-branch-clause-breaks
returns-then-not-branch-clause-breaks g c = λ told layout image states one coming.
    let ended = c.in_ok-answer_line.ensures.breaks told layout image states one (c.loop-number.invariant.2 told layout image states one coming) in
    rw c.if-not-branch.true at ended

pub returns-then-not-branch-clause-so : goal.returns-then-not-branch-clause-so
returns-then-not-branch-clause-so g c =
    let ended = c.in_ok-answer_line.ensures.so (g.S.Source.left c.args.source.now) (g.K.Sink.taken c.args.sink.now) c.loop-number.invariant.1 in
    rw c.if-not-branch.true at ended
