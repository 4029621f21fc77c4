use Rattle.std.proofs.Common.{◌≡◌, ℕ, List, inl, inr, refl, ap, ◌∙◌, arith}
use Rattle.std.proofs.lemmas.Result.{on_ok_weaker}
use Rattle.disk_model.proofs.DiskLaws.{OnlyReads-none, OnlyWrites-more, OnlyWrites-reads, OnlyWrites-wider}
use Rattle.check_point.specs.Writers.{IsOfHalf}
use Rattle.store_model.specs.Disk.{Image}
use Rattle.store_model.specs.Half.{picked}
use Rattle.store_model.specs.Layout.{log_page}
use Rattle.store_model.specs.Log.{at_log, is_open}
use Rattle.recover.specs.Turns.{IsTurnPage}
use Rattle.recover.proofs.Turned.{Reads-turned}
use Rattle.recover.proofs.Survivals.{HalfStands-same}
use Rattle.recover.proofs.turning.turn_to.Goals as goal

pub returns-in_err-flip-clause-wrote : goal.returns-in_err-flip-clause-wrote
returns-in_err-flip-clause-wrote g c =
    let disk = g.D.Disk in
    let pages = IsTurnPage c.args.writer.layout c.args.writer.half in
    OnlyWrites-more disk (λ p. p ≡ 0) pages c.args.disk.now c.sync.new.self c.flip.new.disk (λ p zero. inr zero)
    (OnlyWrites-reads disk pages c.args.disk.now c.finish.new.disk c.sync.new.self
    (OnlyWrites-wider disk (IsOfHalf c.args.writer.layout c.args.writer.half) pages c.args.disk.now c.finish.new.disk (λ p there. inl there) c.finish.ensures.wrote)
    (record { keeps = c.sync.ensures.keeps; stayed = c.sync.ensures.images }))
    c.flip.ensures.wrote

pub returns-clause-reads : goal.returns-clause-reads
returns-clause-reads g c tells states half had stood apart =
    let disk = g.D.Disk in
    let writer = c.args.writer in
    let ended : Image = (disk.story c.finish.new.disk).reads in
    let synced : (disk.story c.sync.new.self).reads ≡ ended = (c.sync.ensures.images tells).reads in
    let stayed : (disk.story c.sync-2.new.self).reads ≡ (disk.story c.flip.new.disk).reads = (c.sync-2.ensures.images tells).reads in
    on_ok_weaker c.sync-2.result
    (λ settled. Reads-turned (disk.size c.args.disk.now) writer.half writer.last writer.layout states ended (disk.story c.sync-2.new.self).reads c.requires.disk
    (c.in_ok-finish.ensures.spells tells states half had stood) (c.in_ok-finish.ensures.gate tells)
    (λ p other. ap (λ (image : Image). image p) stayed ∙ (c.flip.ensures.wrote.wrote tells).reads p other ∙ ap (λ (image : Image). image p) synced)
    (ap (λ (image : Image). picked (image 0)) stayed ∙ c.in_ok-flip.ensures.picked tells ∙ c.requires.half)
    apart)
    (c.sync-2.ensures.settled tells)

pub returns-clause-turned : goal.returns-clause-turned
returns-clause-turned g c tells =
    let disk = g.D.Disk in
    let writer = c.args.writer in
    let ended : Image = (disk.story c.finish.new.disk).reads in
    let now : Image = (disk.story c.sync-2.new.self).reads in
    let synced : (disk.story c.sync.new.self).reads ≡ ended = (c.sync.ensures.images tells).reads in
    let stayed : now ≡ (disk.story c.flip.new.disk).reads = (c.sync-2.ensures.images tells).reads in
    let first : now (at_log writer.half 0) ≡ ended (log_page writer.half) =
    ap now (omega arith) ∙ ap (λ (image : Image). image (log_page writer.half)) stayed
    ∙ (c.flip.ensures.wrote.wrote tells).reads (log_page writer.half) (λ zero. omega (arith, zero))
    ∙ ap (λ (image : Image). image (log_page writer.half)) synced in
    on_ok_weaker c.sync-2.result
    (λ settled. record {
      settled = settled;
      picks = ap (λ (image : Image). picked (image 0)) stayed ∙ c.in_ok-flip.ensures.picked tells ∙ c.requires.half;
      closed = ap (λ (page : List ℕ). is_open page) (first ∙ c.in_ok-finish.ensures.gate tells) ∙ refl;
    })
    (c.sync-2.ensures.settled tells)

pub returns-in_err-finish-clause-windows : goal.returns-in_err-finish-clause-windows
returns-in_err-finish-clause-windows g c states half had stood =
    record { mid = c.finish.new.disk; first = c.finish.ensures.wrote; second = inl (OnlyReads-none g.D.Disk c.finish.new.disk) }

pub returns-in_err-sync-clause-windows : goal.returns-in_err-sync-clause-windows
returns-in_err-sync-clause-windows g c states half had stood = record {
  mid = c.finish.new.disk;
  first = c.finish.ensures.wrote;
  second = inl (record { keeps = c.sync.ensures.keeps; stayed = c.sync.ensures.images });
}

pub returns-in_err-flip-clause-windows : goal.returns-in_err-flip-clause-windows
returns-in_err-flip-clause-windows g c states half had stood = record {
  mid = c.sync.new.self;
  first =
      OnlyWrites-reads g.D.Disk (IsOfHalf c.args.writer.layout c.args.writer.half) c.args.disk.now c.finish.new.disk c.sync.new.self c.finish.ensures.wrote
      (record { keeps = c.sync.ensures.keeps; stayed = c.sync.ensures.images });
  second = inr (
    λ tells. (
      c.in_ok-sync.ensures.settled tells,
      HalfStands-same (g.D.Disk.story c.finish.new.disk).reads (g.D.Disk.story c.sync.new.self).reads c.args.writer.layout c.args.writer.half c.args.writer.last states
          ((c.sync.ensures.images tells).reads)
          (record { spells = c.in_ok-finish.ensures.spells tells states half had (stood tells); gate = c.in_ok-finish.ensures.gate tells }),
    ),
    c.flip.ensures.wrote,
  );
}

pub returns-clause-windows : goal.returns-clause-windows
returns-clause-windows g c states half had stood = record {
  mid = c.sync.new.self;
  first =
      OnlyWrites-reads g.D.Disk (IsOfHalf c.args.writer.layout c.args.writer.half) c.args.disk.now c.finish.new.disk c.sync.new.self c.finish.ensures.wrote
      (record { keeps = c.sync.ensures.keeps; stayed = c.sync.ensures.images });
  second = inr (
    λ tells. (
      c.in_ok-sync.ensures.settled tells,
      HalfStands-same (g.D.Disk.story c.finish.new.disk).reads (g.D.Disk.story c.sync.new.self).reads c.args.writer.layout c.args.writer.half c.args.writer.last states
          ((c.sync.ensures.images tells).reads)
          (record { spells = c.in_ok-finish.ensures.spells tells states half had (stood tells); gate = c.in_ok-finish.ensures.gate tells }),
    ),
    OnlyWrites-reads g.D.Disk (λ p. p ≡ 0) c.sync.new.self c.flip.new.disk c.sync-2.new.self c.flip.ensures.wrote
        (record { keeps = c.sync-2.ensures.keeps; stayed = c.sync-2.ensures.images }),
  );
}
