use Rattle.std.proofs.Common.{◌≡◌, List, ℕ, [], ◌∷◌, Ok, ◌∙◌, refl, subst}
use Rattle.std.proofs.lemmas.Result.{err_from_is_err_and}
use Rattle.extent_io.specs.declared.verdict.Verdict.TheVariants.{Damaged, Whole}
use Rattle.store_model.specs.Report.{Damage, damage_line}
use Rattle.blob_report.specs.Ends.{BrokeOff, HasPrinted}
use Rattle.blob_report.specs.Reports.{IsOfLink}
use Rattle.blob_report.proofs.Checkings.{BrokeCheck-disk, BrokeCheck-line, DidCheck-one, DidCheck-whole, read-failed}
use Rattle.blob_report.proofs.checking.check_one.Goals as goal

pub unread_status-requires : goal.unread_status-requires
unread_status-requires g c =
    let vault = c.args.vault.now in
    let failed =
    read-failed vault.shut (g.D.Disk.faults vault.disk) (g.D.Disk.faults c.verify.new.self.disk) (g.D.Disk.frugal vault.disk) c.in-Err.fault
    c.requires.open c.in-Err.ensures.unread in
    (failed.0, failed.1)

pub returns-in_err-print-in-Ok-Damaged-clause-err : goal.returns-in_err-print-in-Ok-Damaged-clause-err
returns-in_err-print-in-Ok-Damaged-clause-err g c = λ state there.
    let vault = c.args.vault.now in
    let one : Damage = record { key = c.args.key; link = c.in-Ok-Damaged.link; want = c.in-Ok-Damaged.want; got = c.in-Ok-Damaged.got } in
    let a = c.in-Ok-Damaged.is in
    let b = c.in-Ok-Damaged.field-0-is in
    let is : c.verify.result ≡ Ok (Damaged one.link one.want one.got) = cc in
    let text : c.as_slice.result.now ≡ damage_line one = c.as_slice.ensures.value ∙ c.closing.ensures in
    let p = err_from_is_err_and c.from_residual.result c.from_residual.ensures.1 in
    rw (p.1, p.2)
    (BrokeCheck-line g.K.Sink g.D.Disk vault.memory.layout c.args.key state one _ c.args.sink.now c.print.new.sink vault.disk c.verify.new.self.disk
    refl (λ tells. c.verify.ensures.damaged tells state one.link one.want one.got there is)
    (subst (λ (t : List ℕ). BrokeOff g.K.Sink t c.in_err-print-in-Ok-Damaged.field-0.0 c.args.sink.now c.print.new.sink) text c.in_err-print-in-Ok-Damaged.ensures.err)
    c.verify.ensures.only.disk)

pub returns-in-Ok-Whole-clause-ok : goal.returns-in-Ok-Whole-clause-ok
returns-in-Ok-Whole-clause-ok g c = λ state there.
    let vault = c.args.vault.now in
    let a = c.in-Ok-Whole.is in
    let b = c.in-Ok-Whole.field-0-is in
    let is : c.verify.result ≡ Ok Whole = cc in
    DidCheck-whole g.K.Sink g.D.Disk vault.memory.layout c.args.key state c.args.checked.now c.args.sink.now vault.disk c.verify.new.self.disk
    (λ tells. c.verify.ensures.whole tells state there is) c.verify.ensures.only.disk

pub returns-in_ok-print-in-Ok-Damaged-clause-ok : goal.returns-in_ok-print-in-Ok-Damaged-clause-ok
returns-in_ok-print-in-Ok-Damaged-clause-ok g c = λ state there.
    let vault = c.args.vault.now in
    let one : Damage = record { key = c.args.key; link = c.in-Ok-Damaged.link; want = c.in-Ok-Damaged.want; got = c.in-Ok-Damaged.got } in
    let a = c.in-Ok-Damaged.is in
    let b = c.in-Ok-Damaged.field-0-is in
    let is : c.verify.result ≡ Ok (Damaged one.link one.want one.got) = cc in
    let text : c.as_slice.result.now ≡ damage_line one = c.as_slice.ensures.value ∙ c.closing.ensures in
    let link : IsOfLink state one = c.verify.ensures.damage state one.link one.want one.got there is in
    DidCheck-one g.K.Sink g.D.Disk vault.memory.layout c.args.key state one c.args.checked.now c.add.new.self c.args.sink.now c.print.new.sink vault.disk
    c.verify.new.self.disk refl (λ tells. c.verify.ensures.damaged tells state one.link one.want one.got there is) link
    (λ damages counted. c.add.ensures damages one counted refl)
    (subst (λ (t : List ℕ). HasPrinted g.K.Sink t c.args.sink.now c.print.new.sink) text c.in_ok-print-in-Ok-Damaged.ensures.ok) c.verify.ensures.only.disk

pub returns-in-Err-clause-err : goal.returns-in-Err-clause-err
returns-in-Err-clause-err g c = λ state there.
    let vault = c.args.vault.now in
    let failed =
    read-failed vault.shut (g.D.Disk.faults vault.disk) (g.D.Disk.faults c.verify.new.self.disk) (g.D.Disk.frugal vault.disk) c.in-Err.fault
    c.requires.open c.in-Err.ensures.unread in
    BrokeCheck-disk g.K.Sink g.D.Disk vault.memory.layout ((c.args.key, state) ∷ []) c.unread_status.result failed.0 c.args.sink.now vault.disk
    c.verify.new.self.disk (c.unread_status.ensures failed.0 failed.1) failed.2 c.verify.ensures.only.disk
