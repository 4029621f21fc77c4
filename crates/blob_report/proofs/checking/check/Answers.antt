use Rattle.std.proofs.Common.{◌≡◌, ℕ, List, length, ap, ◌∙◌, subst}
use Rattle.std.proofs.lemmas.Result.{err_from_is_err_and}
use Rattle.std.specs.FinMap.{len}
use Rattle.relation.specs.Parts.{Parts}
use Rattle.vault.specs.Vaults.{found_of}
use Rattle.vault.specs.declared.memory.Memory.{Memory}
use Rattle.blob_report.specs.Checks.{HasCounted}
use Rattle.blob_report.specs.Ends.{BrokeOff, HasPrinted}
use Rattle.blob_report.proofs.Checkings.{BrokeCheck-last, BrokeCheck-states, WasChecked-by, last-is, last_text}
use Rattle.blob_report.proofs.checking.check.Goals as goal

pub returns-in_err-checked-clause-err : goal.returns-in_err-checked-clause-err
returns-in_err-checked-clause-err g c =
    let vault = c.args.vault.now in
    let p = err_from_is_err_and c.from_residual.result c.from_residual.ensures.1 in
    rw (p.1, p.2)
    (BrokeCheck-states g.K.Sink g.D.Disk (found_of vault.memory) _ c.args.sink.now c.check_states.new.sink vault.disk c.check_states.new.vault.disk c.in_err-checked.ensures.err)

pub returns-in_err-print-clause-err : goal.returns-in_err-print-clause-err
returns-in_err-print-clause-err g c =
    let vault = c.args.vault.now in
    let found = found_of vault.memory in
    let did = c.in_ok-checked.ensures.ok in
    let states : c.len-states.result ≡ len found.states =
    c.len-states.ensures ∙ ap (λ (r : Parts). len r.states) c.relation.ensures ∙ ap (λ (m : Memory). len m.relation.states) c.check_states.ensures.memory in
    let text : c.as_slice.result.now ≡ last_text found (length did.damages) =
    c.as_slice.ensures.value ∙ last-is c.checked_line.result.items found c.len-states.result c.in_ok-checked.checked.damaged (length did.damages) c.checked_line.ensures states did.counted.damaged_is in
    let p = err_from_is_err_and c.from_residual-in_err-print.result c.from_residual-in_err-print.ensures.1 in
    rw (p.1, p.2)
    (BrokeCheck-last g.K.Sink g.D.Disk found (HasCounted c.in_ok-checked.checked) _ c.args.sink.now c.check_states.new.sink c.print.new.sink vault.disk c.check_states.new.vault.disk did
    (subst (λ (t : List ℕ). BrokeOff g.K.Sink t c.in_err-print.field-0.0 c.check_states.new.sink c.print.new.sink) text c.in_err-print.ensures.err))

pub returns-clause-ok : goal.returns-clause-ok
returns-clause-ok g c =
    let vault = c.args.vault.now in
    let found = found_of vault.memory in
    let did = c.in_ok-checked.ensures.ok in
    let states : c.len-states.result ≡ len found.states =
    c.len-states.ensures ∙ ap (λ (r : Parts). len r.states) c.relation.ensures ∙ ap (λ (m : Memory). len m.relation.states) c.check_states.ensures.memory in
    let text : c.as_slice.result.now ≡ last_text found (length did.damages) =
    c.as_slice.ensures.value ∙ last-is c.checked_line.result.items found c.len-states.result c.in_ok-checked.checked.damaged (length did.damages) c.checked_line.ensures states did.counted.damaged_is in
    WasChecked-by g.K.Sink g.D.Disk found c.in_ok-checked.checked c.args.sink.now c.check_states.new.sink c.print.new.sink vault.disk c.check_states.new.vault.disk did
    (subst (λ (t : List ℕ). HasPrinted g.K.Sink t c.check_states.new.sink c.print.new.sink) text c.in_ok-print.ensures.ok)
