use Rattle.std.proofs.Common.{◌≡◌, ℕ, ◌+◌, ◌∙◌, List, take, drop, subst, arith}
use Rattle.std.proofs.lemmas.Result.{err_from_is_err_and}
use Rattle.std.specs.FinMap.{entries, len-entries}
use Rattle.group_plan.proofs.Walks.{take-end}
use Rattle.store_model.specs.Report.{state_line}
use Rattle.store_model.specs.State.{State}
use Rattle.blob_report.specs.Ends.{BrokeOff, HasPrinted}
use Rattle.blob_report.specs.Reports.{states_text}
use Rattle.blob_report.proofs.Printings.{BrokeOff-then, HasPrinted-then}
use Rattle.blob_report.proofs.Showings.{line-is, states-next, states-whole}
use Rattle.blob_report.proofs.showing.show_states.Goals as goal

pub returns-in_err-print-clause-err : goal.returns-in_err-print-clause-err
returns-in_err-print-clause-err g c =
    let es = entries c.args.relation.now.states in
    let one : List ℕ × State = (c.nth.result.0.now, c.nth.result.1.now) in
    let text : c.as_slice.result.now ≡ state_line one =
    c.as_slice.ensures.value ∙ line-is c.state_line-line.result.items one.0 c.size.result c.born.result c.digest.result.now.bytes one.1 c.state_line-line.ensures c.size.ensures c.digest.ensures c.born.ensures in
    let p = err_from_is_err_and c.from_residual.result c.from_residual.ensures.1 in
    rw (p.1, p.2)
    (BrokeOff-then g.K.Sink (states_text (take c.shown.i es)) (state_line one) (states_text (drop (c.shown.i + 1) es)) (states_text es) _ c.args.sink.now c.shown.sink c.print.new.sink
    (states-whole es c.shown.i one c.nth.ensures) c.shown.invariant
    (subst (λ (t : List ℕ). BrokeOff g.K.Sink t c.in_err-print.field-0.0 c.shown.sink c.print.new.sink) text c.in_err-print.ensures.err))

pub shown-preserved : goal.shown-preserved
shown-preserved g c =
    let es = entries c.args.relation.now.states in
    let one : List ℕ × State = (c.nth.result.0.now, c.nth.result.1.now) in
    let text : c.as_slice.result.now ≡ state_line one =
    c.as_slice.ensures.value ∙ line-is c.state_line-line.result.items one.0 c.size.result c.born.result c.digest.result.now.bytes one.1 c.state_line-line.ensures c.size.ensures c.digest.ensures c.born.ensures in
    subst (λ (t : List ℕ). HasPrinted g.K.Sink t c.args.sink.now c.print.new.sink) (states-next es c.shown.i one c.nth.ensures)
    (HasPrinted-then g.K.Sink (states_text (take c.shown.i es)) (state_line one) c.args.sink.now c.shown.sink c.print.new.sink c.shown.invariant
    (subst (λ (t : List ℕ). HasPrinted g.K.Sink t c.shown.sink c.print.new.sink) text c.in_ok-print.ensures.ok))

pub returns-clause-ok : goal.returns-clause-ok
returns-clause-ok g c =
    let es = entries c.args.relation.now.states in
    subst (λ es. HasPrinted g.K.Sink (states_text es) c.args.sink.now c.shown.sink)
    (take-end es c.shown.i (omega (arith, c.shown-test.false, len-entries c.args.relation.now.states, c.len-i-end.ensures))) c.shown.invariant
