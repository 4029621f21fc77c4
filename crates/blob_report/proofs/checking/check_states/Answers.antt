use Rattle.std.proofs.Common.{◌≡◌, ℕ, ◌+◌, ◌∙◌, List, [], ◌∷◌, ◌++◌, Some, take, drop, sym, ap, subst, arith}
use Rattle.std.specs.Prelude.{slice_get}
use Rattle.std.proofs.lemmas.List.{append_assoc, take-append-drop}
use Rattle.std.proofs.lemmas.Result.{err_from_is_err_and}
use Rattle.std.specs.FinMap.{entries, len, len-entries}
use Rattle.group_plan.proofs.Walks.{take-end, take-next}
use Rattle.recover.proofs.Owned.{entry-there}
use Rattle.relation.specs.Parts.{Parts}
use Rattle.store_model.specs.State.{State}
use Rattle.vault.specs.declared.memory.Memory.{Memory}
use Rattle.blob_report.specs.Checks.{AddsTo, DidCheck, HasCounted}
use Rattle.blob_report.proofs.Checkings.{BrokeCheck-then, DidCheck-then, entry-held}
use Rattle.blob_report.proofs.Openings.{Reads-then}
use Rattle.blob_report.proofs.checking.check_states.Goals as goal

pub check_one-requires-clause-there : goal.check_one-requires-clause-there
check_one-requires-clause-there g c =
    let mine : Memory = c.args.vault.now.memory in
    let one : List ℕ × State = (c.copy-key.result, c.nth.result.1.now) in
    let here : slice_get (entries mine.relation.states) c.checked.i ≡ Some one =
    entry-held c.relation-in-checked.result.now c.checked.vault.memory mine c.checked.i c.nth.result.0.now one c.relation-in-checked.ensures c.checked.invariant.memory c.nth.ensures c.copy-key.ensures in
    rw c.checked.invariant.memory (one.1, entry-there mine.relation.states c.checked.i one here)

pub returns-in_err-check_one-clause-err : goal.returns-in_err-check_one-clause-err
returns-in_err-check_one-clause-err g c =
    let mine : Memory = c.args.vault.now.memory in
    let es = entries mine.relation.states in
    let one : List ℕ × State = (c.copy-key.result, c.nth.result.1.now) in
    let here : slice_get es c.checked.i ≡ Some one =
    entry-held c.relation-in-checked.result.now c.checked.vault.memory mine c.checked.i c.nth.result.0.now one c.relation-in-checked.ensures c.checked.invariant.memory c.nth.ensures c.copy-key.ensures in
    let whole : es ≡ take c.checked.i es ++ (one ∷ [] ++ drop (c.checked.i + 1) es) =
    sym (take-append-drop (c.checked.i + 1) es) ∙ ap (λ (xs : List (List ℕ × State)). xs ++ drop (c.checked.i + 1) es) (take-next es c.checked.i one here)
    ∙ append_assoc (take c.checked.i es) (one ∷ []) (drop (c.checked.i + 1) es) in
    let broke = rw c.checked.invariant.memory at c.in_err-check_one.ensures.err in
    let p = err_from_is_err_and c.from_residual.result c.from_residual.ensures.1 in
    rw (p.1, p.2)
    (BrokeCheck-then g.K.Sink g.D.Disk mine.layout (take c.checked.i es) (one ∷ []) (drop (c.checked.i + 1) es) es (HasCounted c.checked.checked) _
    c.args.sink.now c.checked.sink c.check_one.new.sink c.args.vault.now.disk c.checked.vault.disk c.check_one.new.vault.disk whole c.checked.invariant.did
    (broke one.1 (entry-there mine.relation.states c.checked.i one here)))

pub checked-preserved : goal.checked-preserved
checked-preserved g c =
    let mine : Memory = c.args.vault.now.memory in
    let es = entries mine.relation.states in
    let one : List ℕ × State = (c.copy-key.result, c.nth.result.1.now) in
    let here : slice_get es c.checked.i ≡ Some one =
    entry-held c.relation-in-checked.result.now c.checked.vault.memory mine c.checked.i c.nth.result.0.now one c.relation-in-checked.ensures c.checked.invariant.memory c.nth.ensures c.copy-key.ensures in
    let did = rw c.checked.invariant.memory at c.in_ok-check_one.ensures.ok in
    record {
      did =
          subst (λ (xs : List (List ℕ × State)). DidCheck g.K.Sink g.D.Disk mine.layout xs (HasCounted c.check_one.new.checked) c.args.sink.now c.check_one.new.sink c.args.vault.now.disk
          c.check_one.new.vault.disk) (sym (take-next es c.checked.i one here))
          (DidCheck-then g.K.Sink g.D.Disk mine.layout (take c.checked.i es) (one ∷ []) (HasCounted c.checked.checked) (AddsTo c.checked.checked c.check_one.new.checked)
          (HasCounted c.check_one.new.checked) c.args.sink.now c.checked.sink c.check_one.new.sink c.args.vault.now.disk c.checked.vault.disk c.check_one.new.vault.disk
          (λ a b counted adds. adds a counted) c.checked.invariant.did (did one.1 (entry-there mine.relation.states c.checked.i one here)));
      memory = c.check_one.ensures.memory ∙ c.checked.invariant.memory;
      shut = c.check_one.ensures.shut ∙ c.checked.invariant.shut;
      still = λ tells. Reads-then (g.D.Disk.calls c.args.vault.now.disk) (g.D.Disk.calls c.checked.vault.disk) (g.D.Disk.calls c.check_one.new.vault.disk)
          (c.checked.invariant.still tells) (c.check_one.ensures.still tells);
    }

pub returns-clause-ok : goal.returns-clause-ok
returns-clause-ok g c =
    let mine : Memory = c.args.vault.now.memory in
    let es = entries mine.relation.states in
    subst (λ es. DidCheck g.K.Sink g.D.Disk mine.layout es (HasCounted c.checked.checked) c.args.sink.now c.checked.sink c.args.vault.now.disk c.checked.vault.disk)
    (take-end es c.checked.i
    (omega (arith, c.checked-test.false, len-entries mine.relation.states, c.len-i-end.ensures ∙ ap (λ (r : Parts). len r.states) c.relation.ensures)))
    c.checked.invariant.did
