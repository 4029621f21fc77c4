use Rattle.std.proofs.Common.{◌≡◌, ◌∙◌, ◌+◌, ◌++◌, ◌≤◌, ℕ, suc, List, length, take, ap, sym, arith}
use Rattle.std.specs.List.{flat_map}
use Rattle.std.specs.FinMap.{entries, len-entries}
use Rattle.std.proofs.lemmas.List.{take_all}
use Rattle.store_model.specs.State.{State}
use Rattle.store_model.specs.Tuple.{spelling}
use Rattle.vault.proofs.Pourings.{flat-more}
use Rattle.vault.proofs.keeping.states_form.Goals as goal

-- a state's stored form
abbrev form : List ℕ × State → List ℕ
form entry = spelling entry.0 entry.1

pub spelled-preserved : goal.spelled-preserved
spelled-preserved c =
    let es : List (List ℕ × State) = entries c.args.relation.now.states in
    let next : suc c.spelled.i ≡ c.spelled.i + 1 = omega arith in
    c.in_ok-encode.ensures.ok ∙ ap (λ (bytes : List ℕ). bytes ++ form (c.nth.result.0.now, c.nth.result.1.now)) c.spelled.invariant
    ∙ sym (flat-more form es c.spelled.i (c.nth.result.0.now, c.nth.result.1.now) c.nth.ensures) ∙ ap (λ (n : ℕ). flat_map form (take n es)) next

pub returns : goal.returns
returns c =
    let es : List (List ℕ × State) = entries c.args.relation.now.states in
    let all : length es ≤ c.spelled.i = omega (arith, c.spelled-test.false, c.len-i-end.ensures, len-entries c.args.relation.now.states) in
    c.spelled.invariant ∙ ap (λ (ones : List (List ℕ × State)). flat_map form ones) (take_all c.spelled.i es all)
