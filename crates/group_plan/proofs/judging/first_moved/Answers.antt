use Rattle.std.proofs.Common.{ℕ, List, not, Option, sym, ◌∙◌, ap, arith}
use Rattle.std.specs.FinMap as map
use Rattle.std.specs.FinMap.{len-entries}
use Rattle.store_model.specs.Turn.{same_number}
use Rattle.group_plan.specs.Judgements.{number_by}
use Rattle.group_plan.proofs.Walks.{find-end, find-found, find-next}
use Rattle.group_plan.proofs.judging.first_moved.Goals as goal

pub looked-preserved : goal.looked-preserved
looked-preserved c =
    let states = c.args.relation.now.states in
    c.looked.invariant
    ∙ find-next (λ (read : List ℕ × Option ℕ). not (same_number read.1 (number_by states read.0))) (map.entries c.args.reads.now) c.looked.i (c.nth.result.0.now, c.nth.result.1.now) c.nth.ensures
    (ap (λ (n : Option ℕ). not (same_number c.nth.result.1.now n)) (sym c.number_of-now.ensures) ∙ ap not (sym c.is_same-same.ensures ∙ c.if-same.true))

pub returns-in-looked : goal.returns-in-looked
returns-in-looked c =
    let states = c.args.relation.now.states in
    let moved : List ℕ × Option ℕ = (c.nth.result.0.now, c.nth.result.1.now) in (
      moved,
      c.looked.invariant
          ∙ find-found (λ (read : List ℕ × Option ℕ). not (same_number read.1 (number_by states read.0))) (map.entries c.args.reads.now) c.looked.i moved c.nth.ensures
          (ap (λ (n : Option ℕ). not (same_number c.nth.result.1.now n)) (sym c.number_of-now.ensures) ∙ ap not (sym c.is_same-same.ensures ∙ c.if-same.false)),
      cc (c.copy-key.ensures, c.number_of-now.ensures),
    )

pub returns : goal.returns
returns c =
    c.looked.invariant
    ∙ find-end (λ (read : List ℕ × Option ℕ). not (same_number read.1 (number_by c.args.relation.now.states read.0))) (map.entries c.args.reads.now) c.looked.i
    (omega (arith, c.len-i-end.ensures, len-entries c.args.reads.now, c.looked-test.false))
