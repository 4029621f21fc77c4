use Rattle.std.proofs.Common.{◌++◌, [], ◌∷◌, ℕ, List, Option, take, sym, ◌∙◌, ap, arith, append_assoc, append-nil}
use Rattle.std.specs.Prelude.{option_copied, option_map}
use Rattle.std.specs.FinMap as map
use Rattle.std.specs.FinMap.{len-entries}
use Rattle.std.proofs.lemmas.Grind.{flat_map-append}
use Rattle.store_model.specs.Placing.{left_blocks}
use Rattle.store_model.specs.Space.{Block}
use Rattle.store_model.specs.State.{State}
use Rattle.txn.specs.Requests.{need_of}
use Rattle.txn.specs.declared.change.Change.{Change}
use Rattle.group_plan.specs.Frees.{left_by}
use Rattle.group_plan.specs.Plans.{holding_of, holdings_by}
use Rattle.group_plan.proofs.Walks.{take-end, take-next}
use Rattle.group_plan.proofs.giving.add_frees.Goals as goal

pub added-preserved : goal.added-preserved
added-preserved c =
    let held = holdings_by c.args.relation.now.states in
    let all = map.entries c.args.changes.now in
    let one : List ℕ × Change = (c.nth.result.0.now, c.nth.result.1.now) in
    let left : List ℕ × Change → List Block = λ (x : List ℕ × Change). left_blocks (need_of x.1) (held x.0) in
    c.in_ok-add_left.ensures
    ∙ ap (λ (bs : List Block). bs ++ left_blocks (need_of c.nth.result.1.now) (option_map holding_of (option_copied c.get.result))) c.added.invariant
    ∙ ap (λ (o : Option State). (c.args.frees.now ++ left_by held (take c.added.i all)) ++ left_blocks (need_of c.nth.result.1.now) (option_map holding_of o)) c.get.ensures
    ∙ append_assoc c.args.frees.now (left_by held (take c.added.i all)) (left one)
    ∙ ap (λ (bs : List Block). c.args.frees.now ++ (left_by held (take c.added.i all) ++ bs)) (sym (append-nil (left one)))
    ∙ ap (λ (bs : List Block). c.args.frees.now ++ bs) (sym (flat_map-append left (take c.added.i all) (one ∷ [])))
    ∙ ap (λ (es : List (List ℕ × Change)). c.args.frees.now ++ left_by held es) (sym (take-next all c.added.i one c.nth.ensures))

pub returns : goal.returns
returns c =
    c.added.invariant
    ∙ ap (λ (es : List (List ℕ × Change)). c.args.frees.now ++ left_by (holdings_by c.args.relation.now.states) es)
    (take-end (map.entries c.args.changes.now) c.added.i (omega (arith, c.len-i-end.ensures, len-entries c.args.changes.now, c.added-test.false)))
