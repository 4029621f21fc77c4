use Rattle.std.proofs.Common.{◌++◌, ◌∙◌, List, subst, sym, refl, arith}
use Rattle.std.specs.List.Sorted.{IsPermutation}
use Rattle.relation.specs.Parts.{owned_by}
use Rattle.store_model.specs.Group.{commits_of, taken_blocks}
use Rattle.store_model.specs.Space.{Block}
use Rattle.group_plan.specs.Plans.{DoesLengthen}
use Rattle.group_plan.proofs.Adding.{owned-listed}
use Rattle.group_plan.proofs.Blocks.{Moves-none, Moves-then}
use Rattle.group_plan.proofs.Gathering.{Gathered-next, Gathered-none, Gathers-all, Gathers-touched, all-at}
use Rattle.group_plan.proofs.plan.gather.Goals as goal

pub added-init : goal.added-init
added-init c =
    let new = c.new-group.ensures in
    Gathered-none c.args.relation.now.states c.args.limits c.args.queue.now c.new-group.result c.args.space.now c.args.takings.now new.replies new.entries new.members new.frees new.grown new.last c.requires.none
    (Moves-none c.args.space.now c.args.space.now c.args.takings.now c.args.takings.now refl refl refl refl c.requires.listed (omega arith)) (omega (arith, c.bytes.ensures.value, c.bytes.ensures.few)) c.requires.last

pub returns-then-does_touch-clause-gathered : goal.returns-then-does_touch-clause-gathered
returns-then-does_touch-clause-gathered c =
    Gathers-touched c.args.relation.now.states c.args.limits c.args.queue.now c.added.i c.get-request.result.now c.added.group c.args.space.now c.added.space c.args.takings.now c.added.takings
    c.added.invariant c.get-request.ensures (sym c.does_touch.ensures ∙ c.if-does_touch.true)

pub add-requires-clause-owned : goal.add-requires-clause-owned
add-requires-clause-owned c =
    let owned = owned_by c.args.relation.now.states in
    owned-listed (taken_blocks (commits_of c.added.invariant.done)) c.args.space.now c.added.space c.args.takings.now c.added.takings owned c.added.invariant.moves
    (subst (λ (bs : List Block). IsPermutation c.args.space.now.owned (bs ++ owned)) (sym c.requires.none) c.requires.owned)

pub add-requires-clause-lengthen : goal.add-requires-clause-lengthen
add-requires-clause-lengthen c = all-at (DoesLengthen c.args.relation.now.states) c.args.queue.now c.added.i c.get-request.result.now c.requires.lengthen c.get-request.ensures

pub returns-in_err-add-clause-moved : goal.returns-in_err-add-clause-moved
returns-in_err-add-clause-moved c =
    let before = taken_blocks (commits_of c.added.invariant.done) in
    let more = c.add.ensures.moved in
    (before ++ more.0, Moves-then before more.0 c.args.space.now c.added.space c.add.new.space c.args.takings.now c.added.takings c.add.new.takings c.added.invariant.moves more.1)

pub added-preserved : goal.added-preserved
added-preserved c =
    Gathered-next c.args.relation.now.states c.args.limits c.args.queue.now c.added.i c.get-request.result.now c.added.group c.add.new.self c.args.space.now c.added.space c.add.new.space c.args.takings.now c.added.takings c.add.new.takings
    c.added.invariant c.get-request.ensures (sym c.does_touch.ensures ∙ c.if-does_touch.false) c.in_ok-add.ensures.added

pub returns-clause-gathered : goal.returns-clause-gathered
returns-clause-gathered c =
    Gathers-all c.args.relation.now.states c.args.limits c.args.queue.now c.added.i c.added.group c.args.space.now c.added.space c.args.takings.now c.added.takings c.added.invariant (omega (arith, c.len-i-end.ensures, c.added-test.false))
