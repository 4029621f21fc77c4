use Rattle.std.proofs.Common.{rules, ◌≡◌, ◌∙◌, ℕ, List, length, refl, ap, arith}
use Rattle.std.proofs.lemmas.List.{length-map}
use Rattle.std.specs.FinMap.{insert}
use Rattle.std.specs.Vec.Iter.{into_iter_items, into_iter_len}
use Rattle.check_point.specs.Tuples.{model_tuple, model_tuples}
use Rattle.store_model.specs.State.{State}
use Rattle.recover.proofs.Adoptings.{Adopting-all, Adopting-bytes, Adopting-missing, Adopting-next, Adopting-none}
use Rattle.recover.proofs.start.relation_of.Goals as goal

pub adopted-init : goal.adopted-init
adopted-init c =
    let long : into_iter_len c.into_iter-tuple-iterator.result ≡ length (into_iter_items c.into_iter-tuple-iterator.result) = search rules in
    Adopting-none (model_tuples c.args.tuples) _ _ c.new-relation.result.states c.new-relation.ensures.states
    (ap model_tuples (c.into_iter-tuple-iterator.ensures.into_iter_gives.0 ∙ c.into_vec-tuple-items.ensures))
    (omega (arith, long, length-map {B = List ℕ × State} (into_iter_items c.into_iter-tuple-iterator.result) model_tuple))

pub adopt-requires-clause-missing : goal.adopt-requires-clause-missing
adopt-requires-clause-missing c =
    Adopting-missing c.requires.0 (model_tuples c.args.tuples) _ (model_tuples (into_iter_items c.next.new.self)) _ c.adopted.relation.states (model_tuple c.in-Some.tuple)
    c.requires.1 c.adopted.invariant (ap model_tuples c.in-Some.ensures.steps.0)

pub adopt-requires-clause-bytes : goal.adopt-requires-clause-bytes
adopt-requires-clause-bytes c =
    let one : List ℕ × State = model_tuple c.in-Some.tuple in
    let left : List (List ℕ × State) = model_tuples (into_iter_items c.next.new.self) in
    let next = Adopting-next c.requires.0 (model_tuples c.args.tuples) _ left _ (into_iter_len c.next.new.self) c.adopted.relation.states (insert c.adopted.relation.states one.0 one.1) one
    c.requires.1 c.adopted.invariant (ap model_tuples c.in-Some.ensures.steps.0) c.in-Some.ensures.steps.1 refl in
    omega (arith, c.requires.2, Adopting-bytes c.requires.0 (model_tuples c.args.tuples) left _ _ c.requires.1 next)

pub adopted-preserved : goal.adopted-preserved
adopted-preserved c =
    Adopting-next c.requires.0 (model_tuples c.args.tuples) _ (model_tuples (into_iter_items c.next.new.self)) _ (into_iter_len c.next.new.self) c.adopted.relation.states c.adopt.new.self.states
    (model_tuple c.in-Some.tuple) c.requires.1 c.adopted.invariant (ap model_tuples c.in-Some.ensures.steps.0) c.in-Some.ensures.steps.1 c.in_ok-adopt.ensures.states

pub returns : goal.returns
returns c states are = Adopting-all states (model_tuples c.args.tuples) _ _ c.adopted.relation.states are c.adopted.invariant c.in-None.ensures.steps.0
