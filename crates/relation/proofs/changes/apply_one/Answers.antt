use Rattle.std.proofs.Common.{◌≤◌, ap, arith, length, subst, sym}
use Rattle.store_model.specs.State.{State}
use Rattle.store_model.specs.Tuple.{greatest_tuple, spelling}
use Rattle.relation.specs.Parts.{encoded_by}
use Rattle.relation.proofs.Changings.{encoded-insert, encoded-remove}
use Rattle.relation.proofs.changes.apply_one.Goals as goal

pub set-requires-clause-bytes : goal.set-requires-clause-bytes
set-requires-clause-bytes c =
    let few : length (spelling c.in-Set.key c.in-Set.state.value) ≤ greatest_tuple =
    omega (arith, c.encoded-bytes.ensures.most, c.encoded-bytes.ensures.value, ap (λ (s : State). length (spelling c.in-Set.key s)) c.deref.ensures) in
    let here : length (spelling c.in-Set.key c.into_inner.result) ≤ greatest_tuple =
    subst (λ (s : State). length (spelling c.in-Set.key s) ≤ greatest_tuple) (sym c.into_inner.ensures) few in
    omega (arith, c.requires.bytes, encoded-insert c.args.relation.now.states c.in-Set.key c.into_inner.result here)

pub returns-in-Del-clause-bytes : goal.returns-in-Del-clause-bytes
returns-in-Del-clause-bytes c =
    omega (arith, ap encoded_by c.remove.ensures.states, encoded-remove c.args.relation.now.states c.in-Del.key)
