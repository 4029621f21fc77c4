-- What a state adds to the bytes of few states.
use Rattle.std.proofs.Common.{ℕ, List, length, arith}
use Rattle.store_model.specs.State.{State}
use Rattle.store_model.specs.Tuple.{spelling}
use Rattle.store_model.proofs.EntryLaws.{sum-insert}
use Rattle.tests_groups.proofs.relations.set.Goals as goal

pub set-requires-clause-bytes : goal.set-requires-clause-bytes
set-requires-clause-bytes g c =
    omega (
      arith,
      sum-insert (λ (key : List ℕ) (state : State). length (spelling key state)) c.args.relation.now.states c.expect-key.result c.state_of-state.result,
      c.bytes.ensures.value,
      c.encoded-longer.ensures.value,
    )
