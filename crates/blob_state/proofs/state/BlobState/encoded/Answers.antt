-- The parts of a spelling, added up.
use Rattle.std.proofs.Common.{◌≡◌, ℕ, ◌+◌, ◌*◌, ap, sym, arith, List, length, ◌∙◌}
use Rattle.std.proofs.lemmas.List.{length-map}
use Rattle.store_model.specs.State.{State}
use Rattle.store_model.specs.Tuple.{spelling, tail_spelling}
use Rattle.store_model.proofs.StateLaws.{length-spelling}
use Rattle.store_model.proofs.StoredLaws.{length-tail_spelling}
use Rattle.blob_state.specs.Fields.{state_of}
use Rattle.blob_state.specs.Values.{extent_of}
use Rattle.blob_state.proofs.state.BlobState.encoded.Goals as goal

pub returns-clause-value : goal.returns-clause-value
returns-clause-value c =
    let state : State = state_of c.self.inside in
    let key : List ℕ = c.args.key.now in
    let whole = length-spelling key state c.self.invariant.digest c.self.invariant.prefix.bytes c.self.invariant.marks in
    let count : length state.extents ≡ length c.self.inside.extents.items = length-map c.self.inside.extents.items extent_of in
    let sum : c.stored_bytes.result ≡ 1 + length key + 76 + 36 * length state.extents + length (tail_spelling state.tail) =
    omega (arith, count, length-tail_spelling state.tail, c.len.ensures.value, c.stored_bytes.ensures.value) in
    sum ∙ sym whole ∙ ap (λ (s : State). length (spelling key s)) c.self.view_is
