-- What is left behind the fields is as long as the extents and the tail.
use Rattle.std.proofs.Common.{◌≡◌, ◌+◌, ◌*◌, length, ap, sym, ◌∙◌, arith}
use Rattle.std.proofs.lemmas.List.{length-map}
use Rattle.store_model.specs.State.{State}
use Rattle.store_model.specs.Tuple.{state_spelling, tail_spelling}
use Rattle.store_model.proofs.StateLaws.{length-state_spelling}
use Rattle.blob_state.specs.Fields.{state_of}
use Rattle.blob_state.specs.Values.{extent_of}
use Rattle.blob_state.proofs.tuple.write_state.Goals as goal

pub write_places-requires-clause-room : goal.write_places-requires-clause-room
write_places-requires-clause-room c =
    let state : State = state_of c.state.inside in
    let whole : length c.args.out.now ≡ 76 + (36 * length state.extents + length (tail_spelling state.tail)) =
    c.requires ∙ ap (λ (s : State). length (state_spelling s)) (sym c.state.view_is)
    ∙ length-state_spelling state c.state.invariant.digest c.state.invariant.prefix.bytes c.state.invariant.marks in
    let count : length state.extents ≡ length c.state.inside.extents.items = length-map c.state.inside.extents.items extent_of in
    omega (arith, whole, count, ap length c.as_slice-extents.ensures.value, c.split_at_mut-fields.ensures.back_len)
