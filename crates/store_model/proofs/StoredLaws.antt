-- How many bytes an object takes where its state is stored.
use Rattle.std.proofs.Common.{◌≡◌, ℕ, List, length, Option, Some, None, refl, ◌∙◌, arith}
use Rattle.std.proofs.lemmas.List.{length-map}
use Rattle.store_model.specs.Holds.{place_of}
use Rattle.store_model.specs.Placing.{object_bytes}
use Rattle.store_model.specs.State.{Extent, IsState, State}
use Rattle.store_model.specs.Tuple.{spelling, stored_tail, tail_spelling}
use Rattle.store_model.proofs.StateLaws.{length-spelling}

-- how long a tail's spelling is
pub length-tail_spelling : (tail : Option ℕ) → length (tail_spelling tail) ≡ stored_tail tail
length-tail_spelling None = refl
length-tail_spelling (Some page) = refl

-- the stored form of a state has as many bytes as its object takes
pub length-stored : (key : List ℕ) (state : State) → IsState state → length (spelling key state) ≡ object_bytes key (place_of state)
length-stored key state sound =
    length-spelling key state sound.digest sound.prefix.bytes sound.marks
    ∙ omega (arith, length-tail_spelling state.tail, length-map state.extents (λ (e : Extent). e.head))
