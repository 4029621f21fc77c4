-- Steps of reading tuples.
use Rattle.std.proofs.Common.{◌≡◌, ℕ, zero, suc, ◌+◌, ◌<◌, ◌≤◌, Bool, List, [], ◌∷◌, ◌++◌, length, drop, Some, refl, sym, ap, ◌∙◌, subst, arith, length-append}
use Rattle.std.specs.Prelude.{IsTrue, slice_get}
use Rattle.std.specs.Ordering.{is_lt}
use Rattle.std.proofs.lemmas.List.{append-nil, length-map}
use Rattle.store_model.specs.HalfRefusals.{AreTuples, may_follow, rules_behind, tuples_bytes}
use Rattle.store_model.specs.Key.{key_order}
use Rattle.store_model.specs.State.{State}
use Rattle.store_model.specs.Tuple.{IsAtFront, spelling}
use Rattle.store_model.specs.TupleFields.{IsBadTuple}
use Rattle.store_model.proofs.TupleListLaws.{AreTuples-none, AreTuples-push, may_follow-last, tuples_bytes-push}
use Rattle.blob_state.specs.declared.reader.Tuple.{Tuple}
use Rattle.check_point.specs.Tuples.{DoEndEarly, IsRefusedAt, model_tuple, model_tuples}
use Rattle.check_point.specs.declared.tuples.Keyed.{Keyed}

-- an element of the tuples
model-at : (tuples : List Keyed) (i : ℕ) (one : Keyed) → slice_get tuples i ≡ Some one → slice_get (model_tuples tuples) i ≡ Some (model_tuple one)
model-at [] i one is = absurd (cc is)
model-at (first ∷ tuples) zero one is = let same : first ≡ one = cc is in ap (λ (t : Keyed). Some (model_tuple t)) same
model-at (first ∷ tuples) (suc i) one is = model-at tuples i one is

-- a key may follow tuples where it is greater than that of the last
pub follows-last : (tuples : List Keyed) (i : ℕ) (last : Keyed) (key : List ℕ) (told : Bool) → slice_get tuples i ≡ Some last → i + 1 ≡ length tuples
    → told ≡ is_lt (key_order last.key key) → told ≡ may_follow (model_tuples tuples) key
follows-last tuples i last key told at end is =
    is ∙ sym (may_follow-last (model_tuples tuples) i (model_tuple last) key (model-at tuples i last at) (end ∙ sym (length-map tuples model_tuple)))

-- So many tuples are read, up to this offset.
pub record ReadSoFar (pages last : ℕ) (stored : List ℕ) (tuples : List Keyed) (at number : ℕ) : Type 0 where
  pub are : AreTuples pages last stored (model_tuples tuples)
  pub end : at ≡ length (tuples_bytes (model_tuples tuples))
  pub many : length tuples ≡ number

-- none yet
pub ReadSoFar-none : (pages last : ℕ) (stored : List ℕ) (tuples : List Keyed) → tuples ≡ [] → ReadSoFar pages last stored tuples 0 0
ReadSoFar-none pages last stored tuples none =
    subst (λ (ts : List Keyed). ReadSoFar pages last stored ts 0 0) (sym none)
    (record { are = AreTuples-none pages last stored; end = refl; many = refl })

-- the offset lies within the bytes
pub at-within : (pages last : ℕ) (stored : List ℕ) (tuples : List Keyed) (at number : ℕ) → ReadSoFar pages last stored tuples at number → at ≤ length stored
at-within pages last stored tuples at number so_far =
    omega (arith, so_far.end, ap length so_far.are.stored_is, length-append (tuples_bytes (model_tuples tuples)) so_far.are.rest)

-- one more
pub ReadSoFar-next : (pages last : ℕ) (stored rest : List ℕ) (tuples next : List Keyed) (tuple : Tuple) (at number : ℕ)
    → ReadSoFar pages last stored tuples at number → rest ≡ drop at stored → IsAtFront pages rest tuple.key tuple.state → tuple.state.born ≤ last
    → IsTrue (may_follow (model_tuples tuples) tuple.key) → tuple.length ≡ length (spelling tuple.key tuple.state)
    → model_tuples next ≡ model_tuples tuples ++ (tuple.key, tuple.state) ∷ []
    → ReadSoFar pages last stored next (at + tuple.length) (number + 1)
ReadSoFar-next pages last stored rest tuples next tuple at number so_far rest_is front born follows long next_is =
    let behind : rest ≡ drop (length (tuples_bytes (model_tuples tuples))) stored = rest_is ∙ ap (λ (n : ℕ). drop n stored) so_far.end in
    let more : length (model_tuples next) ≡ length (model_tuples tuples) + 1 = ap length next_is ∙ length-append (model_tuples tuples) ((tuple.key, tuple.state) ∷ []) in
    record {
      are = subst (AreTuples pages last stored) (sym next_is)
          (AreTuples-push pages last stored (model_tuples tuples) tuple.key tuple.state so_far.are
          (subst (λ (bytes : List ℕ). IsAtFront pages bytes tuple.key tuple.state) behind front) born follows);
      end = omega (
        arith,
        so_far.end,
        long,
        ap (λ (ts : List (List ℕ × State)). length (tuples_bytes ts)) next_is,
        ap length (tuples_bytes-push (model_tuples tuples) tuple.key tuple.state),
        length-append (tuples_bytes (model_tuples tuples)) (spelling tuple.key tuple.state),
      );
      many = omega (arith, more, length-map next model_tuple, length-map tuples model_tuple, so_far.many);
    }

-- a tuple that is refused behind them
pub refused-here : (pages last count : ℕ) (stored rest : List ℕ) (tuples : List Keyed) (at number place total : ℕ)
    → ReadSoFar pages last stored tuples at number → number < count → rest ≡ drop at stored
    → IsBadTuple (rules_behind (model_tuples tuples) last) pages rest place → total ≡ at + place → IsRefusedAt pages last count stored total
refused-here pages last count stored rest tuples at number place total so_far few rest_is bad total_is =
    record {
      tuples = model_tuples tuples;
      are = so_far.are;
      few = omega (arith, length-map tuples model_tuple, so_far.many, few);
      place = place;
      bad = subst (λ (bytes : List ℕ). IsBadTuple (rules_behind (model_tuples tuples) last) pages bytes place)
          (rest_is ∙ ap (λ (n : ℕ). drop n stored) so_far.end) bad;
      at_is = omega (arith, total_is, so_far.end);
    }

-- they end before the bytes do
pub end-early : (pages last count : ℕ) (stored : List ℕ) (tuples : List Keyed) (at number : ℕ) → ReadSoFar pages last stored tuples at number
    → number ≡ count → at < length stored → DoEndEarly pages last count stored
end-early pages last count stored tuples at number so_far all early =
    record {
      tuples = model_tuples tuples;
      are = so_far.are;
      all = length-map tuples model_tuple ∙ so_far.many ∙ all;
      early = omega (arith, so_far.end, early);
    }

-- they take all of the bytes
pub all-read : (pages last : ℕ) (stored : List ℕ) (tuples : List Keyed) (at number : ℕ) → ReadSoFar pages last stored tuples at number
    → length stored ≤ at → tuples_bytes (model_tuples tuples) ≡ stored
all-read pages last stored tuples at number so_far end =
    let bytes : List ℕ = tuples_bytes (model_tuples tuples) in
    let none : so_far.are.rest ≡ [] = no-bytes so_far.are.rest (omega (arith, so_far.end, end, ap length so_far.are.stored_is, length-append bytes so_far.are.rest)) in
    sym (so_far.are.stored_is ∙ ap (λ (xs : List ℕ). bytes ++ xs) none ∙ append-nil bytes) where
      no-bytes : (xs : List ℕ) → length xs ≤ 0 → xs ≡ []
      no-bytes [] few = refl
      no-bytes (x ∷ xs) few = absurd (omega (arith, few))
