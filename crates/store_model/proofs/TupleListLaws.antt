-- Laws of tuples one behind the other, whose keys rise.
use Rattle.std.proofs.Common.{◌≡◌, ℕ, zero, suc, ◌+◌, ◌≤◌, Bool, true, false, ◌&&◌, List, [], ◌∷◌, ◌++◌, length, drop, Some, refl, sym, ap, ◌∙◌, subst, arith, add-one, append_assoc}
use Rattle.std.proofs.Math.Dec.{T}
use Rattle.std.specs.Prelude.{IsTrue, slice_get}
use Rattle.std.specs.Ordering.{is_lt}
use Rattle.std.specs.FinMap.Entries.{below_all, is_sorted}
use Rattle.std.specs.declared.cmp.Ordering.{Ordering}
use Rattle.std.specs.declared.cmp.Ordering.TheVariants.{Less, Equal, Greater}
use Rattle.std.proofs.Math.Seq.{drop-append_seam}
use Rattle.std.proofs.lemmas.Grind.{flat_map-append}
use Rattle.std.proofs.lemmas.List.{append-nil}
use Rattle.std.proofs.lemmas.List.Elements.{All-append, All-cons, All-nil}
use Rattle.store_model.specs.HalfRefusals.{AreTuples, DoTuplesRise, may_follow, tuples_bytes}
use Rattle.store_model.specs.Key.{key_order}
use Rattle.store_model.specs.State.{State}
use Rattle.store_model.specs.Tuple.{IsAtFront, IsTuple, spelling}
use Rattle.store_model.proofs.SortedLaws.{keys_total}

-- a key with its state
abbrev Tuple : Type 0
Tuple = List ℕ × State

-- a key that is less is Less
less-is : (o : Ordering) → IsTrue (is_lt o) → o ≡ Less
less-is Less less = refl
less-is Equal less = absurd (cc less)
less-is Greater less = absurd (cc less)

-- both of two tests
both-first : (a b : Bool) → T (a && b) → T a
both-first true b both = tt
both-first false b both = both

both-second : (a b : Bool) → T (a && b) → T b
both-second true b both = both
both-second false b both = absurd both

both-t : (a b : Bool) → T a → T b → T (a && b)
both-t true b one other = other
both-t false b one other = one

true-from : (a : Bool) → T a → IsTrue a
true-from true holds = refl
true-from false holds = absurd holds

both-of : (a b : Bool) → IsTrue a → T b → T (a && b)
both-of a b one other = subst (λ (c : Bool). T (c && b)) (sym one) other

-- what may follow some tuples may follow the last of them
pub may_follow-last : (tuples : List Tuple) (i : ℕ) (last : Tuple) (key : List ℕ) → slice_get tuples i ≡ Some last → i + 1 ≡ length tuples
    → may_follow tuples key ≡ is_lt (key_order last.0 key)
may_follow-last [] i last key is end = absurd (omega (arith, end))
may_follow-last (one ∷ []) zero last key is end = let same : one ≡ last = cc in ap (λ (t : Tuple). is_lt (key_order t.0 key)) same
may_follow-last (one ∷ []) (suc i) last key is end = absurd (omega (arith, end))
may_follow-last (one ∷ other ∷ tuples) zero last key is end = absurd (omega (arith, end))
may_follow-last (one ∷ other ∷ tuples) (suc i) last key is end = may_follow-last (other ∷ tuples) i last key is (omega (arith, end))

-- the tuples behind the first rise too
pub rise-tail : (one : Tuple) (tuples : List Tuple) → DoTuplesRise (one ∷ tuples) → DoTuplesRise tuples
rise-tail one tuples rise i a b at next =
    rise (suc i) a b at (subst (λ (n : ℕ). slice_get (one ∷ tuples) n ≡ Some b) (let e : suc (i + 1) ≡ suc i + 1 = omega arith in e) next)

-- the first two rise
pub rise-first : (one other : Tuple) (tuples : List Tuple) → DoTuplesRise (one ∷ other ∷ tuples) → key_order one.0 other.0 ≡ Less
rise-first one other tuples rise = rise 0 one other refl refl

-- tuples that rise, from the first two and the others
rise-cons : (one other : Tuple) (tuples : List Tuple) → key_order one.0 other.0 ≡ Less → DoTuplesRise (other ∷ tuples) → DoTuplesRise (one ∷ other ∷ tuples)
rise-cons one other tuples less rise zero a b at next =
    let first : one ≡ a = cc at in
    let second : other ≡ b = cc next in
    ap (λ (t : Tuple). key_order t.0 b.0) (sym first) ∙ ap (λ (t : Tuple). key_order one.0 t.0) (sym second) ∙ less
rise-cons one other tuples less rise (suc i) a b at next =
    rise i a b at (subst (λ (n : ℕ). slice_get (one ∷ other ∷ tuples) n ≡ Some b) (let e : suc i + 1 ≡ suc (i + 1) = omega arith in e) next)

-- one tuple
rise-one : (one : Tuple) → DoTuplesRise (one ∷ [])
rise-one one i a b at next = absurd (none (subst (λ (n : ℕ). slice_get (one ∷ []) n ≡ Some b) (add-one i) next)) where
  none : slice_get (one ∷ []) (suc i) ≡ Some b → ⊥
  none is = absurd (cc is)

-- one more tuple that may follow
pub rise-push : (tuples : List Tuple) (one : Tuple) → DoTuplesRise tuples → IsTrue (may_follow tuples one.0) → DoTuplesRise (tuples ++ one ∷ [])
rise-push [] one rise follows = rise-one one
rise-push (first ∷ []) one rise follows = rise-cons first one [] (less-is (key_order first.0 one.0) follows) (rise-one one)
rise-push (first ∷ second ∷ tuples) one rise follows =
    rise-cons first second (tuples ++ one ∷ []) (rise-first first second tuples rise) (rise-push (second ∷ tuples) one (rise-tail first (second ∷ tuples) rise) follows)

-- a key below one is below those above it
below-more : (x y : List ℕ) (tuples : List Tuple) → key_order x y ≡ Less → T (below_all key_order y tuples) → T (below_all key_order x tuples)
below-more x y [] less below = tt
below-more x y (one ∷ tuples) less below =
    let first : key_order y one.0 ≡ Less = less-is (key_order y one.0) (true-from (is_lt (key_order y one.0)) (both-first (is_lt (key_order y one.0)) (below_all key_order y tuples) below)) in
    let here : key_order x one.0 ≡ Less = keys_total.trans x y one.0 less first in
    both-of (is_lt (key_order x one.0)) (below_all key_order x tuples) (ap is_lt here)
    (below-more x y tuples less (both-second (is_lt (key_order y one.0)) (below_all key_order y tuples) below))

-- tuples that rise are in order
pub rise-sorted : (tuples : List Tuple) → DoTuplesRise tuples → T (is_sorted key_order tuples)
rise-sorted [] rise = tt
rise-sorted (one ∷ []) rise = tt
rise-sorted (one ∷ other ∷ tuples) rise =
    let rest : T (is_sorted key_order (other ∷ tuples)) = rise-sorted (other ∷ tuples) (rise-tail one (other ∷ tuples) rise) in
    let less : key_order one.0 other.0 ≡ Less = rise-first one other tuples rise in
    let behind : T (below_all key_order one.0 tuples) = below-more one.0 other.0 tuples less (both-first (below_all key_order other.0 tuples) (is_sorted key_order tuples) rest) in
    let below : T (below_all key_order one.0 (other ∷ tuples)) = both-of (is_lt (key_order one.0 other.0)) (below_all key_order one.0 tuples) (ap is_lt less) behind in
    both-t (below_all key_order one.0 (other ∷ tuples)) (is_sorted key_order (other ∷ tuples)) below rest

-- no tuple
pub AreTuples-none : (pages last : ℕ) (stored : List ℕ) → AreTuples pages last stored []
AreTuples-none pages last stored = record {
  each = All-nil (λ (one : Tuple). IsTuple pages one.0 one.1);
  born = All-nil (λ (one : Tuple). one.1.born ≤ last);
  rise = λ i one other at next. absurd (cc at);
  rest = stored;
  stored_is = refl;
}

-- the bytes of one tuple more
pub tuples_bytes-push : (tuples : List Tuple) (key : List ℕ) (state : State) → tuples_bytes (tuples ++ (key, state) ∷ []) ≡ tuples_bytes tuples ++ spelling key state
tuples_bytes-push tuples key state =
    flat_map-append (λ (one : Tuple). spelling one.0 one.1) tuples ((key, state) ∷ [])
    ∙ ap (λ (xs : List ℕ). tuples_bytes tuples ++ xs) (append-nil (spelling key state))

-- what stands behind tuples
pub AreTuples-rest : (pages last : ℕ) (stored : List ℕ) (tuples : List Tuple) (are : AreTuples pages last stored tuples) → drop (length (tuples_bytes tuples)) stored ≡ are.rest
AreTuples-rest pages last stored tuples are =
    ap (drop (length (tuples_bytes tuples))) are.stored_is ∙ drop-append_seam (tuples_bytes tuples) are.rest

-- one more tuple behind the others
pub AreTuples-push : (pages last : ℕ) (stored : List ℕ) (tuples : List Tuple) (key : List ℕ) (state : State) → AreTuples pages last stored tuples
    → IsAtFront pages (drop (length (tuples_bytes tuples)) stored) key state → state.born ≤ last → IsTrue (may_follow tuples key)
    → AreTuples pages last stored (tuples ++ (key, state) ∷ [])
AreTuples-push pages last stored tuples key state are front born follows =
    let one : Tuple = (key, state) in
    record {
      each = All-append (λ (t : Tuple). IsTuple pages t.0 t.1) tuples (one ∷ []) are.each
          (All-cons (λ (t : Tuple). IsTuple pages t.0 t.1) one [] front.tuple (All-nil (λ (t : Tuple). IsTuple pages t.0 t.1)));
      born = All-append (λ (t : Tuple). t.1.born ≤ last) tuples (one ∷ []) are.born
          (All-cons (λ (t : Tuple). t.1.born ≤ last) one [] born (All-nil (λ (t : Tuple). t.1.born ≤ last)));
      rise = rise-push tuples one are.rise follows;
      rest = front.rest;
      stored_is =
          are.stored_is
          ∙ ap (λ (xs : List ℕ). tuples_bytes tuples ++ xs) (sym (AreTuples-rest pages last stored tuples are) ∙ front.stored_is)
          ∙ sym (append_assoc (tuples_bytes tuples) (spelling key state) front.rest)
          ∙ ap (λ (xs : List ℕ). xs ++ front.rest) (sym (tuples_bytes-push tuples key state));
    }
