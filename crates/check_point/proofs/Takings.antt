-- One more tuple.
use Rattle.std.proofs.Common.{◌≡◌, ℕ, ◌+◌, ◌/◌, List, [], ◌∷◌, ◌++◌, length, sym, ap, ◌∙◌, subst, arith, length-append}
use Rattle.std.proofs.lemmas.List.{flat_map_more}
use Rattle.store_model.specs.Disk.{Image, page_bytes}
use Rattle.store_model.specs.Layout.{states_page}
use Rattle.store_model.specs.State.{State}
use Rattle.store_model.specs.Tuple.{spelling}
use Rattle.check_point.specs.Halves.{Ends, Stand, spelled}
use Rattle.check_point.specs.Writers.{HasTaken, Parts}

-- the bytes of one tuple more
pub spelled-push : (tuples : List (List ℕ × State)) (key : List ℕ) (state : State) (bytes : List ℕ) → bytes ≡ spelling key state
    → spelled tuples ++ bytes ≡ spelled (tuples ++ (key, state) ∷ [])
spelled-push tuples key state bytes is =
    ap (λ (xs : List ℕ). spelled tuples ++ xs) is
    ∙ flat_map_more (λ (tuple : List ℕ × State). spelling tuple.0 tuple.1) [] tuples (key, state)

-- a writer has taken one tuple more
pub HasTaken-push : (view mine new : Parts) (bytes : List ℕ) (tuples : List (List ℕ × State)) (key : List ℕ) (state : State)
    → mine ≡ view → bytes ≡ spelling key state → new.count ≡ mine.count + 1 → new.taken ≡ mine.taken + length bytes
    → ((before : List ℕ) → Ends before mine.taken mine.page → Ends (before ++ bytes) (mine.taken + length bytes) new.page)
    → HasTaken view tuples → HasTaken new (tuples ++ (key, state) ∷ [])
HasTaken-push view mine new bytes tuples key state same is count_is taken_is ends had =
    let old : HasTaken mine tuples = subst (λ (parts : Parts). HasTaken parts tuples) (sym same) had in
    record {
      count = omega (arith, length-append tuples ((key, state) ∷ []), old.count, count_is);
      ends = subst (λ (xs : List ℕ). Ends xs new.taken new.page) (spelled-push tuples key state bytes is)
          (subst (λ (n : ℕ). Ends (spelled tuples ++ bytes) n new.page) (sym taken_is) (ends (spelled tuples) old.ends));
    }

-- and its full pages stand
pub Stand-push : (view mine : Parts) (first next : ℕ) (bytes : List ℕ) (tuples : List (List ℕ × State)) (key : List ℕ) (state : State) (old new : Image)
    → mine ≡ view → first ≡ states_page mine.layout mine.half → bytes ≡ spelling key state → next ≡ mine.taken + length bytes
    → ((before : List ℕ) → Ends before mine.taken mine.page → Stand first (mine.taken / page_bytes) before old
    → Stand first ((mine.taken + length bytes) / page_bytes) (before ++ bytes) new)
    → HasTaken view tuples → Stand (states_page view.layout view.half) (view.taken / page_bytes) (spelled tuples) old
    → Stand (states_page view.layout view.half) (next / page_bytes) (spelled (tuples ++ (key, state) ∷ [])) new
Stand-push view mine first next bytes tuples key state old new same first_is is next_is stand had stood =
    let begun : HasTaken mine tuples = subst (λ (parts : Parts). HasTaken parts tuples) (sym same) had in
    let place : states_page view.layout view.half ≡ first = ap (λ (parts : Parts). states_page parts.layout parts.half) (sym same) ∙ sym first_is in
    let at : view.taken ≡ mine.taken = ap (λ (parts : Parts). parts.taken) (sym same) in
    let before : Stand first (mine.taken / page_bytes) (spelled tuples) old =
    subst (λ (p : ℕ). Stand p (mine.taken / page_bytes) (spelled tuples) old) place
    (subst (λ (n : ℕ). Stand (states_page view.layout view.half) (n / page_bytes) (spelled tuples) old) at stood) in
    subst (λ (p : ℕ). Stand p (next / page_bytes) (spelled (tuples ++ (key, state) ∷ [])) new) (sym place)
    (subst (λ (n : ℕ). Stand first (n / page_bytes) (spelled (tuples ++ (key, state) ∷ [])) new) (sym next_is)
    (subst (λ (xs : List ℕ). Stand first ((mine.taken + length bytes) / page_bytes) xs new) (spelled-push tuples key state bytes is)
    (stand (spelled tuples) begun.ends before)))
