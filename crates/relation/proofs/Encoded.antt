-- How many bytes entries take where they are stored, as entries come and go.
use Rattle.std.proofs.Common.{◌≡◌, ℕ, zero, suc, ◌+◌, ◌≤◌, List, [], ◌∷◌, ◌++◌, take, drop, length, get_or, Some, refl, sym, ◌∙◌, ap, subst, arith}
use Rattle.std.proofs.lemmas.List.Sums.{sum_by-cons}
use Rattle.std.specs.Prelude.{slice_get}
use Rattle.store_model.specs.State.{State}
use Rattle.store_model.specs.Tuple.{spelling}
use Rattle.store_model.specs.Key.{key_order}
use Rattle.std.specs.FinMap.{FinMap, entries-from_sorted, from_sorted, insert}
use Rattle.std.specs.FinMap.Entries.{put}
use Rattle.relation.specs.Entries.{AllBefore, AllBehind, IsAt, are_sorted, entries_of, entry_of}
use Rattle.relation.specs.Parts.{encoded_by, encoded_bytes}
use Rattle.relation.specs.declared.entries.Entry.{Entry}
use Rattle.relation.proofs.Relations.{entries-without, found-key, found-within, insert-put, sorted-put}
use Rattle.relation.proofs.Searches.{slice_get-entries}
use Rattle.store_model.proofs.SortedLaws.{put-new, put-old}

-- how many bytes one entry takes
abbrev pub bytes_of : List ℕ × State → ℕ
bytes_of entry = length (spelling entry.0 entry.1)

cons : (e : List ℕ × State) (es : List (List ℕ × State)) → encoded_bytes (e ∷ es) ≡ bytes_of e + encoded_bytes es
cons e es = sum_by-cons bytes_of e es

-- one more entry
pub encoded-new : (es : List (List ℕ × State)) (i : ℕ) (e : List ℕ × State) → encoded_bytes (take i es ++ e ∷ drop i es) ≡ encoded_bytes es + bytes_of e
encoded-new es zero e = cons e es ∙ (omega arith)
encoded-new [] (suc i) e = cons e [] ∙ (omega arith)
encoded-new (f ∷ es) (suc i) e = cons f (take i es ++ e ∷ drop i es) ∙ omega (arith, encoded-new es i e, cons f es)

-- one entry less
pub encoded-without : (es : List (List ℕ × State)) (i : ℕ) (one : List ℕ × State) → slice_get es i ≡ Some one → encoded_bytes (take i es ++ drop (suc i) es) + bytes_of one ≡ encoded_bytes es
encoded-without [] i one is = absurd (cc is)
encoded-without (e ∷ es) zero one is = let same : e ≡ one = cc in omega (arith, ap bytes_of same, cons e es)
encoded-without (e ∷ es) (suc i) one is = omega (arith, encoded-without es i one is, cons e es, cons e (take i es ++ drop (suc i) es))

-- another entry in the place of one
pub encoded-old : (es : List (List ℕ × State)) (i : ℕ) (one e : List ℕ × State) → slice_get es i ≡ Some one → encoded_bytes (take i es ++ e ∷ drop (suc i) es) + bytes_of one ≡ encoded_bytes es + bytes_of e
encoded-old [] i one e is = absurd (cc is)
encoded-old (f ∷ es) zero one e is = let same : f ≡ one = cc in omega (arith, ap bytes_of same, cons f es, cons e es)
encoded-old (f ∷ es) (suc i) one e is = omega (arith, encoded-old es i one e is, cons f es, cons f (take i es ++ e ∷ drop (suc i) es))

-- what the states of sorted entries take
pub encoded-sorted : (es : List (List ℕ × State)) → are_sorted es → encoded_by (from_sorted {R = key_order} es) ≡ encoded_bytes es
encoded-sorted es sorted = ap encoded_bytes (entries-from_sorted key_order es sorted)

-- what they take after a put
pub encoded-put : (es fs : List (List ℕ × State)) (k : List ℕ) (v : State) (m : FinMap key_order State) → are_sorted es → fs ≡ put key_order k v es → from_sorted {R = key_order} es ≡ m
    → encoded_bytes fs ≡ encoded_by (insert m k v)
encoded-put es fs k v m sorted is same =
    sym (encoded-sorted fs (sorted-put es fs k v sorted is)) ∙ ap encoded_by (insert-put es fs k v sorted is)
    ∙ ap (λ (n : FinMap key_order State). encoded_by (insert n k v)) same

-- the entry that a key was found at
pub found-entry : (kept seen : List Entry) (i : ℕ) (key : List ℕ) (d one : Entry) → seen ≡ kept → IsAt (entries_of seen) key i → one ≡ get_or kept i d → slice_get (entries_of kept) i ≡ Some (key, one.state.value)
found-entry kept seen i key d one same at is =
    slice_get-entries kept i d (found-within kept seen i key same at) ∙ ap (λ (e : Entry). Some (entry_of e)) (sym is)
    ∙ ap (λ (k : List ℕ). Some (k, one.state.value)) (found-key kept seen i key d one same at is)

-- an entry takes no more than all
pub encoded-at : (es : List (List ℕ × State)) (i : ℕ) (one : List ℕ × State) → slice_get es i ≡ Some one → bytes_of one ≤ encoded_bytes es
encoded-at es i one is = omega (arith, encoded-without es i one is)

-- a state in the place of a key's
pub encoded-put_old : (es fs : List (List ℕ × State)) (i : ℕ) (k : List ℕ) (v old : State) → are_sorted es → slice_get es i ≡ Some (k, old) → fs ≡ put key_order k v es → encoded_bytes fs + bytes_of (k, old) ≡ encoded_bytes es + bytes_of (k, v)
encoded-put_old es fs i k v old sorted at is =
    ap (λ (gs : List (List ℕ × State)). encoded_bytes gs + bytes_of (k, old)) (is ∙ put-old es i k v (k, old) sorted at refl) ∙ encoded-old es i (k, old) (k, v) at

-- a state of another key
pub encoded-put_new : (kept seen : List Entry) (fs : List (List ℕ × State)) (i : ℕ) (k : List ℕ) (v : State) → seen ≡ kept → AllBefore (entries_of seen) i k → AllBehind (entries_of seen) i k → fs ≡ put key_order k v (entries_of kept)
    → encoded_bytes fs ≡ encoded_bytes (entries_of kept) + bytes_of (k, v)
encoded-put_new kept seen fs i k v same before behind is =
    ap encoded_bytes (is ∙ put-new (entries_of kept) i k v (subst (λ (es : List Entry). AllBefore (entries_of es) i k) same before) (subst (λ (es : List Entry). AllBehind (entries_of es) i k) same behind))
    ∙ encoded-new (entries_of kept) i (k, v)

-- a state that is taken out
pub encoded-removed : (kept new : List Entry) (i : ℕ) (one : List ℕ × State) → slice_get (entries_of kept) i ≡ Some one → new ≡ take i kept ++ drop (suc i) kept → encoded_bytes (entries_of new) + bytes_of one ≡ encoded_bytes (entries_of kept)
encoded-removed kept new i one at is =
    ap (λ (es : List (List ℕ × State)). encoded_bytes es + bytes_of one) (ap entries_of is ∙ entries-without kept i) ∙ encoded-without (entries_of kept) i one at
