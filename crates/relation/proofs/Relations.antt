-- Sorted entries as a map.
use Rattle.std.proofs.Common.{◌≡◌, ℕ, zero, suc, ◌<◌, ◌≤◌, ◌⊎◌, Bool, true, false, not, cond, List, [], ◌∷◌, ◌++◌, take, drop, length, get_or, Option, Some, None, refl, sym, ◌∙◌, ap, subst, arith, inl, inr}
use Rattle.std.proofs.lemmas.Bool.{cases_lt}
use Rattle.std.proofs.Math.ListN.{set}
use Rattle.std.proofs.lemmas.List.{map-set, nil_from_length}
use Rattle.std.proofs.lemmas.Option.{slice_get_within}
use Rattle.std.specs.Prelude.{slice_get, Result, IsOk, IsTrue, is_ok, is_some}
use Rattle.std.specs.List.{insert as insert_at}
use Rattle.std.specs.FinMap.{FinMap, contains_key, empty, entries, entries-from_sorted, entries-insert, from_sorted, get, get-entries, insert, len, len-empty, len-entries, remove, get-remove, same_entries_map, same_map}
use Rattle.std.specs.FinMap.Entries.{find, find-where_key, is_sorted-put, is_sorted-where_key, put}
use Rattle.std.specs.Ordering.{eq_by_cmp, is_eq}
use Rattle.std.specs.Cmp.{eq_by_cmp_equiv, alike_right}
use Rattle.std.specs.declared.cmp.Ordering.{Ordering}
use Rattle.std.specs.declared.cmp.Ordering.TheVariants.{Equal, Less, Greater}
use Rattle.store_model.specs.Key.{key_order}
use Rattle.store_model.specs.State.{State}
use Rattle.relation.specs.Entries.{AllBefore, AllBehind, IsAt, are_sorted, entries_of, entry_of}
use Rattle.relation.specs.declared.entries.Entry.{Entry}
use Rattle.relation.proofs.Searches.{length-entries, slice_get-entries}
use Rattle.store_model.proofs.SortedLaws.{find-at, find-none, greater-less, less-greater, keys_exact, keys_total, kept-others, put-new, put-old, untied-greater, untied-less}

-- places are added until there are n
pub record Filling (n old old_room new room : ℕ) : Type 0 where
  pub most : (new ≤ n) ⊎ (new ≡ old)
  pub more : old ≤ new
  pub capacity : old_room ≤ room
  pub fits : n ≤ room

-- what the map of sorted entries has
pub get-sorted : (es : List (List ℕ × State)) (k : List ℕ) → are_sorted es → get (from_sorted {R = key_order} es) k ≡ find key_order k es
get-sorted es k sorted = get-entries (from_sorted es) k ∙ ap (find key_order k) (entries-from_sorted key_order es sorted)

pub get-found : (es : List (List ℕ × State)) (i : ℕ) (k : List ℕ) (one : List ℕ × State) → are_sorted es → slice_get es i ≡ Some one → one.0 ≡ k → get (from_sorted {R = key_order} es) k ≡ Some one.1
get-found es i k one sorted is key = get-sorted es k sorted ∙ find-at es i k one sorted is key

pub get-missing : (es : List (List ℕ × State)) (i : ℕ) (k : List ℕ) → are_sorted es → AllBefore es i k → AllBehind es i k → get (from_sorted {R = key_order} es) k ≡ None
get-missing es i k sorted before behind = get-sorted es k sorted ∙ find-none es k (λ j one is. elim (cases_lt j i) [
  | inl less ↦ untied-greater k one.0 (greater-less one.0 k (before j one less is))
  | inr le ↦ untied-less k one.0 (less-greater one.0 k (behind j one le is))
])

pub len-sorted : (es : List (List ℕ × State)) → are_sorted es → len (from_sorted {R = key_order} es) ≡ length es
len-sorted es sorted = len-entries (from_sorted es) ∙ ap length (entries-from_sorted key_order es sorted)

-- entries that a put leads to
pub sorted-put : (es fs : List (List ℕ × State)) (k : List ℕ) (v : State) → are_sorted es → fs ≡ put key_order k v es → are_sorted fs
sorted-put es fs k v sorted is = subst are_sorted (sym is) (is_sorted-put key_order keys_total k v es sorted)

pub insert-put : (es fs : List (List ℕ × State)) (k : List ℕ) (v : State) → are_sorted es → fs ≡ put key_order k v es → from_sorted {R = key_order} fs ≡ insert (from_sorted es) k v
insert-put es fs k v sorted is =
    same_entries_map (from_sorted fs) (insert (from_sorted es) k v)
    (entries-from_sorted key_order fs (sorted-put es fs k v sorted is) ∙ is ∙ ap (put key_order k v) (sym (entries-from_sorted key_order es sorted)) ∙ sym (entries-insert keys_total (from_sorted es) k v))

turned : (b : Bool) (x : Option State) → cond (not b) x None ≡ cond b None x
turned true x = refl
turned false x = refl

is-equal : (o : Ordering) → is_eq o ≡ true → o ≡ Equal
is-equal Less e = absurd (cc e)
is-equal Equal e = refl
is-equal Greater e = absurd (cc e)

-- entries without one
pub sorted-without : (es fs : List (List ℕ × State)) (i : ℕ) (k : List ℕ) (one : List ℕ × State) → are_sorted es → slice_get es i ≡ Some one → one.0 ≡ k → fs ≡ take i es ++ drop (suc i) es → are_sorted fs
sorted-without es fs i k one sorted is key without =
    subst are_sorted (kept-others es i k one sorted is key ∙ sym without) (is_sorted-where_key key_order (λ x. not (eq_by_cmp key_order k x)) es sorted)

pub remove-without : (es fs : List (List ℕ × State)) (i : ℕ) (k : List ℕ) (one : List ℕ × State) → are_sorted es → slice_get es i ≡ Some one → one.0 ≡ k → fs ≡ take i es ++ drop (suc i) es
    → from_sorted {R = key_order} fs ≡ remove (from_sorted es) k
remove-without es fs i k one sorted is key without =
    same_map keys_total keys_exact (from_sorted fs) (remove (from_sorted es) k) (λ q.
    get-sorted fs q (sorted-without es fs i k one sorted is key without)
    ∙ ap (find key_order q) (without ∙ sym (kept-others es i k one sorted is key))
    ∙ find-where_key key_order (λ x. not (eq_by_cmp key_order k x)) q (λ x t. ap (λ r. not (is_eq r)) (sym (alike_right keys_total q x k t))) es
    ∙ turned (eq_by_cmp key_order k q) (find key_order q es)
    ∙ ap (λ b. cond b None (find key_order q es)) ((eq_by_cmp_equiv keys_total).symm k q)
    ∙ ap (cond (eq_by_cmp key_order q k) None) (sym (get-sorted es q sorted))
    ∙ sym (get-remove keys_total (from_sorted es) k q))

missing-stays : (m : FinMap key_order State) (k q : List ℕ) (b : Bool) → get m k ≡ None → eq_by_cmp key_order q k ≡ b → get m q ≡ cond b None (get m q)
missing-stays m k q true none same = let equal : q ≡ k = keys_exact q k (is-equal (key_order q k) same) in ap (get m) equal ∙ none
missing-stays m k q false none same = refl

-- nothing is removed where the key isn't there
pub remove-missing : (m : FinMap key_order State) (k : List ℕ) → get m k ≡ None → m ≡ remove m k
remove-missing m k none = same_map keys_total keys_exact m (remove m k) (λ q. missing-stays m k q (eq_by_cmp key_order q k) none refl ∙ sym (get-remove keys_total m k q))

-- no entries are no keys
pub from-none : (kept : List Entry) → kept ≡ [] → from_sorted {R = key_order} (entries_of kept) ≡ empty {X = State}
from-none kept none =
    same_entries_map (from_sorted (entries_of kept)) empty
    (ap (λ (es : List Entry). entries (from_sorted {R = key_order} (entries_of es))) none ∙ entries-from_sorted key_order [] tt
    ∙ sym (nil_from_length (entries (empty {X = State})) (sym (len-entries (empty {X = State})) ∙ len-empty key_order State)))

-- an entry at an index of the map
pub nth-sorted : (kept : List Entry) (i : ℕ) (d one : Entry) → are_sorted (entries_of kept) → i < length kept → one ≡ get_or kept i d → slice_get (entries (from_sorted {R = key_order} (entries_of kept))) i ≡ Some (entry_of one)
nth-sorted kept i d one sorted within is =
    ap (λ es. slice_get es i) (entries-from_sorted key_order (entries_of kept) sorted) ∙ slice_get-entries kept i d within ∙ ap (λ (e : Entry). Some (entry_of e)) (sym is)

-- the state of a key that was found
pub found-state : (kept seen : List Entry) (i : ℕ) (key : List ℕ) (d one : Entry) → seen ≡ kept → are_sorted (entries_of kept) → IsAt (entries_of seen) key i → one ≡ get_or kept i d
    → get (from_sorted {R = key_order} (entries_of kept)) key ≡ Some one.state.value
found-state kept seen i key d one same sorted at is =
    let there : slice_get (entries_of kept) i ≡ Some (key, at.0) = ap (λ (es : List Entry). slice_get (entries_of es) i) (sym same) ∙ at.1 in
    let within : i < length kept = omega (arith, slice_get_within (entries_of kept) i (key, at.0) there, length-entries kept) in
    let here : Some (entry_of one) ≡ Some (key, at.0) = ap (λ (e : Entry). Some (entry_of e)) is ∙ sym (slice_get-entries kept i d within) ∙ there in
    let equal : entry_of one ≡ (key, at.0) = cc in
    get-found (entries_of kept) i key (key, at.0) sorted there refl ∙ ap (λ (e : List ℕ × State). Some e.1) (sym equal)

pub missing-state : (kept seen : List Entry) (i : ℕ) (key : List ℕ) → seen ≡ kept → are_sorted (entries_of kept) → AllBefore (entries_of seen) i key → AllBehind (entries_of seen) i key
    → get (from_sorted {R = key_order} (entries_of kept)) key ≡ None
missing-state kept seen i key same sorted before behind =
    get-missing (entries_of kept) i key sorted (subst (λ (es : List Entry). AllBefore (entries_of es) i key) same before) (subst (λ (es : List Entry). AllBehind (entries_of es) i key) same behind)

-- an element is replaced
set-is : {X : Type 0} (xs : List X) (i : ℕ) (y : X) → i < length xs → set xs i y ≡ take i xs ++ y ∷ drop (suc i) xs
set-is [] i y less = absurd (omega arith)
set-is (x ∷ xs) zero y less = refl
set-is (x ∷ xs) (suc i) y less = ap (λ ys. x ∷ ys) (set-is xs i y (omega arith))

entries-insert_at : (kept : List Entry) (i : ℕ) (e : Entry) → entries_of (take i kept ++ e ∷ drop i kept) ≡ take i (entries_of kept) ++ entry_of e ∷ drop i (entries_of kept)
entries-insert_at kept zero e = refl
entries-insert_at [] (suc i) e = refl
entries-insert_at (f ∷ kept) (suc i) e = ap (λ es. entry_of f ∷ es) (entries-insert_at kept i e)

pub entries-without : (kept : List Entry) (i : ℕ) → entries_of (take i kept ++ drop (suc i) kept) ≡ take i (entries_of kept) ++ drop (suc i) (entries_of kept)
entries-without [] zero = refl
entries-without [] (suc i) = refl
entries-without (f ∷ kept) zero = refl
entries-without (f ∷ kept) (suc i) = ap (λ es. entry_of f ∷ es) (entries-without kept i)

-- where a key was found
pub found-there : (kept seen : List Entry) (i : ℕ) (key : List ℕ) → seen ≡ kept → (at : IsAt (entries_of seen) key i) → slice_get (entries_of kept) i ≡ Some (key, at.0)
found-there kept seen i key same at = ap (λ (es : List Entry). slice_get (entries_of es) i) (sym same) ∙ at.1

pub found-within : (kept seen : List Entry) (i : ℕ) (key : List ℕ) → seen ≡ kept → IsAt (entries_of seen) key i → i < length kept
found-within kept seen i key same at = omega (arith, slice_get_within (entries_of kept) i (key, at.0) (found-there kept seen i key same at), length-entries kept)

pub found-key : (kept seen : List Entry) (i : ℕ) (key : List ℕ) (d one : Entry) → seen ≡ kept → IsAt (entries_of seen) key i → one ≡ get_or kept i d → one.key ≡ key
found-key kept seen i key d one same at is =
    let here : Some (entry_of one) ≡ Some (key, at.0) = ap (λ (e : Entry). Some (entry_of e)) is ∙ sym (slice_get-entries kept i d (found-within kept seen i key same at)) ∙ found-there kept seen i key same at in
    let equal : entry_of one ≡ (key, at.0) = cc in
    ap (λ (e : List ℕ × State). e.0) equal

-- the entries with a state in the place of a key's
pub put-found : (kept seen : List Entry) (i : ℕ) (key : List ℕ) (e : Entry) (state : State) → seen ≡ kept → are_sorted (entries_of kept) → IsAt (entries_of seen) key i → entry_of e ≡ (key, state)
    → entries_of (set kept i e) ≡ put key_order key state (entries_of kept)
put-found kept seen i key e state same sorted at is =
    map-set entry_of kept i e ∙ ap (set (entries_of kept) i) is
    ∙ set-is (entries_of kept) i (key, state) (omega (arith, found-within kept seen i key same at, length-entries kept))
    ∙ sym (put-old (entries_of kept) i key state (key, at.0) sorted (found-there kept seen i key same at) refl)

-- the entries with one more
pub put-missing : (kept seen : List Entry) (i : ℕ) (key : List ℕ) (e : Entry) (state : State) → seen ≡ kept → AllBefore (entries_of seen) i key → AllBehind (entries_of seen) i key → entry_of e ≡ (key, state)
    → entries_of (take i kept ++ e ∷ drop i kept) ≡ put key_order key state (entries_of kept)
put-missing kept seen i key e state same before behind is =
    entries-insert_at kept i e ∙ ap (λ x. take i (entries_of kept) ++ x ∷ drop i (entries_of kept)) is
    ∙ sym (put-new (entries_of kept) i key state (subst (λ (es : List Entry). AllBefore (entries_of es) i key) same before) (subst (λ (es : List Entry). AllBehind (entries_of es) i key) same behind))

-- the entries without one
pub removed-found : (kept seen new : List Entry) (i : ℕ) (key : List ℕ) → seen ≡ kept → are_sorted (entries_of kept) → IsAt (entries_of seen) key i → new ≡ take i kept ++ drop (suc i) kept
    → from_sorted {R = key_order} (entries_of new) ≡ remove (from_sorted (entries_of kept)) key
removed-found kept seen new i key same sorted at is =
    remove-without (entries_of kept) (entries_of new) i key (key, at.0) sorted (found-there kept seen i key same at) refl (ap entries_of is ∙ entries-without kept i)

pub sorted-removed : (kept seen new : List Entry) (i : ℕ) (key : List ℕ) → seen ≡ kept → are_sorted (entries_of kept) → IsAt (entries_of seen) key i → new ≡ take i kept ++ drop (suc i) kept → are_sorted (entries_of new)
sorted-removed kept seen new i key same sorted at is =
    sorted-without (entries_of kept) (entries_of new) i key (key, at.0) sorted (found-there kept seen i key same at) refl (ap entries_of is ∙ entries-without kept i)

-- a key that isn't there needs a spare place
pub missing-spare : (m : FinMap key_order State) (k : List ℕ) (spare : ℕ) → get m k ≡ None → IsTrue (contains_key m k) ⊎ (1 ≤ spare) → 1 ≤ spare
missing-spare m k spare none (inl there) = let wrong : false ≡ true = ap is_some (sym none) ∙ there in absurd (cc wrong)
missing-spare m k spare none (inr some) = some

-- the same, of an insertion that had room
pub inserted-put : {A B : Type 0} (e : Entry) (kept seen new : List Entry) (i : ℕ) (key : List ℕ) (state : State) (result : Result A B) → new ≡ cond (is_ok result) (insert_at kept i e) kept → IsOk result
    → seen ≡ kept → AllBefore (entries_of seen) i key → AllBehind (entries_of seen) i key → entry_of e ≡ (key, state) → entries_of new ≡ put key_order key state (entries_of kept)
inserted-put e kept seen new i key state result items ok same before behind is =
    ap entries_of (items ∙ ap (λ (b : Bool). cond b (insert_at kept i e) kept) ok) ∙ put-missing kept seen i key e state same before behind is
