-- States whose places are taken over one by one, in the order of their keys.
use Rattle.std.proofs.Common.{◌≡◌, ℕ, suc, zero, ◌+◌, ◌≤◌, List, [], ◌∷◌, ◌++◌, length, drop, Some, None, refl, sym, ap, ◌∙◌, arith, append_assoc}
use Rattle.std.specs.Prelude.{slice_get}
use Rattle.std.specs.List.{sum_by}
use Rattle.std.specs.declared.cmp.Ordering.TheVariants.{Less}
use Rattle.std.specs.FinMap.{FinMap, empty, entries, entries-insert, entries_sorted, get, get-entries, insert, len, len-empty, len-entries, same_entries_map}
use Rattle.std.proofs.lemmas.List.{append-nil, drop_all, nil_from_length, take_all}
use Rattle.std.proofs.lemmas.List.Sums.{sum_by-append}
use Rattle.std.proofs.lemmas.Option.{slice_get_within}
use Rattle.relation.specs.Parts.{encoded_by}
use Rattle.store_model.specs.Key.{key_order}
use Rattle.store_model.specs.State.{State}
use Rattle.store_model.specs.Tuple.{spelling}
use Rattle.store_model.proofs.SortedLaws.{find-none, greater-less, keys_total, put-new, sorted-at, untied-greater}

-- the map has the first of all entries, and so many are left
pub record Adopting (all left : List (List ℕ × State)) (count : ℕ) (now : FinMap key_order State) : Type 0 where
  pub all_is : all ≡ entries now ++ left
  pub count_is : count ≡ length left

-- none yet
pub Adopting-none : (all left : List (List ℕ × State)) (count : ℕ) (now : FinMap key_order State) → now ≡ empty → left ≡ all → count ≡ length left
    → Adopting all left count now
Adopting-none all left count now none same counted =
    let no_entries : entries now ≡ [] = nil_from_length (entries now) (sym (len-entries now) ∙ ap len none ∙ len-empty key_order State) in
    record {
      all_is = sym same ∙ ap (λ (es : List (List ℕ × State)). es ++ left) (sym no_entries);
      count_is = counted;
    }

-- an element of the front
front-at : {X : Type 0} (xs ys : List X) (i : ℕ) (x : X) → slice_get xs i ≡ Some x → slice_get (xs ++ ys) i ≡ Some x
front-at [] ys i x at = absurd (cc at)
front-at (y ∷ xs) ys zero x at = at
front-at (y ∷ xs) ys (suc i) x at = front-at xs ys i x at

-- the element behind the front
behind-at : {X : Type 0} (xs : List X) (x : X) (ys : List X) → slice_get (xs ++ x ∷ ys) (length xs) ≡ Some x
behind-at [] x ys = refl
behind-at (y ∷ xs) x ys = behind-at xs x ys

-- the keys of the map are less than the next one
keys-less : (states now : FinMap key_order State) (one : List ℕ × State) (left : List (List ℕ × State)) → entries states ≡ entries now ++ one ∷ left
    → (i : ℕ) (other : List ℕ × State) → slice_get (entries now) i ≡ Some other → key_order other.0 one.0 ≡ Less
keys-less states now one left is i other at =
    sorted-at (entries states) i (length (entries now)) other one (entries_sorted states) (slice_get_within (entries now) i other at)
    (ap (λ (es : List (List ℕ × State)). slice_get es i) is ∙ front-at (entries now) (one ∷ left) i other at)
    (ap (λ (es : List (List ℕ × State)). slice_get es (length (entries now))) is ∙ behind-at (entries now) one left)

-- the next key isn't there
pub Adopting-missing : (states : FinMap key_order State) (all left rest : List (List ℕ × State)) (count : ℕ) (now : FinMap key_order State) (one : List ℕ × State)
    → entries states ≡ all → Adopting all left count now → left ≡ one ∷ rest → get now one.0 ≡ None
Adopting-missing states all left rest count now one are so_far left_is =
    let is : entries states ≡ entries now ++ one ∷ rest = are ∙ so_far.all_is ∙ ap (λ (es : List (List ℕ × State)). entries now ++ es) left_is in
    get-entries now one.0
    ∙ find-none (entries now) one.0 (λ i other at. untied-greater one.0 other.0 (greater-less other.0 one.0 (keys-less states now one rest is i other at)))

-- the entries with the next one
entries-next : (states now : FinMap key_order State) (one : List ℕ × State) (left : List (List ℕ × State)) → entries states ≡ entries now ++ one ∷ left
    → entries (insert now one.0 one.1) ≡ entries now ++ one ∷ []
entries-next states now one left is =
    let es : List (List ℕ × State) = entries now in
    entries-insert keys_total now one.0 one.1
    ∙ put-new es (length es) one.0 one.1 (λ i other before at. keys-less states now one left is i other at)
    (λ i other from at. absurd (omega (arith, from, slice_get_within es i other at)))
    ∙ ap (λ (fs : List (List ℕ × State)). fs ++ one ∷ drop (length es) es) (take_all (length es) es (omega arith))
    ∙ ap (λ (fs : List (List ℕ × State)). es ++ one ∷ fs) (drop_all (length es) es (omega arith))

-- one more
pub Adopting-next : (states : FinMap key_order State) (all left rest : List (List ℕ × State)) (count less : ℕ) (now next : FinMap key_order State) (one : List ℕ × State)
    → entries states ≡ all → Adopting all left count now → left ≡ one ∷ rest → less + 1 ≡ count → next ≡ insert now one.0 one.1
    → Adopting all rest less next
Adopting-next states all left rest count less now next one are so_far left_is counted next_is =
    let is : all ≡ entries now ++ one ∷ rest = so_far.all_is ∙ ap (λ (es : List (List ℕ × State)). entries now ++ es) left_is in
    let now_is : entries next ≡ entries now ++ one ∷ [] = ap entries next_is ∙ entries-next states now one rest (are ∙ is) in
    record {
      all_is = is ∙ sym (append_assoc (entries now) (one ∷ []) rest) ∙ ap (λ (es : List (List ℕ × State)). es ++ rest) (sym now_is);
      count_is = omega (arith, counted, so_far.count_is, ap length left_is);
    }

-- the map takes no more bytes than all
pub Adopting-bytes : (states : FinMap key_order State) (all left : List (List ℕ × State)) (count : ℕ) (now : FinMap key_order State)
    → entries states ≡ all → Adopting all left count now → encoded_by now ≤ encoded_by states
Adopting-bytes states all left count now are so_far =
    let bytes : List ℕ × State → ℕ = λ one. length (spelling one.0 one.1) in
    omega (arith, ap (sum_by bytes) (are ∙ so_far.all_is), sum_by-append bytes (entries now) left)

-- all are taken over
pub Adopting-all : (states : FinMap key_order State) (all left : List (List ℕ × State)) (count : ℕ) (now : FinMap key_order State)
    → entries states ≡ all → Adopting all left count now → count ≡ 0 → now ≡ states
Adopting-all states all left count now are so_far end =
    let none : left ≡ [] = nil_from_length left (sym so_far.count_is ∙ end) in
    same_entries_map now states
    (sym (are ∙ so_far.all_is ∙ ap (λ (es : List (List ℕ × State)). entries now ++ es) none ∙ append-nil (entries now)))
