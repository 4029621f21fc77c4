-- Entries in the order of their keys, as a map.
use Rattle.std.proofs.Common.{◌≡◌, ℕ, zero, suc, ◌+◌, ◌<◌, ◌≤◌, Bool, true, false, not, cond, List, [], ◌∷◌, ◌++◌, take, drop, length, get_or, Option, Some, None, refl, sym, ◌∙◌, ap, subst, arith, inl, inr}
use Rattle.std.specs.Prelude.{slice_get}
use Rattle.std.specs.List.{insert as insert_at}
use Rattle.std.proofs.Math.ListN.{set}
use Rattle.std.proofs.lemmas.Bool.{cases_lt}
use Rattle.std.proofs.lemmas.List.{nil_from_length}
use Rattle.std.proofs.lemmas.Option.{slice_get-get_or, slice_get_within}
use Rattle.std.specs.Cmp.{alike_right, eq_by_cmp_equiv}
use Rattle.std.specs.Ordering.{eq_by_cmp, is_eq}
use Rattle.std.specs.FinMap.{FinMap, empty, entries, entries-from_sorted, entries-insert, from_sorted, get, get-entries, get-insert, get-remove, insert, len, len-empty, len-entries, remove, same_entries_map, same_map}
use Rattle.std.specs.FinMap.Entries.{find, find-where_key, is_sorted-put, is_sorted-where_key, put, where_key}
use Rattle.std.specs.declared.cmp.Ordering.{Ordering}
use Rattle.std.specs.declared.cmp.Ordering.TheVariants.{Equal, Less, Greater}
use Rattle.store_model.specs.Key.{key_order}
use Rattle.store_model.proofs.SortedLaws.{find-at, find-none, greater-less, keys_exact, keys_total, kept-others, less-greater, put-new, put-old, sorted-at, untied-greater, untied-less}
use Rattle.blob_base.specs.Sorted.{AllBefore, IsAt, WouldStand, are_sorted}

-- the map of no entries
pub from-none : {V : Type 0} (es : List (List ℕ × V)) → es ≡ [] → from_sorted {R = key_order} es ≡ empty
from-none {V} es none = ap (λ (l : List (List ℕ × V)). from_sorted l) none ∙ same_entries_map (from_sorted []) empty (entries-from_sorted key_order [] tt ∙ sym (nil_from_length (entries empty) (sym (len-entries empty) ∙ len-empty key_order V)))

is-equal : (o : Ordering) → is_eq o ≡ true → o ≡ Equal
is-equal Less e = absurd (cc e)
is-equal Equal e = refl
is-equal Greater e = absurd (cc e)

module _ {V : Type 0} where
  -- the entries before a lesser one are before the next
  pub AllBefore-next : (es : List (List ℕ × V)) (key : List ℕ) (i : ℕ) (one : List ℕ × V) → slice_get es i ≡ Some one
      → key_order one.0 key ≡ Less → AllBefore es key i → AllBefore es key (i + 1)
  AllBefore-next es key i one is less before = λ k other below there. elim (cases_lt k i) [
    | inl earlier ↦ before k other earlier there
    | inr late ↦
        let same : k ≡ i = omega (arith, below, late) in
        let here : Some one ≡ Some other = sym is ∙ ap (slice_get es) (sym same) ∙ there in
        let equal : one ≡ other = cc in ap (λ (e : List ℕ × V). key_order e.0 key) (sym equal) ∙ less
  ]

  -- where a greater key stands, a lesser one would stand
  pub WouldStand-greater : (es : List (List ℕ × V)) (key : List ℕ) (i : ℕ) (one : List ℕ × V) → are_sorted es → slice_get es i ≡ Some one
      → key_order one.0 key ≡ Greater → AllBefore es key i → WouldStand es key i
  WouldStand-greater es key i one sorted is greater before = record {
    within = omega (arith, slice_get_within es i one is);
    before = before;
    behind = λ k other late there. elim (cases_lt i k) [
      | inl later ↦ greater-less key other.0 (keys_total.trans key one.0 other.0 (less-greater one.0 key greater) (sorted-at es i k one other sorted later is there))
      | inr most ↦
          let same : k ≡ i = omega (arith, late, most) in
          let here : Some one ≡ Some other = sym is ∙ ap (slice_get es) (sym same) ∙ there in
          let equal : one ≡ other = cc in ap (λ (e : List ℕ × V). key_order e.0 key) (sym equal) ∙ greater
    ];
  }

  -- behind the last entry
  pub WouldStand-last : (es : List (List ℕ × V)) (key : List ℕ) (i : ℕ) → length es ≤ i → i ≤ length es → AllBefore es key i → WouldStand es key (length es)
  WouldStand-last es key i least most before = record {
    within = omega arith;
    before = λ k one less is. before k one (omega (arith, less, least)) is;
    behind = λ k one late is. absurd (omega (arith, late, slice_get_within es k one is));
  }

  -- a key that is there
  pub IsAt-tied : (es : List (List ℕ × V)) (key : List ℕ) (i : ℕ) (one : List ℕ × V) → slice_get es i ≡ Some one → key_order one.0 key ≡ Equal → IsAt es key i
  IsAt-tied es key i one is tied = (one.1, is ∙ ap (λ (k : List ℕ). Some (k, one.1)) (keys_exact one.0 key tied))

  pub get-sorted : (es : List (List ℕ × V)) (k : List ℕ) → are_sorted es → get (from_sorted {R = key_order} es) k ≡ find key_order k es
  get-sorted es k sorted = get-entries (from_sorted es) k ∙ ap (find key_order k) (entries-from_sorted key_order es sorted)

  pub len-sorted : (es : List (List ℕ × V)) → are_sorted es → len (from_sorted {R = key_order} es) ≡ length es
  len-sorted es sorted = len-entries (from_sorted es) ∙ ap length (entries-from_sorted key_order es sorted)

  -- an element of a list of this length
  pub element : (es : List (List ℕ × V)) (i : ℕ) (d one : List ℕ × V) → i < length es → one ≡ get_or es i d → slice_get es i ≡ Some one
  element es i d one less is = slice_get-get_or es i d less ∙ ap (λ (e : List ℕ × V). Some e) (sym is)

  -- the value of a key that is there
  pub get-found : (es : List (List ℕ × V)) (k : List ℕ) (i : ℕ) (one : List ℕ × V) → are_sorted es → IsAt es k i → slice_get es i ≡ Some one
      → get (from_sorted {R = key_order} es) k ≡ Some one.1
  get-found es k i one sorted at is =
      let same : Some (k, at.0) ≡ Some one = sym at.1 ∙ is in
      let equal : (k, at.0) ≡ one = cc in
      get-sorted es k sorted ∙ find-at es i k one sorted is (ap (λ (e : List ℕ × V). e.0) (sym equal))

  pub get-missing : (es : List (List ℕ × V)) (k : List ℕ) (i : ℕ) → are_sorted es → WouldStand es k i → get (from_sorted {R = key_order} es) k ≡ None
  get-missing es k i sorted would = get-sorted es k sorted ∙ find-none es k (λ j one is. elim (cases_lt j i) [
    | inl less ↦ untied-greater k one.0 (greater-less one.0 k (would.before j one less is))
    | inr late ↦ untied-less k one.0 (less-greater one.0 k (would.behind j one late is))
  ])

  -- entries that a put leads to
  pub sorted-put : (es fs : List (List ℕ × V)) (k : List ℕ) (v : V) → are_sorted es → fs ≡ put key_order k v es → are_sorted fs
  sorted-put es fs k v sorted is = subst are_sorted (sym is) (is_sorted-put key_order keys_total k v es sorted)

  pub insert-put : (es fs : List (List ℕ × V)) (k : List ℕ) (v : V) → are_sorted es → fs ≡ put key_order k v es → from_sorted {R = key_order} fs ≡ insert (from_sorted es) k v
  insert-put es fs k v sorted is =
      same_entries_map (from_sorted fs) (insert (from_sorted es) k v)
      (entries-from_sorted key_order fs (sorted-put es fs k v sorted is) ∙ is ∙ ap (put key_order k v) (sym (entries-from_sorted key_order es sorted)) ∙ sym (entries-insert keys_total (from_sorted es) k v))

  -- an element is replaced
  set-is : (xs : List (List ℕ × V)) (i : ℕ) (y : List ℕ × V) → i < length xs → set xs i y ≡ take i xs ++ y ∷ drop (suc i) xs
  set-is [] i y less = absurd (omega arith)
  set-is (x ∷ xs) zero y less = refl
  set-is (x ∷ xs) (suc i) y less = ap (λ ys. x ∷ ys) (set-is xs i y (omega arith))

  -- the entries with a value in the place of a key's
  pub put-found : (es : List (List ℕ × V)) (k : List ℕ) (i : ℕ) (one : List ℕ × V) (v : V) → are_sorted es → IsAt es k i → slice_get es i ≡ Some one
      → set es i (one.0, v) ≡ put key_order k v es
  put-found es k i one v sorted at is =
      let same : Some (k, at.0) ≡ Some one = sym at.1 ∙ is in
      let equal : (k, at.0) ≡ one = cc in
      let key : one.0 ≡ k = ap (λ (e : List ℕ × V). e.0) (sym equal) in
      set-is es i (one.0, v) (slice_get_within es i one is)
      ∙ ap (λ (x : List ℕ). take i es ++ (x, v) ∷ drop (suc i) es) key
      ∙ sym (put-old es i k v one sorted is key)

  -- the entries with one more
  pub put-missing : (es new : List (List ℕ × V)) (k : List ℕ) (i : ℕ) (v : V) → WouldStand es k i → new ≡ insert_at es i (k, v) → new ≡ put key_order k v es
  put-missing es new k i v would is = is ∙ sym (put-new es i k v would.before would.behind)

  turned : (b : Bool) (x : Option V) → cond (not b) x None ≡ cond b None x
  turned true x = refl
  turned false x = refl

  -- the entries without one
  without : (es new : List (List ℕ × V)) (k : List ℕ) (i : ℕ) → are_sorted es → IsAt es k i → new ≡ take i es ++ drop (suc i) es
      → new ≡ where_key key_order (λ x. not (eq_by_cmp key_order k x)) es
  without es new k i sorted at is = is ∙ sym (kept-others es i k (k, at.0) sorted at.1 refl)

  pub sorted-without : (es new : List (List ℕ × V)) (k : List ℕ) (i : ℕ) → are_sorted es → IsAt es k i → new ≡ take i es ++ drop (suc i) es → are_sorted new
  sorted-without es new k i sorted at is =
      subst are_sorted (sym (without es new k i sorted at is)) (is_sorted-where_key key_order (λ x. not (eq_by_cmp key_order k x)) es sorted)

  pub remove-without : (es new : List (List ℕ × V)) (k : List ℕ) (i : ℕ) → are_sorted es → IsAt es k i → new ≡ take i es ++ drop (suc i) es
      → from_sorted {R = key_order} new ≡ remove (from_sorted es) k
  remove-without es new k i sorted at is =
      same_map keys_total keys_exact (from_sorted new) (remove (from_sorted es) k) (λ q.
      get-sorted new q (sorted-without es new k i sorted at is)
      ∙ ap (find key_order q) (without es new k i sorted at is)
      ∙ find-where_key key_order (λ x. not (eq_by_cmp key_order k x)) q (λ x t. ap (λ r. not (is_eq r)) (sym (alike_right keys_total q x k t))) es
      ∙ turned (eq_by_cmp key_order k q) (find key_order q es)
      ∙ ap (λ b. cond b None (find key_order q es)) ((eq_by_cmp_equiv keys_total).symm k q)
      ∙ ap (cond (eq_by_cmp key_order q k) None) (sym (get-sorted es q sorted))
      ∙ sym (get-remove keys_total (from_sorted es) k q))

  missing-stays : (m : FinMap key_order V) (k q : List ℕ) (b : Bool) → get m k ≡ None → eq_by_cmp key_order q k ≡ b → get m q ≡ cond b None (get m q)
  missing-stays m k q true none same = let equal : q ≡ k = keys_exact q k (is-equal (key_order q k) same) in ap (get m) equal ∙ none
  missing-stays m k q false none same = refl

  -- nothing is removed where the key isn't there
  pub remove-missing : (m : FinMap key_order V) (k : List ℕ) → get m k ≡ None → m ≡ remove m k
  remove-missing m k none =
      same_map keys_total keys_exact m (remove m k) (λ q. missing-stays m k q (eq_by_cmp key_order q k) none refl ∙ sym (get-remove keys_total m k q))

  put-back : (m : FinMap key_order V) (k q : List ℕ) (v : V) (b : Bool) → get m k ≡ None → eq_by_cmp key_order q k ≡ b → cond b None (cond b (Some v) (get m q)) ≡ get m q
  put-back m k q v true none same = let equal : q ≡ k = keys_exact q k (is-equal (key_order q k) same) in sym (ap (get m) equal ∙ none)
  put-back m k q v false none same = refl

  -- a key that wasn't there is put and taken out
  pub remove-insert : (m : FinMap key_order V) (k : List ℕ) (v : V) → get m k ≡ None → remove (insert m k v) k ≡ m
  remove-insert m k v none =
      same_map keys_total keys_exact (remove (insert m k v) k) m (λ q.
      get-remove keys_total (insert m k v) k q ∙ ap (cond (eq_by_cmp key_order q k) None) (get-insert keys_total m k v q)
      ∙ put-back m k q v (eq_by_cmp key_order q k) none refl)
