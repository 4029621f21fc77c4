-- Laws of a map's entries: what an insert adds to a sum over them and to the lists that they give, and maps alike.
use Rattle.std.proofs.Common.{◌≡◌, ℕ, suc, ◌+◌, Bool, true, false, cond, ◌&&◌, List, [], ◌∷◌, ◌++◌, map, Option, Some, None, refl, sym, ◌∙◌, ap, subst, arith, append_assoc}
use Rattle.std.proofs.Math.Dec.{T}
use Rattle.std.specs.Prelude.{option_map, slice_get}
use Rattle.std.specs.List.{flat_map, fold, sum_by}
use Rattle.std.specs.List.Sorted.{IsPermutation}
use Rattle.std.specs.Ordering.{eq_by_cmp, is_eq, is_lt}
use Rattle.std.specs.FinMap.{FinMap, entries, entries-insert, entries_sorted, get, get-entries, get-insert, insert}
use Rattle.std.specs.FinMap.Entries.{below_all, by_order, find, is_sorted, put, same_entries}
use Rattle.std.specs.declared.cmp.Ordering.{Ordering}
use Rattle.std.specs.declared.cmp.Ordering.TheVariants.{Less, Equal, Greater}
use Rattle.std.proofs.lemmas.List.Sorted.{IsPermutation-append_comm, IsPermutation-append_left, IsPermutation-append_right, IsPermutation-refl, IsPermutation-trans}
use Rattle.std.proofs.lemmas.List.Sums.{sum_by-cons}
use Rattle.store_model.specs.Key.{key_order}
use Rattle.store_model.proofs.SortedLaws.{find-none, greater-less, keys_exact, keys_total, sorted-at, untied-greater, untied-less}

both-second : (a b : Bool) → T (a && b) → T b
both-second true b p = p
both-second false b p = absurd p

-- two lists at the front change places
swapped-front : {X : Type 0} (xs ys zs : List X) → IsPermutation (xs ++ (ys ++ zs)) (ys ++ (xs ++ zs))
swapped-front xs ys zs =
    subst (λ l. IsPermutation l (ys ++ (xs ++ zs))) (append_assoc xs ys zs)
    (subst (λ l. IsPermutation ((xs ++ ys) ++ zs) l) (append_assoc ys xs zs)
    (IsPermutation-append_left zs (xs ++ ys) (ys ++ xs) (IsPermutation-append_comm xs ys)))

module _ {V : Type 0} where
  -- the sum over a map's entries
  abbrev pub sum_entries : (List ℕ → V → ℕ) → FinMap key_order V → ℕ
  sum_entries f m = sum_by (λ e. f e.0 e.1) (entries m)

  -- what a key's value adds to the sum, or nothing
  abbrev pub part_of : (List ℕ → V → ℕ) → List ℕ → Option V → ℕ
  part_of f k None = 0
  part_of f k (Some v) = f k v

  -- what a value gives, or nothing
  abbrev pub old_part : {X : Type 0} → (V → List X) → Option V → List X
  old_part g None = []
  old_part g (Some v) = g v

  sorted-rest : (e : List ℕ × V) (es : List (List ℕ × V)) → T (is_sorted key_order (e ∷ es)) → T (is_sorted key_order es)
  sorted-rest e es sorted = both-second (below_all key_order e.0 es) (is_sorted key_order es) sorted

  -- the keys behind the first one are greater
  later-less : (e : List ℕ × V) (es : List (List ℕ × V)) (j : ℕ) (one : List ℕ × V) → T (is_sorted key_order (e ∷ es))
      → slice_get es j ≡ Some one → key_order e.0 one.0 ≡ Less
  later-less e es j one sorted is = sorted-at (e ∷ es) 0 (suc j) e one sorted (omega arith) refl is

  -- a key below the first one isn't found behind it
  find-before : (k : List ℕ) (e : List ℕ × V) (es : List (List ℕ × V)) → T (is_sorted key_order (e ∷ es))
      → key_order k e.0 ≡ Less → find key_order k es ≡ None
  find-before k e es sorted less =
      find-none es k (λ j one is. untied-less k one.0 (keys_total.trans k e.0 one.0 less (later-less e es j one sorted is)))

  module _ (f : List ℕ → V → ℕ) where
    cons : (e : List ℕ × V) (es : List (List ℕ × V))
        → sum_by (λ x. f x.0 x.1) (e ∷ es) ≡ f e.0 e.1 + sum_by (λ x. f x.0 x.1) es
    cons e es = sum_by-cons (λ x. f x.0 x.1) e es

    sum-put : (es : List (List ℕ × V)) (k : List ℕ) (v : V) → T (is_sorted key_order es)
        → sum_by (λ e. f e.0 e.1) (put key_order k v es) + part_of f k (find key_order k es)
        ≡ sum_by (λ e. f e.0 e.1) es + f k v
    sum-put [] k v sorted = omega arith
    sum-put (e ∷ es) k v sorted =
        elim (key_order k e.0) as (λ (o : Ordering). key_order k e.0 ≡ o
        → sum_by (λ x. f x.0 x.1) (by_order o ((k, v) ∷ e ∷ es) ((e.0, v) ∷ es) (e ∷ put key_order k v es))
        + part_of f k (cond (is_eq o) (Some e.1) (find key_order k es)) ≡ sum_by (λ x. f x.0 x.1) (e ∷ es) + f k v) [
          | Less ↦ λ is. omega (arith, cons (k, v) (e ∷ es), ap (part_of f k) (find-before k e es sorted is))
          | Equal ↦ λ is.
              let same = keys_exact k e.0 is in
              omega (arith, cons (e.0, v) es, cons e es, ap (λ x. f x v) same, ap (λ x. f x e.1) same)
          | Greater ↦ λ is. omega (arith, cons e (put key_order k v es), cons e es, sum-put es k v (sorted-rest e es sorted))
        ] refl

    -- an insert adds what its value does, and takes what the key's value before did
    pub sum-insert : (m : FinMap key_order V) (k : List ℕ) (v : V)
        → sum_entries f (insert m k v) + part_of f k (get m k) ≡ sum_entries f m + f k v
    sum-insert m k v =
        omega (
          arith,
          sum-put (entries m) k v (entries_sorted m),
          ap (sum_by (λ (e : List ℕ × V). f e.0 e.1)) (entries-insert keys_total m k v),
          ap (part_of f k) (get-entries m k),
        )

    -- what a map has at greater keys stays
    parts-kept : (m : FinMap key_order V) (k : List ℕ) (v : V) (es : List (List ℕ × V))
        → ((j : ℕ) (one : List ℕ × V) → slice_get es j ≡ Some one → key_order k one.0 ≡ Less)
        → sum_by (λ e. part_of f e.0 (get (insert m k v) e.0)) es ≡ sum_by (λ e. part_of f e.0 (get m e.0)) es
    parts-kept m k v [] less = refl
    parts-kept m k v (e ∷ es) less =
        let other : get (insert m k v) e.0 ≡ get m e.0 =
        get-insert keys_total m k v e.0
        ∙ ap (λ b. cond b (Some v) (get m e.0)) (untied-greater e.0 k (greater-less k e.0 (less 0 e refl))) in
        omega (
          arith,
          sum_by-cons (λ (x : List ℕ × V). part_of f x.0 (get (insert m k v) x.0)) e es,
          sum_by-cons (λ (x : List ℕ × V). part_of f x.0 (get m x.0)) e es,
          ap (part_of f e.0) other,
          parts-kept m k v es (λ j one is. less (suc j) one is),
        )

    -- inserts of rising keys, one after the other
    pub sum-inserts : (es : List (List ℕ × V)) (m : FinMap key_order V) → T (is_sorted key_order es)
        → sum_entries f (fold (λ n e. insert n e.0 e.1) m es) + sum_by (λ e. part_of f e.0 (get m e.0)) es
        ≡ sum_entries f m + sum_by (λ e. f e.0 e.1) es
    sum-inserts [] m sorted = refl
    sum-inserts (e ∷ es) m sorted =
        omega (
          arith,
          sum-inserts es (insert m e.0 e.1) (sorted-rest e es sorted),
          parts-kept m e.0 e.1 es (λ j one is. later-less e es j one sorted is),
          sum-insert m e.0 e.1,
          cons e es,
          sum_by-cons (λ (x : List ℕ × V). part_of f x.0 (get m x.0)) e es,
        )

  module _ {X : Type 0} (g : V → List X) where
    abbrev all_parts : List (List ℕ × V) → List X
    all_parts es = flat_map (λ e. g e.1) es

    -- the same with the value of one more key in front
    parts-behind : (old new here there others : List X) → IsPermutation (old ++ new) (there ++ others)
        → IsPermutation (old ++ (here ++ new)) (there ++ (here ++ others))
    parts-behind old new here there others moves =
        IsPermutation-trans (old ++ (here ++ new)) (here ++ (old ++ new)) (there ++ (here ++ others))
        (swapped-front old here new)
        (IsPermutation-trans (here ++ (old ++ new)) (here ++ (there ++ others)) (there ++ (here ++ others))
        (IsPermutation-append_right here (old ++ new) (there ++ others) moves) (swapped-front here there others))

    blocks-put : (es : List (List ℕ × V)) (k : List ℕ) (v : V) → T (is_sorted key_order es)
        → IsPermutation (old_part g (find key_order k es) ++ all_parts (put key_order k v es)) (g v ++ all_parts es)
    blocks-put [] k v sorted = IsPermutation-refl (g v ++ [])
    blocks-put (e ∷ es) k v sorted =
        elim (key_order k e.0) as (λ (o : Ordering). key_order k e.0 ≡ o
        → IsPermutation (old_part g (cond (is_eq o) (Some e.1) (find key_order k es))
        ++ all_parts (by_order o ((k, v) ∷ e ∷ es) ((e.0, v) ∷ es) (e ∷ put key_order k v es))) (g v ++ all_parts (e ∷ es))) [
          | Less ↦ λ is.
              subst (λ (o : Option V). IsPermutation (old_part g o ++ all_parts ((k, v) ∷ e ∷ es)) (g v ++ all_parts (e ∷ es)))
              (sym (find-before k e es sorted is)) (IsPermutation-refl (g v ++ all_parts (e ∷ es)))
          | Equal ↦ λ is. swapped-front (g e.1) (g v) (all_parts es)
          | Greater ↦ λ is.
              parts-behind (old_part g (find key_order k es)) (all_parts (put key_order k v es)) (g e.1) (g v) (all_parts es)
              (blocks-put es k v (sorted-rest e es sorted))
        ] refl

    -- an insert gives what its value does in the place of what the key's value before did
    pub blocks-insert : (m : FinMap key_order V) (k : List ℕ) (v : V)
        → IsPermutation (old_part g (get m k) ++ flat_map (λ e. g e.1) (entries (insert m k v)))
        (g v ++ flat_map (λ e. g e.1) (entries m))
    blocks-insert m k v =
        subst (λ o. IsPermutation (old_part g o ++ all_parts (entries (insert m k v))) (g v ++ all_parts (entries m)))
        (sym (get-entries m k))
        (subst (λ es. IsPermutation (old_part g (find key_order k (entries m)) ++ all_parts es) (g v ++ all_parts (entries m)))
        (sym (entries-insert keys_total m k v)) (blocks-put (entries m) k v (entries_sorted m)))

-- each value told by another
abbrev told_by : {V P : Type 0} → (V → P) → List (List ℕ × V) → List (List ℕ × P)
told_by f es = map (λ e. (e.0, f e.1)) es

module _ {V P : Type 0} (f : V → P) where
  below-map : (k : List ℕ) (es : List (List ℕ × V)) → below_all key_order k (told_by f es) ≡ below_all key_order k es
  below-map k [] = refl
  below-map k (e ∷ es) = ap (λ b. is_lt (key_order k e.0) && b) (below-map k es)

  sorted-map : (es : List (List ℕ × V)) → is_sorted key_order (told_by f es) ≡ is_sorted key_order es
  sorted-map [] = refl
  sorted-map (e ∷ es) = λ i. below-map e.0 es i && sorted-map es i

  find-map : (k : List ℕ) (es : List (List ℕ × V)) → find key_order k (told_by f es) ≡ option_map f (find key_order k es)
  find-map k [] = refl
  find-map k (e ∷ es) =
      elim (eq_by_cmp key_order k e.0) as (λ b.
      cond b (Some (f e.1)) (find key_order k (told_by f es)) ≡ option_map f (cond b (Some e.1) (find key_order k es))) [
        | true ↦ refl
        | false ↦ find-map k es
      ]

  sorted-entries : (m : FinMap key_order V) → T (is_sorted key_order (told_by f (entries m)))
  sorted-entries m = subst T (sym (sorted-map (entries m))) (entries_sorted m)

  find-entries : (k : List ℕ) (m : FinMap key_order V) → find key_order k (told_by f (entries m)) ≡ option_map f (get m k)
  find-entries k m = find-map k (entries m) ∙ ap (option_map f) (sym (get-entries m k))

-- two maps of which each key tells the same have entries that tell the same
pub entries-alike : {V W P : Type 0} (f : V → P) (g : W → P) (m : FinMap key_order V) (n : FinMap key_order W)
    → ((key : List ℕ) → option_map f (get m key) ≡ option_map g (get n key))
    → map {B = List ℕ × P} (λ e. (e.0, f e.1)) (entries m) ≡ map {B = List ℕ × P} (λ e. (e.0, g e.1)) (entries n)
entries-alike f g m n same =
    same_entries key_order keys_total keys_exact (told_by f (entries m)) (told_by g (entries n))
    (sorted-entries f m) (sorted-entries g n)
    (λ key. find-entries f key m ∙ same key ∙ sym (find-entries g key n))
