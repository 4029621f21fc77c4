-- Laws of a removal from a map: what it takes from a sum over the map's entries and from the lists that they give, and what an insert
-- after it makes.
use Rattle.std.proofs.Common.{◌≡◌, ℕ, ◌+◌, Bool, true, false, cond, List, ◌++◌, Option, Some, None, refl, sym, ◌∙◌, ap, subst, arith}
use Rattle.std.specs.List.{flat_map}
use Rattle.std.specs.List.Sorted.{IsPermutation}
use Rattle.std.specs.Ordering.{eq_by_cmp, is_eq}
use Rattle.std.specs.Cmp.{eq_by_cmp_equiv}
use Rattle.std.specs.declared.cmp.Ordering.{Ordering}
use Rattle.std.specs.declared.cmp.Ordering.TheVariants.{Less, Equal, Greater}
use Rattle.std.specs.FinMap.{FinMap, entries, get, get-insert, get-remove, insert, remove, same_map}
use Rattle.std.proofs.lemmas.List.Sorted.{IsPermutation-refl, IsPermutation-sym}
use Rattle.store_model.specs.Key.{key_order}
use Rattle.store_model.proofs.EntryLaws.{blocks-insert, old_part, part_of, sum_entries, sum-insert}
use Rattle.store_model.proofs.SortedLaws.{keys_exact, keys_total}

-- keys that a test finds the same
is-equal : (o : Ordering) → is_eq o ≡ true → o ≡ Equal
is-equal Less same = absurd (cc same)
is-equal Equal same = refl
is-equal Greater same = absurd (cc same)

pub tied : (q k : List ℕ) → eq_by_cmp key_order q k ≡ true → q ≡ k
tied q k same = keys_exact q k (is-equal (key_order q k) same)

module _ {V : Type 0} where
  put-back : (m : FinMap key_order V) (k : List ℕ) (v : V) (q : List ℕ) (b : Bool) → eq_by_cmp key_order q k ≡ b → get m k ≡ Some v
      → cond b (Some v) (cond b None (get m q)) ≡ get m q
  put-back m k v q true is there = sym there ∙ ap (get m) (sym (tied q k is))
  put-back m k v q false is there = refl

  -- a key that is taken out and put back
  pub insert-remove : (m : FinMap key_order V) (k : List ℕ) (v : V) → get m k ≡ Some v → insert (remove m k) k v ≡ m
  insert-remove m k v there =
      same_map keys_total keys_exact (insert (remove m k) k v) m (λ q.
      get-insert keys_total (remove m k) k v q ∙ ap (λ (o : Option V). cond (eq_by_cmp key_order q k) (Some v) o) (get-remove keys_total m k q)
      ∙ put-back m k v q (eq_by_cmp key_order q k) refl there)

  stays : (m : FinMap key_order V) (k q : List ℕ) (b : Bool) → eq_by_cmp key_order q k ≡ b → get m k ≡ None → get m q ≡ cond b None (get m q)
  stays m k q true is none = ap (get m) (tied q k is) ∙ none
  stays m k q false is none = refl

  -- a key that isn't there
  pub remove-none : (m : FinMap key_order V) (k : List ℕ) → get m k ≡ None → remove m k ≡ m
  remove-none m k none = sym (same_map keys_total keys_exact m (remove m k) (λ q. stays m k q (eq_by_cmp key_order q k) refl none ∙ sym (get-remove keys_total m k q)))

  gone : (m : FinMap key_order V) (k : List ℕ) (b : Bool) → eq_by_cmp key_order k k ≡ b → cond b None (get m k) ≡ None
  gone m k true is = refl
  gone m k false is = absurd (cc (sym is ∙ (eq_by_cmp_equiv keys_total).refl k))

  pub get-gone : (m : FinMap key_order V) (k : List ℕ) → get (remove m k) k ≡ None
  get-gone m k = get-remove keys_total m k k ∙ gone m k (eq_by_cmp key_order k k) refl

  -- a removal takes what the key's value adds to a sum
  pub sum-remove : (f : List ℕ → V → ℕ) (m : FinMap key_order V) (k : List ℕ) → sum_entries f (remove m k) + part_of f k (get m k) ≡ sum_entries f m
  sum-remove f m k =
      elim (get m k) as (λ (o : Option V). get m k ≡ o → sum_entries f (remove m k) + part_of f k o ≡ sum_entries f m) [
        | None ↦ λ none. omega (arith, ap (sum_entries f) (remove-none m k none))
        | Some v ↦ λ there.
            omega (arith, sum-insert f (remove m k) k v, ap (part_of f k) (get-gone m k), ap (sum_entries f) (insert-remove m k v there))
      ] refl

  -- and what it gives among what all values give
  pub blocks-remove : {X : Type 0} (g : V → List X) (m : FinMap key_order V) (k : List ℕ)
      → IsPermutation (old_part g (get m k) ++ flat_map (λ e. g e.1) (entries (remove m k))) (flat_map (λ e. g e.1) (entries m))
  blocks-remove {X} g m k =
      elim (get m k) as (λ (o : Option V). get m k ≡ o → IsPermutation (old_part g o ++ flat_map (λ e. g e.1) (entries (remove m k))) (flat_map (λ e. g e.1) (entries m))) [
        | None ↦ λ none.
            subst (λ (n : FinMap key_order V). IsPermutation (flat_map (λ e. g e.1) (entries n)) (flat_map (λ e. g e.1) (entries m))) (sym (remove-none m k none))
            (IsPermutation-refl (flat_map (λ e. g e.1) (entries m)))
        | Some v ↦ λ there.
            IsPermutation-sym (flat_map (λ e. g e.1) (entries m)) (g v ++ flat_map (λ e. g e.1) (entries (remove m k)))
            (subst (λ (n : FinMap key_order V). IsPermutation (flat_map (λ e. g e.1) (entries n)) (g v ++ flat_map (λ e. g e.1) (entries (remove m k)))) (insert-remove m k v there)
            (subst (λ (o : Option V). IsPermutation (old_part g o ++ flat_map (λ e. g e.1) (entries (insert (remove m k) k v))) (g v ++ flat_map (λ e. g e.1) (entries (remove m k))))
            (get-gone m k) (blocks-insert g (remove m k) k v)))
      ] refl
