-- Laws of maps whose values are given by a function of others.
use Rattle.std.proofs.Common.{◌≡◌, ℕ, Bool, true, false, ◌&&◌, cond, List, [], ◌∷◌, map, Option, Some, refl, sym, ◌∙◌, ap, subst}
use Rattle.std.proofs.Math.Dec.{T}
use Rattle.std.specs.Prelude.{option_map}
use Rattle.std.specs.Ordering.{eq_by_cmp, is_lt}
use Rattle.std.specs.FinMap.{FinMap, entries, entries-from_sorted, entries_sorted, get, get-entries, get-insert, insert, same_map}
use Rattle.std.specs.FinMap.Entries.{below_all, find, is_sorted}
use Rattle.store_model.specs.Key.{key_order}
use Rattle.store_model.specs.Maps.{map_values}
use Rattle.store_model.proofs.SortedLaws.{keys_exact, keys_total}

module _ {A B : Type 0} (f : A → B) where
  below-map : (k : List ℕ) (es : List (List ℕ × A)) → below_all key_order k (map (λ e. (e.0, f e.1)) es) ≡ below_all key_order k es
  below-map k [] = refl
  below-map k (e ∷ es) = ap (λ b. is_lt (key_order k e.0) && b) (below-map k es)

  sorted-map : (es : List (List ℕ × A)) → is_sorted key_order (map (λ e. (e.0, f e.1)) es) ≡ is_sorted key_order es
  sorted-map [] = refl
  sorted-map (e ∷ es) = λ i. below-map e.0 es i && sorted-map es i

  inserted : (b : Bool) (v : A) (o : Option A) → cond b (Some (f v)) (option_map f o) ≡ option_map f (cond b (Some v) o)
  inserted true v o = refl
  inserted false v o = refl

  find-map : (k : List ℕ) (es : List (List ℕ × A)) → find key_order k (map (λ e. (e.0, f e.1)) es) ≡ option_map f (find key_order k es)
  find-map k [] = refl
  find-map k (e ∷ es) = ap (cond (eq_by_cmp key_order k e.0) (Some (f e.1))) (find-map k es) ∙ inserted (eq_by_cmp key_order k e.0) e.1 (find key_order k es)

  pub entries-map_values : (m : FinMap key_order A) → entries (map_values f m) ≡ map (λ e. (e.0, f e.1)) (entries m)
  entries-map_values m = entries-from_sorted key_order (map (λ e. (e.0, f e.1)) (entries m)) (subst T (sym (sorted-map (entries m))) (entries_sorted m))

  pub get-map_values : (m : FinMap key_order A) (k : List ℕ) → get (map_values f m) k ≡ option_map f (get m k)
  get-map_values m k =
      get-entries (map_values f m) k ∙ ap (find key_order k) (entries-map_values m) ∙ find-map k (entries m) ∙ ap (option_map f) (sym (get-entries m k))

  pub map_values-insert : (m : FinMap key_order A) (k : List ℕ) (v : A) → map_values f (insert m k v) ≡ insert (map_values f m) k (f v)
  map_values-insert m k v =
      same_map keys_total keys_exact (map_values f (insert m k v)) (insert (map_values f m) k (f v)) (λ q.
      get-map_values (insert m k v) q ∙ ap (option_map f) (get-insert keys_total m k v q) ∙ sym (inserted (eq_by_cmp key_order q k) v (get m q))
      ∙ ap (cond (eq_by_cmp key_order q k) (Some (f v))) (sym (get-map_values m q)) ∙ sym (get-insert keys_total (map_values f m) k (f v) q))
