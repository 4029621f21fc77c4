-- Entries in the order of their keys.
use Rattle.std.proofs.Common.{◌≡◌, ℕ, zero, suc, ◌<◌, ◌≤◌, Bool, true, false, not, ◌&&◌, cond, List, [], ◌∷◌, ◌++◌, take, drop, Some, None, refl, sym, ◌∙◌, ap, subst, arith}
use Rattle.std.proofs.Math.Dec.{T}
use Rattle.std.specs.Prelude.{slice_get}
use Rattle.std.specs.Ordering.{eq_by_cmp, is_eq, is_lt, ordering_reverse}
use Rattle.std.specs.FinMap.{slice_cmp-IsAntisymmetric, nat_cmp-IsAntisymmetric, IsAntisymmetric}
use Rattle.std.specs.FinMap.Entries.{find, put, is_sorted, below_all, by_order, where_key}
use Rattle.std.specs.Cmp.{IsTotalOrder, tied_itself}
use Rattle.std.proofs.lemmas.Cmp.{nat_list_cmp_total}
use Rattle.std.specs.declared.cmp.Ordering.{Ordering}
use Rattle.std.specs.declared.cmp.Ordering.TheVariants.{Less, Equal, Greater}
use Rattle.store_model.specs.Key.{key_order}

pub keys_total : IsTotalOrder key_order
keys_total = nat_list_cmp_total

pub keys_exact : IsAntisymmetric key_order
keys_exact = slice_cmp-IsAntisymmetric nat_cmp-IsAntisymmetric

-- the other way round
pub greater-less : (x y : List ℕ) → key_order x y ≡ Less → key_order y x ≡ Greater
greater-less x y less = keys_total.antisymm y x ∙ ap ordering_reverse less

pub less-greater : (x y : List ℕ) → key_order x y ≡ Greater → key_order y x ≡ Less
less-greater x y greater = keys_total.antisymm y x ∙ ap ordering_reverse greater

both-first : (a b : Bool) → T (a && b) → T a
both-first true b p = tt
both-first false b p = p

both-second : (a b : Bool) → T (a && b) → T b
both-second true b p = p
both-second false b p = absurd p

is-less : (o : Ordering) → T (is_lt o) → o ≡ Less
is-less Less p = refl
is-less Equal p = absurd p
is-less Greater p = absurd p

-- keys apart aren't tied
pub untied-less : (x y : List ℕ) → key_order x y ≡ Less → eq_by_cmp key_order x y ≡ false
untied-less x y less = ap is_eq less

pub untied-greater : (x y : List ℕ) → key_order x y ≡ Greater → eq_by_cmp key_order x y ≡ false
untied-greater x y greater = ap is_eq greater

module _ {V : Type 0} where
  -- the key is below all of the others
  below-at : (x : List ℕ) (es : List (List ℕ × V)) (i : ℕ) (one : List ℕ × V) → T (below_all key_order x es) → slice_get es i ≡ Some one → key_order x one.0 ≡ Less
  below-at x [] i one below is = absurd (cc is)
  below-at x (e ∷ es) zero one below is =
      let same : e ≡ one = cc in ap (λ (f : List ℕ × V). key_order x f.0) (sym same) ∙ is-less (key_order x e.0) (both-first (is_lt (key_order x e.0)) (below_all key_order x es) below)
  below-at x (e ∷ es) (suc i) one below is = below-at x es i one (both-second (is_lt (key_order x e.0)) (below_all key_order x es) below) is

  -- the keys rise
  pub sorted-at : (es : List (List ℕ × V)) (i j : ℕ) (a b : List ℕ × V) → T (is_sorted key_order es) → i < j → slice_get es i ≡ Some a → slice_get es j ≡ Some b → key_order a.0 b.0 ≡ Less
  sorted-at [] i j a b sorted less at other = absurd (cc at)
  sorted-at (e ∷ es) i zero a b sorted less at other = absurd (omega (arith, less))
  sorted-at (e ∷ es) zero (suc j) a b sorted less at other =
      let same : e ≡ a = cc in
      ap (λ (f : List ℕ × V). key_order f.0 b.0) (sym same) ∙ below-at e.0 es j b (both-first (below_all key_order e.0 es) (is_sorted key_order es) sorted) other
  sorted-at (e ∷ es) (suc i) (suc j) a b sorted less at other =
      sorted-at es i j a b (both-second (below_all key_order e.0 es) (is_sorted key_order es) sorted) (omega (arith, less)) at other

  -- an entry in its place, between lesser keys and greater ones
  pub put-new : (es : List (List ℕ × V)) (i : ℕ) (k : List ℕ) (v : V)
      → ((j : ℕ) (one : List ℕ × V) → j < i → slice_get es j ≡ Some one → key_order one.0 k ≡ Less)
      → ((j : ℕ) (one : List ℕ × V) → i ≤ j → slice_get es j ≡ Some one → key_order one.0 k ≡ Greater)
      → put key_order k v es ≡ take i es ++ (k, v) ∷ drop i es
  put-new [] zero k v before behind = refl
  put-new [] (suc i) k v before behind = refl
  put-new (e ∷ es) zero k v before behind =
      ap (λ o. by_order o ((k, v) ∷ e ∷ es) ((e.0, v) ∷ es) (e ∷ put key_order k v es)) (less-greater e.0 k (behind 0 e (omega arith) refl))
  put-new (e ∷ es) (suc i) k v before behind =
      ap (λ o. by_order o ((k, v) ∷ e ∷ es) ((e.0, v) ∷ es) (e ∷ put key_order k v es)) (greater-less e.0 k (before 0 e (omega arith) refl))
      ∙ ap (λ fs. e ∷ fs) (put-new es i k v (λ j one less is. before (suc j) one (omega (arith, less)) is) (λ j one le is. behind (suc j) one (omega (arith, le)) is))

  -- an entry in the place of one with its key
  pub put-old : (es : List (List ℕ × V)) (i : ℕ) (k : List ℕ) (v : V) (one : List ℕ × V) → T (is_sorted key_order es) → slice_get es i ≡ Some one → one.0 ≡ k
      → put key_order k v es ≡ take i es ++ (k, v) ∷ drop (suc i) es
  put-old [] i k v one sorted is key = absurd (cc is)
  put-old (e ∷ es) zero k v one sorted is key =
      let same : e ≡ one = cc in
      let here : e.0 ≡ k = ap (λ (f : List ℕ × V). f.0) same ∙ key in
      let tied : key_order k e.0 ≡ Equal = ap (key_order k) here ∙ tied_itself keys_total k in
      ap (λ o. by_order o ((k, v) ∷ e ∷ es) ((e.0, v) ∷ es) (e ∷ put key_order k v es)) tied ∙ ap (λ (x : List ℕ). (x, v) ∷ es) here
  put-old (e ∷ es) (suc i) k v one sorted is key =
      let less : key_order e.0 k ≡ Less = ap (key_order e.0) (sym key) ∙ below-at e.0 es i one (both-first (below_all key_order e.0 es) (is_sorted key_order es) sorted) is in
      ap (λ o. by_order o ((k, v) ∷ e ∷ es) ((e.0, v) ∷ es) (e ∷ put key_order k v es)) (greater-less e.0 k less)
      ∙ ap (λ fs. e ∷ fs) (put-old es i k v one (both-second (below_all key_order e.0 es) (is_sorted key_order es) sorted) is key)

  -- what is found
  pub find-at : (es : List (List ℕ × V)) (i : ℕ) (k : List ℕ) (one : List ℕ × V) → T (is_sorted key_order es) → slice_get es i ≡ Some one → one.0 ≡ k → find key_order k es ≡ Some one.1
  find-at [] i k one sorted is key = absurd (cc is)
  find-at (e ∷ es) zero k one sorted is key =
      let same : e ≡ one = cc in
      let here : e.0 ≡ k = ap (λ (f : List ℕ × V). f.0) same ∙ key in
      ap (λ b. cond b (Some e.1) (find key_order k es)) (ap (λ x. eq_by_cmp key_order k x) here ∙ ap is_eq (tied_itself keys_total k)) ∙ ap (λ (f : List ℕ × V). Some f.1) same
  find-at (e ∷ es) (suc i) k one sorted is key =
      let less : key_order e.0 k ≡ Less = ap (key_order e.0) (sym key) ∙ below-at e.0 es i one (both-first (below_all key_order e.0 es) (is_sorted key_order es) sorted) is in
      ap (λ b. cond b (Some e.1) (find key_order k es)) (untied-greater k e.0 (greater-less e.0 k less))
      ∙ find-at es i k one (both-second (below_all key_order e.0 es) (is_sorted key_order es) sorted) is key

  pub find-none : (es : List (List ℕ × V)) (k : List ℕ) → ((j : ℕ) (one : List ℕ × V) → slice_get es j ≡ Some one → eq_by_cmp key_order k one.0 ≡ false) → find key_order k es ≡ None
  find-none [] k apart = refl
  find-none (e ∷ es) k apart = ap (λ b. cond b (Some e.1) (find key_order k es)) (apart 0 e refl) ∙ find-none es k (λ j one is. apart (suc j) one is)

  -- all keys but one
  kept-all : (es : List (List ℕ × V)) (k : List ℕ) → T (below_all key_order k es) → where_key key_order (λ x. not (eq_by_cmp key_order k x)) es ≡ es
  kept-all [] k below = refl
  kept-all (e ∷ es) k below =
      ap (λ b. cond (not b) (e ∷ where_key key_order (λ x. not (eq_by_cmp key_order k x)) es) (where_key key_order (λ x. not (eq_by_cmp key_order k x)) es))
      (untied-less k e.0 (is-less (key_order k e.0) (both-first (is_lt (key_order k e.0)) (below_all key_order k es) below)))
      ∙ ap (λ fs. e ∷ fs) (kept-all es k (both-second (is_lt (key_order k e.0)) (below_all key_order k es) below))

  pub kept-others : (es : List (List ℕ × V)) (i : ℕ) (k : List ℕ) (one : List ℕ × V) → T (is_sorted key_order es) → slice_get es i ≡ Some one → one.0 ≡ k
      → where_key key_order (λ x. not (eq_by_cmp key_order k x)) es ≡ take i es ++ drop (suc i) es
  kept-others [] i k one sorted is key = absurd (cc is)
  kept-others (e ∷ es) zero k one sorted is key =
      let same : e ≡ one = cc in
      let here : e.0 ≡ k = ap (λ (f : List ℕ × V). f.0) same ∙ key in
      ap (λ b. cond (not b) (e ∷ where_key key_order (λ x. not (eq_by_cmp key_order k x)) es) (where_key key_order (λ x. not (eq_by_cmp key_order k x)) es))
      (ap (λ x. eq_by_cmp key_order k x) here ∙ ap is_eq (tied_itself keys_total k))
      ∙ kept-all es k (subst (λ x. T (below_all key_order x es)) here (both-first (below_all key_order e.0 es) (is_sorted key_order es) sorted))
  kept-others (e ∷ es) (suc i) k one sorted is key =
      let less : key_order e.0 k ≡ Less = ap (key_order e.0) (sym key) ∙ below-at e.0 es i one (both-first (below_all key_order e.0 es) (is_sorted key_order es) sorted) is in
      ap (λ b. cond (not b) (e ∷ where_key key_order (λ x. not (eq_by_cmp key_order k x)) es) (where_key key_order (λ x. not (eq_by_cmp key_order k x)) es))
      (untied-greater k e.0 (greater-less e.0 k less))
      ∙ ap (λ fs. e ∷ fs) (kept-others es i k one (both-second (below_all key_order e.0 es) (is_sorted key_order es) sorted) is key)
