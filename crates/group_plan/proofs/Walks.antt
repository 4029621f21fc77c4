-- Lists that are walked element by element.
use Rattle.std.proofs.Common.{◌≡◌, ℕ, zero, suc, ◌+◌, ◌≤◌, Bool, true, false, ◌||◌, cond, List, [], ◌∷◌, ◌++◌, length, take, drop, map, Some, None, Result, Ok, Err, IfOk, IfErr, OnOk, refl, sym, ◌∙◌, ap, arith}
use Rattle.std.specs.Prelude.{slice_get}
use Rattle.std.specs.List.{find, flat_map, list_any}

module _ {X : Type 0} where
  -- what is left begins with the next element
  pub drop-next : (xs : List X) (i : ℕ) (x : X) → slice_get xs i ≡ Some x → drop i xs ≡ x ∷ drop (i + 1) xs
  drop-next [] i x is = absurd (cc is)
  drop-next (y ∷ xs) zero x is =
      let same : y ≡ x = cc in
      ap (λ (z : X). z ∷ xs) same
  drop-next (y ∷ xs) (suc i) x is =
      let next : suc i + 1 ≡ suc (i + 1) = omega arith in
      drop-next xs i x is ∙ ap (λ (n : ℕ). x ∷ drop n (y ∷ xs)) (sym next)

  -- what was passed ends with it
  pub take-next : (xs : List X) (i : ℕ) (x : X) → slice_get xs i ≡ Some x → take (i + 1) xs ≡ take i xs ++ x ∷ []
  take-next [] i x is = absurd (cc is)
  take-next (y ∷ xs) zero x is =
      let same : y ≡ x = cc in
      ap (λ (z : X). z ∷ []) same
  take-next (y ∷ xs) (suc i) x is =
      let next : suc i + 1 ≡ suc (i + 1) = omega arith in
      ap (λ (n : ℕ). take n (y ∷ xs)) next ∙ ap (λ (zs : List X). y ∷ zs) (take-next xs i x is)

  pub drop-end : (xs : List X) (i : ℕ) → length xs ≤ i → drop i xs ≡ []
  drop-end [] zero le = refl
  drop-end [] (suc i) le = refl
  drop-end (x ∷ xs) zero le = absurd (omega (arith, le))
  drop-end (x ∷ xs) (suc i) le = drop-end xs i (omega (arith, le))

  pub take-end : (xs : List X) (i : ℕ) → length xs ≤ i → take i xs ≡ xs
  take-end [] zero le = refl
  take-end [] (suc i) le = refl
  take-end (x ∷ xs) zero le = absurd (omega (arith, le))
  take-end (x ∷ xs) (suc i) le = ap (λ (zs : List X). x ∷ zs) (take-end xs i (omega (arith, le)))

  -- an element that passes is found there
  pub any-found : (p : X → Bool) (xs : List X) (i : ℕ) (x : X) → slice_get xs i ≡ Some x → p x ≡ true → list_any p (drop i xs) ≡ true
  any-found p xs i x is here = ap (list_any p) (drop-next xs i x is) ∙ ap (λ (b : Bool). b || list_any p (drop (i + 1) xs)) here

  -- one that doesn't is passed over
  pub any-next : (p : X → Bool) (xs : List X) (i : ℕ) (x : X) → slice_get xs i ≡ Some x → p x ≡ false → list_any p (drop i xs) ≡ list_any p (drop (i + 1) xs)
  any-next p xs i x is apart = ap (list_any p) (drop-next xs i x is) ∙ ap (λ (b : Bool). b || list_any p (drop (i + 1) xs)) apart

  pub any-end : (p : X → Bool) (xs : List X) (i : ℕ) → length xs ≤ i → list_any p (drop i xs) ≡ false
  any-end p xs i le = ap (list_any p) (drop-end xs i le)

  pub find-found : (p : X → Bool) (xs : List X) (i : ℕ) (x : X) → slice_get xs i ≡ Some x → p x ≡ true → find p (drop i xs) ≡ Some x
  find-found p xs i x is here = ap (find p) (drop-next xs i x is) ∙ ap (λ (b : Bool). cond b (Some x) (find p (drop (i + 1) xs))) here

  pub find-next : (p : X → Bool) (xs : List X) (i : ℕ) (x : X) → slice_get xs i ≡ Some x → p x ≡ false → find p (drop i xs) ≡ find p (drop (i + 1) xs)
  find-next p xs i x is apart = ap (find p) (drop-next xs i x is) ∙ ap (λ (b : Bool). cond b (Some x) (find p (drop (i + 1) xs))) apart

  pub find-end : (p : X → Bool) (xs : List X) (i : ℕ) → length xs ≤ i → find p (drop i xs) ≡ None
  find-end p xs i le = ap (find p) (drop-end xs i le)

or-assoc : (a b c : Bool) → (a || b) || c ≡ a || (b || c)
or-assoc true b c = refl
or-assoc false b c = refl

pub any-append : {Y : Type 0} (p : Y → Bool) (ys zs : List Y) → list_any p (ys ++ zs) ≡ list_any p ys || list_any p zs
any-append p [] zs = refl
any-append p (y ∷ ys) zs = ap (λ (b : Bool). p y || b) (any-append p ys zs) ∙ sym (or-assoc (p y) (list_any p ys) (list_any p zs))

module _ {X Y : Type 0} where
  pub any-map : (p : Y → Bool) (f : X → Y) (xs : List X) → list_any p (map f xs) ≡ list_any (λ x. p (f x)) xs
  any-map p f [] = refl
  any-map p f (x ∷ xs) = ap (λ (b : Bool). p (f x) || b) (any-map p f xs)

  pub any-flat : (p : Y → Bool) (f : X → List Y) (xs : List X) → list_any p (flat_map f xs) ≡ list_any (λ x. list_any p (f x)) xs
  any-flat p f [] = refl
  any-flat p f (x ∷ xs) = any-append p (f x) (flat_map f xs) ∙ ap (λ (b : Bool). list_any p (f x) || b) (any-flat p f xs)

-- what follows from what is so of a value, where there is one
pub IfOk-then : {T E : Type 0} (r : Result T E) (P Q : T → Type 0) → ((x : T) → P x → Q x) → IfOk r P → IfOk r Q
IfOk-then (Ok x) P Q leads p = leads x p
IfOk-then (Err e) P Q leads p = tt

pub IfErr-then : {T E : Type 0} (r : Result T E) (P Q : E → Type 0) → ((e : E) → P e → Q e) → IfErr r P → IfErr r Q
IfErr-then (Ok x) P Q leads p = tt
IfErr-then (Err e) P Q leads p = leads e p

pub OnOk-then : {T E : Type 0} (r : Result T E) (P Q : Type 0) → (P → Q) → OnOk r P → OnOk r Q
OnOk-then (Ok x) P Q leads p = leads p
OnOk-then (Err e) P Q leads p = tt

pub OnOk-both : {T E : Type 0} (r : Result T E) (P Q : Type 0) → OnOk r P → OnOk r Q → OnOk r (P × Q)
OnOk-both (Ok x) P Q p q = (p, q)
OnOk-both (Err e) P Q p q = tt
