-- Lists that are written piece by piece.
use Rattle.std.proofs.Common.{◌≡◌, ℕ, zero, suc, ◌+◌, ◌≤◌, List, [], ◌∷◌, ◌++◌, length, take, map, Some, sym, ap, ◌∙◌, arith, length-append}
use Rattle.std.proofs.lemmas.List.{flat_map_more, map-append, take_all}
use Rattle.std.specs.Prelude.{slice_get}
use Rattle.std.specs.List.{flat_map}

-- one element more
take-next : {X : Type 0} (xs : List X) (i : ℕ) (x : X) → slice_get xs i ≡ Some x → take (i + 1) xs ≡ take i xs ++ x ∷ []
take-next [] i x is = absurd (cc is)
take-next (y ∷ xs) zero x is =
    let same : y ≡ x = cc in
    ap (λ z. z ∷ []) same
take-next (y ∷ xs) (suc i) x is =
    let next : suc i + 1 ≡ suc (i + 1) = omega arith in
    ap (λ (n : ℕ). take n (y ∷ xs)) next ∙ ap (λ zs. y ∷ zs) (take-next xs i x is)

-- one piece more
pub pieces-next : {X Y : Type 0} (h : Y → List ℕ) (v : X → Y) (before : List ℕ) (xs : List X) (i : ℕ) (x : X) → slice_get xs i ≡ Some x
    → (before ++ flat_map h (map v (take i xs))) ++ h (v x) ≡ before ++ flat_map h (map v (take (i + 1) xs))
pieces-next h v before xs i x is =
    flat_map_more h before (map v (take i xs)) (v x)
    ∙ ap (λ ys. before ++ flat_map h ys) (sym (map-append v (take i xs) (x ∷ [])) ∙ ap (map v) (sym (take-next xs i x is)))

-- one piece more is written
pub written-next : {X Y : Type 0} (h : Y → List ℕ) (v : X → Y) (before out new : List ℕ) (xs : List X) (i : ℕ) (x : X) → slice_get xs i ≡ Some x
    → out ≡ before ++ flat_map h (map v (take i xs)) → new ≡ out ++ h (v x) → new ≡ before ++ flat_map h (map v (take (i + 1) xs))
written-next h v before out new xs i x is so_far more =
    more ∙ ap (λ (bytes : List ℕ). bytes ++ h (v x)) so_far ∙ pieces-next h v before xs i x is

-- one piece more is counted
pub counted-next : {X Y : Type 0} (h : Y → List ℕ) (v : X → Y) (xs : List X) (i : ℕ) (x : X) → slice_get xs i ≡ Some x
    → length (flat_map h (map v (take i xs))) + length (h (v x)) ≡ length (flat_map h (map v (take (i + 1) xs)))
counted-next h v xs i x is =
    sym (length-append (flat_map h (map v (take i xs))) (h (v x))) ∙ ap length (pieces-next h v [] xs i x is)

-- all pieces
pub pieces-all : {X Y : Type 0} (h : Y → List ℕ) (v : X → Y) (xs : List X) (i : ℕ) → length xs ≤ i → flat_map h (map v (take i xs)) ≡ flat_map h (map v xs)
pieces-all h v xs i all = ap (λ ys. flat_map h (map v ys)) (take_all i xs all)
