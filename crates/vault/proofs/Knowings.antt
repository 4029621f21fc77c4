-- What holds of the first of some elements, and of one more.
use Rattle.std.proofs.Common.{◌≡◌, ℕ, zero, suc, ◌+◌, ◌≤◌, List, [], ◌∷◌, length, take, Some, sym, subst, add-one}
use Rattle.std.specs.Prelude.{slice_get}
use Rattle.std.specs.List.{All}
use Rattle.std.proofs.lemmas.List.{take_all}
use Rattle.std.proofs.lemmas.List.Elements.{All-cons, All-head, All-nil, All-tail}

more : {X : Type 0} (P : X → Type 0) (xs : List X) (i : ℕ) (x : X) → slice_get xs i ≡ Some x → All P (take i xs) → P x → All P (take (suc i) xs)
more P [] i x is all here = absurd (cc is)
more P (y ∷ xs) zero x is all here = let same : y ≡ x = cc is in All-cons P y [] (subst P (sym same) here) (All-nil P)
more P (y ∷ xs) (suc i) x is all here =
    All-cons P y (take (suc i) xs) (All-head P y (take i xs) all) (more P xs i x is (All-tail P y (take i xs) all) here)

pub All-more : {X : Type 0} (P : X → Type 0) (xs : List X) (i : ℕ) (x : X) → slice_get xs i ≡ Some x → All P (take i xs) → P x → All P (take (i + 1) xs)
All-more P xs i x is all here = subst (λ (n : ℕ). All P (take n xs)) (sym (add-one i)) (more P xs i x is all here)

-- where these are all
pub All-taken : {X : Type 0} (P : X → Type 0) (xs : List X) (i : ℕ) → length xs ≤ i → All P (take i xs) → All P xs
All-taken P xs i most all = subst (All P) (take_all i xs most) all
