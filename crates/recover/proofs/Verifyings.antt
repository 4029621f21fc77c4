-- Whether the states verify that an entry sets.
use Rattle.std.proofs.Common.{◌≡◌, ℕ, ◌+◌, ◌<◌, ◌≤◌, List, length, map, sym, ap, subst, ◌∙◌, arith, Some, inl, inr}
use Rattle.std.specs.List.{All}
use Rattle.std.proofs.lemmas.Bool.{cases_lt}
use Rattle.std.proofs.lemmas.List.{get_or-map, length-map}
use Rattle.std.proofs.lemmas.Option.{get_or_from_slice_get, slice_get_within}
use Rattle.std.specs.Prelude.{slice_get, slice_index_or}
use Rattle.store_model.specs.Disk.{Image}
use Rattle.store_model.specs.Verify.{FailsFirst, Verifies, computed}
use Rattle.store_model.specs.State.{State}

-- where a link fails, the state doesn't verify
pub FailsFirst-none : (image : Image) (first : ℕ) (state : State) (link : ℕ) (want got : List ℕ) → FailsFirst (computed image first state) state link want got
    → Verifies image first state → ⊥
FailsFirst-none image first state link want got fails holds =
    fails.differ (fails.want_is ∙ sym (holds link fails.exists) ∙ sym fails.got_is)

-- P holds of the first elements of a list
abbrev pub AllBefore : {X : Type 0} → (X → Type 0) → List X → ℕ → Type 0
AllBefore P xs i = (k : ℕ) (d : _) → k < i → k < length xs → P (slice_index_or xs k d)

pub AllBefore-none : {X : Type 0} (P : X → Type 0) (xs : List X) → AllBefore P xs 0
AllBefore-none P xs k d less within = absurd (omega (arith, less))

pub AllBefore-next : {X Y : Type 0} (P : X → Type 0) (f : Y → X) (ys : List Y) (i : ℕ) (y : Y) → AllBefore P (map f ys) i → slice_get ys i ≡ Some y → P (f y)
    → AllBefore P (map f ys) (i + 1)
AllBefore-next P f ys i y so_far there here k d less within = elim (cases_lt k i) [
  | inl before ↦ so_far k d before within
  | inr from ↦ (
      let same : k ≡ i = omega (arith, less, from) in
      let at : slice_index_or (map f ys) i d ≡ f y = get_or-map f ys i y d (slice_get_within ys i y there) ∙ ap f (get_or_from_slice_get ys i y y there) in
      subst (λ (n : ℕ). P (slice_index_or (map f ys) n d)) (sym same) (subst P (sym at) here)
      )
]

pub AllBefore-all : {X : Type 0} (P : X → Type 0) (xs : List X) (i : ℕ) → length xs ≤ i → AllBefore P xs i → All P xs
AllBefore-all P xs i long so_far k d within = so_far k d (omega (arith, within, long)) within

-- P holds of an element where it holds of all
pub All-at : {X Y : Type 0} (P : X → Type 0) (f : Y → X) (ys : List Y) (i : ℕ) (y : Y) → slice_get ys i ≡ Some y → All P (map f ys) → P (f y)
All-at P f ys i y there all =
    let at : slice_index_or (map f ys) i (f y) ≡ f y = get_or-map f ys i y (f y) (slice_get_within ys i y there) ∙ ap f (get_or_from_slice_get ys i y y there) in
    subst P at (all i (f y) (omega (arith, slice_get_within ys i y there, length-map ys f)))
