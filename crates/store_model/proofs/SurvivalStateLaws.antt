-- One state stands for an object.
use Rattle.std.proofs.Common.{◌≡◌, ℕ, suc, List, [], ◌∷◌, Some, refl, sym, ap, ◌∙◌}
use Rattle.std.specs.Prelude.{length, slice_get, take}
use Rattle.store_model.specs.Hash.{initial_state, state_after}
use Rattle.store_model.specs.Holds.{place_of}
use Rattle.store_model.specs.Standing.{StandsFor}
use Rattle.store_model.specs.State.{Extent, State, bytes_through, heads_of, marks_of}
use Rattle.store_model.specs.Store.{Object, Placement}

-- extents with the same heads are the same, where each mark is what a function gives of its index
extents-one : (mark_of : ℕ → List ℕ) (xs ys : List Extent) → heads_of xs ≡ heads_of ys
    → ((i : ℕ) (mark : List ℕ) → slice_get (marks_of xs) i ≡ Some mark → mark_of i ≡ mark)
    → ((i : ℕ) (mark : List ℕ) → slice_get (marks_of ys) i ≡ Some mark → mark_of i ≡ mark) → xs ≡ ys
extents-one mark_of [] [] same one other = refl
extents-one mark_of [] (y ∷ ys) same one other = absurd (cc same)
extents-one mark_of (x ∷ xs) [] same one other = absurd (cc same)
extents-one mark_of (x ∷ xs) (y ∷ ys) same one other =
    let head : x.head ≡ y.head = cc same in
    let heads : heads_of xs ≡ heads_of ys = cc same in
    let mark : x.mark ≡ y.mark = sym (one 0 x.mark refl) ∙ other 0 y.mark refl in
    let first : x ≡ y = λ i. record { head = head i; mark = mark i } in
    let rest : xs ≡ ys = extents-one (λ i. mark_of (suc i)) xs ys heads (λ i m at. one (suc i) m at) (λ i m at. other (suc i) m at) in
    λ i. first i ∷ rest i

pub StandsFor-one : (object : Object) (a b : State) → StandsFor a object → StandsFor b object → a ≡ b
StandsFor-one object a b one other =
    let place : place_of a ≡ place_of b = one.place ∙ sym other.place in
    let extents : a.extents ≡ b.extents =
    extents-one (λ i. state_after initial_state (take (bytes_through (length object.content) i) object.content)) a.extents b.extents
    (ap (λ (p : Placement). p.heads) place) one.tells.marks other.tells.marks in
    let size : a.size ≡ b.size = one.tells.size ∙ sym other.tells.size in
    let born : a.born ≡ b.born = one.number ∙ sym other.number in
    let digest : a.digest ≡ b.digest = one.tells.digest ∙ sym other.tells.digest in
    let prefix : a.prefix ≡ b.prefix = one.tells.prefix ∙ sym other.tells.prefix in
    let tail : a.tail ≡ b.tail = ap (λ (p : Placement). p.tail) place in
    λ i. record { size = size i; born = born i; digest = digest i; prefix = prefix i; extents = extents i; tail = tail i }
