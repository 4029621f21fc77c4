-- Laws of halves that are refused: for one reason each.
use Rattle.std.proofs.Common.{◌≡◌, ℕ, ◌<◌, inl, inr, List, length, drop, sym, ap, ◌∙◌, subst, arith}
use Rattle.std.proofs.lemmas.Bool.{cases_lt}
use Rattle.store_model.specs.Disk.{Image}
use Rattle.store_model.specs.Field.{AreGood, IsFirstBroken}
use Rattle.store_model.specs.HalfFields.{first_fields, other_fields, told_last, told_layout}
use Rattle.store_model.specs.HalfRefusals.{AreFirst, BadHalf, BadTuple, HalfRefusal, HasHeader, HasLayout, IsRefusedTuple, RefusesHalf, TooSmall, rules_behind, stored_states, tuples_bytes}
use Rattle.store_model.specs.Layout.{data_pages, header_page}
use Rattle.store_model.specs.State.{State}
use Rattle.store_model.specs.TupleFields.{IsBadTuple}
use Rattle.store_model.proofs.FieldLaws.{AreGood-none_broken}
use Rattle.store_model.proofs.FirstBrokenLaws.{IsBadTuple-one, IsFirstBroken-one}
use Rattle.store_model.proofs.HalfRefusalLaws.{AreTuples-not_bad, AreTuples-one, pages-few}

-- a key with its state
abbrev Tuple : Type 0
Tuple = List ℕ × State

-- good first fields of a header aren't broken, and neither are good other ones
first-good : (image : Image) (half at : ℕ) → AreGood (image (header_page half)) first_fields → IsFirstBroken (image (header_page half)) first_fields at → ⊥
first-good image half at good first = AreGood-none_broken (image (header_page half)) first_fields at good first

others-good : (image : Image) (half at : ℕ) → AreGood (image (header_page half)) (other_fields (image (header_page half)))
    → IsFirstBroken (image (header_page half)) (other_fields (image (header_page half))) at → ⊥
others-good image half at good first = AreGood-none_broken (image (header_page half)) (other_fields (image (header_page half))) at good first

-- a layout that fits isn't too large
small-not_fit : (pages : ℕ) (image : Image) (half need have : ℕ) → RefusesHalf pages image half (TooSmall need have) → HasLayout pages image half → ⊥
small-not_fit pages image half need have small fits = omega (arith, small.1, small.3, fits.fits)

-- too small for the layout, and no other field is judged
small-not_bad : (pages : ℕ) (image : Image) (half need have at : ℕ) → RefusesHalf pages image half (TooSmall need have)
    → RefusesHalf pages image half (BadHalf at) → ⊥
small-not_bad pages image half need have at small (inl first) = first-good image half at small.0 first
small-not_bad pages image half need have at small (inr (inl others)) = small-not_fit pages image half need have small others.0
small-not_bad pages image half need have at small (inr (inr ends)) = small-not_fit pages image half need have small ends.0.layout

-- fewer tuples are refused at none that stands there
fewer-not_refused : (pages : ℕ) (image : Image) (half at : ℕ) (ts : List Tuple) → HasHeader pages image half → (bad : IsRefusedTuple image half at)
    → AreFirst image half ts → length bad.tuples < length ts → ⊥
fewer-not_refused pages image half at ts has bad are few =
    let header : List ℕ = image (header_page half) in
    AreTuples-not_bad (data_pages (told_layout header)) (told_last header) (stored_states image half) bad.tuples ts bad.place bad.are are
    (pages-few pages image half has) few bad.bad

-- a header that is refused, and a tuple that is
bad-not_tuple : (pages : ℕ) (image : Image) (half at place : ℕ) → RefusesHalf pages image half (BadHalf at) → HasHeader pages image half
    → IsRefusedTuple image half place → ⊥
bad-not_tuple pages image half at place (inl first) has bad = first-good image half at has.layout.first first
bad-not_tuple pages image half at place (inr (inl others)) has bad = others-good image half at has.others others.1
bad-not_tuple pages image half at place (inr (inr ends)) has bad =
    fewer-not_refused pages image half place ends.1.tuples has bad ends.1.are (omega (arith, bad.few, ends.1.count))

-- the field of a header that is refused
bad-one : (pages : ℕ) (image : Image) (half a b : ℕ) → RefusesHalf pages image half (BadHalf a) → RefusesHalf pages image half (BadHalf b) → a ≡ b
bad-one pages image half a b (inl one) (inl other) = IsFirstBroken-one (image (header_page half)) first_fields a b one other
bad-one pages image half a b (inl one) (inr (inl other)) = absurd (first-good image half a other.0.first one)
bad-one pages image half a b (inl one) (inr (inr other)) = absurd (first-good image half a other.0.layout.first one)
bad-one pages image half a b (inr (inl one)) (inl other) = absurd (first-good image half b one.0.first other)
bad-one pages image half a b (inr (inl one)) (inr (inl other)) =
    IsFirstBroken-one (image (header_page half)) (other_fields (image (header_page half))) a b one.1 other.1
bad-one pages image half a b (inr (inl one)) (inr (inr other)) = absurd (others-good image half a other.0.others one.1)
bad-one pages image half a b (inr (inr one)) (inl other) = absurd (first-good image half b one.0.layout.first other)
bad-one pages image half a b (inr (inr one)) (inr (inl other)) = absurd (others-good image half b one.0.others other.1)
bad-one pages image half a b (inr (inr one)) (inr (inr other)) = one.2 ∙ sym other.2

-- tuples that are refused behind as many good ones
same-refused : (pages : ℕ) (image : Image) (half a b : ℕ) → HasHeader pages image half → (one : IsRefusedTuple image half a) (other : IsRefusedTuple image half b)
    → length one.tuples ≡ length other.tuples → a ≡ b
same-refused pages image half a b has one other long =
    let header : List ℕ = image (header_page half) in
    let stored : List ℕ = stored_states image half in
    let extent : ℕ = data_pages (told_layout header) in
    let last : ℕ = told_last header in
    let same : one.tuples ≡ other.tuples = AreTuples-one extent last stored one.tuples other.tuples one.are other.are (pages-few pages image half has) long in
    let there : IsBadTuple (rules_behind one.tuples last) extent (drop (length (tuples_bytes one.tuples)) stored) other.place =
    subst (λ (ts : List Tuple). IsBadTuple (rules_behind ts last) extent (drop (length (tuples_bytes ts)) stored) other.place) (sym same) other.bad in
    let place : one.place ≡ other.place =
    IsBadTuple-one (rules_behind one.tuples last) extent (drop (length (tuples_bytes one.tuples)) stored) one.place other.place one.bad there in
    omega (arith, one.at_is, other.at_is, place, ap (λ (ts : List Tuple). length (tuples_bytes ts)) same)

-- the tuple that is refused
tuple-one : (pages : ℕ) (image : Image) (half a b : ℕ) → HasHeader pages image half → IsRefusedTuple image half a → IsRefusedTuple image half b → a ≡ b
tuple-one pages image half a b has one other = elim (cases_lt (length one.tuples) (length other.tuples)) [
  | inl less ↦ absurd (fewer-not_refused pages image half a other.tuples has one other.are less)
  | inr from ↦ elim (cases_lt (length other.tuples) (length one.tuples)) [
    | inl less ↦ absurd (fewer-not_refused pages image half b one.tuples has other one.are less)
    | inr to ↦ same-refused pages image half a b has one other (omega (arith, from, to))
  ]
]

-- A half is refused for one reason.
pub RefusesHalf-one : (pages : ℕ) (image : Image) (half : ℕ) (a b : HalfRefusal) → RefusesHalf pages image half a → RefusesHalf pages image half b → a ≡ b
RefusesHalf-one pages image half (TooSmall m n) (TooSmall k l) one other =
    ap (λ (x : ℕ). TooSmall x n) (one.1 ∙ sym other.1) ∙ ap (λ (x : ℕ). TooSmall k x) (one.2 ∙ sym other.2)
RefusesHalf-one pages image half (TooSmall m n) (BadHalf at) one other = absurd (small-not_bad pages image half m n at one other)
RefusesHalf-one pages image half (TooSmall m n) (BadTuple at) one other = absurd (small-not_fit pages image half m n one other.0.layout)
RefusesHalf-one pages image half (BadHalf at) (TooSmall k l) one other = absurd (small-not_bad pages image half k l at other one)
RefusesHalf-one pages image half (BadHalf a) (BadHalf b) one other = ap BadHalf (bad-one pages image half a b one other)
RefusesHalf-one pages image half (BadHalf at) (BadTuple place) one other = absurd (bad-not_tuple pages image half at place one other.0 other.1)
RefusesHalf-one pages image half (BadTuple at) (TooSmall k l) one other = absurd (small-not_fit pages image half k l other one.0.layout)
RefusesHalf-one pages image half (BadTuple place) (BadHalf at) one other = absurd (bad-not_tuple pages image half at place other one.0 one.1)
RefusesHalf-one pages image half (BadTuple a) (BadTuple b) one other = ap BadTuple (tuple-one pages image half a b one.0 one.1 other.1)
