-- A half is found, or refused for some reason.
use Rattle.std.proofs.Common.{◌≡◌, ℕ, zero, suc, ◌+◌, ◌<◌, ◌≤◌, ◌⊎◌, inl, inr, List, [], ◌∷◌, ◌++◌, length, drop, refl, sym, ap, ◌∙◌, arith, length-append}
use Rattle.std.specs.FinMap.{FinMap, from_sorted}
use Rattle.std.proofs.lemmas.Bool.{cases_lt}
use Rattle.std.proofs.lemmas.List.{append-nil}
use Rattle.store_model.specs.Disk.{HasPages, Image, area_of}
use Rattle.store_model.specs.HalfFields.{first_fields, other_fields, told_count, told_last, told_layout, told_length}
use Rattle.store_model.specs.HalfRefusals.{AreFirst, AreTuples, BadHalf, BadTuple, FindsHalf, HalfRefusal, HasHeader, HasLayout, RefusesHalf, TooSmall, rules_behind, stored_states, tuples_bytes}
use Rattle.store_model.specs.Key.{key_order}
use Rattle.store_model.specs.Layout.{Layout, data_pages, header_page, states_page, total_pages}
use Rattle.store_model.specs.State.{State, greatest_number}
use Rattle.store_model.specs.TupleFields.{IsBadTuple}
use Rattle.store_model.proofs.ByteLaws.{AreBytes-area, AreBytes-drop, AreBytes-take}
use Rattle.store_model.proofs.FieldCaseLaws.{AreGood-or_broken}
use Rattle.store_model.proofs.FieldLaws.{AreBytes}
use Rattle.store_model.proofs.HalfReadingLaws.{FindsHalf-read, last-told, length-stored_states}
use Rattle.store_model.proofs.TupleListLaws.{AreTuples-none, AreTuples-push}
use Rattle.store_model.proofs.TupleReadLaws.{HasTuple-or_bad}

-- a key with its state
abbrev Tuple : Type 0
Tuple = List ℕ × State

-- So many tuples at the front of bytes.
record HasTuples (pages last count : ℕ) (stored : List ℕ) : Type 0 where
  tuples : List Tuple
  are : AreTuples pages last stored tuples
  many : length tuples ≡ count

-- One that is refused behind fewer.
record HasBadTuple (pages last count : ℕ) (stored : List ℕ) : Type 0 where
  tuples : List Tuple
  are : AreTuples pages last stored tuples
  few : length tuples < count
  place : ℕ
  bad : IsBadTuple (rules_behind tuples last) pages (drop (length (tuples_bytes tuples)) stored) place

-- one more behind some
next-tuple : (pages last count : ℕ) (stored : List ℕ) → AreBytes stored → last ≤ greatest_number → HasTuples pages last count stored
    → HasTuples pages last (suc count) stored ⊎ HasBadTuple pages last (suc count) stored
next-tuple pages last count stored bytes low some =
    let behind : List ℕ = drop (length (tuples_bytes some.tuples)) stored in
    elim (HasTuple-or_bad (rules_behind some.tuples last) pages behind (AreBytes-drop stored (length (tuples_bytes some.tuples)) bytes) (omega arith) low) [
      | inl one ↦ inl (record {
        tuples = some.tuples ++ (one.key, one.state) ∷ [];
        are = AreTuples-push pages last stored some.tuples one.key one.state some.are one.front one.keeps.to_most one.keeps.key_may;
        many = omega (arith, length-append some.tuples ((one.key, one.state) ∷ []), some.many);
      })
      | inr bad ↦ inr (record { tuples = some.tuples; are = some.are; few = omega (arith, some.many); place = bad.0; bad = bad.1 })
    ]

HasTuples-or_bad : (pages last count : ℕ) (stored : List ℕ) → AreBytes stored → last ≤ greatest_number
    → HasTuples pages last count stored ⊎ HasBadTuple pages last count stored
HasTuples-or_bad pages last zero stored bytes low = inl (record { tuples = []; are = AreTuples-none pages last stored; many = refl })
HasTuples-or_bad pages last (suc count) stored bytes low =
    elim (HasTuples-or_bad pages last count stored bytes low) [
      | inl some ↦ next-tuple pages last count stored bytes low some
      | inr bad ↦ inr (record { tuples = bad.tuples; are = bad.are; few = omega (arith, bad.few); place = bad.place; bad = bad.bad })
    ]

-- A half that is found.
pub record HasHalf (pages : ℕ) (image : Image) (half : ℕ) : Type 0 where
  pub layout : Layout
  pub last : ℕ
  pub states : FinMap key_order State
  pub finds : FindsHalf pages image half layout last states

-- a half that is found, or a reason why it is refused
abbrev pub HalfCase : ℕ → Image → ℕ → Type 0
HalfCase pages image half = HasHalf pages image half ⊎ ((refusal : HalfRefusal) × RefusesHalf pages image half refusal)

-- tuples that take all of the bytes
all-bytes : (pages last : ℕ) (stored : List ℕ) (tuples : List Tuple) → AreTuples pages last stored tuples → length stored ≤ length (tuples_bytes tuples)
    → tuples_bytes tuples ≡ stored
all-bytes pages last stored tuples are end =
    let bytes : List ℕ = tuples_bytes tuples in
    let none : are.rest ≡ [] = no-bytes are.rest (omega (arith, end, ap length are.stored_is, length-append bytes are.rest)) in
    sym (are.stored_is ∙ ap (λ (xs : List ℕ). bytes ++ xs) none ∙ append-nil bytes) where
      no-bytes : (xs : List ℕ) → length xs ≤ 0 → xs ≡ []
      no-bytes [] few = refl
      no-bytes (x ∷ xs) few = absurd (omega (arith, few))

-- as many tuples as the header tells
counted-case : (pages : ℕ) (image : Image) (half : ℕ) → HasPages image → HasHeader pages image half → (tuples : List Tuple) → AreFirst image half tuples
    → length tuples ≡ told_count (image (header_page half)) → HalfCase pages image half
counted-case pages image half whole has tuples are many =
    let header : List ℕ = image (header_page half) in
    elim (cases_lt (length (tuples_bytes tuples)) (told_length header)) [
      | inl early ↦ inr (BadHalf 28, inr (inr (has, record { tuples = tuples; are = are; count = many; early = early }, refl)))
      | inr all ↦ (
          let end : length (stored_states image half) ≤ length (tuples_bytes tuples) = omega (arith, all, length-stored_states pages image half whole has) in
          inl (record {
            layout = told_layout header;
            last = told_last header;
            states = from_sorted {R = key_order} tuples;
            finds = FindsHalf-read pages image half tuples whole has are many
                (all-bytes (data_pages (told_layout header)) (told_last header) (stored_states image half) tuples are end);
          })
          )
    ]

-- the tuples behind a good header
tuples-case : (pages : ℕ) (image : Image) (half : ℕ) → HasPages image → HasHeader pages image half → HalfCase pages image half
tuples-case pages image half whole has =
    let header : List ℕ = image (header_page half) in
    let layout : Layout = told_layout header in
    let area : List ℕ = area_of image (states_page layout half) layout.room in
    let bytes : AreBytes (stored_states image half) =
    AreBytes-take area (told_length header) (AreBytes-area image (states_page layout half) layout.room whole) in
    elim (HasTuples-or_bad (data_pages layout) (told_last header) (told_count header) (stored_states image half) bytes (last-told header has.others)) [
      | inl some ↦ counted-case pages image half whole has some.tuples some.are some.many
      | inr bad ↦ inr (
        BadTuple (length (tuples_bytes bad.tuples) + bad.place),
        (has, record { tuples = bad.tuples; are = bad.are; few = bad.few; place = bad.place; bad = bad.bad; at_is = refl }),
      )
    ]

-- the other fields of a header whose layout fits
others-case : (pages : ℕ) (image : Image) (half : ℕ) → HasPages image → HasLayout pages image half → HalfCase pages image half
others-case pages image half whole has =
    elim (AreGood-or_broken (image (header_page half)) (other_fields (image (header_page half)))) [
      | inl good ↦ tuples-case pages image half whole (record { layout = has; others = good })
      | inr first ↦ inr (BadHalf first.0, inr (inl (has, first.1)))
    ]

-- A half is found, or refused for some reason.
pub HasHalf-or_refused : (pages : ℕ) (image : Image) (half : ℕ) → HasPages image → HalfCase pages image half
HasHalf-or_refused pages image half whole =
    let header : List ℕ = image (header_page half) in
    elim (AreGood-or_broken header first_fields) [
      | inr first ↦ inr (BadHalf first.0, inl first.1)
      | inl good ↦ elim (cases_lt pages (total_pages (told_layout header))) [
        | inl small ↦ inr (TooSmall (total_pages (told_layout header)) pages, (good, refl, refl, small))
        | inr fits ↦ others-case pages image half whole (record { first = good; fits = fits })
      ]
    ]
