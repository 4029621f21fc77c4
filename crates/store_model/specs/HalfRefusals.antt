-- The reading of a half: its layout, its last number and its states, or why it is refused.
use Rattle.std.specs.Prelude.{◌≡◌, ℕ, ◌+◌, ◌<◌, ◌≤◌, ◌⊎◌, Bool, true, List, [], ◌∷◌, ◌++◌, length, take, drop, slice_get, Some}
use Rattle.std.specs.List.{All, flat_map}
use Rattle.std.specs.FinMap.{FinMap}
use Rattle.std.specs.Ordering.{is_lt}
use Rattle.std.specs.declared.cmp.Ordering.TheVariants.{Less}
use Rattle.store_model.specs.Disk.{Image, area_of}
use Rattle.store_model.specs.Field.{AreGood, IsFirstBroken}
use Rattle.store_model.specs.Half.{SpellsHalf}
use Rattle.store_model.specs.HalfFields.{first_fields, other_fields, told_count, told_last, told_layout, told_length}
use Rattle.store_model.specs.Key.{key_order}
use Rattle.store_model.specs.Layout.{Layout, data_pages, header_page, states_page, total_pages}
use Rattle.store_model.specs.State.{State}
use Rattle.store_model.specs.Tuple.{IsTuple, spelling}
use Rattle.store_model.specs.TupleFields.{IsBadTuple, Rules}

-- the bytes of the states that the header of a half tells
abbrev pub stored_states : Image → ℕ → List ℕ
stored_states image half =
    let header : List ℕ = image (header_page half) in
    take (told_length header) (area_of image (states_page (told_layout header) half) (told_layout header).room)

-- the stored form of tuples, one behind the other
abbrev pub tuples_bytes : List (List ℕ × State) → List ℕ
tuples_bytes tuples = flat_map (λ one. spelling one.0 one.1) tuples

-- each key is greater than the one before
abbrev pub DoTuplesRise : List (List ℕ × State) → Type 0
DoTuplesRise tuples =
    (i : ℕ) (one other : List ℕ × State) → slice_get tuples i ≡ Some one → slice_get tuples (i + 1) ≡ Some other → key_order one.0 other.0 ≡ Less

-- Tuples stand one behind the other at the front of these bytes, among so many data pages: their keys rise, and their numbers are
-- up to the last one.
pub record AreTuples (pages last : ℕ) (stored : List ℕ) (tuples : List (List ℕ × State)) : Type 0 where
  pub each : All (λ one. IsTuple pages one.0 one.1) tuples
  pub born : All (λ one. one.1.born ≤ last) tuples
  pub rise : DoTuplesRise tuples
  pub rest : List ℕ
  pub stored_is : stored ≡ tuples_bytes tuples ++ rest

-- whether a key may stand behind these tuples
abbrev pub may_follow : List (List ℕ × State) → List ℕ → Bool
may_follow [] key = true
may_follow (one ∷ []) key = is_lt (key_order one.0 key)
may_follow (one ∷ other ∷ tuples) key = may_follow (other ∷ tuples) key

-- the rules of the tuple behind these, where the last number is this one
abbrev pub rules_behind : List (List ℕ × State) → ℕ → Rules
rules_behind tuples last = record { key = may_follow tuples; least = 1; most = last }

-- why a half is refused: the layout takes more pages than there are; this field of the header; this byte of the states' area
pub data HalfRefusal : Type 0 where
  TooSmall : ℕ → ℕ → HalfRefusal
  BadHalf : ℕ → HalfRefusal
  BadTuple : ℕ → HalfRefusal

-- the header's first fields are good and its layout fits a disk of so many pages
pub record HasLayout (pages : ℕ) (image : Image) (half : ℕ) : Type 0 where
  pub first : AreGood (image (header_page half)) first_fields
  pub fits : total_pages (told_layout (image (header_page half))) ≤ pages

-- its other fields are good too
pub record HasHeader (pages : ℕ) (image : Image) (half : ℕ) : Type 0 where
  pub layout : HasLayout pages image half
  pub others : AreGood (image (header_page half)) (other_fields (image (header_page half)))

-- the tuples at the front of the states that a header tells
abbrev pub AreFirst : Image → ℕ → List (List ℕ × State) → Type 0
AreFirst image half tuples =
    let header : List ℕ = image (header_page half) in
    AreTuples (data_pages (told_layout header)) (told_last header) (stored_states image half) tuples

-- A tuple is refused behind those that are good, at this offset in the states' area.
pub record IsRefusedTuple (image : Image) (half at : ℕ) : Type 0 where
  pub tuples : List (List ℕ × State)
  pub are : AreFirst image half tuples
  pub few : length tuples < told_count (image (header_page half))
  pub place : ℕ
  pub bad : IsBadTuple (rules_behind tuples (told_last (image (header_page half)))) (data_pages (told_layout (image (header_page half))))
      (drop (length (tuples_bytes tuples)) (stored_states image half)) place
  pub at_is : at ≡ length (tuples_bytes tuples) + place

-- As many tuples as the header tells end before the length that it tells.
pub record EndsEarly (image : Image) (half : ℕ) : Type 0 where
  pub tuples : List (List ℕ × State)
  pub are : AreFirst image half tuples
  pub count : length tuples ≡ told_count (image (header_page half))
  pub early : length (tuples_bytes tuples) < told_length (image (header_page half))

-- A half is refused for this, in a disk of so many pages: the first that applies, in the order of the fields, the layout, the other
-- fields, the tuples, and their count.
abbrev pub RefusesHalf : ℕ → Image → ℕ → HalfRefusal → Type 0
RefusesHalf pages image half (TooSmall need have) =
    AreGood (image (header_page half)) first_fields × (need ≡ total_pages (told_layout (image (header_page half)))) × (have ≡ pages) × (pages < need)
RefusesHalf pages image half (BadHalf at) =
    IsFirstBroken (image (header_page half)) first_fields at
    ⊎ (HasLayout pages image half × IsFirstBroken (image (header_page half)) (other_fields (image (header_page half))) at)
    ⊎ (HasHeader pages image half × EndsEarly image half × (at ≡ 28))
RefusesHalf pages image half (BadTuple at) = HasHeader pages image half × IsRefusedTuple image half at

-- A half is found: this layout, this last number and these states, in a disk of so many pages.
pub record FindsHalf (pages : ℕ) (image : Image) (half : ℕ) (layout : Layout) (last : ℕ) (states : FinMap key_order State) : Type 0 where
  pub fits : total_pages layout ≤ pages
  pub spells : SpellsHalf (image (header_page half)) (area_of image (states_page layout half) layout.room) layout last states
