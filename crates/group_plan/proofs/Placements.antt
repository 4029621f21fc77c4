-- The places that contents take, and the writes of the changes that take them.
use Rattle.std.proofs.Common.{◌≡◌, ℕ, zero, suc, ◌/◌, ◌%◌, ◌==◌, ◌≤◌, Bool, true, false, not, List, [], ◌∷◌, ◌++◌, length, take, drop, Option, Some, None, IfSome, refl, sym, ◌∙◌, ap, subst, arith, append_assoc}
use Rattle.std.specs.Prelude.{is_some, if◌then◌else◌, option_map}
use Rattle.std.proofs.lemmas.Bool.Decides.{nat_tests}
use Rattle.std.proofs.lemmas.List.{length-map}
use Rattle.extent_alloc.specs.Parts.{Parts}
use Rattle.frame_codec.specs.declared.entry.Write.{Write}
use Rattle.frame_codec.specs.declared.entry.Write.TheVariants as write
use Rattle.store_model.specs.Disk.{page_bytes}
use Rattle.store_model.specs.Places.{extent_count, extent_tiers, first_of, place_with, tail_tiers}
use Rattle.store_model.specs.Placing.{Holding, Longer, kept_heads, tiers_behind, tiers_of}
use Rattle.store_model.specs.Shape.{held_by}
use Rattle.store_model.specs.State.{Draft, Extent, HasTail, IsDraft, IsDraftOf, IsState, State}
use Rattle.store_model.specs.Store.{Placement}
use Rattle.store_model.proofs.CountLaws.{extent_count-HasExtents}
use Rattle.store_model.proofs.ShapeLaws.{extents-HasShape, held_by-all}
use Rattle.store_model.proofs.StateLaws.{Tells-Places}
use Rattle.txn.specs.declared.change.Change.TheVariants as change
use Rattle.txn.specs.declared.change.Extension.{Extension}
use Rattle.group_plan.specs.Places.{Lengthens, PlacesChange, PlacesDraft, SetsDraft, TakesPlace, old_heads}
use Rattle.group_plan.specs.Plans.{DoesWrite, holding_of}
use Rattle.group_plan.specs.Takings.{IsTakeFault, Takes, TakesExtents, tail_list}
use Rattle.group_plan.specs.declared.takings.Takings.{Takings}
use Rattle.group_plan.specs.declared.takings.TakeFault.{TakeFault}
use Rattle.group_plan.proofs.Blocks.{IsTakeFault-front, IsTakeFault-then, Takes-then}

take-front : (xs ys : List ℕ) (n : ℕ) → length xs ≡ n → take n (xs ++ ys) ≡ xs
take-front [] ys n count = let none : n ≡ 0 = sym count in ap (λ (m : ℕ). take m ys) none
take-front (x ∷ xs) ys zero count = absurd (omega (arith, count))
take-front (x ∷ xs) ys (suc n) count = ap (λ (zs : List ℕ). x ∷ zs) (take-front xs ys n (omega (arith, count)))

drop-front : (xs ys : List ℕ) (n : ℕ) → length xs ≡ n → drop n (xs ++ ys) ≡ ys
drop-front [] ys n count = let none : n ≡ 0 = sym count in ap (λ (m : ℕ). drop m ys) none
drop-front (x ∷ xs) ys zero count = absurd (omega (arith, count))
drop-front (x ∷ xs) ys (suc n) count = drop-front xs ys n (omega (arith, count))

first-tail : (tail : Option ℕ) → first_of (tail_list tail) ≡ tail
first-tail None = refl
first-tail (Some page) = refl

-- a place is the one with its heads
place_with-heads : (size : ℕ) (heads : List ℕ) (tail : Option ℕ) → length heads ≡ extent_count size → place_with size (heads ++ tail_list tail) ≡ record { heads = heads; tail = tail }
place_with-heads size heads tail count =
    ap (λ (hs : List ℕ). record { heads = hs; tail = first_of (drop (extent_count size) (heads ++ tail_list tail)) }) (take-front heads (tail_list tail) (extent_count size) count)
    ∙ ap (λ (hs : List ℕ). record { heads = heads; tail = first_of hs }) (drop-front heads (tail_list tail) (extent_count size) count)
    ∙ ap (λ (t : Option ℕ). record { heads = heads; tail = t }) (first-tail tail)

-- whether a content of this size has a tail
abbrev has_tail : ℕ → Bool
has_tail size = not (size % page_bytes == 0)

-- the tier of a tail, where there is one
abbrev tier_list : Bool → List ℕ
tier_list tail = if tail then 0 ∷ [] else []

choice : (b : Bool) → (if b then [] else 0 ∷ []) ≡ tier_list (not b)
choice true = refl
choice false = refl

tail-tiers : (size : ℕ) (there : Bool) → there ≡ has_tail size → tier_list there ≡ tail_tiers size
tail-tiers size there is = ap tier_list is ∙ sym (choice (size % page_bytes == 0))

has-tail : (size : ℕ) (tail : Option ℕ) → is_some tail ≡ has_tail size → HasTail size tail
has-tail size None none = (λ some. absurd (cc some), λ more. grind (arith, nat_tests, none, more))
has-tail size (Some page) some = (λ _. grind (arith, nat_tests, some), λ _. refl)

-- a draft has a mark for each extent of its content
pub count-draft : (draft : Draft) → IsDraft draft → extent_count draft.size ≡ length draft.marks
count-draft draft sound = extent_count-HasExtents draft.size (length draft.marks) sound.size sound.extents

-- and at most 127 of them
pub most-marks : (draft : Draft) → IsDraft draft → length draft.marks ≤ 127
most-marks draft sound = extents-HasShape draft.size 127 _ sound.extents (omega (arith, held_by-all, sound.size))

-- A place was taken for a draft.
pub TakesPlace-taken : (draft : Draft) (kept heads : List ℕ) (tail : Option ℕ) (there : Bool) (n : ℕ) (old mid new : Parts) (before between after : Takings) → IsDraft draft → n ≡ length draft.marks → there ≡ has_tail draft.size
    → TakesExtents n kept heads old mid before between → Takes (tier_list there) (tail_list tail) mid new between after → is_some tail ≡ there
    → TakesPlace draft.size kept (record { heads = heads; tail = tail }) old new before after
TakesPlace-taken draft kept heads tail there n old mid new before between after sound number is extents takes some =
    let count : n ≡ extent_count draft.size = number ∙ sym (count-draft draft sound) in
    let long : length heads ≡ extent_count draft.size = extents.count ∙ count in
    record {
      more = extents.more ++ tail_list tail;
      takes = subst (λ (m : ℕ). Takes (drop (length kept) (extent_tiers m) ++ tail_tiers draft.size) (extents.more ++ tail_list tail) old new before after) count
          (subst (λ (ts : List ℕ). Takes (drop (length kept) (extent_tiers n) ++ ts) (extents.more ++ tail_list tail) old new before after) (tail-tiers draft.size there is)
          (Takes-then (drop (length kept) (extent_tiers n)) (tier_list there) extents.more (tail_list tail) old mid new before between after extents.takes takes));
      place_is = sym (place_with-heads draft.size heads tail long)
          ∙ ap (λ (hs : List ℕ). place_with draft.size (hs ++ tail_list tail)) extents.heads_are
          ∙ ap (place_with draft.size) (append_assoc kept extents.more (tail_list tail));
      count = long;
      aligned = extents.aligned;
      tail = has-tail draft.size tail (some ∙ is);
    }

-- one of its extents found none
pub IsTakeFault-extents : (draft : Draft) (k n : ℕ) (old new : Parts) (before after : Takings) (why : TakeFault) → IsDraft draft → n ≡ length draft.marks → IsTakeFault (drop k (extent_tiers n)) old new before after why
    → IsTakeFault (tiers_behind k draft.size) old new before after why
IsTakeFault-extents draft k n old new before after why sound number fails =
    subst (λ (m : ℕ). IsTakeFault (drop k (extent_tiers m) ++ tail_tiers draft.size) old new before after why) (number ∙ sym (count-draft draft sound))
    (IsTakeFault-front (drop k (extent_tiers n)) (tail_tiers draft.size) old new before after why fails)

-- or its tail
pub IsTakeFault-tail : (draft : Draft) (kept heads : List ℕ) (there : Bool) (n : ℕ) (old mid new : Parts) (before between after : Takings) (why : TakeFault) → IsDraft draft → n ≡ length draft.marks → there ≡ has_tail draft.size
    → TakesExtents n kept heads old mid before between → IsTakeFault (tier_list there) mid new between after why
    → IsTakeFault (tiers_behind (length kept) draft.size) old new before after why
IsTakeFault-tail draft kept heads there n old mid new before between after why sound number is extents fails =
    subst (λ (m : ℕ). IsTakeFault (drop (length kept) (extent_tiers m) ++ tail_tiers draft.size) old new before after why) (number ∙ sym (count-draft draft sound))
    (subst (λ (ts : List ℕ). IsTakeFault (drop (length kept) (extent_tiers n) ++ ts) old new before after why) (tail-tiers draft.size there is)
    (IsTakeFault-then (drop (length kept) (extent_tiers n)) (tier_list there) extents.more old mid new before between after why extents.takes fails))

-- A content that gets longer has no fewer extents.
pub kept-fewer : (old : Option State) (extension : Extension) → IfSome old IsState → IsDraft extension.draft.value → Lengthens old (change.Append extension) → length (old_heads old) ≤ length extension.draft.value.marks
kept-fewer None extension sound draft longer = omega arith
kept-fewer (Some state) extension sound draft longer =
    let n : ℕ = length extension.draft.value.marks in
    let fits : state.size / page_bytes ≤ held_by n = omega (arith, draft.extents.held, draft.extents.full, longer) in
    omega (arith, length-map state.extents (λ (e : Extent). e.head), extents-HasShape state.size n _ sound.extents (omega (arith, sound.extents.full, fits)))

-- the heads of what is there
kept-old : (size : ℕ) (old : Option State) → kept_heads (Longer size) (option_map holding_of old) ≡ old_heads old
kept-old size None = refl
kept-old size (Some state) = refl

does-put : (key content : List ℕ) (draft : Draft) (number : ℕ) (place : Placement) (one : Write) → IsDraftOf draft content → SetsDraft key draft number place one → DoesWrite key (change.Put content) number (Some place) one
does-put key content draft number place (write.Set at state) of sets = (
  sets.0,
  sets.1,
  (sets.2.born, (λ i. record { heads = sets.2.heads i; tail = sets.2.tail i }), Tells-Places draft content place.heads place.tail number state.value of sets.2),
)
does-put key content draft number place (write.Del at) of sets = absurd sets

does-append : (key : List ℕ) (extension : Extension) (number : ℕ) (place : Placement) (one : Write) → SetsDraft key extension.draft.value number place one → DoesWrite key (change.Append extension) number (Some place) one
does-append key extension number place (write.Set at state) sets = sets
does-append key extension number place (write.Del at) sets = absurd sets

-- a content was put at its place
pub PlacesChange-put : (key content : List ℕ) (draft : Draft) (number : ℕ) (held : Option Holding) (old new : Parts) (before after : Takings) (one : Write) → IsDraftOf draft content → PlacesDraft key draft [] number old new before after one
    → PlacesChange number key (change.Put content) held old new before after one
PlacesChange-put key content draft number held old new before after one of placed = record {
  heads = placed.more;
  takes = subst (λ (size : ℕ). Takes (tiers_behind 0 size) placed.more old new before after) of.size placed.takes;
  does = does-put key content draft number (place_with (length content) placed.more) one of
      (subst (λ (size : ℕ). SetsDraft key draft number (place_with size placed.more) one) of.size placed.sets);
}

-- or more of it behind what is there
pub PlacesChange-append : (key : List ℕ) (extension : Extension) (number : ℕ) (state : Option State) (kept : List ℕ) (old new : Parts) (before after : Takings) (one : Write) → kept ≡ old_heads state
    → PlacesDraft key extension.draft.value kept number old new before after one
    → PlacesChange number key (change.Append extension) (option_map holding_of state) old new before after one
PlacesChange-append key extension number state kept old new before after one is placed =
    let size : ℕ = extension.draft.value.size in
    let same : kept ≡ kept_heads (Longer size) (option_map holding_of state) = is ∙ sym (kept-old size state) in
    record {
      heads = placed.more;
      takes = subst (λ (hs : List ℕ). Takes (tiers_behind (length hs) size) placed.more old new before after) same placed.takes;
      does = does-append key extension number (place_with size (kept_heads (Longer size) (option_map holding_of state) ++ placed.more)) one
          (subst (λ (hs : List ℕ). SetsDraft key extension.draft.value number (place_with size (hs ++ placed.more)) one) same placed.sets);
    }

pub IsTakeFault-append : (extension : Extension) (state : Option State) (k : ℕ) (old new : Parts) (before after : Takings) (why : TakeFault) → k ≡ length (old_heads state)
    → IsTakeFault (tiers_behind k extension.draft.value.size) old new before after why
    → IsTakeFault (tiers_of (Longer extension.draft.value.size) (option_map holding_of state)) old new before after why
IsTakeFault-append extension state k old new before after why is fails =
    let size : ℕ = extension.draft.value.size in
    subst (λ (n : ℕ). IsTakeFault (tiers_behind n size) old new before after why) (is ∙ ap length (sym (kept-old size state))) fails
