-- A body of a log: whether it is taken, and what is found behind it.
use Rattle.std.proofs.Common.{◌≡◌, ℕ, suc, ◌*◌, ◌^◌, ◌<◌, ◌≤◌, Bool, true, false, List, [], ◌∷◌, length, sym, ap, subst, ◌∙◌, arith}
use Rattle.std.specs.FinMap.{FinMap, entries}
use Rattle.std.specs.List.{All}
use Rattle.relation.specs.Parts.{encoded_by}
use Rattle.store_model.specs.Disk.{Image, page_bytes}
use Rattle.store_model.specs.Frame.{Entry, Spells}
use Rattle.store_model.specs.Half.{IsHalf, tuples_spelling}
use Rattle.store_model.specs.Key.{key_order}
use Rattle.store_model.specs.Layout.{Layout, data_pages}
use Rattle.store_model.specs.LogReading.{StoredBody}
use Rattle.store_model.specs.Reading.{Found, GoesOn, IsBadFrame, Takes, last_number, with_entries}
use Rattle.store_model.specs.State.{State, greatest_number}
use Rattle.store_model.specs.World.{states_bytes}
use Rattle.store_model.proofs.FrameLaws.{Spells-one}
use Rattle.store_model.proofs.ReadingLaws.{AreAllKept-one, AreKept-one, IsSmall, KeepsOne}
use Rattle.recover.specs.Frames.{AreStored, IsUpTo, KeptBy}
use Rattle.recover.specs.Turns.{found_by}
use Rattle.recover.proofs.Numbers.{all-below}
use Rattle.recover.proofs.Puttings.{length-spelled}

-- a body's entries have numbers up to the last one
pub entries-upto : (pages last end : ℕ) (told : List Entry) (bytes : List ℕ) → end ≡ last_number last told → Spells pages bytes told → All (IsUpTo pages end) told
entries-upto pages last end told bytes end_is spells k d less =
    record { number = omega (arith, all-below last told spells.frame.numbers k d less, end_is); writes = (spells.frame.each k d less).writes }

-- what is sound is stored, also up to a later number
pub stored-half : (layout : Layout) (last end : ℕ) (states : FinMap key_order State) → IsHalf layout last states → last ≤ end → AreStored (data_pages layout) end states
stored-half layout last end states half later key state there = (half.tuples key state there, omega (arith, half.born key state there, later))

-- and takes few bytes
pub half-few : (layout : Layout) (last : ℕ) (states : FinMap key_order State) → IsHalf layout last states → encoded_by states ≤ 2 ^ 60
half-few layout last states half = omega (arith, length-spelled (entries states), half.room, half.sound.most_room)

pub half-small : (layout : Layout) (last : ℕ) (states : FinMap key_order State) → IsHalf layout last states → IsSmall (found_by layout last states)
half-small layout last states half = omega (arith, half.sound.most_units)

-- what is kept is one list
pub KeepsOne-by : (is_last : Bool) (image : Image) (layout : Layout) → KeepsOne (KeptBy is_last image layout)
KeepsOne-by true image layout = AreKept-one image layout
KeepsOne-by false image layout = AreAllKept-one

-- the number of the last entry is one of an entry
last-most : (last : ℕ) (told : List Entry) → last ≤ greatest_number → All (λ one. one.number ≤ greatest_number) told → last_number last told ≤ greatest_number
last-most last [] most all = most
last-most last (e ∷ told) most all = last-most e.number told (all 0 e (omega arith)) (λ k d less. all (suc k) d (omega (arith, less)))

-- what is found behind a body that has room
pub sound-behind : (layout : Layout) (last end : ℕ) (before states : FinMap key_order State) (told : List Entry) (bytes : List ℕ) → IsHalf layout last before
    → Spells (data_pages layout) bytes told → end ≡ last_number last told → AreStored (data_pages layout) end states → encoded_by states ≤ states_bytes layout → IsHalf layout end states
sound-behind layout last end before states told bytes half spells end_is stored room = record {
  sound = half.sound;
  most = omega (arith, end_is, last-most last told half.most (λ k d less. (spells.frame.each k d less).number.most));
  tuples = λ key state there. (stored key state there).0;
  born = λ key state there. (stored key state there).1;
  room = omega (arith, length-spelled (entries states), room);
}

-- it is taken
pub takes-body : (Kept : List Entry → List Entry → Type 0) (layout : Layout) (last end : ℕ) (before states : FinMap key_order State) (body : StoredBody) (told kept : List Entry)
    → Spells (data_pages layout) body.bytes told → GoesOn last told → end ≡ last_number last told → Kept told kept → states ≡ with_entries before kept
    → encoded_by states ≤ states_bytes layout → Takes Kept (found_by layout last before) body (found_by layout end states)
takes-body Kept layout last end before states body told kept spells goes end_is keeps states_are room = record {
  entries_told = told;
  spells = spells;
  goes_on = goes;
  entries_kept = kept;
  kept = keeps;
  after_is = ap (λ (n : ℕ). found_by layout n states) end_is ∙ ap (λ (m : FinMap key_order State). found_by layout (last_number last told) m) states_are;
  room = omega (arith, length-spelled (entries states), room);
}

-- a body whose numbers don't go on is bad
pub bad-number : (Kept : List Entry → List Entry → Type 0) (layout : Layout) (last : ℕ) (before : FinMap key_order State) (body : StoredBody) (told : List Entry) → data_pages layout ≤ 2 ^ 32
    → Spells (data_pages layout) body.bytes told → (GoesOn last told → ⊥) → IsBadFrame Kept (found_by layout last before) body
bad-number Kept layout last before body told small spells stops after takes =
    stops (subst (GoesOn last) (Spells-one (data_pages layout) body.bytes takes.entries_told told small takes.spells spells) takes.goes_on)

-- and so is one whose states have no room
pub bad-room : (Kept : List Entry → List Entry → Type 0) (layout : Layout) (last : ℕ) (before states : FinMap key_order State) (body : StoredBody) (told kept : List Entry) → KeepsOne Kept
    → data_pages layout ≤ 2 ^ 32 → Spells (data_pages layout) body.bytes told → Kept told kept → states ≡ with_entries before kept → states_bytes layout < encoded_by states
    → IsBadFrame Kept (found_by layout last before) body
bad-room Kept layout last before states body told kept keeps small spells kept_are states_are full after takes =
    let same : takes.entries_told ≡ told = Spells-one (data_pages layout) body.bytes takes.entries_told told small takes.spells spells in
    let moved : Kept told takes.entries_kept = subst (λ (es : List Entry). Kept es takes.entries_kept) same takes.kept in
    let kept_same : takes.entries_kept ≡ kept = keeps told takes.entries_kept kept moved kept_are in
    let states_same : after.states ≡ states =
    ap (λ (found : Found). found.states) takes.after_is ∙ ap (with_entries before) kept_same ∙ sym states_are in
    let layout_same : after.layout ≡ layout = ap (λ (found : Found). found.layout) takes.after_is in
    omega (
      arith,
      takes.room,
      ap (λ (m : FinMap key_order State). length (tuples_spelling m)) states_same,
      ap (λ (l : Layout). page_bytes * l.room) layout_same,
      length-spelled (entries states),
      full,
    )

-- the same bytes among the same pages spell the same
pub Spells-same : (m n : ℕ) (one other : List ℕ) (told : List Entry) → m ≡ n → one ≡ other → Spells m one told → Spells n other told
Spells-same m n one other told pages bytes spells =
    subst (λ (p : ℕ). Spells p other told) pages (subst (λ (xs : List ℕ). Spells m xs told) bytes spells)
