-- What is held stays held where its pages do: the pages of a content are owned by its blocks, and nothing else is read.
use Rattle.std.proofs.Common.{◌≡◌, ℕ, ◌+◌, ◌/◌, ◌%◌, ◌<◌, ◌≤◌, List, length, take, Option, Some, inl, inr, sym, ap, ◌∙◌, subst, arith}
use Rattle.store_model.specs.Disk.{Image, SameOff, page_bytes}
use Rattle.store_model.specs.Holds.{HoldsAt, IsPoured, ObjectStands, StandsAt, full_page, place_of}
use Rattle.store_model.specs.Layout.{Layout, data_page, data_pages}
use Rattle.store_model.specs.Space.{AreBlocks, IsOwnedPage, blocks_of, owners, tail_blocks}
use Rattle.store_model.specs.State.{State, heads_of}
use Rattle.store_model.specs.Store.{Object, Placement}
use Rattle.store_model.proofs.PlaceLaws.{StandsAt-one, StandsAt-within, extent-owns, extent_blocks, lies-zero, owners-append, stands-lies, tail-own, tail-within}

-- wherever a full page of a held content stands, it reads so
pub HoldsAt-full : (image : Image) (first : ℕ) (place : Placement) (content : List ℕ) → HoldsAt image first place content
    → (page at : ℕ) → page < length content / page_bytes → StandsAt place page at → image (first + at) ≡ full_page content page
HoldsAt-full image first place content held page at below stands =
    let one = held.full page below in
    ap (λ (n : ℕ). image (first + n)) (StandsAt-one place page at one.0 stands one.1) ∙ one.2

-- where a full page stands is owned
pub StandsAt-owned : (place : Placement) (page at : ℕ) → StandsAt place page at → 1 ≤ owners (blocks_of place) at
StandsAt-owned place page at stands =
    let here = lies-zero at stands.head stands.extent (stands-lies place page at stands) in
    omega (
      arith,
      owners-append (extent_blocks 0 place.heads) (tail_blocks place.tail) at,
      extent-owns place.heads 0 stands.extent stands.head at stands.there here,
    )

-- a tail page is owned
pub tail-owned : (place : Placement) (at : ℕ) → place.tail ≡ Some at → 1 ≤ owners (blocks_of place) at
tail-owned place at is =
    let tail : owners (tail_blocks place.tail) at ≡ 1 =
    subst (λ (t : Option ℕ). owners (tail_blocks t) at ≡ 1) (sym is) (tail-own at) in
    omega (arith, owners-append (extent_blocks 0 place.heads) (tail_blocks place.tail) at, tail)

-- each page of a state's content is one of its blocks'
pub IsPoured-owned : (layout : Layout) (state : State) (from p : ℕ) → IsPoured layout state from p
    → (at : ℕ) × (p ≡ data_page layout + at) × (1 ≤ owners (blocks_of (place_of state)) at)
IsPoured-owned layout state from p (inl full) =
    (full.at, full.is, StandsAt-owned (place_of state) full.page full.at full.stands)
IsPoured-owned layout state from p (inr tail) = (tail.at, tail.is, tail-owned (place_of state) tail.at tail.tail)

-- each page of a state's content is one of the data area that its blocks own
pub IsPoured-page : (layout : Layout) (state : State) (from p : ℕ)
    → AreBlocks (data_pages layout) (blocks_of (place_of state)) → IsPoured layout state from p
    → IsOwnedPage layout (blocks_of (place_of state)) p
IsPoured-page layout state from p blocks (inl full) = record {
  at = full.at;
  is = full.is;
  within = StandsAt-within (data_pages layout) (place_of state) full.page full.at blocks full.stands;
  owned = StandsAt-owned (place_of state) full.page full.at full.stands;
}
IsPoured-page layout state from p blocks (inr tail) = record {
  at = tail.at;
  is = tail.is;
  within = tail-within (data_pages layout) tail.at (heads_of state.extents)
      (subst (λ (t : Option ℕ). AreBlocks (data_pages layout) (blocks_of (record { heads = heads_of state.extents; tail = t })))
      tail.tail blocks);
  owned = tail-owned (place_of state) tail.at tail.tail;
}

-- an object stands on while the pages of its blocks read as before
pub ObjectStands-off : (old new : Image) (first : ℕ) (object : Object)
    → ((at : ℕ) → 1 ≤ owners (blocks_of object.place) at → new (first + at) ≡ old (first + at))
    → ObjectStands old first object → ObjectStands new first object
ObjectStands-off old new first object same stands = record {
  held = record {
    full = λ page less.
        let one = stands.held.full page less in
        (one.0, one.1, same one.0 (StandsAt-owned object.place page one.0 one.1) ∙ one.2);
    tailed = stands.held.tailed;
    tail = λ page is.
        ap (take (length object.content % page_bytes)) (same page (tail-owned object.place page is))
        ∙ stands.held.tail page is;
  };
  filled = λ page is. same page (tail-owned object.place page is) ∙ stands.filled page is;
}

-- an object stands on while a content is written to blocks that share no page with its own
pub ObjectStands-poured : (layout : Layout) (state : State) (from : ℕ) (old new : Image) (object : Object)
    → SameOff (IsPoured layout state from) old new
    → ((at : ℕ) → owners (blocks_of object.place) at + owners (blocks_of (place_of state)) at ≤ 1)
    → ObjectStands old (data_page layout) object → ObjectStands new (data_page layout) object
ObjectStands-poured layout state from old new object same apart stands =
    ObjectStands-off old new (data_page layout) object
    (λ at owned. same (data_page layout + at) (λ poured.
    let other = IsPoured-owned layout state from (data_page layout + at) poured in
    let here : other.0 ≡ at = omega (arith, other.1) in
    let both = subst (λ (n : ℕ). 1 ≤ owners (blocks_of (place_of state)) n) here other.2 in
    absurd (omega (arith, apart at, owned, both))))
    stands
