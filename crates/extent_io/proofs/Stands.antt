-- Where the pages of a state stand, in what a call sees of the state.
use Rattle.std.proofs.Common.{◌≡◌, ℕ, ◌+◌, ◌/◌, ◌<◌, ◌≤◌, List, [], ◌++◌, length, drop, replicate, get_or, refl, sym, ap, ◌∙◌, subst, arith}
use Rattle.std.specs.Prelude.{Some, slice_get, slice_index}
use Rattle.std.proofs.lemmas.List.{drop-replicate, length-map}
use Rattle.std.proofs.lemmas.Option.{get_or_from_slice_get, slice_get-get_or, slice_get-map}
use Rattle.store_model.specs.Disk.{page_bytes, page_of}
use Rattle.store_model.specs.Holds.{StandsAt, place_of}
use Rattle.store_model.specs.Shape.{LiesAt, UsesExtent, held_by, pages_used, tier_of}
use Rattle.store_model.specs.Space.{AreBlocks, blocks_of}
use Rattle.store_model.specs.State.{Extent, IsState, State, heads_of, marks_of}
use Rattle.store_model.specs.Verify.{mark_at}
use Rattle.std.proofs.lemmas.Nat.{pow_pos}
use Rattle.store_model.proofs.PlaceLaws.{StandsAt-within}
use Rattle.store_model.proofs.ShapeLaws.{UsesExtent-HasShape, extents-HasShape, extents-UsesExtent, held_by-all}
use Rattle.blob_state.specs.Values.{extent_of, extents_of}
use Rattle.blob_state.specs.declared.values.Extent.{Extent as Kept}

-- the extent of a full page is one of the state's
pub extent-within : (state : State) (extents : List Kept) (number extent offset : ℕ) → extents_of extents ≡ state.extents → IsState state
    → LiesAt number extent offset → number < state.size / page_bytes → extent < length extents
extent-within state extents number extent offset same rules lies below =
    let uses : UsesExtent state.size extent = omega (arith, lies.at, below) in
    let within : extent < length state.extents = extents-UsesExtent state.size extent _ rules.extents uses in
    let count : length (extents_of extents) ≡ length extents = length-map extents extent_of in
    omega (arith, within, count, ap length same)

-- and the page stands behind its head
pub stands-behind : (state : State) (extents : List Kept) (number extent offset : ℕ) (default : Kept) → extents_of extents ≡ state.extents → IsState state
    → LiesAt number extent offset → number < state.size / page_bytes → StandsAt (place_of state) number ((get_or extents extent default).head + offset)
stands-behind state extents number extent offset default same rules lies below =
    let within = extent-within state extents number extent offset same rules lies below in
    let here : slice_get extents extent ≡ Some (get_or extents extent default) = slice_get-get_or extents extent default within in
    let known : slice_get (extents_of extents) extent ≡ Some (extent_of (get_or extents extent default)) = rw (slice_get-map extent_of extents extent, here) refl in
    let there : slice_get (heads_of (extents_of extents)) extent ≡ Some (get_or extents extent default).head =
    rw (slice_get-map (λ (e : Extent). e.head) (extents_of extents) extent, known) refl in
    record {
      extent = extent;
      offset = offset;
      lies = lies;
      head = (get_or extents extent default).head;
      there = subst (λ (es : List Extent). slice_get (heads_of es) extent ≡ Some (get_or extents extent default).head) same there;
      at_is = refl;
    }

-- a page of zeros with bytes at its front
pub page-filled : (content front : List ℕ) → front ≡ content → front ++ drop (length content) (replicate page_bytes 0) ≡ page_of content
page-filled content front same = ap (λ xs. xs ++ drop (length content) (replicate page_bytes 0)) same ∙ ap (λ zeros. content ++ zeros) (drop-replicate (length content) page_bytes 0)

-- how many extents there are
pub length-extents : (state : State) (extents : List Kept) → extents_of extents ≡ state.extents → length extents ≡ length state.extents
length-extents state extents same = sym (length-map extents extent_of) ∙ ap length same

-- at most as many as the greatest size has
pub most-extents : (state : State) → IsState state → length state.extents ≤ 127
most-extents state rules = extents-HasShape state.size 127 _ rules.extents (omega (arith, rules.size, held_by-all))

-- extent i of a state, as it is kept
pub extent-there : (state : State) (extents : List Kept) (i : ℕ) (default : Kept) → extents_of extents ≡ state.extents → i < length state.extents
    → slice_get state.extents i ≡ Some (extent_of (get_or extents i default))
extent-there state extents i default same within =
    let here : slice_get extents i ≡ Some (get_or extents i default) = slice_get-get_or extents i default (omega (arith, within, length-extents state extents same)) in
    let known : slice_get (extents_of extents) i ≡ Some (extent_of (get_or extents i default)) = rw (slice_get-map extent_of extents i, here) refl in
    subst (λ (es : List Extent). slice_get es i ≡ Some (extent_of (get_or extents i default))) same known

-- its mark
pub mark-there : (state : State) (extents : List Kept) (i : ℕ) (default : Kept) → extents_of extents ≡ state.extents → i < length state.extents
    → (get_or extents i default).mark.words ≡ mark_at state i
mark-there state extents i default same within =
    let known : slice_get (marks_of state.extents) i ≡ Some (get_or extents i default).mark.words =
    rw (slice_get-map (λ (e : Extent). e.mark) state.extents i, extent-there state extents i default same within) refl in
    sym (get_or_from_slice_get (marks_of state.extents) i (get_or extents i default).mark.words [] known)

-- its head
pub head-there : (state : State) (extents : List Kept) (i : ℕ) (default : Kept) → extents_of extents ≡ state.extents → i < length state.extents
    → (get_or extents i default).head ≡ slice_index (heads_of state.extents) i
head-there state extents i default same within =
    let known : slice_get (heads_of state.extents) i ≡ Some (get_or extents i default).head =
    rw (slice_get-map (λ (e : Extent). e.head) state.extents i, extent-there state extents i default same within) refl in
    sym (get_or_from_slice_get (heads_of state.extents) i (get_or extents i default).head 0 known)

-- a state uses some page of each of its extents
pub uses-some : (state : State) (i : ℕ) → IsState state → i < length state.extents → UsesExtent state.size i × (0 < pages_used state.size i)
uses-some state i rules within =
    let uses : UsesExtent state.size i = UsesExtent-HasShape state.size i _ rules.extents within in
    (uses, omega (arith, uses, pow_pos (tier_of i)))

-- the pages that a state uses of an extent are among those that the blocks lie among
pub used-within : (pages : ℕ) (state : State) (extents : List Kept) (i n : ℕ) (default : Kept) → AreBlocks pages (blocks_of (place_of state)) → extents_of extents ≡ state.extents
    → IsState state → i < length state.extents → n < pages_used state.size i → (get_or extents i default).head + n < pages
used-within pages state extents i n default blocks same rules within below =
    let uses : UsesExtent state.size i = UsesExtent-HasShape state.size i _ rules.extents within in
    let lies : LiesAt (held_by i + n) i n = record { at = refl; within = omega (arith, below) } in
    StandsAt-within pages (place_of state) (held_by i + n) ((get_or extents i default).head + n) blocks
    (stands-behind state extents (held_by i + n) i n default same rules lies (omega (arith, below, uses)))
