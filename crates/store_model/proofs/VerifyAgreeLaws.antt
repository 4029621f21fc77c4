-- Whether a state verifies depends on the pages of its content alone, and so does which entries of a frame are kept.
use Rattle.std.proofs.Common.{◌≡◌, ℕ, ◌+◌, ◌*◌, ◌/◌, ◌%◌, ◌<◌, Bool, true, false, cond, List, [], ◌∷◌, length, take, Option, Some, None, refl, sym, ap, ◌∙◌, arith, inl, inr}
use Rattle.std.specs.Prelude.{Contains, nat_lt, slice_get, slice_index}
use Rattle.std.proofs.lemmas.Bool.{cases_lt}
use Rattle.std.proofs.lemmas.Bool.Decides.{nat_tests}
use Rattle.std.proofs.lemmas.List.{length-map}
use Rattle.std.proofs.lemmas.List.Elements.{All-contains, All-contains_itself, All-head, All-weaker, Contains-append_right}
use Rattle.store_model.specs.Dependence.{IsContentPage}
use Rattle.store_model.specs.Disk.{Image, page_bytes}
use Rattle.store_model.specs.Frame.{Del, Entry, Set, Write}
use Rattle.store_model.specs.Hash.{bytes_of_state, close, state_after}
use Rattle.store_model.specs.Holds.{IsPoured, StandsAt, place_of}
use Rattle.store_model.specs.Layout.{Layout, data_page}
use Rattle.store_model.specs.Reading.{AreKept, DoesVerify, DoesWriteVerify}
use Rattle.store_model.specs.Shape.{held_by, pages_used}
use Rattle.store_model.specs.State.{Extent, State, heads_of}
use Rattle.store_model.specs.Verify.{Verifies, computed, extent_bytes, link_from, tail_on}
use Rattle.store_model.proofs.AreaAgreeLaws.{pages-agree}
use Rattle.store_model.proofs.VerifyLaws.{slice_get-index}

-- two images have the pages of a state's content alike
abbrev pub SamePoured : Layout → State → Image → Image → Type 0
SamePoured layout state image other = (p : ℕ) → IsPoured layout state 0 p → other p ≡ image p

-- a used page of an extent is one of the content's
used-poured : (layout : Layout) (state : State) (i k : ℕ) → i < length state.extents → k < pages_used state.size i
    → IsPoured layout state 0 (data_page layout + (slice_index (heads_of state.extents) i + k))
used-poured layout state i k less below =
    let heads : List ℕ = heads_of state.extents in
    let there : slice_get heads i ≡ Some (slice_index heads i) = slice_get-index heads i (omega (arith, less, length-map state.extents (λ (e : Extent). e.head))) in
    let stands : StandsAt (place_of state) (held_by i + k) (slice_index heads i + k) =
    record { extent = i; offset = k; lies = record { at = refl; within = omega (arith, below) }; head = slice_index heads i; there = there; at_is = refl } in
    inl (record {
      page = held_by i + k;
      least = omega arith;
      below = omega (arith, below);
      at = slice_index heads i + k;
      stands = stands;
      is = refl;
    })

-- the bytes of an extent, and those of the tail
extent-agree : (layout : Layout) (state : State) (image other : Image) (i : ℕ) → SamePoured layout state image other → i < length state.extents
    → extent_bytes other (data_page layout) state i ≡ extent_bytes image (data_page layout) state i
extent-agree layout state image other i same less =
    let head : ℕ = slice_index (heads_of state.extents) i in
    let first : ℕ = data_page layout in
    pages-agree (λ page. image (first + page)) (λ page. other (first + page)) head (pages_used state.size i)
    (λ k below. same (first + (head + k)) (used-poured layout state i k less below))

tail-agree : (layout : Layout) (image other : Image) (state : State) (tail : Option ℕ) → state.tail ≡ tail → SamePoured layout state image other
    → tail_on other (data_page layout) state.size tail ≡ tail_on image (data_page layout) state.size tail
tail-agree layout image other state None is same = refl
tail-agree layout image other state (Some page) is same =
    ap (λ (bytes : List ℕ). take (state.size % page_bytes) bytes) (same (data_page layout + page) (inr (record { at = page; tail = is; is = refl })))

-- what the pages give for a link
computed-agree : (layout : Layout) (image other : Image) (state : State) (i : ℕ) → SamePoured layout state image other
    → computed other (data_page layout) state i ≡ computed image (data_page layout) state i
computed-agree layout image other state i same =
    let first : ℕ = data_page layout in
    let n : ℕ = length state.extents in
    let digest = λ (tail : List ℕ). close (link_from state i) (64 * (state.size / page_bytes)) tail in
    elim (cases_lt i n) [
      | inl less ↦
          (let yes : nat_lt i n ≡ true = grind (arith, nat_tests, less) in
          ap (λ (b : Bool). cond b (bytes_of_state (state_after (link_from state i) (extent_bytes other first state i))) (digest (tail_on other first state.size state.tail))) yes
          ∙ ap (λ (bytes : List ℕ). bytes_of_state (state_after (link_from state i) bytes)) (extent-agree layout state image other i same less)
          ∙ sym (ap (λ (b : Bool). cond b (bytes_of_state (state_after (link_from state i) (extent_bytes image first state i))) (digest (tail_on image first state.size state.tail))) yes))
      | inr past ↦
          (let no : nat_lt i n ≡ false = grind (arith, nat_tests, past) in
          ap (λ (b : Bool). cond b (bytes_of_state (state_after (link_from state i) (extent_bytes other first state i))) (digest (tail_on other first state.size state.tail))) no
          ∙ ap digest (tail-agree layout image other state state.tail refl same)
          ∙ sym (ap (λ (b : Bool). cond b (bytes_of_state (state_after (link_from state i) (extent_bytes image first state i))) (digest (tail_on image first state.size state.tail))) no))
    ]

-- A state that verifies on an image verifies on each that has the pages of its content alike.
pub Verifies-agree : (layout : Layout) (image other : Image) (state : State) → ((p : ℕ) → IsPoured layout state 0 p → other p ≡ image p)
    → Verifies image (data_page layout) state → Verifies other (data_page layout) state
Verifies-agree layout image other state same verifies i within = computed-agree layout image other state i same ∙ verifies i within

-- two images have alike the pages of the contents of the states that these entries set
abbrev pub SameContents : Layout → List Entry → Image → Image → Type 0
SameContents layout entries image other = (p : ℕ) → IsContentPage layout entries p → other p ≡ image p

-- what one of these entries writes verifies as before
write-agree : (layout : Layout) (image other : Image) (entries : List Entry) (entry : Entry) (one : Write) → SameContents layout entries image other
    → Contains entries entry → Contains entry.writes one → DoesWriteVerify image layout one → DoesWriteVerify other layout one
write-agree layout image other entries entry (Set key state) same among writes verifies =
    Verifies-agree layout image other state
    (λ p poured. same p (record { entry = entry; among = among; key = key; state = state; sets = writes; poured = poured }))
    verifies
write-agree layout image other entries entry (Del key) same among writes verifies = tt

entry-agree : (layout : Layout) (image other : Image) (entries : List Entry) (entry : Entry) → SameContents layout entries image other → Contains entries entry
    → DoesVerify image layout entry → DoesVerify other layout entry
entry-agree layout image other entries entry same among verifies =
    All-weaker (Contains entry.writes) (DoesWriteVerify other layout)
    (λ one writes. write-agree layout image other entries entry one same among writes (All-contains (DoesWriteVerify image layout) entry.writes one verifies writes))
    entry.writes (All-contains_itself entry.writes)

-- so do the entries behind the first
SameContents-tail : (layout : Layout) (image other : Image) (entry : Entry) (entries : List Entry) → SameContents layout (entry ∷ entries) image other
    → SameContents layout entries image other
SameContents-tail layout image other entry entries same p is =
    same p (record {
      entry = is.entry;
      among = Contains-append_right (entry ∷ []) entries is.entry is.among;
      key = is.key;
      state = is.state;
      sets = is.sets;
      poured = is.poured;
    })

-- Of a frame's entries the same are kept where the contents of the states that they set are the same.
pub AreKept-agree : (layout : Layout) (image other : Image) (entries kept : List Entry) → SameContents layout entries image other
    → AreKept image layout entries kept → AreKept other layout entries kept
AreKept-agree layout image other [] kept same is = is
AreKept-agree layout image other (entry ∷ entries) kept same is =
    let first : Contains (entry ∷ entries) entry = All-head (Contains (entry ∷ entries)) entry entries (All-contains_itself (entry ∷ entries)) in
    let back : SameContents layout (entry ∷ entries) other image = λ p looked. sym (same p looked) in
    let behind = SameContents-tail layout image other entry entries same in
    elim is [
      | inl verifies ↦
          inl (
            entry-agree layout image other (entry ∷ entries) entry same first verifies.0,
            (verifies.1.0, verifies.1.1, AreKept-agree layout image other entries verifies.1.0 behind verifies.1.2),
          )
      | inr fails ↦
          inr (
            (λ verifies. fails.0 (entry-agree layout other image (entry ∷ entries) entry back first verifies)),
            AreKept-agree layout image other entries kept behind fails.1,
          )
    ]
