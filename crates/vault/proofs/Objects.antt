-- Maps of states and of objects, side by side, and what the states own.
use Rattle.std.proofs.Common.{◌≡◌, ℕ, ◌+◌, ◌^◌, ◌<◌, ◌≤◌, true, false, cond, List, [], ◌∷◌, ◌++◌, length, Option, Some, None, inl, inr, refl, sym, ◌∙◌, ap, subst, arith, append_assoc}
use Rattle.std.proofs.lemmas.Bool.{cases_Bool}
use Rattle.std.proofs.lemmas.List.{nil_from_length}
use Rattle.std.proofs.lemmas.List.Elements.{Contains-append_left, Contains-append_right}
use Rattle.std.proofs.lemmas.List.Sorted.{Contains-permutation, IsPermutation-sym}
use Rattle.std.specs.Prelude.{Contains}
use Rattle.std.specs.List.{flat_map, sum_by}
use Rattle.std.specs.List.Sorted.{IsPermutation}
use Rattle.std.specs.FinMap.{FinMap, empty, entries, get, get-entries, get-insert, insert, len, len-empty, len-entries}
use Rattle.std.specs.FinMap.Entries.{find}
use Rattle.std.specs.Ordering.{eq_by_cmp}
use Rattle.store_model.specs.Disk.{Image, page_of}
use Rattle.store_model.specs.Holds.{Holds, HoldsAt, IsPoured, ObjectStands, place_of, rest_of}
use Rattle.store_model.specs.Key.{key_order}
use Rattle.store_model.specs.Layout.{Layout, data_page, data_pages}
use Rattle.store_model.specs.Space.{AreBlocks, IsOwnedPage, Block, blocks_of, owners}
use Rattle.store_model.specs.Standing.{BothStand, SameObjects, StandsFor}
use Rattle.store_model.specs.State.{IsState, State}
use Rattle.store_model.specs.Store.{Object, Placement}
use Rattle.store_model.proofs.EntryLaws.{sum-insert}
use Rattle.store_model.proofs.StoredLaws.{length-stored}
use Rattle.store_model.proofs.HeldLaws.{IsPoured-page}
use Rattle.store_model.proofs.PlaceLaws.{owners-append}
use Rattle.store_model.proofs.SortedLaws.{keys_total}
use Rattle.store_model.specs.Placing.{object_bytes}
use Rattle.store_model.specs.Tuple.{greatest_tuple, spelling}
use Rattle.relation.specs.Parts.{encoded_by, owned_by}
use Rattle.disk_model.specs.Disks.{OnlyWrites}
use Rattle.disk_model.specs.declared.disk.Disk.{Ghosts}
use Rattle.disk_model.proofs.DiskLaws.{OnlyWrites-wider}

-- what a value gives stands among what all values of a map give
module _ {V X : Type 0} (g : V → List X) where
  among : (es : List (List ℕ × V)) (k : List ℕ) (v : V) → find key_order k es ≡ Some v
      → (front : List X) × ((rest : List X) × (flat_map (λ e. g e.1) es ≡ front ++ (g v ++ rest)))
  among [] k v is = absurd (cc is)
  among (e ∷ es) k v is = elim (cases_Bool (eq_by_cmp key_order k e.0)) [
    | inl here ↦
        (let found : Some e.1 ≡ Some v = rw here at is in
        let same : e.1 ≡ v = cc in
        ([], (flat_map (λ e. g e.1) es, ap (λ x. g x ++ flat_map (λ e. g e.1) es) same)))
    | inr other ↦
        (let found : find key_order k es ≡ Some v = rw other at is in
        let behind = among es k v found in (
          g e.1 ++ behind.0,
          (
            behind.1.0,
            ap (λ xs. g e.1 ++ xs) behind.1.1 ∙ sym (append_assoc (g e.1) behind.0 (g v ++ behind.1.0)),
          ),
        ))
  ]

-- the blocks of a state stand among those of all
blocks-among : (states : FinMap key_order State) (key : List ℕ) (state : State) → get states key ≡ Some state
    → (front : List Block) × ((rest : List Block) × (owned_by states ≡ front ++ (blocks_of (place_of state) ++ rest)))
blocks-among states key state there =
    among (λ (s : State). blocks_of (place_of s)) (entries states) key state (sym (get-entries states key) ∙ there)

-- each of them is owned
pub Contains-owned : (states : FinMap key_order State) (key : List ℕ) (state : State) (block : Block)
    → get states key ≡ Some state
    → Contains (blocks_of (place_of state)) block → Contains (owned_by states) block
Contains-owned states key state block there is =
    let all = blocks-among states key state there in
    subst (λ (xs : List Block). Contains xs block) (sym all.1.1)
    (Contains-append_right all.0 (blocks_of (place_of state) ++ all.1.0) block
    (Contains-append_left (blocks_of (place_of state)) all.1.0 block is))

-- no page has more owners among them than among all
pub owners-owned : (states : FinMap key_order State) (key : List ℕ) (state : State) (page : ℕ) → get states key ≡ Some state
    → owners (blocks_of (place_of state)) page ≤ owners (owned_by states) page
owners-owned states key state page there =
    let all = blocks-among states key state there in
    let more : owners (owned_by states) page ≡ owners (all.0 ++ (blocks_of (place_of state) ++ all.1.0)) page =
    ap (λ (xs : List Block). owners xs page) all.1.1 in
    omega (
      arith,
      more,
      owners-append all.0 (blocks_of (place_of state) ++ all.1.0) page,
      owners-append (blocks_of (place_of state)) all.1.0 page,
    )

-- a state's blocks are among the pages of a data area, where all that is owned is
pub owned-within : (pages : ℕ) (layout : Layout) (owned : List Block) (states : FinMap key_order State) (key : List ℕ)
    (state : State)
    → AreBlocks pages owned → pages ≡ data_pages layout → IsPermutation owned (owned_by states) → get states key ≡ Some state
    → AreBlocks (data_pages layout) (blocks_of (place_of state))
owned-within pages layout owned states key state blocks pages_is moves there block is =
    subst (λ (n : ℕ). AreBlocks n owned) pages_is blocks block
    (Contains-permutation (owned_by states) owned block (IsPermutation-sym owned (owned_by states) moves)
    (Contains-owned states key state block there is))

-- an object whose content was written stands
pub ObjectStands-written : (layout : Layout) (new : Image) (state : State) (content rest : List ℕ) (number : ℕ) (place : Placement)
    → place_of state ≡ place → rest ≡ content → Holds new (data_page layout) state content
    → ((page : ℕ) → state.tail ≡ Some page → new (data_page layout + page) ≡ page_of (rest_of rest))
    → ObjectStands new (data_page layout) (record { content = content; number = number; place = place })
ObjectStands-written layout new state content rest number place place_is rest_is holds filled = record {
  held = subst (λ (p : Placement). HoldsAt new (data_page layout) p content) place_is holds.at;
  filled = λ page is. filled page (ap (λ (p : Placement). p.tail) place_is ∙ is) ∙ ap (λ xs. page_of (rest_of xs)) rest_is;
}

-- the state that stands for an object
pub state-of : (state : Option State) (object : Option Object) (one : Object) → BothStand state object → object ≡ Some one
    → (s : State) × (state ≡ Some s) × StandsFor s one
state-of None None one stands is = absurd (cc is)
state-of None (Some object) one stands is = absurd stands
state-of (Some state) None one stands is = absurd stands
state-of (Some state) (Some object) one stands is =
    let same : object ≡ one = cc is in (state, refl, subst (StandsFor state) same stands)

-- A key is set on both sides, to what stands for each other.
pub SameObjects-set : (before after : FinMap key_order State) (objects : FinMap key_order Object) (key : List ℕ) (state : State) (object : Object)
    → after ≡ insert before key state → StandsFor state object → SameObjects before objects → SameObjects after (insert objects key object)
SameObjects-set before after objects key state object after_is stands so_far q =
    subst (λ (m : FinMap key_order State). BothStand (get m q) (get (insert objects key object) q))
    (sym after_is)
    (rw (get-insert keys_total before key state q, get-insert keys_total objects key object q)
    (elim (eq_by_cmp key_order q key) as (λ b.
    BothStand (cond b (Some state) (get before q)) (cond b (Some object) (get objects q))) [
      | true ↦ stands
      | false ↦ so_far q
    ]))

no_entries : (states : FinMap key_order State) → states ≡ empty → entries states ≡ []
no_entries states none = nil_from_length (entries states) (sym (len-entries states) ∙ ap len none ∙ len-empty key_order State)

-- no states own no blocks
pub owned-none : (owned none : List Block) (states : FinMap key_order State) → IsPermutation owned none → none ≡ []
    → states ≡ empty
    → IsPermutation owned (owned_by states)
owned-none owned none states moves none_is empty_is =
    let here : none ≡ owned_by states =
    none_is ∙ sym (ap (λ (es : List (List ℕ × State)). flat_map (λ e. blocks_of (place_of e.1)) es)
    (no_entries states empty_is)) in
    subst (λ (xs : List Block). IsPermutation owned xs) here moves

-- and take no bytes
pub encoded-none : (states : FinMap key_order State) → states ≡ empty → encoded_by states ≤ 0
encoded-none states empty_is =
    let none : encoded_by states ≡ 0 =
    ap (λ (es : List (List ℕ × State)). sum_by (λ e. length (spelling e.0 e.1)) es) (no_entries states empty_is) in
    omega (arith, none)

-- they have room
pub room-none : (states : FinMap key_order State) (room : ℕ) → states ≡ empty → encoded_by states ≤ room
room-none states room empty_is = omega (arith, encoded-none states empty_is)

-- the last number before the first one
pub few_none : 0 ≤ 2 ^ 62
few_none = omega arith

-- few bytes take few more for one state more
pub encoded-set : (kept before : FinMap key_order State) (one key : List ℕ) (state : State) (place : Placement) → kept ≡ before → one ≡ key
    → place_of state ≡ place → encoded_by before ≤ 2 ^ 61 → IsState state → object_bytes key place ≤ greatest_tuple
    → encoded_by (insert kept one state) < 2 ^ 62
encoded-set kept before one key state place kept_is one_is place_is few sound most =
    let bytes : length (spelling one state) ≡ object_bytes one (place_of state) = length-stored one state sound in
    let small : object_bytes one (place_of state) ≤ greatest_tuple =
    subst (λ (k : List ℕ). object_bytes k (place_of state) ≤ greatest_tuple) (sym one_is)
    (subst (λ (p : Placement). object_bytes key p ≤ greatest_tuple) (sym place_is) most) in
    let same : encoded_by kept ≡ encoded_by before = ap encoded_by kept_is in
    omega (arith, sum-insert (λ (k : List ℕ) (s : State). length (spelling k s)) kept one state, bytes, small, same, few)

-- only pages of the data area that its place owns were written
pub OnlyWrites-poured : {D : Type 0} (g : Ghosts D) (layout : Layout) (state : State) (old new : D) (place : Placement)
    → AreBlocks (data_pages layout) (blocks_of place) → place_of state ≡ place → OnlyWrites g (IsPoured layout state 0) old new
    → OnlyWrites g (IsOwnedPage layout (blocks_of place)) old new
OnlyWrites-poured g layout state old new place blocks place_is wrote =
    OnlyWrites-wider g (IsPoured layout state 0) (IsOwnedPage layout (blocks_of place)) old new
    (λ p poured. subst (λ (q : Placement). IsOwnedPage layout (blocks_of q) p) place_is (IsPoured-page layout state 0 p
    (subst (λ (q : Placement). AreBlocks (data_pages layout) (blocks_of q)) (sym place_is) blocks) poured)) wrote
