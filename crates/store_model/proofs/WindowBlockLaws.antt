-- Where the states that a frame's entries set have new places, no page is owned twice behind any of the entries, and the contents of
-- these states lie on free pages.
use Rattle.std.proofs.Common.{ℕ, ◌+◌, ◌≤◌, List, [], ◌∷◌, ◌++◌, inl, inr, refl, ap, arith}
use Rattle.std.specs.Prelude.{Contains, fold}
use Rattle.std.specs.List.{All, flat_map}
use Rattle.std.specs.FinMap.{FinMap, get, insert, remove}
use Rattle.std.proofs.lemmas.List.Elements.{All-head, All-tail}
use Rattle.store_model.specs.Dependence.{IsContentPage, IsFreePage}
use Rattle.store_model.specs.Disk.{Image}
use Rattle.store_model.specs.Frame.{Del, Entry, IsEntry, IsWrite, Set, Spells, Write}
use Rattle.store_model.specs.Holds.{place_of}
use Rattle.store_model.specs.Key.{key_order}
use Rattle.store_model.specs.Layout.{Layout, data_pages}
use Rattle.store_model.specs.Reading.{AreKept, blocks_of_states, with_entries, with_entry, with_write}
use Rattle.store_model.specs.Space.{Apart, AreBlocks, Block, blocks_of, owners}
use Rattle.store_model.specs.State.{State}
use Rattle.store_model.specs.Windows.{HasPlaces, IsPartOf, blocks_of_entry, blocks_of_sets, blocks_of_write}
use Rattle.store_model.proofs.EntryLaws.{blocks-insert, old_part}
use Rattle.store_model.proofs.HeldLaws.{IsPoured-owned}
use Rattle.store_model.proofs.PlaceLaws.{owners-append, owners-permutation}
use Rattle.store_model.proofs.RemovalLaws.{blocks-remove}
use Rattle.store_model.proofs.SetLaws.{among-cases}
use Rattle.store_model.proofs.TupleBlockLaws.{AreBlocks-append, AreBlocks-none, IsTuple-blocks}

-- the blocks of a state
abbrev state_blocks : State → List Block
state_blocks state = blocks_of (place_of state)

-- A write adds no more owners of a page than the state has that it sets.
write-owners : (states : FinMap key_order State) (one : Write) (page : ℕ)
    → owners (blocks_of_states (with_write states one)) page ≤ owners (blocks_of_states states) page + owners (blocks_of_write one) page
write-owners states (Set key state) page =
    let old : List Block = old_part state_blocks (get states key) in
    let before : List Block = blocks_of_states states in
    let after : List Block = blocks_of_states (insert states key state) in
    omega (
      arith,
      owners-permutation (old ++ after) (state_blocks state ++ before) page (blocks-insert state_blocks states key state),
      owners-append old after page,
      owners-append (state_blocks state) before page,
    )
write-owners states (Del key) page =
    let old : List Block = old_part state_blocks (get states key) in
    let after : List Block = blocks_of_states (remove states key) in
    omega (
      arith,
      owners-permutation (old ++ after) (blocks_of_states states) page (blocks-remove state_blocks states key),
      owners-append old after page,
    )

writes-owners : (states : FinMap key_order State) (writes : List Write) (page : ℕ)
    → owners (blocks_of_states (fold with_write states writes)) page ≤ owners (blocks_of_states states) page + owners (flat_map blocks_of_write writes) page
writes-owners states [] page = omega arith
writes-owners states (one ∷ writes) page =
    omega (
      arith,
      writes-owners (with_write states one) writes page,
      write-owners states one page,
      owners-append (blocks_of_write one) (flat_map blocks_of_write writes) page,
    )

-- Nor do entries add more than the states have that they set.
pub entries-owners : (states : FinMap key_order State) (entries : List Entry) (page : ℕ)
    → owners (blocks_of_states (with_entries states entries)) page ≤ owners (blocks_of_states states) page + owners (blocks_of_sets entries) page
entries-owners states [] page = omega arith
entries-owners states (entry ∷ entries) page =
    omega (
      arith,
      entries-owners (with_entry states entry) entries page,
      writes-owners states entry.writes page,
      owners-append (blocks_of_entry entry) (blocks_of_sets entries) page,
    )

-- some of the entries set no more than all
pub part-owners : (part entries : List Entry) (page : ℕ) → IsPartOf part entries → owners (blocks_of_sets part) page ≤ owners (blocks_of_sets entries) page
part-owners part [] page is = omega (arith, ap (λ (es : List Entry). owners (blocks_of_sets es) page) is)
part-owners part (entry ∷ entries) page (inl (rest, is, some)) =
    omega (
      arith,
      ap (λ (es : List Entry). owners (blocks_of_sets es) page) is,
      owners-append (blocks_of_entry entry) (blocks_of_sets rest) page,
      owners-append (blocks_of_entry entry) (blocks_of_sets entries) page,
      part-owners rest entries page some,
    )
part-owners part (entry ∷ entries) page (inr some) =
    omega (arith, owners-append (blocks_of_entry entry) (blocks_of_sets entries) page, part-owners part entries page some)

-- the entries that are kept are some of all
pub AreKept-part : (image : Image) (layout : Layout) (entries kept : List Entry) → AreKept image layout entries kept → IsPartOf kept entries
AreKept-part image layout [] kept are = are
AreKept-part image layout (entry ∷ entries) kept (inl some) = inl (some.1.0, some.1.1, AreKept-part image layout entries some.1.0 some.1.2)
AreKept-part image layout (entry ∷ entries) kept (inr others) = inr (AreKept-part image layout entries kept others.1)

-- all of them are
pub IsPartOf-all : (entries : List Entry) → IsPartOf entries entries
IsPartOf-all [] = refl
IsPartOf-all (entry ∷ entries) = inl (entries, refl, IsPartOf-all entries)

-- No page is owned twice among the states before.
pub HasPlaces-before : (layout : Layout) (states : FinMap key_order State) (entries : List Entry) → HasPlaces layout states entries → Apart (blocks_of_states states)
HasPlaces-before layout states entries places page =
    omega (arith, owners-append (blocks_of_states states) (blocks_of_sets entries) page, places.apart page)

-- Nor is one behind some of the entries, whichever.
pub HasPlaces-behind : (layout : Layout) (states : FinMap key_order State) (entries part : List Entry) → HasPlaces layout states entries → IsPartOf part entries
    → Apart (blocks_of_states (with_entries states part))
HasPlaces-behind layout states entries part places is page =
    omega (
      arith,
      entries-owners states part page,
      part-owners part entries page is,
      owners-append (blocks_of_states states) (blocks_of_sets entries) page,
      places.apart page,
    )

-- The blocks of the states that a frame's entries set lie in the data area.
writes-blocks : (pages number : ℕ) (writes : List Write) → All (IsWrite pages number) writes → AreBlocks pages (flat_map blocks_of_write writes)
writes-blocks pages number [] each = AreBlocks-none pages
writes-blocks pages number (one ∷ writes) each =
    AreBlocks-append pages (blocks_of_write one) (flat_map blocks_of_write writes) (here one (All-head (IsWrite pages number) one writes each))
    (writes-blocks pages number writes (All-tail (IsWrite pages number) one writes each)) where
      here : (one : Write) → IsWrite pages number one → AreBlocks pages (blocks_of_write one)
      here (Set key state) is = IsTuple-blocks pages key state is.0
      here (Del key) is = AreBlocks-none pages

pub entries-blocks : (pages : ℕ) (entries : List Entry) → All (IsEntry pages) entries → AreBlocks pages (blocks_of_sets entries)
entries-blocks pages [] each = AreBlocks-none pages
entries-blocks pages (entry ∷ entries) each =
    AreBlocks-append pages (blocks_of_entry entry) (blocks_of_sets entries)
    (writes-blocks pages entry.number entry.writes (All-head (IsEntry pages) entry entries each).writes)
    (entries-blocks pages entries (All-tail (IsEntry pages) entry entries each))

pub HasPlaces-apart : (layout : Layout) (states : FinMap key_order State) (bytes : List ℕ) (entries : List Entry) → Spells (data_pages layout) bytes entries
    → Apart (blocks_of_states states ++ blocks_of_sets entries) → HasPlaces layout states entries
HasPlaces-apart layout states bytes entries spells apart =
    record { blocks = entries-blocks (data_pages layout) entries spells.frame.each; apart = apart }

-- the blocks of a state that is set are among those of all
writes-owned : (writes : List Write) (key : List ℕ) (state : State) (page : ℕ) → Contains writes (Set key state)
    → owners (state_blocks state) page ≤ owners (flat_map blocks_of_write writes) page
writes-owned [] key state page sets = absurd (omega (arith, sets.1))
writes-owned (one ∷ writes) key state page sets =
    let all = owners-append (blocks_of_write one) (flat_map blocks_of_write writes) page in
    elim (among-cases one writes (Set key state) sets) [
      | inl here ↦ omega (arith, all, ap (λ (w : Write). owners (blocks_of_write w) page) here)
      | inr behind ↦ omega (arith, all, writes-owned writes key state page behind)
    ]

pub sets-owned : (entries : List Entry) (entry : Entry) (key : List ℕ) (state : State) (page : ℕ) → Contains entries entry → Contains entry.writes (Set key state)
    → owners (blocks_of (place_of state)) page ≤ owners (blocks_of_sets entries) page
sets-owned [] entry key state page among sets = absurd (omega (arith, among.1))
sets-owned (first ∷ entries) entry key state page among sets =
    let all = owners-append (blocks_of_entry first) (blocks_of_sets entries) page in
    elim (among-cases first entries entry among) [
      | inl here ↦ omega (arith, all, ap (λ (e : Entry). owners (blocks_of_entry e) page) here, writes-owned entry.writes key state page sets)
      | inr behind ↦ omega (arith, all, sets-owned entries entry key state page behind sets)
    ]

-- The contents that entries set lie on pages that no state before owns.
pub IsContentPage-free : (layout : Layout) (states : FinMap key_order State) (entries : List Entry) (p : ℕ) → HasPlaces layout states entries
    → IsContentPage layout entries p → IsFreePage layout (blocks_of_states states) p
IsContentPage-free layout states entries p places content =
    let owned = IsPoured-owned layout content.state 0 p content.poured in
    record {
      at = owned.0;
      is = owned.1;
      free = omega (
        arith,
        owned.2,
        sets-owned entries content.entry content.key content.state owned.0 content.among content.sets,
        owners-append (blocks_of_states states) (blocks_of_sets entries) owned.0,
        places.apart owned.0,
      );
    }
