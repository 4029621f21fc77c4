-- What the last frame sets: where it lost no entry, its states are among those that are found.
use Rattle.std.proofs.Common.{◌≡◌, ℕ, ◌≤◌, List, [], ◌∷◌, Some, inl, inr, sym, ap, ◌∙◌, subst, arith}
use Rattle.std.specs.Prelude.{Contains}
use Rattle.std.specs.List.{flat_map}
use Rattle.std.specs.FinMap.{FinMap, entries, get, get-entries}
use Rattle.std.specs.FinMap.Entries.{find}
use Rattle.std.specs.Ordering.{eq_by_cmp}
use Rattle.std.proofs.lemmas.Bool.{cases_Bool}
use Rattle.std.proofs.lemmas.List.Elements.{All-contains}
use Rattle.store_model.specs.Dependence.{LastEntries, LosesNone}
use Rattle.store_model.specs.Disk.{Image}
use Rattle.store_model.specs.Frame.{Entry, IsEntry, IsFrame, Set, Spells}
use Rattle.store_model.specs.Holds.{place_of}
use Rattle.store_model.specs.Key.{key_order}
use Rattle.store_model.specs.Layout.{Layout, data_pages}
use Rattle.store_model.specs.LogReading.{StoredBody}
use Rattle.store_model.specs.Reading.{AreAllKept, AreKept, Found, KeptIn, Takes, TakesEach, blocks_of_states, with_entries}
use Rattle.store_model.specs.Space.{blocks_of, owners}
use Rattle.store_model.specs.State.{State}
use Rattle.store_model.proofs.DependenceLaws.{Takes-layout}
use Rattle.store_model.proofs.FrameLaws.{Spells-one}
use Rattle.store_model.proofs.PlaceLaws.{owners-append}
use Rattle.store_model.proofs.ReadingLaws.{AreKept-one, IsSmall, Takes-small}
use Rattle.store_model.proofs.SetLaws.{entries-set}

-- The states behind a body of which all entries are kept have what each of these sets.
pub Takes-set : (Kept : List Entry → List Entry → Type 0) (before : Found) (body : StoredBody) (after : Found) (takes : Takes Kept before body after)
    (entry : Entry) (key : List ℕ) (state : State) → AreAllKept takes.entries_told takes.entries_kept → Contains takes.entries_told entry
    → Contains entry.writes (Set key state) → get after.states key ≡ Some state
Takes-set Kept before body after takes entry key state all among sets =
    let told : List Entry = takes.entries_told in
    let frame : IsFrame (data_pages before.layout) told = takes.spells.frame in
    ap (λ (found : Found). get found.states key) takes.after_is
    ∙ ap (λ (kept : List Entry). get (with_entries before.states kept) key) all
    ∙ entries-set before.states told entry key state
    (λ one there. (All-contains (IsEntry (data_pages before.layout)) told one frame.each there).rise) frame.apart among sets

-- The states that are found have what the last frame sets, where it lost no entry.
pub TakesEach-set : (image : Image) (layout : Layout) (before : Found) (bodies : List StoredBody) (after : Found) (told : List Entry) (entry : Entry) (key : List ℕ)
    (state : State) → before.layout ≡ layout → IsSmall before → LosesNone image layout bodies → TakesEach (KeptIn image layout) before bodies after
    → LastEntries layout bodies told → Contains told entry → Contains entry.writes (Set key state) → get after.states key ≡ Some state
TakesEach-set image layout before [] after told entry key state is small lossless takes last among sets =
    let none : Contains [] entry = subst (λ (es : List Entry). Contains es entry) last among in absurd (omega (arith, none.1))
TakesEach-set image layout before (one ∷ []) after told entry key state is small lossless takes last among sets =
    let taken : Takes (AreKept image layout) before one takes.0 = takes.1 in
    let mine : List Entry = taken.entries_told in
    let spells : Spells (data_pages layout) one.bytes mine = subst (λ (l : Layout). Spells (data_pages l) one.bytes mine) is taken.spells in
    let same : told ≡ mine = Spells-one (data_pages layout) one.bytes told mine (subst (λ (l : Layout). IsSmall (with_layout l)) is small) last spells in
    let all : AreAllKept mine taken.entries_kept = AreKept-one image layout mine taken.entries_kept mine taken.kept (lossless mine spells) in
    ap (λ (found : Found). get found.states key) takes.2
    ∙ Takes-set (AreKept image layout) before one takes.0 taken entry key state all (subst (λ (es : List Entry). Contains es entry) same among) sets where
      with_layout : Layout → Found
      with_layout l = record { layout = l; last = before.last; states = before.states }
TakesEach-set image layout before (one ∷ two ∷ bodies) after told entry key state is small lossless takes last among sets =
    TakesEach-set image layout takes.0 (two ∷ bodies) after told entry key state (Takes-layout AreAllKept before one takes.0 takes.1 ∙ is)
    (Takes-small AreAllKept before one takes.0 small takes.1) lossless takes.2 last among sets

-- a state's blocks are among those of all
owners-among : (es : List (List ℕ × State)) (key : List ℕ) (state : State) (page : ℕ) → find key_order key es ≡ Some state
    → owners (blocks_of (place_of state)) page ≤ owners (flat_map (λ (e : List ℕ × State). blocks_of (place_of e.1)) es) page
owners-among [] key state page is = absurd (cc is)
owners-among (e ∷ es) key state page is =
    let rest = flat_map (λ (f : List ℕ × State). blocks_of (place_of f.1)) es in
    elim (cases_Bool (eq_by_cmp key_order key e.0)) [
      | inl here ↦
          (let found : Some e.1 ≡ Some state = rw here at is in
          let same : e.1 ≡ state = cc in
          omega (arith, owners-append (blocks_of (place_of e.1)) rest page, ap (λ (s : State). owners (blocks_of (place_of s)) page) same))
      | inr other ↦
          (let found : find key_order key es ≡ Some state = rw other at is in
          omega (arith, owners-append (blocks_of (place_of e.1)) rest page, owners-among es key state page found))
    ]

-- No page lies in more of the blocks of a state than in those of all states.
pub owners-states : (states : FinMap key_order State) (key : List ℕ) (state : State) (page : ℕ) → get states key ≡ Some state
    → owners (blocks_of (place_of state)) page ≤ owners (blocks_of_states states) page
owners-states states key state page is = owners-among (entries states) key state page (sym (get-entries states key) ∙ is)
