-- The states that a disk tells: each stands under a key, with its pages among those of the data area.
use Rattle.std.proofs.Common.{◌≡◌, ℕ, List, [], ◌∷◌, Some, inl, inr, refl, sym, ap, subst, ◌∙◌}
use Rattle.std.specs.Prelude.{Contains, slice_get}
use Rattle.std.specs.FinMap.{FinMap, entries, entries_sorted, get, get-entries}
use Rattle.std.proofs.lemmas.List.Elements.{All-contains}
use Rattle.store_model.specs.Disk.{Image}
use Rattle.store_model.specs.Frame.{Entry, IsEntry, IsFrame, IsWrite, Set}
use Rattle.store_model.specs.Key.{key_order}
use Rattle.store_model.specs.Layout.{Layout, data_pages}
use Rattle.store_model.specs.LogReading.{StoredBody}
use Rattle.store_model.specs.Reading.{Found, Gives, KeptIn, Takes, TakesEach, with_entries}
use Rattle.store_model.specs.State.{State}
use Rattle.store_model.specs.Tuple.{IsTuple}
use Rattle.store_model.specs.Windows.{IsPartOf}
use Rattle.store_model.proofs.BornLaws.{entries-origin}
use Rattle.store_model.proofs.DependenceLaws.{Takes-layout}
use Rattle.store_model.proofs.FurtherLaws.{TakesEach-layout}
use Rattle.store_model.proofs.SetLaws.{among-behind, among-cases, among-first}
use Rattle.store_model.proofs.SortedLaws.{find-at}
use Rattle.store_model.proofs.WindowBlockLaws.{AreKept-part, IsPartOf-all}

-- an entry of a map stands under its key
pub entry-there : {V : Type 0} (values : FinMap key_order V) (i : ℕ) (one : List ℕ × V) → slice_get (entries values) i ≡ Some one
    → get values one.0 ≡ Some one.1
entry-there values i one is = get-entries values one.0 ∙ find-at (entries values) i one.0 one (entries_sorted values) is refl

-- each of these states and its key are a tuple, among so many data pages
abbrev pub AreTuplesUnder : ℕ → FinMap key_order State → Type 0
AreTuplesUnder pages states = (key : List ℕ) (state : State) → get states key ≡ Some state → IsTuple pages key state

-- one of some entries is one of all
part-among : (part entries : List Entry) (one : Entry) → IsPartOf part entries → Contains part one → Contains entries one
part-among part [] one is among = subst (λ (es : List Entry). Contains es one) is among
part-among part (entry ∷ entries) one (inl (rest, is, some)) among =
    elim (among-cases entry rest one (subst (λ (es : List Entry). Contains es one) is among)) [
      | inl here ↦ subst (λ (e : Entry). Contains (entry ∷ entries) e) here (among-first entry entries)
      | inr behind ↦ among-behind entry entries one (part-among rest entries one some behind)
    ]
part-among part (entry ∷ entries) one (inr some) among = among-behind entry entries one (part-among part entries one some among)

-- what a frame's entry sets is a tuple
set-tuple : (pages : ℕ) (entries : List Entry) (entry : Entry) (key : List ℕ) (state : State) → IsFrame pages entries → Contains entries entry
    → Contains entry.writes (Set key state) → IsTuple pages key state
set-tuple pages entries entry key state frame among sets =
    (All-contains (IsWrite pages entry.number) entry.writes (Set key state) (All-contains (IsEntry pages) entries entry frame.each among).writes sets).0

-- what is kept of a body's entries is some of them
abbrev KeepsPart : (List Entry → List Entry → Type 0) → Type 0
KeepsPart Kept = (entries part : List Entry) → Kept entries part → IsPartOf part entries

KeptIn-part : (image : Image) (layout : Layout) (bodies : List StoredBody) → KeepsPart (KeptIn image layout bodies)
KeptIn-part image layout [] entries part are = AreKept-part image layout entries part are
KeptIn-part image layout (body ∷ bodies) entries part are = subst (λ (es : List Entry). IsPartOf es entries) (sym are) (IsPartOf-all entries)

-- behind a body that is taken the states are tuples, if they were before it
Takes-tuples : (Kept : List Entry → List Entry → Type 0) (pages : ℕ) (before : Found) (body : StoredBody) (after : Found) → KeepsPart Kept
    → data_pages before.layout ≡ pages → Takes Kept before body after → AreTuplesUnder pages before.states → AreTuplesUnder pages after.states
Takes-tuples Kept pages before body after keeps few takes tuples key state is =
    let told : List Entry = takes.entries_told in
    let frame : IsFrame pages told = subst (λ (n : ℕ). IsFrame n told) few takes.spells.frame in
    let found : get (with_entries before.states takes.entries_kept) key ≡ Some state = ap (λ (f : Found). get f.states key) (sym takes.after_is) ∙ is in
    elim (entries-origin before.states takes.entries_kept key state found) [
      | inl old ↦ tuples key state old
      | inr set ↦
          (let among = part-among takes.entries_kept told set.0 (keeps told takes.entries_kept takes.kept) set.1.0 in
          set-tuple pages told set.0 key state frame among set.1.1)
    ]

-- and behind bodies that are
TakesEach-tuples : (Kept : List StoredBody → List Entry → List Entry → Type 0) (pages : ℕ) (before : Found) (bodies : List StoredBody) (after : Found)
    → ((behind : List StoredBody) → KeepsPart (Kept behind)) → data_pages before.layout ≡ pages → TakesEach Kept before bodies after
    → AreTuplesUnder pages before.states → AreTuplesUnder pages after.states
TakesEach-tuples Kept pages before [] after keeps few takes tuples = subst (λ (f : Found). AreTuplesUnder pages f.states) (sym takes) tuples
TakesEach-tuples Kept pages before (body ∷ bodies) after keeps few takes tuples =
    let next : Found = takes.0 in
    let same : data_pages next.layout ≡ pages = ap data_pages (Takes-layout (Kept bodies) before body next takes.1) ∙ few in
    TakesEach-tuples Kept pages next bodies after keeps same takes.2
    (Takes-tuples (Kept bodies) pages before body next (keeps bodies) few takes.1 tuples)

-- Each state that a disk tells is a tuple with its key, among the pages of the data area.
pub Gives-tuples : (pages : ℕ) (image : Image) (found : Found) → Gives pages image found → AreTuplesUnder (data_pages found.layout) found.states
Gives-tuples pages image found gives =
    let start : Found = gives.start in
    let layout : found.layout ≡ start.layout = TakesEach-layout (KeptIn image start.layout) start gives.bodies found gives.takes in
    TakesEach-tuples (KeptIn image start.layout) (data_pages found.layout) start gives.bodies found (KeptIn-part image start.layout) (ap data_pages (sym layout)) gives.takes
    (subst (λ (l : Layout). AreTuplesUnder (data_pages l) start.states) (sym layout) gives.finds.spells.half.tuples)
