-- The numbers of the entries that wrote the states: none exceeds the last number.
use Rattle.std.proofs.Common.{◌≡◌, ℕ, ◌<◌, ◌≤◌, ◌⊎◌, Bool, true, cond, List, [], ◌∷◌, Some, None, inl, inr, refl, sym, ap, ◌∙◌, subst, arith}
use Rattle.std.specs.Prelude.{Contains, fold}
use Rattle.std.specs.FinMap.{FinMap, get, get-insert, get-remove}
use Rattle.std.specs.Ordering.{eq_by_cmp}
use Rattle.std.proofs.lemmas.Bool.{cases_Bool}
use Rattle.std.proofs.lemmas.List.Elements.{All-contains}
use Rattle.store_model.specs.Frame.{Del, DoNumbersGoOn, Entry, IsEntry, IsFrame, IsWrite, Set, Write}
use Rattle.store_model.specs.Key.{key_order}
use Rattle.store_model.specs.Layout.{data_pages}
use Rattle.store_model.specs.LogReading.{StoredBody}
use Rattle.store_model.specs.Reading.{AreAllKept, Found, GoesOn, Takes, last_number, with_entries, with_entry, with_write}
use Rattle.store_model.specs.State.{State}
use Rattle.store_model.proofs.NumberLaws.{Takes-last, last-above, numbers-behind, numbers-rise}
use Rattle.store_model.proofs.RemovalLaws.{tied}
use Rattle.store_model.proofs.SetLaws.{among-behind, among-cases, among-first}
use Rattle.store_model.proofs.SortedLaws.{keys_total}

-- each state was written by an entry of a number up to this one
abbrev pub AreBornBy : ℕ → FinMap key_order State → Type 0
AreBornBy last states = (key : List ℕ) (state : State) → get states key ≡ Some state → state.born ≤ last

-- A state behind a write was there before it, or the write sets it.
write-origin : (states : FinMap key_order State) (one : Write) (key : List ℕ) (state : State) → get (with_write states one) key ≡ Some state
    → (get states key ≡ Some state) ⊎ (one ≡ Set key state)
write-origin states (Set k s) key state is =
    let given : cond (eq_by_cmp key_order key k) (Some s) (get states key) ≡ Some state = sym (get-insert keys_total states k s key) ∙ is in
    elim (cases_Bool (eq_by_cmp key_order key k)) [
      | inl here ↦
          (let found : Some s ≡ Some state = rw here at given in
          let same : s ≡ state = cc in
          inr (ap (λ (x : List ℕ). Set x s) (sym (tied key k here)) ∙ ap (λ (x : State). Set key x) same))
      | inr other ↦ inl (rw other at given)
    ]
write-origin states (Del k) key state is =
    let given : cond (eq_by_cmp key_order key k) None (get states key) ≡ Some state = sym (get-remove keys_total states k key) ∙ is in
    elim (cases_Bool (eq_by_cmp key_order key k)) [
      | inl here ↦
          (let found : cond true None (get states key) ≡ Some state = subst (λ (b : Bool). cond b None (get states key) ≡ Some state) here given in
          absurd (cc found))
      | inr other ↦ inl (rw other at given)
    ]

writes-origin : (states : FinMap key_order State) (writes : List Write) (key : List ℕ) (state : State) → get (fold with_write states writes) key ≡ Some state
    → (get states key ≡ Some state) ⊎ Contains writes (Set key state)
writes-origin states [] key state is = inl is
writes-origin states (one ∷ writes) key state is =
    elim (writes-origin (with_write states one) writes key state is) [
      | inr behind ↦ inr (among-behind one writes (Set key state) behind)
      | inl before ↦ elim (write-origin states one key state before) [
        | inl old ↦ inl old
        | inr here ↦ inr (subst (λ (w : Write). Contains (w ∷ writes) (Set key state)) (sym here) (among-first (Set key state) writes))
      ]
    ]

-- A state behind entries was there before them, or one of them sets it.
pub entries-origin : (states : FinMap key_order State) (entries : List Entry) (key : List ℕ) (state : State) → get (with_entries states entries) key ≡ Some state
    → (get states key ≡ Some state) ⊎ ((entry : Entry) × (Contains entries entry × Contains entry.writes (Set key state)))
entries-origin states [] key state is = inl is
entries-origin states (entry ∷ entries) key state is =
    elim (entries-origin (with_entry states entry) entries key state is) [
      | inr behind ↦ inr (behind.0, (among-behind entry entries behind.0 behind.1.0, behind.1.1))
      | inl before ↦ elim (writes-origin states entry.writes key state before) [
        | inl old ↦ inl old
        | inr here ↦ inr (entry, (among-first entry entries, here))
      ]
    ]

-- numbers that go on behind one are greater than it, and up to the last of them
numbers-within : (first entry : Entry) (entries : List Entry) → DoNumbersGoOn (first ∷ entries) → Contains (first ∷ entries) entry
    → (first.number ≤ entry.number) × (entry.number ≤ last_number first.number entries)
numbers-within first entry [] goes among =
    elim (among-cases first [] entry among) [
      | inl here ↦ (let same = ap (λ (e : Entry). e.number) here in (omega (arith, same), omega (arith, same)))
      | inr none ↦ absurd (omega (arith, none.1))
    ]
numbers-within first entry (next ∷ entries) goes among =
    let step = goes 0 first next refl refl in
    elim (among-cases first (next ∷ entries) entry among) [
      | inl here ↦
          (let same = ap (λ (e : Entry). e.number) here in
          let rise = numbers-rise next entries (numbers-behind first (next ∷ entries) goes) in
          (omega (arith, same), omega (arith, same, step, rise)))
      | inr behind ↦
          (let rest = numbers-within next entry entries (numbers-behind first (next ∷ entries) goes) behind in
          (omega (arith, step, rest.0), rest.1))
    ]

pub numbers-between : (last : ℕ) (entries : List Entry) (entry : Entry) → GoesOn last entries → DoNumbersGoOn entries → Contains entries entry
    → (last < entry.number) × (entry.number ≤ last_number last entries)
numbers-between last [] entry goes on among = absurd goes
numbers-between last (first ∷ entries) entry goes on among =
    let within = numbers-within first entry entries on among in (omega (arith, goes, within.0), within.1)

-- a state that an entry sets was written by it
pub set-born : (pages : ℕ) (entries : List Entry) (entry : Entry) (key : List ℕ) (state : State) → IsFrame pages entries → Contains entries entry
    → Contains entry.writes (Set key state) → state.born ≡ entry.number
set-born pages entries entry key state frame among sets =
    (All-contains (IsWrite pages entry.number) entry.writes (Set key state) (All-contains (IsEntry pages) entries entry frame.each among).writes sets).1

-- behind a body of which all entries are kept no state was written by a later entry than the last
pub Takes-born : (before : Found) (body : StoredBody) (after : Found) → Takes AreAllKept before body after → AreBornBy before.last before.states
    → AreBornBy after.last after.states
Takes-born before body after takes born key state is =
    let told : List Entry = takes.entries_told in
    let last : after.last ≡ last_number before.last told = Takes-last AreAllKept before body after takes in
    let found : get (with_entries before.states told) key ≡ Some state =
    ap (λ (kept : List Entry). get (with_entries before.states kept) key) (sym takes.kept)
    ∙ ap (λ (f : Found). get f.states key) (sym takes.after_is) ∙ is in
    elim (entries-origin before.states told key state found) [
      | inl old ↦ omega (arith, born key state old, last, last-above before.last told takes.goes_on takes.spells.frame.numbers)
      | inr set ↦
          omega (
            arith,
            set-born (data_pages before.layout) told set.0 key state takes.spells.frame set.1.0 set.1.1,
            (numbers-between before.last told set.0 takes.goes_on takes.spells.frame.numbers set.1.0).1,
            last,
          )
    ]
