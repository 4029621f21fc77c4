-- A state that the last frame sets, and that doesn't verify, isn't among those that are found.
use Rattle.std.proofs.Common.{◌≡◌, ℕ, suc, List, [], ◌∷◌, Some, false, inl, inr, refl, sym, ap, ◌∙◌, subst, arith}
use Rattle.std.specs.Prelude.{Contains}
use Rattle.std.specs.FinMap.{FinMap, get}
use Rattle.std.proofs.lemmas.List.Elements.{All-contains}
use Rattle.store_model.specs.Dependence.{AgreesToGate, LastEntries}
use Rattle.store_model.specs.Disk.{HasPages, Image}
use Rattle.store_model.specs.Frame.{AreKeysApart, Entry, Set, Spells}
use Rattle.store_model.specs.Half.{picked}
use Rattle.store_model.specs.Key.{key_order}
use Rattle.store_model.specs.Layout.{Layout, data_page, data_pages}
use Rattle.store_model.specs.LogReading.{HasBodies, StoredBody, gate_is_open}
use Rattle.store_model.specs.Reading.{AreAllKept, AreKept, DoesVerify, DoesWriteVerify, Found, Gives, KeptIn, Takes, TakesEach, with_entries, with_entry}
use Rattle.store_model.specs.State.{State}
use Rattle.store_model.specs.Verify.{Verifies}
use Rattle.store_model.proofs.BornLaws.{AreBornBy, Takes-born, numbers-between, set-born}
use Rattle.store_model.proofs.DependenceLaws.{Gives-found_by, Takes-layout, picked-agree, Starts-agree}
use Rattle.store_model.proofs.FrameLaws.{Spells-one}
use Rattle.store_model.proofs.HalfAgreeLaws.{HasBodies-agree}
use Rattle.store_model.proofs.ReadingLaws.{IsSmall, Takes-small}
use Rattle.store_model.proofs.ReadingOneLaws.{start-small}
use Rattle.store_model.proofs.SetLaws.{Names, NoneNames, NoneNames-behind, among-cases, among-first, apart-behind, apart-first, at-among, sets-names, writes-other}

-- a key that no entry names stays, whichever of them are kept
kept-other : (image : Image) (layout : Layout) (states : FinMap key_order State) (entries rest : List Entry) (key : List ℕ) → NoneNames entries key
    → AreKept image layout entries rest → get (with_entries states rest) key ≡ get states key
kept-other image layout states [] rest key none kept = ap (λ (es : List Entry). get (with_entries states es) key) kept
kept-other image layout states (entry ∷ entries) rest key none kept =
    let behind = NoneNames-behind entry entries key none in
    elim kept [
      | inl verifies ↦
          ap (λ (es : List Entry). get (with_entries states es) key) verifies.1.1
          ∙ kept-other image layout (with_entry states entry) entries verifies.1.0 key behind verifies.1.2
          ∙ writes-other states entry.writes key (none entry (among-first entry entries))
      | inr fails ↦ kept-other image layout states entries rest key behind fails.1
    ]

-- So does one that an entry names which isn't kept.
dropped-other : (image : Image) (layout : Layout) (states : FinMap key_order State) (entries rest : List Entry) (entry : Entry) (key : List ℕ) → AreKeysApart entries
    → Contains entries entry → Names entry.writes key → (DoesVerify image layout entry → ⊥) → AreKept image layout entries rest
    → get (with_entries states rest) key ≡ get states key
dropped-other image layout states [] rest entry key apart among named bad kept = absurd (omega (arith, among.1))
dropped-other image layout states (first ∷ entries) rest entry key apart among named bad kept =
    elim (among-cases first entries entry among) [
      | inl here ↦ (
          let mine : Names first.writes key = subst (λ (e : Entry). Names e.writes key) (sym here) named in
          elim kept [
            | inl verifies ↦ absurd (bad (subst (λ (e : Entry). DoesVerify image layout e) here verifies.0))
            | inr fails ↦ kept-other image layout states entries rest key (apart-first first entries key apart mine) fails.1
          ])
      | inr behind ↦ elim kept [
        | inl verifies ↦ (
            let unnamed : Names first.writes key → ⊥ = λ other.
            apart 0 (suc behind.0) first entry key (omega arith) refl (at-among entries entry behind) other named in
            ap (λ (es : List Entry). get (with_entries states es) key) verifies.1.1
            ∙ dropped-other image layout (with_entry states first) entries verifies.1.0 entry key (apart-behind first entries apart) behind named bad verifies.1.2
            ∙ writes-other states first.writes key unnamed
            )
        | inr fails ↦ dropped-other image layout states entries rest entry key (apart-behind first entries apart) behind named bad fails.1
      ]
    ]

-- Behind a last body a state that it sets, and that doesn't verify, isn't there.
Takes-damaged : (image : Image) (before : Found) (body : StoredBody) (after : Found) (takes : Takes (AreKept image before.layout) before body after) (entry : Entry)
    (key : List ℕ) (state : State) → AreBornBy before.last before.states → Contains takes.entries_told entry → Contains entry.writes (Set key state)
    → (Verifies image (data_page before.layout) state → ⊥) → get after.states key ≡ Some state → ⊥
Takes-damaged image before body after takes entry key state born among sets bad is =
    let layout : Layout = before.layout in
    let told : List Entry = takes.entries_told in
    let fails : DoesVerify image layout entry → ⊥ = λ verifies. bad (All-contains (DoesWriteVerify image layout) entry.writes (Set key state) verifies sets) in
    let old : get before.states key ≡ Some state =
    sym (dropped-other image layout before.states told takes.entries_kept entry key takes.spells.frame.apart among (sets-names entry.writes key state sets) fails takes.kept)
    ∙ ap (λ (found : Found). get found.states key) (sym takes.after_is) ∙ is in
    omega (
      arith,
      born key state old,
      set-born (data_pages layout) told entry key state takes.spells.frame among sets,
      (numbers-between before.last told entry takes.goes_on takes.spells.frame.numbers among).0,
    )

TakesEach-damaged : (image : Image) (layout : Layout) (before : Found) (bodies : List StoredBody) (after : Found) (told : List Entry) (entry : Entry) (key : List ℕ)
    (state : State) → before.layout ≡ layout → IsSmall before → AreBornBy before.last before.states → TakesEach (KeptIn image layout) before bodies after
    → LastEntries layout bodies told → Contains told entry → Contains entry.writes (Set key state) → (Verifies image (data_page layout) state → ⊥)
    → get after.states key ≡ Some state → ⊥
TakesEach-damaged image layout before [] after told entry key state is small born takes last among sets bad there =
    let none : Contains [] entry = subst (λ (es : List Entry). Contains es entry) last among in absurd (omega (arith, none.1))
TakesEach-damaged image layout before (one ∷ []) after told entry key state is small born takes last among sets bad there =
    let taken : Takes (AreKept image before.layout) before one takes.0 =
    subst (λ (l : Layout). Takes (AreKept image l) before one takes.0) (sym is) takes.1 in
    let spells : Spells (data_pages before.layout) one.bytes told = subst (λ (l : Layout). Spells (data_pages l) one.bytes told) (sym is) last in
    let same : told ≡ taken.entries_told = Spells-one (data_pages before.layout) one.bytes told taken.entries_told small spells taken.spells in
    Takes-damaged image before one takes.0 taken entry key state born (subst (λ (es : List Entry). Contains es entry) same among) sets
    (subst (λ (l : Layout). Verifies image (data_page l) state → ⊥) (sym is) bad)
    (ap (λ (found : Found). get found.states key) (sym takes.2) ∙ there)
TakesEach-damaged image layout before (one ∷ two ∷ bodies) after told entry key state is small born takes last among sets bad there =
    TakesEach-damaged image layout takes.0 (two ∷ bodies) after told entry key state (Takes-layout AreAllKept before one takes.0 takes.1 ∙ is)
    (Takes-small AreAllKept before one takes.0 small takes.1) (Takes-born before one takes.0 takes.1 born) takes.2 last among sets bad there

-- Where a state that the last frame sets doesn't verify on the other image, that doesn't tell it under its key, if it tells a store.
pub Gives-damaged : (pages : ℕ) (image other : Image) (found after : Found) (gives : Gives pages image found) (told : List Entry) (entry : Entry) (key : List ℕ)
    (state : State) → HasPages image → AgreesToGate pages image other found gives → gate_is_open other (picked (image 0)) gives.gate ≡ false
    → LastEntries gives.start.layout gives.bodies told → Contains told entry → Contains entry.writes (Set key state)
    → (Verifies other (data_page gives.start.layout) state → ⊥) → Gives pages other after → get after.states key ≡ Some state → ⊥
Gives-damaged pages image other found after gives told entry key state whole agrees closed last among sets bad again =
    let half : ℕ = picked (image 0) in
    let start : Found = gives.start in
    let log : HasBodies other (picked (other 0)) gives.bodies gives.gate =
    subst (λ (h : ℕ). HasBodies other h gives.bodies gives.gate) (sym (picked-agree pages image other found gives agrees))
    (HasBodies-agree image other half gives.bodies gives.gate whole agrees.log closed gives.log) in
    let by = Gives-found_by pages other after again start gives.bodies gives.gate (Starts-agree pages image other found gives whole agrees) log in
    let takes : TakesEach (KeptIn other start.layout) start gives.bodies after =
    subst (λ (bodies : List StoredBody). TakesEach (KeptIn other start.layout) start bodies after) by.bodies_are
    (subst (λ (f : Found). TakesEach (KeptIn other f.layout) f again.bodies after) by.start_is again.takes) in
    TakesEach-damaged other start.layout start gives.bodies after told entry key state refl (start-small pages image half start gives.finds)
    gives.finds.spells.half.born takes last among sets bad
