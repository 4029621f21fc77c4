-- What entries make of states: what the last write of a key sets stands under it, and what none of them names stays.
use Rattle.std.proofs.Common.{◌≡◌, ℕ, zero, suc, ◌+◌, ◌⊎◌, Bool, true, false, cond, List, [], ◌∷◌, map, Some, None, inl, inr, refl, sym, ap, ◌∙◌, subst, arith}
use Rattle.std.specs.Prelude.{Contains, fold, slice_get}
use Rattle.std.specs.Cmp.{eq_by_cmp_equiv}
use Rattle.std.specs.FinMap.{FinMap, get, get-insert, get-remove}
use Rattle.std.specs.Ordering.{eq_by_cmp}
use Rattle.std.specs.declared.cmp.Ordering.TheVariants.{Less}
use Rattle.std.proofs.lemmas.Bool.{cases_Bool}
use Rattle.std.proofs.lemmas.List.Elements.{Contains-append_right}
use Rattle.std.proofs.lemmas.Option.{slice_get-get_or}
use Rattle.store_model.specs.Frame.{AreKeysApart, Del, DoKeysRise, Entry, Set, Write, key_of_write}
use Rattle.store_model.specs.Key.{key_order}
use Rattle.store_model.specs.Reading.{with_entries, with_entry, with_write}
use Rattle.store_model.specs.State.{State}
use Rattle.store_model.proofs.RemovalLaws.{tied}
use Rattle.store_model.proofs.SortedLaws.{keys_total, untied-less}

-- these writes name a key
abbrev pub Names : List Write → List ℕ → Type 0
Names writes key = Contains (map key_of_write writes) key

-- keys that differ aren't tied, and a key is tied with itself
pub apart-test : (q k : List ℕ) → (q ≡ k → ⊥) → eq_by_cmp key_order q k ≡ false
apart-test q k differ = elim (cases_Bool (eq_by_cmp key_order q k)) [
  | inl ties ↦ absurd (differ (tied q k ties))
  | inr apart ↦ apart
]

-- the first of some, and those behind it
pub among-first : {X : Type 0} (x : X) (xs : List X) → Contains (x ∷ xs) x
among-first x xs = (0, omega arith, refl)

pub among-behind : {X : Type 0} (x : X) (xs : List X) (y : X) → Contains xs y → Contains (x ∷ xs) y
among-behind x xs y among = Contains-append_right (x ∷ []) xs y among

-- one of some is the first or stands behind it
pub among-cases : {X : Type 0} (x : X) (xs : List X) (y : X) → Contains (x ∷ xs) y → (x ≡ y) ⊎ Contains xs y
among-cases x xs y (zero, less, is) = inl is
among-cases x xs y (suc k, less, is) = inr (k, omega (arith, less), is)

-- what a write of another key leaves
write-other : (states : FinMap key_order State) (one : Write) (key : List ℕ) → (key ≡ key_of_write one → ⊥) → get (with_write states one) key ≡ get states key
write-other states (Set k state) key differ =
    get-insert keys_total states k state key ∙ ap (λ (b : Bool). cond b (Some state) (get states key)) (apart-test key k differ)
write-other states (Del k) key differ =
    get-remove keys_total states k key ∙ ap (λ (b : Bool). cond b None (get states key)) (apart-test key k differ)

-- what a state's write sets
write-sets : (states : FinMap key_order State) (key : List ℕ) (state : State) → get (with_write states (Set key state)) key ≡ Some state
write-sets states key state =
    get-insert keys_total states key state key
    ∙ ap (λ (b : Bool). cond b (Some state) (get states key)) ((eq_by_cmp_equiv keys_total).refl key)

-- A key that no write names stays as it was.
pub writes-other : (states : FinMap key_order State) (writes : List Write) (key : List ℕ) → (Names writes key → ⊥) → get (fold with_write states writes) key ≡ get states key
writes-other states [] key unnamed = refl
writes-other states (one ∷ writes) key unnamed =
    let here : key ≡ key_of_write one → ⊥ = λ same. unnamed (0, omega arith, sym same) in
    writes-other (with_write states one) writes key (λ named. unnamed (among-behind (key_of_write one) (map key_of_write writes) key named))
    ∙ write-other states one key here

-- keys behind the first rise too
rise-behind : (one : Write) (writes : List Write) → DoKeysRise (one ∷ writes) → DoKeysRise writes
rise-behind one writes rise i a b at next =
    let same : suc i + 1 ≡ suc (i + 1) = omega arith in
    rise (suc i) a b at (ap (slice_get (one ∷ writes)) same ∙ next)

-- and are greater than it
rise-above : (one : Write) (writes : List Write) (key : List ℕ) → DoKeysRise (one ∷ writes) → Names writes key → key_order (key_of_write one) key ≡ Less
rise-above one [] key rise named = absurd (omega (arith, named.1))
rise-above one (other ∷ writes) key rise named =
    let next : key_order (key_of_write one) (key_of_write other) ≡ Less = rise 0 one other refl refl in
    elim (among-cases (key_of_write other) (map key_of_write writes) key named) [
      | inl here ↦ subst (λ (k : List ℕ). key_order (key_of_write one) k ≡ Less) here next
      | inr behind ↦
          keys_total.trans (key_of_write one) (key_of_write other) key next (rise-above other writes key (rise-behind one (other ∷ writes) rise) behind)
    ]

-- so the first key isn't named behind it
rise-unnamed : (one : Write) (writes : List Write) → DoKeysRise (one ∷ writes) → Names writes (key_of_write one) → ⊥
rise-unnamed one writes rise named =
    let key : List ℕ = key_of_write one in
    let apart : eq_by_cmp key_order key key ≡ false = untied-less key key (rise-above one writes key rise named) in
    let wrong : true ≡ false = sym ((eq_by_cmp_equiv keys_total).refl key) ∙ apart in
    absurd (cc wrong)

-- What one of an entry's writes sets stands under its key.
writes-set : (states : FinMap key_order State) (writes : List Write) (key : List ℕ) (state : State) → DoKeysRise writes → Contains writes (Set key state)
    → get (fold with_write states writes) key ≡ Some state
writes-set states [] key state rise sets = absurd (omega (arith, sets.1))
writes-set states (one ∷ writes) key state rise sets =
    elim (among-cases one writes (Set key state) sets) [
      | inl here ↦ (
          let first : DoKeysRise (Set key state ∷ writes) = subst (λ (w : Write). DoKeysRise (w ∷ writes)) here rise in
          ap (λ (w : Write). get (fold with_write (with_write states w) writes) key) here
          ∙ writes-other (with_write states (Set key state)) writes key (rise-unnamed (Set key state) writes first)
          ∙ write-sets states key state
          )
      | inr behind ↦ writes-set (with_write states one) writes key state (rise-behind one writes rise) behind
    ]

-- a write of a key names it
pub sets-names : (writes : List Write) (key : List ℕ) (state : State) → Contains writes (Set key state) → Names writes key
sets-names [] key state sets = absurd (omega (arith, sets.1))
sets-names (one ∷ writes) key state sets =
    elim (among-cases one writes (Set key state) sets) [
      | inl here ↦ (0, omega arith, ap key_of_write here)
      | inr behind ↦ among-behind (key_of_write one) (map key_of_write writes) key (sets-names writes key state behind)
    ]

-- none of these entries names a key
abbrev pub NoneNames : List Entry → List ℕ → Type 0
NoneNames entries key = (one : Entry) → Contains entries one → Names one.writes key → ⊥

pub NoneNames-behind : (entry : Entry) (entries : List Entry) (key : List ℕ) → NoneNames (entry ∷ entries) key → NoneNames entries key
NoneNames-behind entry entries key none one among = none one (among-behind entry entries one among)

-- A key that none of the entries names stays as it was.
pub entries-other : (states : FinMap key_order State) (entries : List Entry) (key : List ℕ) → NoneNames entries key → get (with_entries states entries) key ≡ get states key
entries-other states [] key none = refl
entries-other states (entry ∷ entries) key none =
    entries-other (with_entry states entry) entries key (NoneNames-behind entry entries key none)
    ∙ writes-other states entry.writes key (none entry (among-first entry entries))

-- keys of entries behind the first are apart too
pub apart-behind : (entry : Entry) (entries : List Entry) → AreKeysApart (entry ∷ entries) → AreKeysApart entries
apart-behind entry entries apart i j one other key less at there = apart (suc i) (suc j) one other key (omega (arith, less)) at there

-- an entry among others, by its index
pub at-among : (entries : List Entry) (one : Entry) (among : Contains entries one) → slice_get entries among.0 ≡ Some one
at-among entries one among = slice_get-get_or entries among.0 one among.1 ∙ ap (λ (e : Entry). Some e) among.2

-- a key that the first entry names is named by none behind it
pub apart-first : (entry : Entry) (entries : List Entry) (key : List ℕ) → AreKeysApart (entry ∷ entries) → Names entry.writes key → NoneNames entries key
apart-first entry entries key apart named one among other =
    apart 0 (suc among.0) entry one key (omega arith) refl (at-among entries one among) named other

-- What one of the entries sets stands under its key.
pub entries-set : (states : FinMap key_order State) (entries : List Entry) (entry : Entry) (key : List ℕ) (state : State)
    → ((one : Entry) → Contains entries one → DoKeysRise one.writes) → AreKeysApart entries → Contains entries entry → Contains entry.writes (Set key state)
    → get (with_entries states entries) key ≡ Some state
entries-set states [] entry key state rise apart among sets = absurd (omega (arith, among.1))
entries-set states (first ∷ entries) entry key state rise apart among sets =
    elim (among-cases first entries entry among) [
      | inl here ↦ (
          let mine : Contains first.writes (Set key state) = subst (λ (e : Entry). Contains e.writes (Set key state)) (sym here) sets in
          entries-other (with_entry states first) entries key (apart-first first entries key apart (sets-names first.writes key state mine))
          ∙ writes-set states first.writes key state (rise first (among-first first entries)) mine
          )
      | inr behind ↦
          entries-set (with_entry states first) entries entry key state (λ one there. rise one (among-behind first entries one there))
          (apart-behind first entries apart) behind sets
    ]
