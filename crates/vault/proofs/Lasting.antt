-- What the entries of a frame write stands behind the frame: no key stands in two of them.
use Rattle.std.proofs.Common.{◌≡◌, ℕ, suc, ◌+◌, Bool, true, false, cond, List, [], ◌∷◌, map, Option, Some, None, inl, inr, refl, sym, ap, ◌∙◌, subst, arith}
use Rattle.std.specs.Prelude.{Contains, fold, slice_get}
use Rattle.std.specs.Cmp.{eq_by_cmp_equiv}
use Rattle.std.specs.FinMap.{FinMap, get, get-insert, get-remove}
use Rattle.std.specs.Ordering.{eq_by_cmp}
use Rattle.std.specs.declared.cmp.Ordering.TheVariants.{Less}
use Rattle.std.proofs.lemmas.List.Elements.{All-contains}
use Rattle.store_model.specs.Frame.{AreKeysApart, Del, DoKeysRise, Entry, IsEntry, IsFrame, Set, Write, key_of_write}
use Rattle.store_model.specs.Key.{key_order}
use Rattle.store_model.specs.Reading.{with_entries, with_entry, with_write}
use Rattle.store_model.specs.State.{State}
use Rattle.store_model.proofs.SetLaws.{Names, among-behind, among-cases, among-first, apart-behind, apart-first, entries-other, writes-other}
use Rattle.store_model.proofs.SortedLaws.{keys_total, untied-less}

-- the state that a write leaves under its key, or none
abbrev pub left_by : Write → Option State
left_by (Set key state) = Some state
left_by (Del key) = None

write-leaves : (states : FinMap key_order State) (one : Write) → get (with_write states one) (key_of_write one) ≡ left_by one
write-leaves states (Set key state) =
    get-insert keys_total states key state key
    ∙ ap (λ (b : Bool). cond b (Some state) (get states key)) ((eq_by_cmp_equiv keys_total).refl key)
write-leaves states (Del key) =
    get-remove keys_total states key key
    ∙ ap (λ (b : Bool). cond b None (get states key)) ((eq_by_cmp_equiv keys_total).refl key)

-- keys behind the first rise too
rise-behind : (one : Write) (writes : List Write) → DoKeysRise (one ∷ writes) → DoKeysRise writes
rise-behind one writes rise i a b at next =
    let same : suc i + 1 ≡ suc (i + 1) = omega arith in
    rise (suc i) a b at (ap (slice_get (one ∷ writes)) same ∙ next)

-- and are greater than it
rise-above : (one : Write) (writes : List Write) (key : List ℕ) → DoKeysRise (one ∷ writes) → Names writes key → key_order (key_of_write one) key ≡ Less
rise-above one [] key rise named = absurd (omega (arith, named.1))
rise-above one (other ∷ writes) key rise named =
    let next : key_order (key_of_write one) (key_of_write other) ≡ Less = rise 0 one other refl refl in
    elim (among-cases (key_of_write other) (map key_of_write writes) key named) [
      | inl here ↦ subst (λ (k : List ℕ). key_order (key_of_write one) k ≡ Less) here next
      | inr behind ↦
          keys_total.trans (key_of_write one) (key_of_write other) key next (rise-above other writes key (rise-behind one (other ∷ writes) rise) behind)
    ]

-- so the first key isn't named behind it
rise-unnamed : (one : Write) (writes : List Write) → DoKeysRise (one ∷ writes) → Names writes (key_of_write one) → ⊥
rise-unnamed one writes rise named =
    let key : List ℕ = key_of_write one in
    let apart : eq_by_cmp key_order key key ≡ false = untied-less key key (rise-above one writes key rise named) in
    let wrong : true ≡ false = sym ((eq_by_cmp_equiv keys_total).refl key) ∙ apart in
    absurd (cc wrong)

-- What one of an entry's writes leaves stands under its key,
writes-leave : (states : FinMap key_order State) (writes : List Write) (one : Write) → DoKeysRise writes → Contains writes one
    → get (fold with_write states writes) (key_of_write one) ≡ left_by one
writes-leave states [] one rise among = absurd (omega (arith, among.1))
writes-leave states (first ∷ writes) one rise among =
    elim (among-cases first writes one among) [
      | inl here ↦
          (let rises : DoKeysRise (one ∷ writes) = subst (λ (w : Write). DoKeysRise (w ∷ writes)) here rise in
          ap (λ (w : Write). get (fold with_write (with_write states w) writes) (key_of_write one)) here
          ∙ writes-other (with_write states one) writes (key_of_write one) (rise-unnamed one writes rises)
          ∙ write-leaves states one)
      | inr behind ↦ writes-leave (with_write states first) writes one (rise-behind first writes rise) behind
    ]

-- a write names its key
write-names : (writes : List Write) (one : Write) → Contains writes one → Names writes (key_of_write one)
write-names [] one among = absurd (omega (arith, among.1))
write-names (first ∷ writes) one among =
    elim (among-cases first writes one among) [
      | inl here ↦ subst (λ (w : Write). Names (first ∷ writes) (key_of_write w)) here (among-first (key_of_write first) (map key_of_write writes))
      | inr behind ↦ among-behind (key_of_write first) (map key_of_write writes) (key_of_write one) (write-names writes one behind)
    ]

-- and so does what one of the entries writes.
entries-leave : (states : FinMap key_order State) (entries : List Entry) (entry : Entry) (one : Write)
    → ((other : Entry) → Contains entries other → DoKeysRise other.writes) → AreKeysApart entries → Contains entries entry → Contains entry.writes one
    → get (with_entries states entries) (key_of_write one) ≡ left_by one
entries-leave states [] entry one rise apart among writes = absurd (omega (arith, among.1))
entries-leave states (first ∷ entries) entry one rise apart among writes =
    elim (among-cases first entries entry among) [
      | inl here ↦
          (let mine : Contains first.writes one = subst (λ (e : Entry). Contains e.writes one) (sym here) writes in
          entries-other (with_entry states first) entries (key_of_write one)
          (apart-first first entries (key_of_write one) apart (write-names first.writes one mine))
          ∙ writes-leave states first.writes one (rise first (among-first first entries)) mine)
      | inr behind ↦
          entries-leave (with_entry states first) entries entry one (λ other there. rise other (among-behind first entries other there))
          (apart-behind first entries apart) behind writes
    ]

-- So it is of a frame.
pub frame-leaves : (pages : ℕ) (states : FinMap key_order State) (entries : List Entry) (entry : Entry) (one : Write) → IsFrame pages entries
    → Contains entries entry → Contains entry.writes one → get (with_entries states entries) (key_of_write one) ≡ left_by one
frame-leaves pages states entries entry one frame among writes =
    entries-leave states entries entry one (λ other there. (All-contains (IsEntry pages) entries other frame.each there).rise) frame.apart among writes
