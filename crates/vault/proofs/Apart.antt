-- No key stands in two of a group's entries: a request that touches a key which an earlier one changes begins the next group.
use Rattle.std.proofs.Common.{◌≡◌, ℕ, zero, suc, Bool, true, false, List, [], ◌∷◌, map, zip, Ok, Option, Some, inl, inr, refl, sym, ◌∙◌, ap, subst, arith}
use Rattle.std.specs.Prelude.{Contains, bytes_eq, slice_get, ◌||◌}
use Rattle.std.specs.List.{AllZip, list_any}
use Rattle.std.specs.FinMap.{entries}
use Rattle.std.proofs.lemmas.Bool.{cases_Bool}
use Rattle.std.proofs.lemmas.List.Folds.{list_any-append}
use Rattle.std.proofs.lemmas.Slice.Eq.{bytes_eq-Decides}
use Rattle.frame_codec.specs.Values.{model_entries, model_entry, model_write}
use Rattle.frame_codec.specs.Writes.{key_of_write}
use Rattle.frame_codec.specs.declared.entry.Entry.{Entry}
use Rattle.frame_codec.specs.declared.entry.Write.{Write}
use Rattle.frame_codec.specs.declared.entry.Write.TheVariants as write
use Rattle.group_plan.specs.Plans.{IsEntryOf, IsWritten}
use Rattle.store_model.specs.Frame as model
use Rattle.store_model.specs.Frame.{AreKeysApart}
use Rattle.store_model.specs.Group.{Commit, is_among, tally_after}
use Rattle.store_model.specs.Judgement.{Ledger, Tally}
use Rattle.store_model.specs.Placing.{Holding, Need, Placed, new_place}
use Rattle.store_model.proofs.SetLaws.{among-cases}
use Rattle.txn.specs.Requests.{need_of}
use Rattle.txn.specs.declared.change.Change.{Change}
use Rattle.txn.specs.declared.request.Request.{Request}
use Rattle.vault.proofs.Following.{AllFollow}
use Rattle.vault.proofs.Placings.{IsPlaced}
use Rattle.vault.proofs.Writings.{neither-right, write-key}

-- a key is among others where it is one of them
same-bytes : (xs ys : List ℕ) → xs ≡ ys → bytes_eq xs ys ≡ true
same-bytes xs ys same = (bytes_eq-Decides xs ys).1 same

-- the keys of some changes
abbrev names_in : List ℕ → List (List ℕ × Need) → Bool
names_in key needs = list_any (λ need. bytes_eq key need.0) needs

-- what has one of two has either
either-left : (a b : Bool) → a ≡ true → (a || b) ≡ true
either-left true b is = refl
either-left false b is = absurd (cc is)

either-right : (a b : Bool) → b ≡ true → (a || b) ≡ true
either-right true b is = refl
either-right false b is = is

model-key : (w : Write) → model.key_of_write (model_write w) ≡ key_of_write w
model-key (write.Set key state) = refl
model-key (write.Del key) = refl

-- A key that an entry writes is one that its request changes, and one that has its place.
record IsNamed (es : List (List ℕ × Change)) (placed : List Placed) (key : List ℕ) : Type 0 where
  asked : names_in key (map {A = List ℕ × Change} {B = List ℕ × Need} (λ one. (one.0, need_of one.1)) es) ≡ true
  has : is_among key (map (λ one. one.key) placed) ≡ true

named : (held : List ℕ → Option Holding) (number : ℕ) (es : List (List ℕ × Change)) (placed : List Placed) (writes : List Write) (key : List ℕ)
    → AllZip (IsPlaced held) (map {A = List ℕ × Change} {B = List ℕ × Need} (λ one. (one.0, need_of one.1)) es) placed → AllZip (IsWritten number) (zip es placed) writes
    → Contains (map model.key_of_write (map model_write writes)) key → IsNamed es placed key
named held number es placed [] key places all among = absurd (omega (arith, among.1))
named held number [] placed (w ∷ writes) key places all among = absurd all
named held number (e ∷ es) [] (w ∷ writes) key places all among = absurd all
named held number (e ∷ es) (p ∷ placed) (w ∷ writes) key places all among =
    elim (among-cases (model.key_of_write (model_write w)) (map model.key_of_write (map model_write writes)) key among) [
      | inl here ↦
          (let at : key ≡ e.0 = sym here ∙ model-key w ∙ write-key e.0 e.1 number (new_place p) w all.0 in
          record {
            asked = either-left (bytes_eq key e.0) _ (same-bytes key e.0 at);
            has = either-left (bytes_eq key p.key) _ (same-bytes key p.key (at ∙ sym places.0.key));
          })
      | inr behind ↦
          (let rest = named held number es placed writes key places.1 all.1 behind in
          record { asked = either-right (bytes_eq key e.0) _ rest.asked; has = either-right (bytes_eq key p.key) _ rest.has })
    ]

-- needs whose keys are among none of these don't name one of them
untouched : (needs : List (List ℕ × Need)) (keys : List (List ℕ)) (key : List ℕ) → list_any (λ need. is_among need.0 keys) needs ≡ false → is_among key keys ≡ true
    → names_in key needs ≡ true → ⊥
untouched [] keys key none among asked = absurd (cc asked)
untouched (need ∷ needs) keys key none among asked = elim (cases_Bool (bytes_eq key need.0)) [
  | inl same ↦
      (let here : is_among need.0 keys ≡ true = subst (λ (k : List ℕ). is_among k keys ≡ true) ((bytes_eq-Decides key need.0).0 same) among in
      let all : (is_among need.0 keys || list_any (λ other. is_among other.0 keys) needs) ≡ true = either-left (is_among need.0 keys) _ here in
      let clash : true ≡ false = sym all ∙ none in absurd (cc clash))
  | inr differ ↦
      (let behind : names_in key needs ≡ true = sym (ap (λ (b : Bool). b || names_in key needs) differ) ∙ asked in
      untouched needs keys key (neither-right (is_among need.0 keys) (list_any (λ one. is_among one.0 keys) needs) none) among behind)
]

module _ (ledger : Ledger) where
  -- No entry behind a tally names a key that is changed there.
  unnamed : (tally : Tally) (ones : List (Request × Commit)) (es : List Entry) (key : List ℕ) (j : ℕ) (other : model.Entry) → AllFollow ledger tally ones
      → AllZip IsEntryOf ones es → is_among key tally.changed ≡ true → slice_get (model_entries es) j ≡ Some other → Contains (map model.key_of_write other.writes) key → ⊥
  unnamed tally [] [] key j other follow all changed at among = absurd (cc at)
  unnamed tally [] (e ∷ es) key j other follow all changed at among = absurd all
  unnamed tally (one ∷ ones) [] key j other follow all changed at among = absurd all
  unnamed tally (one ∷ ones) (e ∷ es) key zero other follow all changed at among =
      let here : model_entry e ≡ other = cc at in
      let is = named ledger.held one.1.number (entries one.0.writes) one.1.placed e.writes key follow.0.placed all.0.writes
      (subst (λ (x : model.Entry). Contains (map model.key_of_write x.writes) key) (sym here) among) in
      untouched (map {A = List ℕ × Change} {B = List ℕ × Need} (λ e. (e.0, need_of e.1)) (entries one.0.writes)) tally.changed key
      (neither-right (list_any (λ read. is_among read.0 tally.changed) (entries one.0.reads)) _ follow.0.apart) changed is.asked
  unnamed tally (one ∷ ones) (e ∷ es) key (suc j) other follow all changed at among =
      unnamed (tally_after tally (Ok one.1.placed)) ones es key j other follow.1 all.1
      (list_any-append (λ k. bytes_eq key k) (map (λ p. p.key) one.1.placed) tally.changed ∙ either-right (is_among key (map (λ p. p.key) one.1.placed)) _ changed) at among

  -- So no key stands in two of them.
  pub keys-apart : (tally : Tally) (ones : List (Request × Commit)) (es : List Entry) → AllFollow ledger tally ones → AllZip IsEntryOf ones es → AreKeysApart (model_entries es)
  keys-apart tally [] [] follow all i j one other key less at there among again = absurd (cc at)
  keys-apart tally [] (e ∷ es) follow all i j one other key less at there among again = absurd all
  keys-apart tally (first ∷ ones) [] follow all i j one other key less at there among again = absurd all
  keys-apart tally (first ∷ ones) (e ∷ es) follow all i zero one other key less at there among again = absurd (omega (arith, less))
  keys-apart tally (first ∷ ones) (e ∷ es) follow all zero (suc j) one other key less at there among again =
      let here : model_entry e ≡ one = cc at in
      let is = named ledger.held first.1.number (entries first.0.writes) first.1.placed e.writes key follow.0.placed all.0.writes
      (subst (λ (x : model.Entry). Contains (map model.key_of_write x.writes) key) (sym here) among) in
      unnamed (tally_after tally (Ok first.1.placed)) ones es key j other follow.1 all.1
      (list_any-append (λ k. bytes_eq key k) (map (λ p. p.key) first.1.placed) tally.changed ∙ either-left (is_among key (map (λ p. p.key) first.1.placed)) _ is.has) there again
  keys-apart tally (first ∷ ones) (e ∷ es) follow all (suc i) (suc j) one other key less at there among again =
      keys-apart (tally_after tally (Ok first.1.placed)) ones es follow.1 all.1 i j one other key (omega (arith, less)) at there among again
