-- Laws of offsets: the first of some fields that is broken is named by one offset.
use Rattle.std.proofs.Common.{◌≡◌, ℕ, ◌+◌, ◌<◌, ◌≤◌, inl, inr, List, [], ◌∷◌, ◌++◌, take, drop, sym, ap, ◌∙◌, arith, append_assoc, ◌⊎◌}
use Rattle.std.specs.Prelude.{Contains, nat_le}
use Rattle.std.specs.Int.{w32}
use Rattle.std.specs.List.{All}
use Rattle.std.proofs.lemmas.Bool.{cases_lt, leb-true}
use Rattle.std.proofs.lemmas.List.{take-append-drop, take-take}
use Rattle.std.proofs.lemmas.List.Elements.{All-contains, All-tail, All-weaker, All-contains_itself}
use Rattle.store_model.specs.Field.{Bytes, Field, IsBroken, IsFirstBroken, IsGood, IsNamed, KeyText, Number, Rule}
use Rattle.store_model.specs.Key.{BeginsKey, IsBadAt, is_key}
use Rattle.store_model.specs.Shape.{greatest_size}
use Rattle.store_model.specs.TupleFields.{IsBadTuple, Rules, fields_at, ruled_key_fields, told_key, told_size, tuple_fields}
use Rattle.store_model.proofs.FieldLaws.{IsGood-not_broken}
use Rattle.store_model.proofs.TupleLaws.{count-same}

-- the front of what begins a key does too
begins-front : (text : List ℕ) (m n : ℕ) → m ≤ n → BeginsKey (take n text) → BeginsKey (take m text)
begins-front text m n less begins =
    let split : take m text ++ drop m (take n text) ≡ take n text =
    ap (λ (xs : List ℕ). xs ++ drop m (take n text)) (sym (take-take m n text less)) ∙ take-append-drop m (take n text) in (
      drop m (take n text) ++ begins.0,
      ap is_key (sym (append_assoc (take m text) (drop m (take n text)) begins.0) ∙ ap (λ (xs : List ℕ). xs ++ begins.0) split) ∙ begins.1,
    )

-- the place of a text that is no key isn't before that of the same text
bad-place : (text : List ℕ) (one other : ℕ) → IsBadAt text one → IsBadAt text other → one < other → ⊥
bad-place text one other mine theirs less =
    mine.here (omega (arith, less, theirs.within)) (begins-front text (one + 1) other (omega (arith, less)) theirs.before)

bad-place-one : (text : List ℕ) (one other : ℕ) → IsBadAt text one → IsBadAt text other → one ≡ other
bad-place-one text one other mine theirs =
    elim (cases_lt one other) [
      | inl less ↦ absurd (bad-place text one other mine theirs less)
      | inr past ↦ (
          elim (cases_lt other one) [
            | inl more ↦ absurd (bad-place text other one theirs mine more)
            | inr equal ↦ omega (arith, past, equal)
          ]
          )
    ]

named-one : (rule : Rule) (text : List ℕ) (one other : ℕ) → IsNamed rule text one → IsNamed rule text other → one ≡ other
named-one KeyText text one other mine theirs = bad-place-one text one other mine theirs
named-one (Number width test) text one other mine theirs = mine ∙ sym theirs
named-one (Bytes test) text one other mine theirs = mine ∙ sym theirs

-- a broken field is named by one offset
pub IsBroken-one : (stored : List ℕ) (field : Field) (at other : ℕ) → IsBroken stored field at → IsBroken stored field other → at ≡ other
IsBroken-one stored field at other (inl mine) (inl theirs) = mine.named ∙ sym theirs.named
IsBroken-one stored field at other (inl mine) (inr theirs) = absurd (omega (arith, mine.short, theirs.whole))
IsBroken-one stored field at other (inr mine) (inl theirs) = absurd (omega (arith, theirs.short, mine.whole))
IsBroken-one stored field at other (inr mine) (inr theirs) =
    mine.at_is ∙ ap (λ (n : ℕ). field.at + n) (named-one field.rule _ mine.place theirs.place mine.named theirs.named) ∙ sym theirs.at_is

-- no fields, or a first one that is broken or good
none-broken : (stored : List ℕ) (before : List Field) (field : Field) (behind : List Field) → [] ≡ before ++ field ∷ behind → ⊥
none-broken stored [] field behind is = absurd (cc is)
none-broken stored (one ∷ before) field behind is = absurd (cc is)

pub IsFirstBroken-none : (stored : List ℕ) (at : ℕ) → IsFirstBroken stored [] at → ⊥
IsFirstBroken-none stored at first = none-broken stored first.before first.field first.behind first.fields_are

-- the first field is broken, or it's good and one behind it is the first that is broken
cases-by : (stored : List ℕ) (one : Field) (fields before : List Field) (field : Field) (behind : List Field) (at : ℕ) → one ∷ fields ≡ before ++ field ∷ behind
    → All (IsGood stored) before → IsBroken stored field at → IsBroken stored one at ⊎ (IsGood stored one × IsFirstBroken stored fields at)
cases-by stored one fields [] field behind at are good bad = let same : one ≡ field = cc in inl (rw same bad)
cases-by stored one fields (two ∷ before) field behind at are good bad =
    let same : two ≡ one = cc in
    let rest : fields ≡ before ++ field ∷ behind = cc in
    let first : IsGood stored two = good 0 two (omega arith) in
    inr (
      rw (← same) first,
      record {
        before = before;
        field = field;
        behind = behind;
        fields_are = rest;
        good = λ f among. All-contains (IsGood stored) before f (All-tail (IsGood stored) two before good) among;
        bad = bad;
      },
    )

pub IsFirstBroken-cases : (stored : List ℕ) (one : Field) (fields : List Field) (at : ℕ) → IsFirstBroken stored (one ∷ fields) at
    → IsBroken stored one at ⊎ (IsGood stored one × IsFirstBroken stored fields at)
IsFirstBroken-cases stored one fields at first =
    cases-by stored one fields first.before first.field first.behind at first.fields_are
    (All-weaker (Contains first.before) (IsGood stored) first.good first.before (All-contains_itself first.before)) first.bad

-- The first field that is broken is named by one offset.
pub IsFirstBroken-one : (stored : List ℕ) (fields : List Field) (at other : ℕ) → IsFirstBroken stored fields at → IsFirstBroken stored fields other → at ≡ other
IsFirstBroken-one stored [] at other mine theirs = absurd (IsFirstBroken-none stored at mine)
IsFirstBroken-one stored (one ∷ fields) at other mine theirs =
    elim (IsFirstBroken-cases stored one fields at mine) [
      | inl here ↦ (
          elim (IsFirstBroken-cases stored one fields other theirs) [
            | inl there ↦ IsBroken-one stored one at other here there
            | inr later ↦ absurd (IsGood-not_broken stored one at later.0 here)
          ]
          )
      | inr behind ↦ (
          elim (IsFirstBroken-cases stored one fields other theirs) [
            | inl there ↦ absurd (IsGood-not_broken stored one other behind.0 there)
            | inr later ↦ IsFirstBroken-one stored fields at other behind.1 later.1
          ]
          )
    ]

-- The same of fields that differ behind one that isn't good.
pub IsFirstBroken-tails : (stored : List ℕ) (fields : List Field) (bad : Field) (x y : List Field) (at other : ℕ) → (IsGood stored bad → ⊥)
    → IsFirstBroken stored (fields ++ bad ∷ x) at → IsFirstBroken stored (fields ++ bad ∷ y) other → at ≡ other
IsFirstBroken-tails stored [] bad x y at other not_good mine theirs =
    elim (IsFirstBroken-cases stored bad x at mine) [
      | inl here ↦ (
          elim (IsFirstBroken-cases stored bad y other theirs) [
            | inl there ↦ IsBroken-one stored bad at other here there
            | inr later ↦ absurd (not_good later.0)
          ]
          )
      | inr behind ↦ absurd (not_good behind.0)
    ]
IsFirstBroken-tails stored (one ∷ fields) bad x y at other not_good mine theirs =
    elim (IsFirstBroken-cases stored one (fields ++ bad ∷ x) at mine) [
      | inl here ↦ (
          elim (IsFirstBroken-cases stored one (fields ++ bad ∷ y) other theirs) [
            | inl there ↦ IsBroken-one stored one at other here there
            | inr later ↦ absurd (IsGood-not_broken stored one at later.0 here)
          ]
          )
      | inr behind ↦ (
          elim (IsFirstBroken-cases stored one (fields ++ bad ∷ y) other theirs) [
            | inl there ↦ absurd (IsGood-not_broken stored one other behind.0 there)
            | inr later ↦ IsFirstBroken-tails stored fields bad x y at other not_good behind.1 later.1
          ]
          )
    ]

-- What is no tuple is named by one offset.
pub IsBadTuple-one : (rules : Rules) (pages : ℕ) (stored : List ℕ) (at other : ℕ) → IsBadTuple rules pages stored at → IsBadTuple rules pages stored other
    → at ≡ other
IsBadTuple-one rules pages stored at other mine theirs =
    elim (cases_lt greatest_size (told_size stored)) [
      | inl more ↦ IsFirstBroken-tails stored (ruled_key_fields rules.key (told_key stored))
          (record { at = fields_at stored; bytes = 4; rule = Number w32 (λ n. nat_le n greatest_size) }) _ _ at other
          (λ good. omega (arith, more, leb-true (told_size stored) greatest_size good.kept)) mine.first theirs.first
      | inr fits ↦ (
          let count : theirs.extents ≡ mine.extents = count-same (told_size stored) _ _ (theirs.counted fits) (mine.counted fits) in
          IsFirstBroken-one stored (tuple_fields rules pages stored mine.extents) at other mine.first (rw count at theirs.first)
          )
    ]
