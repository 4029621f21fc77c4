-- A field is good or broken, and of some fields all are good or one is the first that is broken.
use Rattle.std.proofs.Common.{◌≡◌, ℕ, ◌+◌, ◌⊎◌, false, inl, inr, List, [], ◌∷◌, length, refl}
use Rattle.std.proofs.lemmas.Bool.{cases_Bool, cases_lt}
use Rattle.store_model.specs.Field.{AreGood, Bytes, Field, IsBroken, IsFirstBroken, IsGood, IsNamed, KeyText, Number, Rule, field_bytes, keeps}
use Rattle.store_model.proofs.FieldLaws.{IsBroken-short, IsFirstBroken-here, IsFirstBroken-later}
use Rattle.store_model.proofs.KeyPlaceLaws.{IsBadAt-some}

-- bytes that break a rule are named somewhere
named-some : (rule : Rule) (bytes : List ℕ) → keeps rule bytes ≡ false → (place : ℕ) × IsNamed rule bytes place
named-some KeyText bytes broken = IsBadAt-some bytes broken
named-some (Number width test) bytes broken = (0, refl)
named-some (Bytes test) bytes broken = (0, refl)

-- A field is good, or broken at an offset.
pub IsGood-or_broken : (stored : List ℕ) (field : Field) → IsGood stored field ⊎ ((at : ℕ) × IsBroken stored field at)
IsGood-or_broken stored field =
    elim (cases_lt (length stored) (field.at + field.bytes)) [
      | inl short ↦ inr (field.at, IsBroken-short stored field field.at short refl)
      | inr whole ↦ elim (cases_Bool (keeps field.rule (field_bytes stored field))) [
        | inl kept ↦ inl (record { whole = whole; kept = kept })
        | inr broken ↦ (
            let named = named-some field.rule (field_bytes stored field) broken in
            inr (field.at + named.0, inr (record { whole = whole; broken = broken; place = named.0; named = named.1; at_is = refl })))
      ]
    ]

-- All fields are good, or one is the first that is broken.
pub AreGood-or_broken : (stored : List ℕ) (fields : List Field) → AreGood stored fields ⊎ ((at : ℕ) × IsFirstBroken stored fields at)
AreGood-or_broken stored [] = inl tt
AreGood-or_broken stored (field ∷ fields) =
    elim (IsGood-or_broken stored field) [
      | inr broken ↦ inr (broken.0, IsFirstBroken-here stored field fields broken.0 broken.1)
      | inl good ↦ elim (AreGood-or_broken stored fields) [
        | inl rest ↦ inl (good, rest)
        | inr first ↦ inr (first.0, IsFirstBroken-later stored field fields first.0 good first.1)
      ]
    ]
