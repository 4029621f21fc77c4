-- The first of a header's other fields that is broken.
use Rattle.std.proofs.Common.{◌≡◌, ℕ, List, [], ◌∷◌, subst}
use Rattle.store_model.specs.Field.{IsBroken, IsFirstBroken, IsGood, told_four}
use Rattle.store_model.specs.HalfFields.{other_fields}
use Rattle.store_model.proofs.FieldLaws.{IsFirstBroken-here, IsFirstBroken-later}
use Rattle.check_point.specs.Headers.{last_field, length_field}

-- the last number
pub last-broken : (page : List ℕ) (at : ℕ) → IsBroken page last_field at → IsFirstBroken page (other_fields page) at
last-broken page at broken = IsFirstBroken-here page last_field (length_field (told_four page 16) ∷ []) at broken

-- the length
pub length-broken : (page : List ℕ) (room at : ℕ) → room ≡ told_four page 16 → IsGood page last_field → IsBroken page (length_field room) at
    → IsFirstBroken page (other_fields page) at
length-broken page room at same good broken =
    IsFirstBroken-later page last_field (length_field (told_four page 16) ∷ []) at good
    (IsFirstBroken-here page (length_field (told_four page 16)) [] at (subst (λ (n : ℕ). IsBroken page (length_field n) at) same broken))
