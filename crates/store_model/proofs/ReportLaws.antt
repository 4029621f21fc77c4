-- A whole store has no damages.
use Rattle.std.proofs.Common.{◌≡◌, ℕ, suc, List, [], ◌∷◌, inl, inr, refl, sym, ◌∙◌, Some}
use Rattle.std.specs.Prelude.{slice_get}
use Rattle.std.specs.FinMap.{entries, entries_sorted, get-entries}
use Rattle.store_model.specs.Disk.{Image}
use Rattle.store_model.specs.Layout.{data_page}
use Rattle.store_model.specs.Reading.{Found, IsWhole}
use Rattle.store_model.specs.Report.{AreDamages, Damage, HasDamages}
use Rattle.store_model.specs.State.{State}
use Rattle.store_model.specs.Verify.{FailsFirst, Verifies, computed}
use Rattle.store_model.proofs.SortedLaws.{find-at}

-- where a state verifies no link fails
verifies-no_fail : (image : Image) (first : ℕ) (state : State) (link : ℕ) (want got : List ℕ) → Verifies image first state
    → FailsFirst (computed image first state) state link want got → ⊥
verifies-no_fail image first state link want got verifies fails = fails.differ (fails.want_is ∙ sym (fails.got_is ∙ verifies link fails.exists))

-- states that verify have no damages
AreDamages-none : (image : Image) (first : ℕ) (es : List (List ℕ × State)) (damages : List Damage)
    → ((i : ℕ) (one : List ℕ × State) → slice_get es i ≡ Some one → Verifies image first one.1) → AreDamages image first es damages → damages ≡ []
AreDamages-none image first [] damages each are = are
AreDamages-none image first (entry ∷ es) damages each (inl whole) = AreDamages-none image first es damages (λ i one there. each (suc i) one there) whole.1
AreDamages-none image first (entry ∷ es) damages each (inr damaged) =
    let one : Damage = damaged.0 in
    absurd (verifies-no_fail image first entry.1 one.link one.want one.got (each 0 entry refl) damaged.1.3)

-- a whole store has none
pub HasDamages-whole : (pages : ℕ) (image : Image) (found : Found) (damages : List Damage) → IsWhole pages image found → HasDamages image found damages → damages ≡ []
HasDamages-whole pages image found damages whole has =
    AreDamages-none image (data_page found.layout) (entries found.states) damages
    (λ i one there. whole.verifies one.0 one.1
    (get-entries found.states one.0 ∙ find-at (entries found.states) i one.0 one (entries_sorted found.states) there refl))
    has
