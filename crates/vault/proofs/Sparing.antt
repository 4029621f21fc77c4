-- States keep their rules as the writes of an entry are made.
use Rattle.std.proofs.Common.{◌≡◌, ℕ, Bool, true, false, cond, List, [], ◌∷◌, Option, Some, None, refl, sym, ◌∙◌, ap, subst}
use Rattle.std.specs.Prelude.{IfSome}
use Rattle.std.specs.List.{AllZip}
use Rattle.std.specs.Ordering.{eq_by_cmp}
use Rattle.std.specs.FinMap.{FinMap, empty, get, get-empty, get-insert, get-remove, insert, remove}
use Rattle.frame_codec.specs.declared.entry.Write.{Write}
use Rattle.frame_codec.specs.declared.entry.Write.TheVariants as write
use Rattle.group_plan.specs.Plans.{DoesWrite, IsWritten}
use Rattle.store_model.specs.Key.{key_order}
use Rattle.store_model.specs.Placing.{Placed, new_place}
use Rattle.store_model.specs.State.{IsState, State}
use Rattle.store_model.specs.Store.{Placement}
use Rattle.store_model.proofs.SortedLaws.{keys_total}
use Rattle.txn.specs.declared.change.Change.{Change}
use Rattle.vault.specs.Pours.{AreStates}
use Rattle.relation.specs.Changes.{with_write, with_writes}

-- where there are no states, each keeps its rules
pub AreStates-none : (states : FinMap key_order State) → states ≡ empty → AreStates states
AreStates-none states none key state there =
    let both : None ≡ Some state = sym (get-empty key_order key) ∙ ap (λ (m : FinMap key_order State). get m key) (sym none) ∙ there in
    absurd (cc both)

-- the state of a key keeps its rules, where it has one
pub AreStates-at : (states : FinMap key_order State) (key : List ℕ) → AreStates states → IfSome (get states key) IsState
AreStates-at states key all = go (get states key) refl where
  go : (found : Option State) → get states key ≡ found → IfSome found IsState
  go None is = tt
  go (Some state) is = all key state is

-- a state that keeps its rules is set
AreStates-set : (states : FinMap key_order State) (at : List ℕ) (state : State) → IsState state → AreStates states → AreStates (insert states at state)
AreStates-set states at state sound all key one there =
    elim (eq_by_cmp key_order key at) as (λ (b : Bool). cond b (Some state) (get states key) ≡ Some one → IsState one) [
      | true ↦ λ is. let same : state ≡ one = cc is in subst IsState same sound
      | false ↦ λ is. all key one is
    ] (sym (get-insert keys_total states at state key) ∙ there)

-- a key is taken out
AreStates-del : (states : FinMap key_order State) (at : List ℕ) → AreStates states → AreStates (remove states at)
AreStates-del states at all key one there =
    elim (eq_by_cmp key_order key at) as (λ (b : Bool). cond b None (get states key) ≡ Some one → IsState one) [
      | true ↦ λ is. absurd (cc is)
      | false ↦ λ is. all key one is
    ] (sym (get-remove keys_total states at key) ∙ there)

-- a write of a change does either
AreStates-write : (states : FinMap key_order State) (key : List ℕ) (one : Change) (number : ℕ) (place : Option Placement) (written : Write)
    → DoesWrite key one number place written → AreStates states → AreStates (with_write states written)
AreStates-write states key one number (Some place) (write.Set at state) does all = AreStates-set states at state.value does.1 all
AreStates-write states key one number (Some place) (write.Del at) does all = absurd does
AreStates-write states key one number None (write.Set at state) does all = absurd does
AreStates-write states key one number None (write.Del at) does all = AreStates-del states at all

-- the writes of an entry do
pub AreStates-writes : (states : FinMap key_order State) (number : ℕ) (ones : List ((List ℕ × Change) × Placed)) (writes : List Write)
    → AllZip (IsWritten number) ones writes → AreStates states → AreStates (with_writes states writes)
AreStates-writes states number [] [] written all = all
AreStates-writes states number [] (w ∷ writes) written all = absurd written
AreStates-writes states number (one ∷ ones) [] written all = absurd written
AreStates-writes states number (one ∷ ones) (w ∷ writes) written all =
    AreStates-writes (with_write states w) number ones writes written.1
    (AreStates-write states one.0.0 one.0.1 number (new_place one.1) w written.0 all)
