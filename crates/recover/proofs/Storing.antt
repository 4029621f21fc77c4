-- States that are stored, where the writes of entries have changed them.
use Rattle.std.proofs.Common.{◌≡◌, ℕ, suc, ◌≤◌, Bool, true, false, cond, List, [], ◌∷◌, map, Option, Some, None, refl, sym, subst, arith}
use Rattle.std.specs.FinMap.{FinMap, get, get-insert, get-remove}
use Rattle.std.specs.List.{All}
use Rattle.std.specs.Ordering.{eq_by_cmp}
use Rattle.frame_codec.specs.Values.{model_write}
use Rattle.frame_codec.specs.declared.entry.Write.{Write}
use Rattle.frame_codec.specs.declared.entry.Write.TheVariants as write
use Rattle.relation.specs.Changes.{with_write, with_writes}
use Rattle.store_model.specs.Frame.{IsWrite}
use Rattle.store_model.specs.Key.{key_order}
use Rattle.store_model.specs.State.{State}
use Rattle.store_model.specs.Tuple.{IsTuple}
use Rattle.store_model.proofs.RemovalLaws.{tied}
use Rattle.store_model.proofs.SortedLaws.{keys_total}
use Rattle.recover.specs.Frames.{AreStored}

-- what stands under a key is stored
abbrev IsStored : ℕ → ℕ → List ℕ → Option State → Type 0
IsStored pages last key found = (state : State) → found ≡ Some state → IsTuple pages key state × (state.born ≤ last)

-- one write
stored-write : (pages last number : ℕ) (states : FinMap key_order State) (one : Write) → number ≤ last → IsWrite pages number (model_write one) → AreStored pages last states
    → AreStored pages last (with_write states one)
stored-write pages last number states (write.Set key state) below is stored q =
    subst (IsStored pages last q) (sym (get-insert keys_total states key state.value q))
    (elim (eq_by_cmp key_order q key) as (λ (b : Bool). (eq_by_cmp key_order q key ≡ b) → IsStored pages last q (cond b (Some state.value) (get states q))) [
      | true ↦ (λ same other there.
          let here : q ≡ key = tied q key same in
          let state_is : state.value ≡ other = cc in
          subst (λ (k : List ℕ). IsTuple pages k other × (other.born ≤ last)) (sym here)
          (subst (λ (s : State). IsTuple pages key s × (s.born ≤ last)) state_is (is.0, omega (arith, is.1, below))))
      | false ↦ (λ same. stored q)
    ] refl)
stored-write pages last number states (write.Del key) below is stored q =
    subst (IsStored pages last q) (sym (get-remove keys_total states key q))
    (elim (eq_by_cmp key_order q key) as (λ (b : Bool). IsStored pages last q (cond b None (get states q))) [
      | true ↦ (λ other there. absurd (cc there))
      | false ↦ stored q
    ])

-- all of an entry
pub stored-writes : (pages last number : ℕ) (states : FinMap key_order State) (writes : List Write) → number ≤ last → All (IsWrite pages number) (map model_write writes)
    → AreStored pages last states → AreStored pages last (with_writes states writes)
stored-writes pages last number states [] below all stored = stored
stored-writes pages last number states (w ∷ writes) below all stored =
    stored-writes pages last number (with_write states w) writes below (λ k d less. all (suc k) d (omega (arith, less)))
    (stored-write pages last number states w below (all 0 (model_write w) (omega arith)) stored)
