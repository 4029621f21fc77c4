-- By how many bytes the writes of an entry make the states grow.
use Rattle.std.proofs.Common.{◌≡◌, ℕ, ◌+◌, ◌≤◌, false, List, [], ◌∷◌, length, Option, Some, None, refl, sym, ◌∙◌, ap, arith}
use Rattle.std.specs.Prelude.{option_map, IfSome}
use Rattle.std.specs.List.{sum_by}
use Rattle.std.specs.FinMap.{FinMap, get, insert, remove}
use Rattle.std.proofs.lemmas.List.Sums.{sum_by-cons}
use Rattle.frame_codec.specs.declared.entry.Write.{Write}
use Rattle.frame_codec.specs.declared.entry.Write.TheVariants as write
use Rattle.group_plan.specs.Plans.{DoesWrite, IsMadeBy, holding_of, holdings_by}
use Rattle.relation.specs.Parts.{encoded_by}
use Rattle.store_model.specs.Holds.{place_of}
use Rattle.store_model.specs.Judgement.{growth_of}
use Rattle.store_model.specs.Key.{key_order}
use Rattle.store_model.specs.Placing.{Holding, Placed, bytes_after, bytes_at, bytes_before, new_place, place_held}
use Rattle.store_model.specs.State.{IsState, State}
use Rattle.store_model.specs.Store.{Placement}
use Rattle.store_model.specs.Tuple.{spelling}
use Rattle.store_model.proofs.EntryLaws.{part_of, sum-insert}
use Rattle.store_model.proofs.RemovalLaws.{sum-remove}
use Rattle.store_model.proofs.StoredLaws.{length-stored}
use Rattle.txn.specs.Txns.{is_append}
use Rattle.txn.specs.declared.change.Change.{Change}
use Rattle.txn.specs.declared.change.Change.TheVariants as change
use Rattle.relation.specs.Changes.{with_write, with_writes}
use Rattle.vault.proofs.Sparing.{AreStates-at}
use Rattle.vault.proofs.Writings.{AreReady, AreReady-next}

-- how many bytes a state takes where it is stored
abbrev pub state_bytes : List ℕ → State → ℕ
state_bytes key state = length (spelling key state)

-- a state takes what is counted for it
counted : (key : List ℕ) (state : Option State) → IfSome state IsState → bytes_at key (place_held (option_map holding_of state)) ≡ part_of state_bytes key state
counted key None known = refl
counted key (Some state) known = sym (length-stored key state known)

-- a state that is set adds what it takes, and takes away what its key's state before did
grow-set : (states : FinMap key_order State) (key at : List ℕ) (state : State) (place : Placement) → at ≡ key → IsState state → place_of state ≡ place
    → encoded_by (insert states at state) + part_of state_bytes key (get states key) ≡ encoded_by states + bytes_at key (Some place)
grow-set states key at state place key_is sound place_is =
    omega (
      arith,
      sum-insert state_bytes states at state,
      length-stored at state sound,
      ap (λ (p : Placement). bytes_at at (Some p)) place_is,
      ap (λ (k : List ℕ). bytes_at k (Some place)) key_is,
      ap (λ (k : List ℕ). part_of state_bytes k (get states k)) key_is,
    )

-- a key that is removed takes away what its state before did
grow-del : (states : FinMap key_order State) (key at : List ℕ) → at ≡ key → encoded_by (remove states at) + part_of state_bytes key (get states key) ≡ encoded_by states + bytes_at key None
grow-del states key at key_is = omega (arith, sum-remove state_bytes states at, ap (λ (k : List ℕ). part_of state_bytes k (get states k)) key_is)

-- a write does either
grow-write : (states : FinMap key_order State) (key : List ℕ) (one : Change) (number : ℕ) (place : Option Placement) (written : Write)
    → is_append one ≡ false → DoesWrite key one number place written
    → encoded_by (with_write states written) + part_of state_bytes key (get states key) ≡ encoded_by states + bytes_at key place
grow-write states key (change.Put content) number (Some place) (write.Set at state) whole does =
    let made : IsMadeBy (change.Put content) number place state.value = does.2 in
    grow-set states key at state.value place does.0 does.1 made.1
grow-write states key (change.Put content) number (Some place) (write.Del at) whole does = absurd does
grow-write states key (change.Put content) number None (write.Set at state) whole does = absurd does
grow-write states key (change.Put content) number None (write.Del at) whole does = grow-del states key at does
grow-write states key (change.Append extension) number place written whole does = absurd (cc whole)
grow-write states key change.Del number (Some place) (write.Set at state) whole does = absurd does.2
grow-write states key change.Del number (Some place) (write.Del at) whole does = absurd does
grow-write states key change.Del number None (write.Set at state) whole does = absurd does
grow-write states key change.Del number None (write.Del at) whole does = grow-del states key at does

-- what was there before a change is counted for it
grow-before : (before now : FinMap key_order State) (number : ℕ) (e : List ℕ × Change) (es : List (List ℕ × Change)) (p : Placed) (placed : List Placed) (w : Write) (writes : List Write)
    → AreReady before now number (e ∷ es) (p ∷ placed) (w ∷ writes) → bytes_before p ≡ part_of state_bytes e.0 (get now e.0)
grow-before before now number e es p placed w writes ready =
    ap (λ (o : Option Holding). bytes_at p.key (place_held o)) ready.placed_are.0.old
    ∙ ap (λ (k : List ℕ). bytes_at k (place_held (holdings_by before e.0))) ready.placed_are.0.key
    ∙ counted e.0 (get before e.0) (AreStates-at before e.0 ready.known) ∙ ap (part_of state_bytes e.0) (sym (ready.same 0 e refl))

-- the writes of an entry make the states grow by what its changes add, and shrink by what was there before them
pub grow-writes : (before now : FinMap key_order State) (number : ℕ) (es : List (List ℕ × Change)) (placed : List Placed) (writes : List Write) → AreReady before now number es placed writes
    → encoded_by (with_writes now writes) + sum_by bytes_before placed ≡ encoded_by now + sum_by bytes_after placed
grow-writes before now number [] [] [] ready = refl
grow-writes before now number [] [] (w ∷ writes) ready = absurd ready.written
grow-writes before now number [] (p ∷ placed) writes ready = absurd ready.placed_are
grow-writes before now number (e ∷ es) [] writes ready = absurd ready.placed_are
grow-writes before now number (e ∷ es) (p ∷ placed) [] ready = absurd ready.written
grow-writes before now number (e ∷ es) (p ∷ placed) (w ∷ writes) ready =
    omega (
      arith,
      grow-writes before (with_write now w) number es placed writes (AreReady-next before now number e es p placed w writes ready),
      grow-write now e.0 e.1 number (new_place p) w (ready.whole 0 e refl) ready.written.0,
      grow-before before now number e es p placed w writes ready,
      ap (λ (k : List ℕ). bytes_at k (new_place p)) ready.placed_are.0.key,
      sum_by-cons bytes_before p placed,
      sum_by-cons bytes_after p placed,
    )

-- they grow by no more than the growth of the changes
pub grow-most : (before now : FinMap key_order State) (number : ℕ) (es : List (List ℕ × Change)) (placed : List Placed) (writes : List Write) → AreReady before now number es placed writes
    → encoded_by (with_writes now writes) ≤ encoded_by now + growth_of placed
grow-most before now number es placed writes ready = omega (arith, grow-writes before now number es placed writes ready)
