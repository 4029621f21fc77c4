-- What the writes of an entry take of the blocks, and what they free.
use Rattle.std.proofs.Common.{◌≡◌, ℕ, false, List, [], ◌∷◌, ◌++◌, Option, Some, None, refl, sym, ◌∙◌, ap, subst, append-nil, append_assoc}
use Rattle.std.specs.Prelude.{option_map}
use Rattle.std.specs.List.{flat_map}
use Rattle.std.specs.List.Sorted.{IsPermutation}
use Rattle.std.specs.FinMap.{FinMap, get, insert, remove}
use Rattle.std.proofs.lemmas.List.Sorted.{IsPermutation-append_comm, IsPermutation-append_left, IsPermutation-append_right, IsPermutation-refl, IsPermutation-trans}
use Rattle.frame_codec.specs.declared.entry.Write.{Write}
use Rattle.frame_codec.specs.declared.entry.Write.TheVariants as write
use Rattle.group_plan.specs.Plans.{DoesWrite, holding_of, holdings_by}
use Rattle.relation.specs.Parts.{owned_by}
use Rattle.store_model.specs.Holds.{place_of}
use Rattle.store_model.specs.Key.{key_order}
use Rattle.store_model.specs.Placing.{Holding, Need, Placed, freed_blocks, left_blocks, new_blocks, new_place}
use Rattle.store_model.specs.Space.{Block, blocks_of}
use Rattle.store_model.specs.State.{State}
use Rattle.store_model.specs.Store.{Placement}
use Rattle.store_model.proofs.EntryLaws.{blocks-insert, old_part}
use Rattle.store_model.proofs.RemovalLaws.{blocks-remove}
use Rattle.txn.specs.Requests.{need_of}
use Rattle.txn.specs.Txns.{is_append}
use Rattle.txn.specs.declared.change.Change.{Change}
use Rattle.txn.specs.declared.change.Change.TheVariants as change
use Rattle.vault.specs.Pours.{pour_blocks, pours_by}
use Rattle.relation.specs.Changes.{with_write, with_writes}
use Rattle.vault.proofs.Placings.{placed-blocks}
use Rattle.vault.proofs.Writings.{AreReady, AreReady-next}

-- the blocks of a state
abbrev pub state_blocks : State → List Block
state_blocks state = blocks_of (place_of state)

module _ {X : Type 0} where
  -- two lists at the front change places
  swapped-front : (xs ys zs : List X) → IsPermutation (xs ++ (ys ++ zs)) (ys ++ (xs ++ zs))
  swapped-front xs ys zs =
      subst (λ l. IsPermutation l (ys ++ (xs ++ zs))) (append_assoc xs ys zs)
      (subst (λ l. IsPermutation ((xs ++ ys) ++ zs) l) (append_assoc ys xs zs)
      (IsPermutation-append_left zs (xs ++ ys) (ys ++ xs) (IsPermutation-append_comm xs ys)))

  -- two moves, one after the other, are one move of what both free and take
  pub moves-both : (freed freed_then taken taken_then first next last : List X) → IsPermutation (freed ++ next) (taken ++ first) → IsPermutation (freed_then ++ last) (taken_then ++ next)
      → IsPermutation ((freed ++ freed_then) ++ last) ((taken ++ taken_then) ++ first)
  moves-both freed freed_then taken taken_then first next last one other =
      subst (λ (l : List X). IsPermutation l ((taken ++ taken_then) ++ first)) (sym (append_assoc freed freed_then last))
      (subst (λ (l : List X). IsPermutation (freed ++ (freed_then ++ last)) l) (sym (append_assoc taken taken_then first))
      (IsPermutation-trans (freed ++ (freed_then ++ last)) (freed ++ (taken_then ++ next)) (taken ++ (taken_then ++ first))
      (IsPermutation-append_right freed (freed_then ++ last) (taken_then ++ next) other)
      (IsPermutation-trans (freed ++ (taken_then ++ next)) (taken_then ++ (freed ++ next)) (taken ++ (taken_then ++ first))
      (swapped-front freed taken_then next)
      (IsPermutation-trans (taken_then ++ (freed ++ next)) (taken_then ++ (taken ++ first)) (taken ++ (taken_then ++ first))
      (IsPermutation-append_right taken_then (freed ++ next) (taken ++ first) one)
      (swapped-front taken_then taken first)))))

-- a state that is set takes its blocks, and frees those of its key's state before
move-set : (states : FinMap key_order State) (key at : List ℕ) (state : State) → at ≡ key
    → IsPermutation (old_part state_blocks (get states key) ++ owned_by (insert states at state)) ((state_blocks state ++ []) ++ owned_by states)
move-set states key at state key_is =
    subst (λ (bs : List Block). IsPermutation (old_part state_blocks (get states key) ++ owned_by (insert states at state)) (bs ++ owned_by states)) (sym (append-nil (state_blocks state)))
    (subst (λ (k : List ℕ). IsPermutation (old_part state_blocks (get states k) ++ owned_by (insert states at state)) (state_blocks state ++ owned_by states)) key_is
    (blocks-insert state_blocks states at state))

-- a key that is removed frees those of its state
move-del : (states : FinMap key_order State) (key at : List ℕ) → at ≡ key → IsPermutation (old_part state_blocks (get states key) ++ owned_by (remove states at)) (owned_by states)
move-del states key at key_is =
    subst (λ (k : List ℕ). IsPermutation (old_part state_blocks (get states k) ++ owned_by (remove states at)) (owned_by states)) key_is (blocks-remove state_blocks states at)

-- a write does either
move-write : (states : FinMap key_order State) (key : List ℕ) (one : Change) (number : ℕ) (place : Option Placement) (written : Write)
    → is_append one ≡ false → DoesWrite key one number place written
    → IsPermutation (old_part state_blocks (get states key) ++ owned_by (with_write states written)) (pour_blocks (pours_by one written) ++ owned_by states)
move-write states key (change.Put content) number (Some place) (write.Set at state) whole does = move-set states key at state.value does.0
move-write states key (change.Put content) number (Some place) (write.Del at) whole does = absurd does
move-write states key (change.Put content) number None (write.Set at state) whole does = absurd does
move-write states key (change.Put content) number None (write.Del at) whole does = move-del states key at does
move-write states key (change.Append extension) number place written whole does = absurd (cc whole)
move-write states key change.Del number (Some place) (write.Set at state) whole does = absurd does.2
move-write states key change.Del number (Some place) (write.Del at) whole does = absurd does
move-write states key change.Del number None (write.Set at state) whole does = absurd does
move-write states key change.Del number None (write.Del at) whole does = move-del states key at does

-- a change frees what its key's state has
left-old : (one : Change) (state : Option State) → is_append one ≡ false → left_blocks (need_of one) (option_map holding_of state) ≡ old_part state_blocks state
left-old (change.Put content) None whole = refl
left-old (change.Put content) (Some state) whole = refl
left-old (change.Append extension) state whole = absurd (cc whole)
left-old change.Del None whole = refl
left-old change.Del (Some state) whole = refl

-- a change of an entry takes its blocks, and frees those that it leaves
move-first : (before now : FinMap key_order State) (number : ℕ) (e : List ℕ × Change) (es : List (List ℕ × Change)) (p : Placed) (placed : List Placed) (w : Write) (writes : List Write)
    → AreReady before now number (e ∷ es) (p ∷ placed) (w ∷ writes) → IsPermutation (freed_blocks p ++ owned_by (with_write now w)) (new_blocks p ++ owned_by now)
move-first before now number e es p placed w writes ready =
    let whole : is_append e.1 ≡ false = ready.whole 0 e refl in
    let taken : pour_blocks (pours_by e.1 w) ≡ new_blocks p = placed-blocks number e.0 e.1 p w whole ready.placed_are.0.need ready.placed_are.0.count ready.written.0 in
    let freed : freed_blocks p ≡ old_part state_blocks (get now e.0) =
    ap (λ (o : Option Holding). left_blocks p.need o) ready.placed_are.0.old
    ∙ ap (λ (n : Need). left_blocks n (holdings_by before e.0)) ready.placed_are.0.need
    ∙ left-old e.1 (get before e.0) whole ∙ ap (old_part state_blocks) (sym (ready.same 0 e refl)) in
    subst (λ (bs : List Block). IsPermutation (bs ++ owned_by (with_write now w)) (new_blocks p ++ owned_by now)) (sym freed)
    (subst (λ (bs : List Block). IsPermutation (old_part state_blocks (get now e.0) ++ owned_by (with_write now w)) (bs ++ owned_by now)) taken
    (move-write now e.0 e.1 number (new_place p) w whole ready.written.0))

-- the changes of an entry do
pub move-writes : (before now : FinMap key_order State) (number : ℕ) (es : List (List ℕ × Change)) (placed : List Placed) (writes : List Write) → AreReady before now number es placed writes
    → IsPermutation (flat_map freed_blocks placed ++ owned_by (with_writes now writes)) (flat_map new_blocks placed ++ owned_by now)
move-writes before now number [] [] [] ready = IsPermutation-refl (owned_by now)
move-writes before now number [] [] (w ∷ writes) ready = absurd ready.written
move-writes before now number [] (p ∷ placed) writes ready = absurd ready.placed_are
move-writes before now number (e ∷ es) [] writes ready = absurd ready.placed_are
move-writes before now number (e ∷ es) (p ∷ placed) [] ready = absurd ready.written
move-writes before now number (e ∷ es) (p ∷ placed) (w ∷ writes) ready =
    moves-both (freed_blocks p) (flat_map freed_blocks placed) (new_blocks p) (flat_map new_blocks placed) (owned_by now) (owned_by (with_write now w))
    (owned_by (with_writes (with_write now w) writes))
    (move-first before now number e es p placed w writes ready)
    (move-writes before (with_write now w) number es placed writes (AreReady-next before now number e es p placed w writes ready))
