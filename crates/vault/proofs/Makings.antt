-- States and objects side by side, as entries are made.
use Rattle.std.proofs.Common.{◌≡◌, ℕ, suc, ◌+◌, Ok, Err, Bool, true, false, cond, List, [], ◌∷◌, length, map, Option, Some, None, refl, sym, ◌∙◌, ap, subst, arith}
use Rattle.std.proofs.lemmas.List.{length-map}
use Rattle.std.proofs.lemmas.Slice.Zip.{AllZip-long}
use Rattle.std.specs.Prelude.{fold, option_map, slice_get, zip}
use Rattle.std.specs.List.{AllZip, cons_option}
use Rattle.std.specs.Ordering.{eq_by_cmp}
use Rattle.std.specs.FinMap.{FinMap, entries, entries_sorted, get, get-entries, get-remove, insert, remove}
use Rattle.frame_codec.specs.declared.entry.Entry.{Entry}
use Rattle.frame_codec.specs.declared.entry.Write.{Write}
use Rattle.frame_codec.specs.declared.entry.Write.TheVariants as write
use Rattle.group_plan.specs.Plans.{DoesWrite, IsEntryOf, IsMadeBy, IsWritten, committed}
use Rattle.store_model.specs.Group.{Commit, commit_by, does_touch, member_of, members_from, tally_after}
use Rattle.store_model.specs.Judgement.{Judgement, Ledger, Tally, judge}
use Rattle.store_model.specs.Key.{key_order}
use Rattle.store_model.specs.Placing.{Holding, Need, Placed, new_place}
use Rattle.store_model.specs.Standing.{BothStand, SameObjects}
use Rattle.store_model.specs.State.{State}
use Rattle.store_model.specs.Store as model
use Rattle.store_model.specs.Store.{Object, Placement}
use Rattle.store_model.specs.Transaction.{with_change}
use Rattle.store_model.specs.Transaction as transaction
use Rattle.store_model.proofs.MapLaws.{entries-map_values}
use Rattle.store_model.proofs.SortedLaws.{find-at, keys_total}
use Rattle.txn.specs.Requests.{asked_of, model_change, need_of}
use Rattle.txn.specs.Txns.{NoAppends, is_append}
use Rattle.txn.specs.declared.change.Change.{Change}
use Rattle.txn.specs.declared.change.Change.TheVariants as change
use Rattle.txn.specs.declared.request.Request.{Request}
use Rattle.vault.specs.Pours.{made_by, made_one}
use Rattle.relation.specs.Changes.{with_entries, with_entry, with_write, with_writes}
use Rattle.vault.proofs.Objects.{SameObjects-set}
use Rattle.vault.proofs.Placings.{IsPlaced}
use Rattle.vault.proofs.Walks.{ArePlaced}

-- a key is taken out on both sides
SameObjects-gone : (states : FinMap key_order State) (objects : FinMap key_order Object) (key : List ℕ) → SameObjects states objects → SameObjects (remove states key) (remove objects key)
SameObjects-gone states objects key same q =
    rw (get-remove keys_total states key q, get-remove keys_total objects key q)
    (elim (eq_by_cmp key_order q key) as (λ b. BothStand (cond b None (get states q)) (cond b None (get objects q))) [
      | true ↦ tt
      | false ↦ same q
    ])

-- a write is made as its change is
same-write : (number : ℕ) (states : FinMap key_order State) (objects : FinMap key_order Object) (key : List ℕ) (one : Change) (place : Option Placement) (written : Write)
    → is_append one ≡ false → DoesWrite key one number place written → SameObjects states objects
    → SameObjects (with_write states written) (with_change number objects ((key, model_change one), place))
same-write number states objects key (change.Put content) (Some place) (write.Set at state) whole does same =
    let made : IsMadeBy (change.Put content) number place state.value = does.2 in
    SameObjects-set states (insert states at state.value) objects key state.value (record { content = content; number = number; place = place })
    (ap (λ (k : List ℕ). insert states k state.value) does.0)
    (record { sound = does.1; number = made.0; place = made.1; tells = made.2 }) same
same-write number states objects key (change.Put content) (Some place) (write.Del at) whole does same = absurd does
same-write number states objects key (change.Put content) None (write.Set at state) whole does same = absurd does
same-write number states objects key (change.Put content) None (write.Del at) whole does same =
    subst (λ (k : List ℕ). SameObjects (remove states k) (remove objects key)) (sym does) (SameObjects-gone states objects key same)
same-write number states objects key (change.Append extension) place written whole does same = absurd (cc whole)
same-write number states objects key change.Del (Some place) (write.Set at state) whole does same = absurd does.2
same-write number states objects key change.Del (Some place) (write.Del at) whole does same = absurd does
same-write number states objects key change.Del None (write.Set at state) whole does same = absurd does
same-write number states objects key change.Del None (write.Del at) whole does same =
    subst (λ (k : List ℕ). SameObjects (remove states k) (remove objects key)) (sym does) (SameObjects-gone states objects key same)

-- the writes of an entry are
same-writes : (number : ℕ) (states : FinMap key_order State) (objects : FinMap key_order Object) (es : List (List ℕ × Change)) (placed : List Placed) (writes : List Write)
    → ((j : ℕ) (one : List ℕ × Change) → slice_get es j ≡ Some one → is_append one.1 ≡ false) → length placed ≡ length es → AllZip (IsWritten number) (zip es placed) writes → SameObjects states objects
    → SameObjects (with_writes states writes)
    (fold (with_change number) objects (zip (map {B = List ℕ × transaction.Change} (λ e. (e.0, model_change e.1)) es) (map new_place placed)))
same-writes number states objects [] [] [] whole long all same = same
same-writes number states objects [] [] (w ∷ writes) whole long all same = absurd all
same-writes number states objects [] (p ∷ placed) writes whole long all same = absurd (omega (arith, long))
same-writes number states objects (e ∷ es) [] writes whole long all same = absurd (omega (arith, long))
same-writes number states objects (e ∷ es) (p ∷ placed) [] whole long all same = absurd all
same-writes number states objects (e ∷ es) (p ∷ placed) (w ∷ writes) whole long all same =
    same-writes number (with_write states w) (with_change number objects ((e.0, model_change e.1), new_place p)) es placed writes
    (λ j one is. whole (suc j) one is) (omega (arith, long)) all.1
    (same-write number states objects e.0 e.1 (new_place p) w (whole 0 e refl) all.0 same)

-- as many changes are placed as there are
pub long-placed : (held : List ℕ → Option Holding) (es : List (List ℕ × Change)) (placed : List Placed)
    → AllZip (IsPlaced held) (map {B = List ℕ × Need} (λ one. (one.0, need_of one.1)) es) placed → length placed ≡ length es
long-placed held es placed all =
    AllZip-long (IsPlaced held) (map {B = List ℕ × Need} (λ one. (one.0, need_of one.1)) es) placed all ∙ length-map es (λ (one : List ℕ × Change). (one.0, need_of one.1))

-- an entry is made as its request's transaction
same-entry : (held : List ℕ → Option Holding) (states : FinMap key_order State) (store : model.Store) (request : Request) (commit : Commit) (entry : Entry)
    → AllZip (IsPlaced held) (asked_of request).needs commit.placed → NoAppends request.writes → IsEntryOf (request, commit) entry → SameObjects states store.objects
    → SameObjects (with_entry states entry) (made_one store (request, commit)).objects
same-entry held states store request commit entry placed whole is same =
    subst (λ (changes : List (List ℕ × transaction.Change)). SameObjects (with_entry states entry) (fold (with_change commit.number) store.objects (zip changes (map new_place commit.placed))))
    (sym (entries-map_values model_change request.writes))
    (same-writes commit.number states store.objects (entries request.writes) commit.placed entry.writes
    (λ j one there. whole one.0 one.1 (get-entries request.writes one.0 ∙ find-at (entries request.writes) j one.0 one (entries_sorted request.writes) there refl))
    (long-placed held (entries request.writes) commit.placed placed) is.writes same)

-- entries are made as the committed transactions
pub same-made : (held : List ℕ → Option Holding) (states : FinMap key_order State) (store : model.Store) (ones : List (Request × Commit)) (es : List Entry) → ArePlaced held ones
    → AllZip IsEntryOf ones es → SameObjects states store.objects → SameObjects (with_entries states es) (made_by store ones).objects
same-made held states store [] [] placed all same = same
same-made held states store [] (e ∷ es) placed all same = absurd all
same-made held states store (one ∷ ones) [] placed all same = absurd all
same-made held states store (one ∷ ones) (e ∷ es) placed all same =
    same-made held (with_entry states e) (made_one store one) ones es placed.1 all.1 (same-entry held states store one.0 one.1 e placed.0.0 placed.0.1 all.0 same)

-- the numbers of commits go on from a last one
abbrev pub AreNumbered : ℕ → List (Request × Commit) → Type 0
AreNumbered last [] = Unit {0}
AreNumbered last (one ∷ ones) = (one.1.number ≡ last + 1) × AreNumbered (last + 1) ones

pub AreNumbered-members : (ledger : Ledger) (tally : Tally) (queue : List Request) → AreNumbered tally.last (committed queue (members_from ledger tally (map asked_of queue)))
AreNumbered-members ledger tally [] = tt
AreNumbered-members ledger tally (q ∷ queue) =
    elim (does_touch (asked_of q) tally.changed) as (λ (b : Bool). AreNumbered tally.last (committed (q ∷ queue)
    (cond b [] (member_of ledger tally (asked_of q) ∷ members_from ledger (tally_after tally (judge ledger tally (asked_of q))) (map asked_of queue))))) [
      | true ↦ tt
      | false ↦
          (elim (judge ledger tally (asked_of q)) as (λ (j : Judgement).
          AreNumbered tally.last (cons_option (option_map (λ commit. (q, commit)) (commit_by (asked_of q) (tally.last + 1) j)) (committed queue (members_from ledger (tally_after tally j) (map asked_of queue))))) [
            | Ok placed ↦ (refl, AreNumbered-members ledger (tally_after tally (Ok placed)) queue)
            | Err why ↦ AreNumbered-members ledger (tally_after tally (Err why)) queue
          ])
    ]

-- the store's last number after them
pub made-last : (store : model.Store) (ones : List (Request × Commit)) → AreNumbered store.last ones → (made_by store ones).last ≡ store.last + length ones
made-last store [] numbers = omega arith
made-last store (one ∷ ones) numbers =
    let rest = made-last (made_one store one) ones (subst (λ (n : ℕ). AreNumbered n ones) (sym numbers.0) numbers.1) in
    omega (arith, rest, numbers.0)
