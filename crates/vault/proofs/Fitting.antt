-- The entries of a group's committing members have places that fit.
use Rattle.std.proofs.Common.{◌≡◌, ℕ, suc, ◌+◌, Bool, true, false, cond, List, [], ◌∷◌, ◌++◌, length, map, Option, Some, Ok, Err, inl, refl, sym, ◌∙◌, ap, subst, arith, append_assoc}
use Rattle.std.specs.Prelude.{slice_get, zip, option_map}
use Rattle.std.specs.List.{AllZip, cons_option, flat_map}
use Rattle.std.specs.FinMap.{entries, entries_sorted, get-entries}
use Rattle.frame_codec.specs.Values.{model_entries, model_write}
use Rattle.frame_codec.specs.declared.entry.Entry.{Entry}
use Rattle.frame_codec.specs.declared.entry.Write.{Write}
use Rattle.frame_codec.specs.declared.entry.Write.TheVariants as write
use Rattle.group_plan.specs.Plans.{DoesWrite, IsEntryOf, IsWritten, committed}
use Rattle.store_model.specs.Fits.{AreFitted, IsNeedOf, IsPlacedAt}
use Rattle.store_model.specs.Frame as model
use Rattle.store_model.specs.Group.{commit_by, does_touch, member_of, members_from, tally_after}
use Rattle.store_model.specs.Judgement.{Judgement, Ledger, Tally, judge}
use Rattle.store_model.specs.Placing.{Holding, Need, Nothing, Placed, Whole, kept_heads, new_blocks, new_place, place_of_need}
use Rattle.store_model.specs.Space.{Block}
use Rattle.store_model.proofs.SortedLaws.{find-at}
use Rattle.txn.specs.Requests.{asked_of, need_of}
use Rattle.txn.specs.Txns.{is_append}
use Rattle.txn.specs.declared.change.Change.{Change}
use Rattle.txn.specs.declared.change.Change.TheVariants as change
use Rattle.txn.specs.declared.request.Request.{Request}
use Rattle.vault.specs.Pours.{AreWhole}
use Rattle.vault.proofs.Placings.{IsPlaced, all-placed}
use Rattle.vault.proofs.Walks.{judged-Ok}

-- what is written for a content that is put stands at its place, which is one of its own,
put-written : (key content : List ℕ) (number : ℕ) (need : Need) (old : Option Holding) (heads : List ℕ) (written : Write) → need ≡ Whole (length content)
    → DoesWrite key (change.Put content) number (place_of_need need (kept_heads need old ++ heads)) written
    → IsNeedOf (model_write written) (key, need)
    × IsPlacedAt (record { key = key; need = need; old = old; heads = heads }) (model_write written)
put-written key content number need old heads (write.Del at) is =
    subst (λ (n : Need). DoesWrite key (change.Put content) number (place_of_need n (kept_heads n old ++ heads)) (write.Del at)
    → IsNeedOf (model_write (write.Del at)) (key, n) × IsPlacedAt (record { key = key; need = n; old = old; heads = heads }) (model_write (write.Del at))) (sym is) (λ does. absurd does)
put-written key content number need old heads (write.Set at state) is =
    subst (λ (n : Need). DoesWrite key (change.Put content) number (place_of_need n (kept_heads n old ++ heads)) (write.Set at state)
    → IsNeedOf (model_write (write.Set at state)) (key, n) × IsPlacedAt (record { key = key; need = n; old = old; heads = heads }) (model_write (write.Set at state))) (sym is) (λ does.
    ((sym does.0, inl (ap Whole (sym does.2.2.size))), ap Some (sym does.2.1)))

-- and where a key goes nothing stands.
del-written : (key : List ℕ) (number : ℕ) (need : Need) (old : Option Holding) (heads : List ℕ) (written : Write) → need ≡ Nothing
    → DoesWrite key change.Del number (place_of_need need (kept_heads need old ++ heads)) written
    → IsNeedOf (model_write written) (key, need)
    × IsPlacedAt (record { key = key; need = need; old = old; heads = heads }) (model_write written)
del-written key number need old heads (write.Set at state) is =
    subst (λ (n : Need). DoesWrite key change.Del number (place_of_need n (kept_heads n old ++ heads)) (write.Set at state)
    → IsNeedOf (model_write (write.Set at state)) (key, n) × IsPlacedAt (record { key = key; need = n; old = old; heads = heads }) (model_write (write.Set at state))) (sym is) (λ does. absurd does)
del-written key number need old heads (write.Del at) is =
    subst (λ (n : Need). DoesWrite key change.Del number (place_of_need n (kept_heads n old ++ heads)) (write.Del at)
    → IsNeedOf (model_write (write.Del at)) (key, n) × IsPlacedAt (record { key = key; need = n; old = old; heads = heads }) (model_write (write.Del at))) (sym is) (λ does. ((sym does, refl), refl))

change-written : (held : List ℕ → Option Holding) (number : ℕ) (key : List ℕ) (one : Change) (placed : Placed) (written : Write) → is_append one ≡ false
    → IsPlaced held (key, need_of one) placed → DoesWrite key one number (new_place placed) written
    → IsNeedOf (model_write written) (key, need_of one) × IsPlacedAt placed (model_write written)
change-written held number key (change.Append extension) placed written whole is does = absurd (cc whole)
change-written held number key (change.Put content) placed written whole is does =
    let both = put-written key content number placed.need placed.old placed.heads written is.need does in
    (subst (λ (n : Need). IsNeedOf (model_write written) (key, n)) is.need both.0, placed-alike placed (model_write written) both.1) where
      placed-alike : (p : Placed) (w : model.Write) → IsPlacedAt (record { key = key; need = p.need; old = p.old; heads = p.heads }) w → IsPlacedAt p w
      placed-alike p (model.Set k state) at = at
      placed-alike p (model.Del k) at = at
change-written held number key change.Del placed written whole is does =
    let both = del-written key number placed.need placed.old placed.heads written is.need does in
    (subst (λ (n : Need). IsNeedOf (model_write written) (key, n)) is.need both.0, placed-alike placed (model_write written) both.1) where
      placed-alike : (p : Placed) (w : model.Write) → IsPlacedAt (record { key = key; need = p.need; old = p.old; heads = p.heads }) w → IsPlacedAt p w
      placed-alike p (model.Set k state) at = at
      placed-alike p (model.Del k) at = at

-- So it is of all that a request's entry writes.
changes-written : (held : List ℕ → Option Holding) (number : ℕ) (es : List (List ℕ × Change)) (placed : List Placed) (writes : List Write)
    → ((j : ℕ) (one : List ℕ × Change) → slice_get es j ≡ Some one → is_append one.1 ≡ false)
    → AllZip (IsPlaced held) (map {B = List ℕ × Need} (λ one. (one.0, need_of one.1)) es) placed → AllZip (IsWritten number) (zip es placed) writes
    → AllZip IsNeedOf (map model_write writes) (map (λ one. (one.0, need_of one.1)) es) × AllZip IsPlacedAt placed (map model_write writes)
changes-written held number [] [] [] whole all written = (tt, tt)
changes-written held number [] [] (w ∷ writes) whole all written = absurd written
changes-written held number [] (p ∷ placed) writes whole all written = absurd all
changes-written held number (e ∷ es) [] writes whole all written = absurd all
changes-written held number (e ∷ es) (p ∷ placed) [] whole all written = absurd written
changes-written held number (e ∷ es) (p ∷ placed) (w ∷ writes) whole all written =
    let first = change-written held number e.0 e.1 p w (whole 0 e refl) all.0 written.0 in
    let rest = changes-written held number es placed writes (λ j one is. whole (suc j) one is) all.1 written.1 in
    ((first.0, rest.0), (first.1, rest.1))

-- The entries of the committing members behind a tally have places that fit beside what was taken and what is owned.
pub AreFitted-members : (ledger : Ledger) (tally : Tally) (queue : List Request) (es : List Entry) → AreWhole queue
    → AllZip IsEntryOf (committed queue (members_from ledger tally (map asked_of queue))) es
    → AreFitted ledger.pages ledger.held (tally.taken ++ ledger.owned) (model_entries es)
AreFitted-members ledger tally [] [] whole all = tt
AreFitted-members ledger tally [] (e ∷ es) whole all = absurd all
AreFitted-members ledger tally (q ∷ queue) es whole all =
    let behind : AreWhole queue = λ k d less. whole (suc k) d (omega (arith, less)) in
    (elim (does_touch (asked_of q) tally.changed) as (λ (b : Bool). AllZip IsEntryOf (committed (q ∷ queue)
    (cond b [] (member_of ledger tally (asked_of q) ∷ members_from ledger (tally_after tally (judge ledger tally (asked_of q))) (map asked_of queue)))) es
    → AreFitted ledger.pages ledger.held (tally.taken ++ ledger.owned) (model_entries es)) [
      | true ↦ λ none. none-fit es none
      | false ↦ λ some.
          (elim (judge ledger tally (asked_of q)) as (λ (j : Judgement). judge ledger tally (asked_of q) ≡ j
          → AllZip IsEntryOf (cons_option (option_map (λ commit. (q, commit)) (commit_by (asked_of q) (tally.last + 1) j)) (committed queue (members_from ledger (tally_after tally j) (map asked_of queue)))) es
          → AreFitted ledger.pages ledger.held (tally.taken ++ ledger.owned) (model_entries es)) [
            | Ok placed ↦ λ is zipped. one-fits es placed is zipped (λ more rest. AreFitted-members ledger (tally_after tally (Ok placed)) queue more behind rest)
            | Err why ↦ λ is zipped. AreFitted-members ledger tally queue es behind zipped
          ] refl some)
    ]) all where
      none-fit : (es : List Entry) → AllZip IsEntryOf [] es → AreFitted ledger.pages ledger.held (tally.taken ++ ledger.owned) (model_entries es)
      none-fit [] none = tt
      none-fit (e ∷ es) none = absurd none

      one-fits : (es : List Entry) (placed : List Placed) → judge ledger tally (asked_of q) ≡ Ok placed
          → AllZip IsEntryOf ((q, record { session = (asked_of q).session; nth = (asked_of q).nth; number = tally.last + 1; placed = placed })
          ∷ committed queue (members_from ledger (tally_after tally (Ok placed)) (map asked_of queue))) es
          → ((more : List Entry) → AllZip IsEntryOf (committed queue (members_from ledger (tally_after tally (Ok placed)) (map asked_of queue))) more
          → AreFitted ledger.pages ledger.held ((flat_map new_blocks placed ++ tally.taken) ++ ledger.owned) (model_entries more))
          → AreFitted ledger.pages ledger.held (tally.taken ++ ledger.owned) (model_entries es)
      one-fits [] placed is zipped others = absurd zipped
      one-fits (e ∷ es) placed is zipped others =
          let found = judged-Ok ledger tally (asked_of q) placed is in
          let written = changes-written ledger.held (tally.last + 1) (entries q.writes) placed e.writes
          (λ j other here. whole 0 q (omega arith) other.0 other.1 (get-entries q.writes other.0 ∙ find-at (entries q.writes) j other.0 other (entries_sorted q.writes) here refl))
          (all-placed ledger.pages ledger.held (asked_of q).needs (tally.taken ++ ledger.owned) placed found.found) zipped.0.writes in
          let rest = others es zipped.1 in (
            flat_map new_blocks placed,
            record { needs = (asked_of q).needs; are = written.0; placed = placed; fit = found.found; places = written.1; taken_is = refl },
            subst (λ (owned : List Block). AreFitted ledger.pages ledger.held owned (model_entries es)) (append_assoc (flat_map new_blocks placed) tally.taken ledger.owned) rest,
          )
