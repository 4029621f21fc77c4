-- How many bytes the entries of committed requests take.
use Rattle.std.proofs.Common.{◌≡◌, ℕ, suc, false, List, [], ◌∷◌, ◌++◌, length, map, Option, Some, None, refl, sym, ◌∙◌, ap, arith, length-append}
use Rattle.std.proofs.lemmas.List.Sums.{sum_by-cons}
use Rattle.std.specs.Int.{w64, to_be_bytes}
use Rattle.std.specs.Prelude.{slice_get, zip}
use Rattle.std.specs.List.{AllZip, flat_map, sum_by}
use Rattle.std.specs.FinMap.{entries, entries_sorted, get-entries}
use Rattle.frame_codec.specs.Values.{model_entries, model_entry, model_write}
use Rattle.frame_codec.specs.declared.entry.Entry.{Entry}
use Rattle.frame_codec.specs.declared.entry.Write.{Write}
use Rattle.frame_codec.specs.declared.entry.Write.TheVariants as write
use Rattle.group_plan.specs.Plans.{DoesWrite, IsEntryOf, IsMadeBy, IsWritten}
use Rattle.store_model.specs.Cost.{bytes_written, change_bytes, entry_bytes}
use Rattle.store_model.specs.Frame.{entries_spelling, entry_spelling, write_spelling}
use Rattle.store_model.specs.Group.{Commit}
use Rattle.store_model.specs.Placing.{Holding, Need, Placed, new_place, object_bytes}
use Rattle.store_model.specs.Store.{Placement}
use Rattle.store_model.proofs.SortedLaws.{find-at}
use Rattle.store_model.proofs.StoredLaws.{length-stored}
use Rattle.txn.specs.Requests.{need_of}
use Rattle.txn.specs.Txns.{is_append}
use Rattle.txn.specs.declared.change.Change.{Change}
use Rattle.txn.specs.declared.change.Change.TheVariants as change
use Rattle.txn.specs.declared.request.Request.{Request}
use Rattle.vault.proofs.Placings.{IsPlaced}
use Rattle.vault.proofs.Walks.{ArePlaced}

-- what an entry writes for a change takes as many bytes as the change
write-bytes : (number : ℕ) (key at : List ℕ) (one : Change) (place : Option Placement) (w : Write) → is_append one ≡ false → at ≡ key → DoesWrite key one number place w
    → length (write_spelling (model_write w)) ≡ bytes_written at place
write-bytes number key at (change.Put content) (Some place) (write.Set k state) whole key_is does =
    let made : IsMadeBy (change.Put content) number place state.value = does.2 in
    omega (arith, length-stored k state.value does.1, ap (λ (p : Placement). object_bytes k p) made.1, ap (λ (q : List ℕ). object_bytes q place) (does.0 ∙ sym key_is))
write-bytes number key at (change.Append extension) (Some place) w whole key_is does = absurd (cc whole)
write-bytes number key at change.Del (Some place) (write.Set k state) whole key_is does = absurd does.2
write-bytes number key at one (Some place) (write.Del k) whole key_is does = absurd does
write-bytes number key at one None (write.Set k state) whole key_is does = absurd does
write-bytes number key at one None (write.Del k) whole key_is does = omega (arith, ap length (does ∙ sym key_is))

-- so do the writes of a request
writes-bytes : (held : List ℕ → Option Holding) (number : ℕ) (es : List (List ℕ × Change)) (placed : List Placed) (writes : List Write)
    → ((j : ℕ) (one : List ℕ × Change) → slice_get es j ≡ Some one → is_append one.1 ≡ false) → AllZip (IsPlaced held) (map {B = List ℕ × Need} (λ one. (one.0, need_of one.1)) es) placed
    → AllZip (IsWritten number) (zip es placed) writes → length (flat_map write_spelling (map model_write writes)) ≡ sum_by change_bytes placed
writes-bytes held number [] [] [] whole all written = refl
writes-bytes held number [] [] (w ∷ writes) whole all written = absurd written
writes-bytes held number [] (p ∷ placed) writes whole all written = absurd all
writes-bytes held number (e ∷ es) [] writes whole all written = absurd all
writes-bytes held number (e ∷ es) (p ∷ placed) [] whole all written = absurd written
writes-bytes held number (e ∷ es) (p ∷ placed) (w ∷ writes) whole all written =
    omega (
      arith,
      length-append (write_spelling (model_write w)) (flat_map write_spelling (map model_write writes)),
      write-bytes number e.0 p.key e.1 (new_place p) w (whole 0 e refl) all.0.key written.0,
      writes-bytes held number es placed writes (λ j one is. whole (suc j) one is) all.1 written.1,
      sum_by-cons change_bytes p placed,
    )

-- and its entry
entry-bytes : (e : Entry) (commit : Commit) → length (flat_map write_spelling (map model_write e.writes)) ≡ sum_by change_bytes commit.placed
    → length (entry_spelling (model_entry e)) ≡ entry_bytes commit
entry-bytes e commit writes_are =
    let number : List ℕ = to_be_bytes w64 e.number in
    let nth : List ℕ = to_be_bytes w64 e.nth in
    let writes : List ℕ = length (map model_write e.writes) ∷ flat_map write_spelling (map model_write e.writes) in
    omega (arith, length-append number (e.session ∷ (nth ++ writes)), length-append nth writes, writes_are)

-- and the entries of all committed requests
pub entries-bytes : (held : List ℕ → Option Holding) (ones : List (Request × Commit)) (es : List Entry) → ArePlaced held ones → AllZip IsEntryOf ones es
    → length (entries_spelling (model_entries es)) ≡ sum_by entry_bytes (map (λ one. one.1) ones)
entries-bytes held [] [] placed all = refl
entries-bytes held [] (e ∷ es) placed all = absurd all
entries-bytes held (one ∷ ones) [] placed all = absurd all
entries-bytes held (one ∷ ones) (e ∷ es) placed all =
    let request : Request = one.0 in
    let commit : Commit = one.1 in
    omega (
      arith,
      length-append (entry_spelling (model_entry e)) (entries_spelling (model_entries es)),
      entry-bytes e commit (writes-bytes held commit.number (entries request.writes) commit.placed e.writes
          (λ j other is. placed.0.1 other.0 other.1 (get-entries request.writes other.0 ∙ find-at (entries request.writes) j other.0 other (entries_sorted request.writes) is refl))
          placed.0.0 all.0.writes),
      entries-bytes held ones es placed.1 all.1,
      sum_by-cons entry_bytes commit (map (λ other. other.1) ones),
    )
