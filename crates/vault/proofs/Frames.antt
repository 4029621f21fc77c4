-- The entries of a group as the next frame of the log: their numbers go on, no key stands in two of them, and their states have new places.
use Rattle.std.proofs.Common.{◌≡◌, ℕ, zero, suc, ◌+◌, ◌≤◌, List, [], ◌∷◌, ◌++◌, length, map, zip, Option, Some, None, false, refl, ◌∙◌, ap, arith}
use Rattle.std.specs.Prelude.{slice_get}
use Rattle.std.specs.List.{All, AllZip, flat_map}
use Rattle.std.specs.List.Sorted.{IsPermutation}
use Rattle.std.specs.FinMap.{FinMap, entries, entries_sorted, get-entries}
use Rattle.std.proofs.lemmas.List.Elements.{All-head, All-tail}
use Rattle.frame_codec.specs.Values.{model_entries, model_entry, model_write}
use Rattle.frame_codec.specs.declared.entry.Entry.{Entry}
use Rattle.frame_codec.specs.declared.entry.Write.{Write}
use Rattle.frame_codec.specs.declared.entry.Write.TheVariants as write
use Rattle.group_plan.specs.Plans.{DoesWrite, IsEntryOf, IsWritten}
use Rattle.relation.specs.Parts.{owned_by}
use Rattle.store_model.specs.Frame as model
use Rattle.store_model.specs.Frame.{DoNumbersGoOn}
use Rattle.store_model.specs.Group.{Commit}
use Rattle.store_model.specs.Holds.{place_of}
use Rattle.store_model.specs.Key.{key_order}
use Rattle.store_model.specs.Placing.{Placed, new_place}
use Rattle.store_model.specs.Reading.{GoesOn, blocks_of_states}
use Rattle.store_model.specs.Space.{Apart, Block, blocks_of, owners}
use Rattle.store_model.specs.State.{State}
use Rattle.store_model.specs.Store.{Placement}
use Rattle.store_model.specs.Windows.{blocks_of_entry, blocks_of_sets, blocks_of_write}
use Rattle.store_model.proofs.PlaceLaws.{owners-append, owners-permutation}
use Rattle.store_model.proofs.SortedLaws.{find-at}
use Rattle.txn.specs.Txns.{NoAppends, is_append}
use Rattle.txn.specs.declared.change.Change.{Change}
use Rattle.txn.specs.declared.change.Change.TheVariants as change
use Rattle.txn.specs.declared.request.Request.{Request}
use Rattle.vault.specs.Pours.{AreWrittenBy, pour_blocks, pours_by, pours_of, pours_of_all}
use Rattle.vault.proofs.Makings.{AreNumbered}
use Rattle.vault.proofs.Pourings.{owners-pours, written_pours}

-- The numbers of the entries go on behind the last one.
pub goes-on : (last : ℕ) (ones : List (Request × Commit)) (es : List Entry) → AreNumbered last ones → AllZip IsEntryOf ones es → 1 ≤ length es
    → GoesOn last (model_entries es)
goes-on last [] [] numbers all some = absurd (omega (arith, some))
goes-on last [] (e ∷ es) numbers all some = absurd all
goes-on last (one ∷ ones) [] numbers all some = absurd (omega (arith, some))
goes-on last (one ∷ ones) (e ∷ es) numbers all some = all.0.number ∙ numbers.0

pub numbers-on : (last : ℕ) (ones : List (Request × Commit)) (es : List Entry) → AreNumbered last ones → AllZip IsEntryOf ones es → DoNumbersGoOn (model_entries es)
numbers-on last [] [] numbers all i a b at behind = absurd (cc at)
numbers-on last [] (e ∷ es) numbers all i a b at behind = absurd all
numbers-on last (one ∷ ones) [] numbers all i a b at behind = absurd all
numbers-on last (one ∷ []) (e ∷ []) numbers all zero a b at behind = absurd (cc behind)
numbers-on last (one ∷ []) (e ∷ next ∷ es) numbers all zero a b at behind = absurd all.1
numbers-on last (one ∷ two ∷ ones) (e ∷ []) numbers all zero a b at behind = absurd all.1
numbers-on last (one ∷ two ∷ ones) (e ∷ next ∷ es) numbers all zero a b at behind =
    let first : model_entry e ≡ a = cc at in
    let second : model_entry next ≡ b = cc behind in
    omega (
      arith,
      ap (λ (x : model.Entry). x.number) first,
      ap (λ (x : model.Entry). x.number) second,
      all.0.number,
      all.1.0.number,
      numbers.0,
      numbers.1.0,
    )
numbers-on last (one ∷ ones) (e ∷ es) numbers all (suc i) a b at behind =
    numbers-on (last + 1) ones es numbers.1 all.1 i a b at (ap (slice_get (model_entries (e ∷ es))) (let same : suc (i + 1) ≡ suc i + 1 = omega arith in same) ∙ behind)

-- The blocks of the state that a write sets are those that its content is poured to.
write-blocks : (number : ℕ) (key : List ℕ) (one : Change) (place : Option Placement) (w : Write) (page : ℕ) → is_append one ≡ false → DoesWrite key one number place w
    → owners (blocks_of_write (model_write w)) page ≡ owners (pour_blocks (pours_by one w)) page
write-blocks number key (change.Put content) place (write.Set at state) page whole does =
    omega (arith, owners-append (blocks_of (place_of state.value)) [] page)
write-blocks number key (change.Put content) place (write.Del at) page whole does = refl
write-blocks number key (change.Append extension) place w page whole does = absurd (cc whole)
write-blocks number key change.Del (Some place) (write.Set at state) page whole does = absurd does.2
write-blocks number key change.Del None (write.Set at state) page whole does = absurd does
write-blocks number key change.Del place (write.Del at) page whole does = refl

writes-blocks : (number : ℕ) (es : List (List ℕ × Change)) (placed : List Placed) (writes : List Write) (page : ℕ) → AllZip (IsWritten number) (zip es placed) writes
    → ((j : ℕ) (one : List ℕ × Change) → slice_get es j ≡ Some one → is_append one.1 ≡ false)
    → owners (flat_map blocks_of_write (map model_write writes)) page ≡ owners (pour_blocks (flat_map written_pours (zip es writes))) page
writes-blocks number [] placed [] page all whole = refl
writes-blocks number [] placed (w ∷ writes) page all whole = absurd all
writes-blocks number (e ∷ es) [] [] page all whole = refl
writes-blocks number (e ∷ es) [] (w ∷ writes) page all whole = absurd all
writes-blocks number (e ∷ es) (p ∷ placed) [] page all whole = absurd all
writes-blocks number (e ∷ es) (p ∷ placed) (w ∷ writes) page all whole =
    omega (
      arith,
      write-blocks number e.0 e.1 (new_place p) w page (whole 0 e refl) all.0,
      writes-blocks number es placed writes page all.1 (λ j one is. whole (suc j) one is),
      owners-append (blocks_of_write (model_write w)) (flat_map blocks_of_write (map model_write writes)) page,
      owners-pours (pours_by e.1 w) (flat_map written_pours (zip es writes)) page,
    )

-- So it is of all entries: what they set owns a page as often as what is poured for them.
pub sets-blocks : (requests : List Request) (es : List Entry) (page : ℕ) → AllZip AreWrittenBy requests es → All (λ request. NoAppends request.writes) requests
    → owners (blocks_of_sets (model_entries es)) page ≡ owners (pour_blocks (pours_of_all (zip requests es))) page
sets-blocks [] [] page all whole = refl
sets-blocks [] (e ∷ es) page all whole = absurd all
sets-blocks (request ∷ requests) [] page all whole = absurd all
sets-blocks (request ∷ requests) (e ∷ es) page all whole =
    let no_appends : NoAppends request.writes = All-head (λ (r : Request). NoAppends r.writes) request requests whole in
    omega (
      arith,
      writes-blocks all.0.0.number (entries request.writes) all.0.0.placed e.writes page all.0.1.writes
          (λ j one is. no_appends one.0 one.1 (get-entries request.writes one.0 ∙ find-at (entries request.writes) j one.0 one (entries_sorted request.writes) is refl)),
      sets-blocks requests es page all.1 (All-tail (λ (r : Request). NoAppends r.writes) request requests whole),
      owners-append (blocks_of_entry (model_entry e)) (blocks_of_sets (model_entries es)) page,
      owners-pours (pours_of (request, e)) (pours_of_all (zip requests es)) page,
    )

-- No page is owned twice by the states before and by what the entries set, where what was taken and what was owned is apart.
pub places-apart : (states : FinMap key_order State) (requests : List Request) (es : List Entry) (owned before taken : List Block) → AllZip AreWrittenBy requests es
    → All (λ request. NoAppends request.writes) requests → pour_blocks (pours_of_all (zip requests es)) ≡ taken → IsPermutation owned (taken ++ before)
    → IsPermutation before (owned_by states) → Apart owned → Apart (blocks_of_states states ++ blocks_of_sets (model_entries es))
places-apart states requests es owned before taken all whole taken_is moves before_is apart page =
    omega (
      arith,
      apart page,
      sets-blocks requests es page all whole,
      ap (λ (bs : List Block). owners bs page) taken_is,
      owners-append (blocks_of_states states) (blocks_of_sets (model_entries es)) page,
      owners-permutation owned (taken ++ before) page moves,
      owners-append taken before page,
      owners-permutation before (owned_by states) page before_is,
    )
