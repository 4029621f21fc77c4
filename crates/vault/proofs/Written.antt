-- The entries of a group write what its committed transactions change.
use Rattle.std.proofs.Common.{◌≡◌, ℕ, List, [], ◌∷◌, map, zip, Option, Some, None, refl, sym, ◌∙◌, subst}
use Rattle.std.specs.Prelude.{Contains}
use Rattle.std.specs.List.{AllZip}
use Rattle.std.specs.FinMap.{FinMap, entries, get}
use Rattle.frame_codec.specs.Values.{model_entries, model_entry, model_write}
use Rattle.frame_codec.specs.Writes.{key_of_write}
use Rattle.frame_codec.specs.declared.entry.Entry.{Entry}
use Rattle.frame_codec.specs.declared.entry.Write.{Write}
use Rattle.frame_codec.specs.declared.entry.Write.TheVariants as write
use Rattle.group_plan.specs.Plans.{IsEntryOf, IsWritten}
use Rattle.store_model.specs.Frame as model
use Rattle.store_model.specs.Frame.{IsFrame}
use Rattle.store_model.specs.Group.{Commit}
use Rattle.store_model.specs.Key.{key_order}
use Rattle.store_model.specs.Placing.{Holding, Need, Placed, new_place}
use Rattle.store_model.specs.Reading as reading
use Rattle.store_model.specs.Standing.{BothStand, SameObjects, StandsFor}
use Rattle.store_model.specs.State.{State}
use Rattle.store_model.specs.Store.{Object, Store}
use Rattle.store_model.proofs.SetLaws.{among-behind, among-first}
use Rattle.store_model.proofs.SurvivalEntryLaws.{AreWrittenBy, IsWriteOf}
use Rattle.txn.specs.Requests.{need_of}
use Rattle.txn.specs.declared.change.Change.{Change}
use Rattle.txn.specs.declared.request.Request.{Request}
use Rattle.vault.proofs.Lasting.{frame-leaves, left_by}
use Rattle.vault.proofs.Placings.{IsPlaced}
use Rattle.vault.proofs.Walks.{ArePlaced}
use Rattle.vault.proofs.Writings.{write-key}

-- the object of a state that stands for one
object-there : (state : State) (object : Option Object) → BothStand (Some state) object → (one : Object) × (object ≡ Some one) × StandsFor state one
object-there state None both = absurd both
object-there state (Some one) both = (one, refl, both)

none-there : (object : Option Object) → BothStand None object → object ≡ None
none-there None both = refl
none-there (Some one) both = absurd both

-- what a write leaves under its key stands for what a store has there
abbrev IsLeft : Store → model.Write → Type 0
IsLeft after one = BothStand (left_by one) (get after.objects (model.key_of_write one))

-- A write of a change that has its place sets what stands there after the group.
write-of : (after : Store) (key : List ℕ) (placed : Placed) (w : Write) → placed.key ≡ key → key_of_write w ≡ key → IsLeft after (model_write w)
    → IsWriteOf after placed (model_write w)
write-of after key placed (write.Set at state) place is left =
    let here : at ≡ placed.key = is ∙ sym place in
    (here, object-there state.value (get after.objects placed.key) (subst (λ (k : List ℕ). BothStand (Some state.value) (get after.objects k)) here left))
write-of after key placed (write.Del at) place is left =
    let here : at ≡ placed.key = is ∙ sym place in
    (here, none-there (get after.objects placed.key) (subst (λ (k : List ℕ). BothStand None (get after.objects k)) here left))

writes-of : (after : Store) (held : List ℕ → Option Holding) (number : ℕ) (es : List (List ℕ × Change)) (placed : List Placed) (writes : List Write)
    → AllZip (IsPlaced held) (map {A = List ℕ × Change} {B = List ℕ × Need} (λ one. (one.0, need_of one.1)) es) placed → AllZip (IsWritten number) (zip es placed) writes
    → ((one : model.Write) → Contains (map model_write writes) one → IsLeft after one) → AllZip (IsWriteOf after) placed (map model_write writes)
writes-of after held number [] [] [] places all left = tt
writes-of after held number [] [] (w ∷ writes) places all left = absurd all
writes-of after held number [] (p ∷ placed) writes places all left = absurd places
writes-of after held number (e ∷ es) [] writes places all left = absurd places
writes-of after held number (e ∷ es) (p ∷ placed) [] places all left = absurd all
writes-of after held number (e ∷ es) (p ∷ placed) (w ∷ writes) places all left = (
  write-of after e.0 p w places.0.key (write-key e.0 e.1 number (new_place p) w all.0) (left (model_write w) (among-first (model_write w) (map model_write writes))),
  writes-of after held number es placed writes places.1 all.1 (λ one there. left one (among-behind (model_write w) (map model_write writes) one there)),
)

entries-of : (after : Store) (held : List ℕ → Option Holding) (ones : List (Request × Commit)) (es : List Entry) → ArePlaced held ones → AllZip IsEntryOf ones es
    → ((entry : model.Entry) (one : model.Write) → Contains (model_entries es) entry → Contains entry.writes one → IsLeft after one)
    → AreWrittenBy after (map (λ one. one.1) ones) (model_entries es)
entries-of after held [] [] places all left = tt
entries-of after held [] (e ∷ es) places all left = absurd all
entries-of after held (one ∷ ones) [] places all left = absurd all
entries-of after held (one ∷ ones) (e ∷ es) places all left =
    let request : Request = one.0 in
    let commit : Commit = one.1 in (
      writes-of after held commit.number (entries request.writes) commit.placed e.writes places.0.0 all.0.writes
          (λ w there. left (model_entry e) w (among-first (model_entry e) (model_entries es)) there),
      entries-of after held ones es places.1 all.1 (λ entry w there among. left entry w (among-behind (model_entry e) (model_entries es) entry there) among),
    )

-- Where the states behind the frame stand for the objects after the group, each entry writes what its transaction changes.
pub AreWrittenBy-frame : (pages : ℕ) (after : Store) (states : FinMap key_order State) (held : List ℕ → Option Holding) (ones : List (Request × Commit)) (es : List Entry)
    → IsFrame pages (model_entries es) → ArePlaced held ones → AllZip IsEntryOf ones es → SameObjects (reading.with_entries states (model_entries es)) after.objects
    → AreWrittenBy after (map (λ one. one.1) ones) (model_entries es)
AreWrittenBy-frame pages after states held ones es frame places all same =
    entries-of after held ones es places all (λ entry one there among.
    subst (λ (s : Option State). BothStand s (get after.objects (model.key_of_write one))) (frame-leaves pages states (model_entries es) entry one frame there among)
    (same (model.key_of_write one)))
