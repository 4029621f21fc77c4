-- The contents that are poured for entries are those of the states that the entries set, and so these states verify.
use Rattle.std.proofs.Common.{◌≡◌, ◌⊎◌, ℕ, suc, false, List, [], ◌∷◌, ◌++◌, map, zip, Option, Some, None, inl, inr, refl, sym, ◌∙◌}
use Rattle.std.specs.Prelude.{Contains, slice_get}
use Rattle.std.specs.List.{All, AllZip, flat_map}
use Rattle.std.specs.FinMap.{entries, entries_sorted, get-entries}
use Rattle.std.proofs.lemmas.List.Elements.{All-cons, All-head, All-nil, All-tail}
use Rattle.frame_codec.specs.Values.{model_entries, model_entry, model_write}
use Rattle.frame_codec.specs.declared.entry.Entry.{Entry}
use Rattle.frame_codec.specs.declared.entry.Write.{Write}
use Rattle.frame_codec.specs.declared.entry.Write.TheVariants as write
use Rattle.group_plan.specs.Plans.{DoesWrite, IsMadeBy, IsWritten}
use Rattle.store_model.specs.Dependence.{IsContentPage}
use Rattle.store_model.specs.Disk.{Image}
use Rattle.store_model.specs.Frame as model
use Rattle.store_model.specs.Holds.{IsPoured}
use Rattle.store_model.specs.Layout.{Layout, data_page}
use Rattle.store_model.specs.Placing.{Placed, new_place}
use Rattle.store_model.specs.Reading.{DoesVerify, DoesWriteVerify}
use Rattle.store_model.specs.State.{State}
use Rattle.store_model.specs.Store.{Placement}
use Rattle.store_model.specs.Windows.{IsPouredPage}
use Rattle.store_model.proofs.SetLaws.{among-behind, among-first}
use Rattle.store_model.proofs.SortedLaws.{find-at}
use Rattle.store_model.proofs.VerifyLaws.{Verifies-Holds}
use Rattle.txn.specs.Txns.{NoAppends, is_append}
use Rattle.txn.specs.declared.change.Change.{Change}
use Rattle.txn.specs.declared.change.Change.TheVariants as change
use Rattle.txn.specs.declared.request.Request.{Request}
use Rattle.vault.specs.Pours.{AreWrittenBy, IsPourPage, IsSecondPage, Pour, Poured, pours_by, pours_of, pours_of_all}
use Rattle.vault.proofs.Pourings.{written_pours}

-- a page that one of two lists is poured to
pour_page-split : (layout : Layout) (xs ys : List Pour) (p : ℕ) → IsPourPage layout (xs ++ ys) p → IsPourPage layout xs p ⊎ IsPourPage layout ys p
pour_page-split layout [] ys p page = inr page
pour_page-split layout (x ∷ xs) ys p (inl here) = inl (inl here)
pour_page-split layout (x ∷ xs) ys p (inr behind) = elim (pour_page-split layout xs ys p behind) [
  | inl one ↦ inl (inr one)
  | inr other ↦ inr other
]

-- A page of the content of a state that one of these writes sets.
record IsSetPage (layout : Layout) (writes : List Write) (p : ℕ) : Type 0 where
  key : List ℕ
  state : State
  sets : Contains (map model_write writes) (model.Set key state)
  poured : IsPoured layout state 0 p

write-page : (layout : Layout) (one : Change) (w : Write) (writes : List Write) (p : ℕ) → IsPourPage layout (pours_by one w) p → IsSetPage layout (w ∷ writes) p
write-page layout (change.Put content) (write.Set key state) writes p (inl here) =
    record { key = key; state = state.value; sets = among-first (model.Set key state.value) (map model_write writes); poured = here }
write-page layout (change.Put content) (write.Set key state) writes p (inr none) = absurd none
write-page layout (change.Put content) (write.Del key) writes p page = absurd page
write-page layout (change.Append extension) w writes p page = absurd page
write-page layout change.Del w writes p page = absurd page

set-page : (layout : Layout) (es : List (List ℕ × Change)) (writes : List Write) (p : ℕ) → IsPourPage layout (flat_map written_pours (zip es writes)) p
    → IsSetPage layout writes p
set-page layout [] writes p page = absurd page
set-page layout (e ∷ es) [] p page = absurd page
set-page layout (e ∷ es) (w ∷ writes) p page =
    elim (pour_page-split layout (pours_by e.1 w) (flat_map written_pours (zip es writes)) p page) [
      | inl here ↦ write-page layout e.1 w writes p here
      | inr behind ↦
          (let set = set-page layout es writes p behind in
          record {
            key = set.key;
            state = set.state;
            sets = among-behind (model_write w) (map model_write writes) (model.Set set.key set.state) set.sets;
            poured = set.poured;
          })
    ]

-- A page that is poured to for entries is one of a content that they set.
pub content-page : (layout : Layout) (requests : List Request) (es : List Entry) (p : ℕ) → IsPourPage layout (pours_of_all (zip requests es)) p
    → IsContentPage layout (model_entries es) p
content-page layout [] es p page = absurd page
content-page layout (request ∷ requests) [] p page = absurd page
content-page layout (request ∷ requests) (e ∷ es) p page =
    elim (pour_page-split layout (pours_of (request, e)) (pours_of_all (zip requests es)) p page) [
      | inl here ↦
          (let set = set-page layout (entries request.writes) e.writes p here in
          record {
            entry = model_entry e;
            among = among-first (model_entry e) (model_entries es);
            key = set.key;
            state = set.state;
            sets = set.sets;
            poured = set.poured;
          })
      | inr behind ↦
          (let content = content-page layout requests es p behind in
          record {
            entry = content.entry;
            among = among-behind (model_entry e) (model_entries es) content.entry content.among;
            key = content.key;
            state = content.state;
            sets = content.sets;
            poured = content.poured;
          })
    ]

-- So a page that is written in the second window is one that may be poured to.
pub second-poured_page : (layout : Layout) (half gate : ℕ) (requests : List Request) (es : List Entry) (p : ℕ)
    → IsSecondPage layout (pours_of_all (zip requests es)) half gate p → IsPouredPage layout half gate (model_entries es) p
second-poured_page layout half gate requests es p (inl page) = inl (content-page layout requests es p page)
second-poured_page layout half gate requests es p (inr is) = inr is

-- what holds of all of two lists
All-left : {X : Type 0} (P : X → Type 0) (xs ys : List X) → All P (xs ++ ys) → All P xs
All-left P [] ys all = All-nil P
All-left P (x ∷ xs) ys all = All-cons P x xs (All-head P x (xs ++ ys) all) (All-left P xs ys (All-tail P x (xs ++ ys) all))

All-right : {X : Type 0} (P : X → Type 0) (xs ys : List X) → All P (xs ++ ys) → All P ys
All-right P [] ys all = all
All-right P (x ∷ xs) ys all = All-right P xs ys (All-tail P x (xs ++ ys) all)

-- A state verifies that is set for a content which was poured to its place.
write-verifies : (image : Image) (layout : Layout) (number : ℕ) (key : List ℕ) (one : Change) (place : Option Placement) (w : Write) → is_append one ≡ false
    → DoesWrite key one number place w → All (Poured image layout) (pours_by one w) → DoesWriteVerify image layout (model_write w)
write-verifies image layout number key (change.Put content) (Some place) (write.Set at state) whole does poured =
    let made : IsMadeBy (change.Put content) number place state.value = does.2 in
    let stands = All-head (Poured image layout) (state.value, content) [] poured in
    Verifies-Holds image (data_page layout) state.value content does.1 made.2 (record { size = sym made.2.size; at = stands.held })
write-verifies image layout number key (change.Put content) (Some place) (write.Del at) whole does poured = tt
write-verifies image layout number key (change.Put content) None (write.Set at state) whole does poured = absurd does
write-verifies image layout number key (change.Put content) None (write.Del at) whole does poured = tt
write-verifies image layout number key (change.Append extension) place w whole does poured = absurd (cc whole)
write-verifies image layout number key change.Del (Some place) (write.Set at state) whole does poured = absurd does.2
write-verifies image layout number key change.Del (Some place) (write.Del at) whole does poured = tt
write-verifies image layout number key change.Del None (write.Set at state) whole does poured = absurd does
write-verifies image layout number key change.Del None (write.Del at) whole does poured = tt

writes-verify : (image : Image) (layout : Layout) (number : ℕ) (es : List (List ℕ × Change)) (placed : List Placed) (writes : List Write)
    → AllZip (IsWritten number) (zip es placed) writes → ((j : ℕ) (one : List ℕ × Change) → slice_get es j ≡ Some one → is_append one.1 ≡ false)
    → All (Poured image layout) (flat_map written_pours (zip es writes)) → All (DoesWriteVerify image layout) (map model_write writes)
writes-verify image layout number [] placed [] all whole poured = All-nil (DoesWriteVerify image layout)
writes-verify image layout number [] placed (w ∷ writes) all whole poured = absurd all
writes-verify image layout number (e ∷ es) [] [] all whole poured = All-nil (DoesWriteVerify image layout)
writes-verify image layout number (e ∷ es) [] (w ∷ writes) all whole poured = absurd all
writes-verify image layout number (e ∷ es) (placed ∷ places) [] all whole poured = absurd all
writes-verify image layout number (e ∷ es) (placed ∷ places) (w ∷ writes) all whole poured =
    All-cons (DoesWriteVerify image layout) (model_write w) (map model_write writes)
    (write-verifies image layout number e.0 e.1 (new_place placed) w (whole 0 e refl) all.0
    (All-left (Poured image layout) (pours_by e.1 w) (flat_map written_pours (zip es writes)) poured))
    (writes-verify image layout number es places writes all.1 (λ j one is. whole (suc j) one is)
    (All-right (Poured image layout) (pours_by e.1 w) (flat_map written_pours (zip es writes)) poured))

-- All the states verify that entries set, where the contents were poured.
pub entries-verify : (image : Image) (layout : Layout) (requests : List Request) (es : List Entry) → AllZip AreWrittenBy requests es
    → All (λ request. NoAppends request.writes) requests → All (Poured image layout) (pours_of_all (zip requests es)) → All (DoesVerify image layout) (model_entries es)
entries-verify image layout [] [] all whole poured = All-nil (DoesVerify image layout)
entries-verify image layout [] (e ∷ es) all whole poured = absurd all
entries-verify image layout (request ∷ requests) [] all whole poured = absurd all
entries-verify image layout (request ∷ requests) (e ∷ es) all whole poured =
    let no_appends : NoAppends request.writes = All-head (λ (r : Request). NoAppends r.writes) request requests whole in
    All-cons (DoesVerify image layout) (model_entry e) (model_entries es)
    (writes-verify image layout all.0.0.number (entries request.writes) all.0.0.placed e.writes all.0.1.writes
    (λ j one is. no_appends one.0 one.1 (get-entries request.writes one.0 ∙ find-at (entries request.writes) j one.0 one (entries_sorted request.writes) is refl))
    (All-left (Poured image layout) (pours_of (request, e)) (pours_of_all (zip requests es)) poured))
    (entries-verify image layout requests es all.1 (All-tail (λ (r : Request). NoAppends r.writes) request requests whole)
    (All-right (Poured image layout) (pours_of (request, e)) (pours_of_all (zip requests es)) poured))
