-- In both windows of a commit the contents stay that the states before have: no page of them is written. So each state that verified
-- verifies, and so do those that the kept entries set.
use Rattle.std.proofs.Common.{◌≡◌, ℕ, ◌+◌, ◌/◌, ◌%◌, ◌<◌, ◌≤◌, Bool, true, cond, List, [], ◌∷◌, length, take, Some, None, inl, inr, refl, sym, ap, ◌∙◌, subst, arith}
use Rattle.std.specs.Prelude.{fold}
use Rattle.std.specs.List.{All}
use Rattle.std.specs.FinMap.{FinMap, get, get-insert, get-remove}
use Rattle.std.specs.Ordering.{eq_by_cmp}
use Rattle.std.proofs.lemmas.Bool.{cases_Bool}
use Rattle.std.proofs.lemmas.List.Elements.{All-head, All-tail}
use Rattle.store_model.specs.Dependence.{IsContentPage}
use Rattle.store_model.specs.Disk.{Image, SameOff, page_bytes}
use Rattle.store_model.specs.Frame.{Del, Entry, Set, Write}
use Rattle.store_model.specs.Half.{picked}
use Rattle.store_model.specs.Holds.{Holds, IsPoured}
use Rattle.store_model.specs.Key.{key_order}
use Rattle.store_model.specs.Layout.{Layout, data_page}
use Rattle.store_model.specs.Reading.{AreKept, DoesWriteVerify, Found, Gives, blocks_of_states, with_entries, with_entry, with_write}
use Rattle.store_model.specs.Space.{owners}
use Rattle.store_model.specs.Stands.{DoAllVerify}
use Rattle.store_model.specs.State.{State}
use Rattle.store_model.specs.Verify.{Verifies}
use Rattle.store_model.specs.Windows.{HasPlaces, InSecondWindow, IsBodyPage, IsPouredPage, MayFollow}
use Rattle.store_model.proofs.HeldLaws.{IsPoured-owned}
use Rattle.store_model.proofs.LastSetLaws.{owners-states}
use Rattle.store_model.proofs.OffLaws.{picked-half, poured-data}
use Rattle.store_model.proofs.SortedLaws.{keys_total}
use Rattle.store_model.proofs.VerifyAgreeLaws.{Verifies-agree}
use Rattle.store_model.proofs.WindowBlockLaws.{IsContentPage-free}

-- In the first window each page of the data area reads as before.
pub data-first : (pages : ℕ) (base image : Image) (found : Found) (gives : Gives pages base found) (bytes : List ℕ) (entries : List Entry) (p : ℕ)
    → MayFollow pages base found gives bytes entries → SameOff (IsBodyPage (picked (base 0)) gives.gate bytes) base image → data_page found.layout ≤ p
    → image p ≡ base p
data-first pages base image found gives bytes entries p follows same past =
    same p (λ written. omega (arith, written.is, written.below, follows.fits, picked-half (base 0), past))

-- No page of a state's content is one of the contents that the entries behind it set.
pub IsPoured-unset : (layout : Layout) (states : FinMap key_order State) (entries : List Entry) (key : List ℕ) (state : State) (p : ℕ)
    → HasPlaces layout states entries → get states key ≡ Some state → IsPoured layout state 0 p → IsContentPage layout entries p → ⊥
IsPoured-unset layout states entries key state p places there poured content =
    let free = IsContentPage-free layout states entries p places content in
    let owned = IsPoured-owned layout state 0 p poured in
    let same : owned.0 ≡ free.at = omega (arith, owned.1, free.is) in
    omega (
      arith,
      owned.2,
      owners-states states key state owned.0 there,
      ap (λ (at : ℕ). owners (blocks_of_states states) at) same,
      free.free,
    )

-- In the second each page of a found state's content does.
pub poured-second : (pages : ℕ) (base image : Image) (found : Found) (gives : Gives pages base found) (bytes : List ℕ) (entries : List Entry) (key : List ℕ)
    (state : State) (p : ℕ) → InSecondWindow pages base image found gives bytes entries → get found.states key ≡ Some state
    → IsPoured found.layout state 0 p → image p ≡ base p
poured-second pages base image found gives bytes entries key state p window there poured =
    let past : data_page found.layout ≤ p = poured-data found.layout state 0 p poured in
    window.same p written ∙ data-first pages base window.laid found gives bytes entries p window.follows window.stands.same past where
      written : IsPouredPage found.layout (picked (base 0)) gives.gate entries p → ⊥
      written (inl content) = IsPoured-unset found.layout found.states entries key state p window.follows.places there poured content
      written (inr gate) = omega (arith, poured-data found.layout state 0 p poured, gate, gives.log.within, picked-half (base 0))

-- A content is held on each image that has its pages alike.
pub Holds-agree : (layout : Layout) (image other : Image) (state : State) (content : List ℕ) → ((p : ℕ) → IsPoured layout state 0 p → other p ≡ image p)
    → Holds image (data_page layout) state content → Holds other (data_page layout) state content
Holds-agree layout image other state content same holds =
    let first : ℕ = data_page layout in
    record {
      size = holds.size;
      at = record {
        full = λ page below.
            let one = holds.at.full page below in
            let less : page < state.size / page_bytes = subst (λ (size : ℕ). page < size / page_bytes) holds.size below in
            (one.0, one.1, same (first + one.0) (inl (record { page = page; least = omega arith; below = less; at = one.0; stands = one.1; is = refl })) ∙ one.2);
        tailed = holds.at.tailed;
        tail = λ page is.
            ap (λ (bytes : List ℕ). take (length content % page_bytes) bytes) (same (first + page) (inr (record { at = page; tail = is; is = refl })))
            ∙ holds.at.tail page is;
      };
    }

-- What a found state holds it holds in both windows.
pub Holds-first : (pages : ℕ) (base image : Image) (found : Found) (gives : Gives pages base found) (bytes : List ℕ) (entries : List Entry) (state : State)
    (content : List ℕ) → MayFollow pages base found gives bytes entries → SameOff (IsBodyPage (picked (base 0)) gives.gate bytes) base image
    → Holds base (data_page found.layout) state content → Holds image (data_page found.layout) state content
Holds-first pages base image found gives bytes entries state content follows same holds =
    Holds-agree found.layout base image state content
    (λ p poured. data-first pages base image found gives bytes entries p follows same (poured-data found.layout state 0 p poured)) holds

pub Holds-second : (pages : ℕ) (base image : Image) (found : Found) (gives : Gives pages base found) (bytes : List ℕ) (entries : List Entry) (key : List ℕ)
    (state : State) (content : List ℕ) → InSecondWindow pages base image found gives bytes entries → get found.states key ≡ Some state
    → Holds base (data_page found.layout) state content → Holds image (data_page found.layout) state content
Holds-second pages base image found gives bytes entries key state content window there holds =
    Holds-agree found.layout base image state content
    (λ p poured. poured-second pages base image found gives bytes entries key state p window there poured) holds

-- Found states that verify verify in both windows.
pub verify-first : (pages : ℕ) (base image : Image) (found : Found) (gives : Gives pages base found) (bytes : List ℕ) (entries : List Entry)
    → MayFollow pages base found gives bytes entries → SameOff (IsBodyPage (picked (base 0)) gives.gate bytes) base image
    → DoAllVerify base found.layout found.states → DoAllVerify image found.layout found.states
verify-first pages base image found gives bytes entries follows same verify key state there =
    Verifies-agree found.layout base image state
    (λ p poured. data-first pages base image found gives bytes entries p follows same (poured-data found.layout state 0 p poured)) (verify key state there)

pub verify-second : (pages : ℕ) (base image : Image) (found : Found) (gives : Gives pages base found) (bytes : List ℕ) (entries : List Entry)
    → InSecondWindow pages base image found gives bytes entries → DoAllVerify base found.layout found.states → DoAllVerify image found.layout found.states
verify-second pages base image found gives bytes entries window verify key state there =
    Verifies-agree found.layout base image state
    (λ p poured. poured-second pages base image found gives bytes entries key state p window there poured) (verify key state there)

-- states verify behind a write of which the state does
write-verify : (image : Image) (layout : Layout) (states : FinMap key_order State) (one : Write) → DoAllVerify image layout states
    → DoesWriteVerify image layout one → DoAllVerify image layout (with_write states one)
write-verify image layout states (Set k s) before verifies key state is =
    let given : cond (eq_by_cmp key_order key k) (Some s) (get states key) ≡ Some state = sym (get-insert keys_total states k s key) ∙ is in
    elim (cases_Bool (eq_by_cmp key_order key k)) [
      | inl here ↦
          (let found : Some s ≡ Some state = rw here at given in
          let same : s ≡ state = cc in
          subst (λ (one : State). Verifies image (data_page layout) one) same verifies)
      | inr other ↦ before key state (rw other at given)
    ]
write-verify image layout states (Del k) before verifies key state is =
    let given : cond (eq_by_cmp key_order key k) None (get states key) ≡ Some state = sym (get-remove keys_total states k key) ∙ is in
    elim (cases_Bool (eq_by_cmp key_order key k)) [
      | inl here ↦
          (let found : cond true None (get states key) ≡ Some state = subst (λ (b : Bool). cond b None (get states key) ≡ Some state) here given in
          absurd (cc found))
      | inr other ↦ before key state (rw other at given)
    ]

writes-verify : (image : Image) (layout : Layout) (states : FinMap key_order State) (writes : List Write) → DoAllVerify image layout states
    → All (DoesWriteVerify image layout) writes → DoAllVerify image layout (fold with_write states writes)
writes-verify image layout states [] before verify = before
writes-verify image layout states (one ∷ writes) before verify =
    writes-verify image layout (with_write states one) writes
    (write-verify image layout states one before (All-head (DoesWriteVerify image layout) one writes verify)) (All-tail (DoesWriteVerify image layout) one writes verify)

-- States that verify verify behind the entries that are kept.
pub kept-verify : (image : Image) (layout : Layout) (states : FinMap key_order State) (entries kept : List Entry) → DoAllVerify image layout states
    → AreKept image layout entries kept → DoAllVerify image layout (with_entries states kept)
kept-verify image layout states [] kept before are =
    subst (λ (es : List Entry). DoAllVerify image layout (with_entries states es)) (sym are) before
kept-verify image layout states (entry ∷ entries) kept before (inl (verifies, (rest, is, are))) =
    subst (λ (es : List Entry). DoAllVerify image layout (with_entries states es)) (sym is)
    (kept-verify image layout (with_entry states entry) entries rest (writes-verify image layout states entry.writes before verifies) are)
kept-verify image layout states (entry ∷ entries) kept before (inr (fails, are)) = kept-verify image layout states entries kept before are

-- So where the states of the store before verify, all those do that the disk tells in the second window, the gate open.
pub verify-opened : (pages : ℕ) (base image : Image) (found : Found) (gives : Gives pages base found) (bytes : List ℕ) (entries kept : List Entry)
    → InSecondWindow pages base image found gives bytes entries → AreKept image found.layout entries kept → DoAllVerify base found.layout found.states
    → DoAllVerify image found.layout (with_entries found.states kept)
verify-opened pages base image found gives bytes entries kept window are verify =
    kept-verify image found.layout found.states entries kept (verify-second pages base image found gives bytes entries window verify) are
