-- What the two windows of a commit leave: the store as it was before, and from when the gate is open the store as those entries
-- change it of which all the states verify.
use Rattle.std.proofs.Common.{◌≡◌, ℕ, ◌⊎◌, false, List, [], ◌∷◌, ◌++◌, length, inl, inr, refl, sym, subst, arith}
use Rattle.std.specs.Prelude.{IsTrue}
use Rattle.std.specs.List.{All}
use Rattle.std.proofs.lemmas.Bool.{cases_Bool}
use Rattle.std.proofs.lemmas.List.Elements.{All-head, All-tail}
use Rattle.store_model.specs.Dependence.{HasFurther, LosesNone}
use Rattle.store_model.specs.Disk.{HasPages, Image, SameOff}
use Rattle.store_model.specs.Frame.{Entry}
use Rattle.store_model.specs.Half.{picked}
use Rattle.store_model.specs.Layout.{Layout}
use Rattle.store_model.specs.LogReading.{StoredBody, gate_is_open, next_gate}
use Rattle.store_model.specs.Reading.{AreKept, DoesVerify, Found, Gives, Opened, Reads, with_frame}
use Rattle.store_model.specs.Windows.{InSecondWindow, IsBodyPage, MayFollow, ReadsKept}
use Rattle.store_model.proofs.DependenceLaws.{Gives-agree, IsFoundBy}
use Rattle.store_model.proofs.FurtherLaws.{HasFurther-found_by, LosesNone-further, Reads-further, further_body}
use Rattle.store_model.proofs.KeptCaseLaws.{AreKept-some}
use Rattle.store_model.proofs.OffLaws.{picked-half}
use Rattle.store_model.proofs.WindowBlockLaws.{AreKept-part, HasPlaces-before, HasPlaces-behind}
use Rattle.store_model.proofs.WindowPageLaws.{Agrees-first, Agrees-second, AgreesToGate-second, IsBodyAt-poured, closed-poured}

-- In the first window the disk reads as before, whatever stands on the body's pages and on the next gate.
pub Reads-first : (pages : ℕ) (base image : Image) (found : Found) (gives : Gives pages base found) (bytes : List ℕ) (entries : List Entry) → HasPages base
    → MayFollow pages base found gives bytes entries → SameOff (IsBodyPage (picked (base 0)) gives.gate bytes) base image → Reads pages image (Opened found)
Reads-first pages base image found gives bytes entries whole follows same = (
  Gives-agree pages base image found gives whole (Agrees-first pages base image found gives bytes entries follows same),
  HasPlaces-before found.layout found.states entries follows.places,
)

-- In the second window it reads as before while the gate is closed, whatever stands on the contents' pages.
pub Reads-closed : (pages : ℕ) (base image : Image) (found : Found) (gives : Gives pages base found) (bytes : List ℕ) (entries : List Entry)
    → InSecondWindow pages base image found gives bytes entries → gate_is_open image (picked (base 0)) gives.gate ≡ false → Reads pages image (Opened found)
Reads-closed pages base image found gives bytes entries window closed = (
  Gives-agree pages base image found gives window.whole (Agrees-second pages base image found gives bytes entries window closed),
  HasPlaces-before found.layout found.states entries window.follows.places,
)

-- Where the gate is open the frame is a further one, whichever of the entries are kept.
pub HasFurther-opened : (pages : ℕ) (base image : Image) (found : Found) (gives : Gives pages base found) (bytes : List ℕ) (entries kept : List Entry)
    → InSecondWindow pages base image found gives bytes entries → IsTrue (gate_is_open image (picked (base 0)) gives.gate)
    → AreKept image found.layout entries kept → HasFurther pages base image found gives bytes (with_frame found entries kept)
HasFurther-opened pages base image found gives bytes entries kept window opened are =
    let half : ℕ = picked (base 0) in
    let two = picked-half (base 0) in
    let next : ℕ = next_gate gives.gate (length bytes) in
    record {
      before = AgreesToGate-second pages base image found gives bytes entries window;
      lossless = window.lossless;
      opened = opened;
      body = IsBodyAt-poured found.layout window.laid image half gives.gate bytes entries two window.same window.stands.body;
      closed = closed-poured found.layout window.laid image half gives.gate next entries two (omega arith) window.follows.fits window.same window.stands.closed;
      takes = record {
        entries_told = entries;
        spells = window.follows.spells;
        goes_on = window.follows.goes_on;
        entries_kept = kept;
        kept = are;
        after_is = refl;
        room = window.follows.room kept (AreKept-part image found.layout entries kept are);
      };
    }

-- So it reads as the store behind those that are kept.
pub Reads-kept : (pages : ℕ) (base image : Image) (found : Found) (gives : Gives pages base found) (bytes : List ℕ) (entries kept : List Entry)
    → InSecondWindow pages base image found gives bytes entries → IsTrue (gate_is_open image (picked (base 0)) gives.gate)
    → AreKept image found.layout entries kept → Reads pages image (Opened (with_frame found entries kept))
Reads-kept pages base image found gives bytes entries kept window opened are =
    Reads-further pages base image found gives bytes (with_frame found entries kept) window.whole
    (HasFurther-opened pages base image found gives bytes entries kept window opened are)
    (HasPlaces-behind found.layout found.states entries kept window.follows.places (AreKept-part image found.layout entries kept are))

-- In the second window it reads with these once the gate is open.
pub Reads-opened : (pages : ℕ) (base image : Image) (found : Found) (gives : Gives pages base found) (bytes : List ℕ) (entries : List Entry)
    → InSecondWindow pages base image found gives bytes entries → IsTrue (gate_is_open image (picked (base 0)) gives.gate) → ReadsKept pages image found entries
Reads-opened pages base image found gives bytes entries window opened =
    let some = AreKept-some image found.layout entries in
    (some.0, some.1, Reads-kept pages base image found gives bytes entries some.0 window opened some.1)

-- So each image of that window reads as before, or with exactly these.
pub Reads-second : (pages : ℕ) (base image : Image) (found : Found) (gives : Gives pages base found) (bytes : List ℕ) (entries : List Entry)
    → InSecondWindow pages base image found gives bytes entries → Reads pages image (Opened found) ⊎ ReadsKept pages image found entries
Reads-second pages base image found gives bytes entries window =
    elim (cases_Bool (gate_is_open image (picked (base 0)) gives.gate)) [
      | inl opened ↦ inr (Reads-opened pages base image found gives bytes entries window opened)
      | inr closed ↦ inl (Reads-closed pages base image found gives bytes entries window closed)
    ]

-- entries that all verify are all kept
pub AreKept-all : (image : Image) (layout : Layout) (entries : List Entry) → All (DoesVerify image layout) entries → AreKept image layout entries entries
AreKept-all image layout [] verify = refl
AreKept-all image layout (entry ∷ entries) verify =
    inl (
      All-head (DoesVerify image layout) entry entries verify,
      (entries, refl, AreKept-all image layout entries (All-tail (DoesVerify image layout) entry entries verify)),
    )

-- Behind that window, with the gate open, it reads with all the entries where each verifies.
pub Reads-all : (pages : ℕ) (base image : Image) (found : Found) (gives : Gives pages base found) (bytes : List ℕ) (entries : List Entry)
    → InSecondWindow pages base image found gives bytes entries → IsTrue (gate_is_open image (picked (base 0)) gives.gate)
    → All (DoesVerify image found.layout) entries → Reads pages image (Opened (with_frame found entries entries))
Reads-all pages base image found gives bytes entries window opened verify =
    Reads-kept pages base image found gives bytes entries entries window opened (AreKept-all image found.layout entries verify)

-- There the reading starts as before, the body stands behind the others, and the first closed gate is the next one.
pub opened-found_by : (pages : ℕ) (base image : Image) (found : Found) (gives : Gives pages base found) (bytes : List ℕ) (entries kept : List Entry)
    → InSecondWindow pages base image found gives bytes entries → IsTrue (gate_is_open image (picked (base 0)) gives.gate)
    → AreKept image found.layout entries kept → (again : Gives pages image (with_frame found entries kept))
    → IsFoundBy pages image (with_frame found entries kept) again gives.start (gives.bodies ++ further_body gives.gate bytes ∷ []) (next_gate gives.gate (length bytes))
opened-found_by pages base image found gives bytes entries kept window opened are again =
    HasFurther-found_by pages base image found gives bytes (with_frame found entries kept) window.whole
    (HasFurther-opened pages base image found gives bytes entries kept window opened are) again

-- And the last frame lost no entry where each verifies, so the next group may be committed in the same way.
pub opened-lossless : (pages : ℕ) (base image : Image) (found : Found) (gives : Gives pages base found) (bytes : List ℕ) (entries : List Entry)
    → InSecondWindow pages base image found gives bytes entries → IsTrue (gate_is_open image (picked (base 0)) gives.gate)
    → All (DoesVerify image found.layout) entries → (again : Gives pages image (with_frame found entries entries))
    → LosesNone image again.start.layout again.bodies
unfolding HasFurther-opened
opened-lossless pages base image found gives bytes entries window opened verify again =
    let are : AreKept image found.layout entries entries = AreKept-all image found.layout entries verify in
    let further : HasFurther pages base image found gives bytes (with_frame found entries entries) =
    HasFurther-opened pages base image found gives bytes entries entries window opened are in
    let by = opened-found_by pages base image found gives bytes entries entries window opened are again in
    subst (λ (start : Found). LosesNone image start.layout again.bodies) (sym by.start_is)
    (subst (λ (bodies : List StoredBody). LosesNone image gives.start.layout bodies) (sym by.bodies_are)
    (LosesNone-further pages base image found gives bytes (with_frame found entries entries) further refl))
