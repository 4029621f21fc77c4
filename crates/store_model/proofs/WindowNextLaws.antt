-- What the next step goes on from, where the windows of a commit left the store as it was before: the same start, bodies and gate,
-- and the last frame has lost no entry.
use Rattle.std.proofs.Common.{◌≡◌, ℕ, false, List, sym, subst}
use Rattle.store_model.specs.Dependence.{Agrees, LosesNone}
use Rattle.store_model.specs.Disk.{HasPages, Image, SameOff}
use Rattle.store_model.specs.Frame.{Entry}
use Rattle.store_model.specs.Half.{picked}
use Rattle.store_model.specs.LogReading.{StoredBody, gate_is_open}
use Rattle.store_model.specs.Reading.{Found, Gives}
use Rattle.store_model.specs.Windows.{InSecondWindow, IsBodyPage, MayFollow}
use Rattle.store_model.proofs.DependenceLaws.{Agrees-found_by, IsFoundBy, LosesNone-agree}
use Rattle.store_model.proofs.WindowPageLaws.{Agrees-first, Agrees-second}

-- Where the last frame lost no entry it has lost none on an image that agrees, by whatever the store is found there.
pub LosesNone-again : (pages : ℕ) (image other : Image) (found : Found) (gives : Gives pages image found) → HasPages image → Agrees pages image other found gives
    → LosesNone image gives.start.layout gives.bodies → (again : Gives pages other found) → LosesNone other again.start.layout again.bodies
LosesNone-again pages image other found gives whole agrees lossless again =
    let by = Agrees-found_by pages image other found gives whole agrees again in
    subst (λ (start : Found). LosesNone other start.layout again.bodies) (sym by.start_is)
    (subst (λ (bodies : List StoredBody). LosesNone other gives.start.layout bodies) (sym by.bodies_are)
    (LosesNone-agree pages image other found gives agrees lossless))

-- in the first window
pub first-found_by : (pages : ℕ) (base image : Image) (found : Found) (gives : Gives pages base found) (bytes : List ℕ) (entries : List Entry) → HasPages base
    → MayFollow pages base found gives bytes entries → SameOff (IsBodyPage (picked (base 0)) gives.gate bytes) base image
    → (again : Gives pages image found) → IsFoundBy pages image found again gives.start gives.bodies gives.gate
first-found_by pages base image found gives bytes entries whole follows same again =
    Agrees-found_by pages base image found gives whole (Agrees-first pages base image found gives bytes entries follows same) again

pub first-lossless : (pages : ℕ) (base image : Image) (found : Found) (gives : Gives pages base found) (bytes : List ℕ) (entries : List Entry) → HasPages base
    → MayFollow pages base found gives bytes entries → SameOff (IsBodyPage (picked (base 0)) gives.gate bytes) base image
    → LosesNone base gives.start.layout gives.bodies → (again : Gives pages image found) → LosesNone image again.start.layout again.bodies
first-lossless pages base image found gives bytes entries whole follows same lossless again =
    LosesNone-again pages base image found gives whole (Agrees-first pages base image found gives bytes entries follows same) lossless again

-- and in the second while the gate is closed
pub closed-found_by : (pages : ℕ) (base image : Image) (found : Found) (gives : Gives pages base found) (bytes : List ℕ) (entries : List Entry)
    → InSecondWindow pages base image found gives bytes entries → gate_is_open image (picked (base 0)) gives.gate ≡ false
    → (again : Gives pages image found) → IsFoundBy pages image found again gives.start gives.bodies gives.gate
closed-found_by pages base image found gives bytes entries window closed again =
    Agrees-found_by pages base image found gives window.whole (Agrees-second pages base image found gives bytes entries window closed) again

pub closed-lossless : (pages : ℕ) (base image : Image) (found : Found) (gives : Gives pages base found) (bytes : List ℕ) (entries : List Entry)
    → InSecondWindow pages base image found gives bytes entries → gate_is_open image (picked (base 0)) gives.gate ≡ false
    → (again : Gives pages image found) → LosesNone image again.start.layout again.bodies
closed-lossless pages base image found gives bytes entries window closed again =
    LosesNone-again pages base image found gives window.whole (Agrees-second pages base image found gives bytes entries window closed) window.lossless again
