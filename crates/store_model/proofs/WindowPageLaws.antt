-- The pages that a commit writes in its two windows are none that the reading of the store before looks at, but for the gate.
use Rattle.std.proofs.Common.{◌≡◌, ℕ, ◌+◌, ◌-◌, ◌<◌, ◌≤◌, false, List, length, inl, inr, refl, ap, ◌∙◌, subst, arith}
use Rattle.std.specs.Prelude.{take}
use Rattle.store_model.specs.Dependence.{Agrees, AgreesToGate, IsBehindGate, IsContentPage, IsFreePage, IsHalfPage, IsLookedAt}
use Rattle.store_model.specs.Disk.{Image, SameOff}
use Rattle.store_model.specs.Frame.{Entry}
use Rattle.store_model.specs.Half.{picked, tuples_spelling}
use Rattle.store_model.specs.Layout.{Layout}
use Rattle.store_model.specs.Log.{at_log, body_pages, is_open, log_pages}
use Rattle.store_model.specs.LogReading.{IsBodyAt, behind_gate, gate_is_open}
use Rattle.store_model.specs.Reading.{Found, Gives, KeptIn, blocks_of_states}
use Rattle.store_model.specs.Windows.{InSecondWindow, IsBodyPage, IsPouredPage, MayFollow}
use Rattle.store_model.proofs.AreaAgreeLaws.{pages-agree}
use Rattle.store_model.proofs.FurtherLaws.{TakesEach-layout}
use Rattle.store_model.proofs.OffLaws.{Agrees-off, IsBehindGate-part, IsBehindGate-unseen, picked-half, poured-data}
use Rattle.store_model.proofs.UnseenLaws.{IsFreePage-unseen}
use Rattle.store_model.proofs.WindowBlockLaws.{IsContentPage-free}

-- the layout that is found is the one that the reading starts with
pub found-layout : (pages : ℕ) (image : Image) (found : Found) (gives : Gives pages image found) → found.layout ≡ gives.start.layout
found-layout pages image found gives = TakesEach-layout (KeptIn image gives.start.layout) gives.start gives.bodies found gives.takes

-- The pages of the first window stand behind the first closed gate.
pub IsBodyPage-behind : (pages : ℕ) (base : Image) (found : Found) (gives : Gives pages base found) (bytes : List ℕ) (entries : List Entry) (p : ℕ)
    → MayFollow pages base found gives bytes entries → IsBodyPage (picked (base 0)) gives.gate bytes p → IsBehindGate pages base found gives p
IsBodyPage-behind pages base found gives bytes entries p follows written =
    IsBehindGate-part pages base found gives (gives.gate + 1) (body_pages (length bytes) + 1) p (omega arith) (omega (arith, follows.fits)) written

-- The contents lie on pages of the data area that no found state owns.
pub IsContentPage-apart : (pages : ℕ) (base : Image) (found : Found) (gives : Gives pages base found) (bytes : List ℕ) (entries : List Entry) (p : ℕ)
    → MayFollow pages base found gives bytes entries → IsContentPage found.layout entries p
    → IsFreePage gives.start.layout (blocks_of_states found.states) p
IsContentPage-apart pages base found gives bytes entries p follows content =
    subst (λ (layout : Layout). IsFreePage layout (blocks_of_states found.states) p) (found-layout pages base found gives)
    (IsContentPage-free found.layout found.states entries p follows.places content)

-- a page that is looked at, but for the gate, reads as before
looked-same : (pages : ℕ) (base image : Image) (found : Found) (gives : Gives pages base found) (bytes : List ℕ) (entries : List Entry) (p : ℕ)
    → InSecondWindow pages base image found gives bytes entries → IsLookedAt pages base found gives p → (p ≡ at_log (picked (base 0)) gives.gate → ⊥)
    → image p ≡ base p
looked-same pages base image found gives bytes entries p window looked other =
    window.same p poured
    ∙ window.stands.same p (λ written.
    IsBehindGate-unseen pages base found gives p looked (IsBodyPage-behind pages base found gives bytes entries p window.follows written)) where
      poured : IsPouredPage found.layout (picked (base 0)) gives.gate entries p → ⊥
      poured (inl content) =
          IsFreePage-unseen pages base found gives p window.lossless looked (IsContentPage-apart pages base found gives bytes entries p window.follows content)
      poured (inr gate) = other gate

-- no page of a half is its gate
gate-half : (layout : Layout) (bytes half gate p : ℕ) → half ≤ 1 → gate ≤ log_pages - 1 → IsHalfPage layout bytes half p → p ≡ at_log half gate → ⊥
gate-half layout bytes half gate p two within (inl header) is = omega (arith, header, is, two)
gate-half layout bytes half gate p two within (inr tuples) is = omega (arith, tuples.from, is, two, within)

-- In the first window all is alike that the reading looks at.
pub Agrees-first : (pages : ℕ) (base image : Image) (found : Found) (gives : Gives pages base found) (bytes : List ℕ) (entries : List Entry)
    → MayFollow pages base found gives bytes entries → SameOff (IsBodyPage (picked (base 0)) gives.gate bytes) base image → Agrees pages base image found gives
Agrees-first pages base image found gives bytes entries follows same =
    Agrees-off pages base image found gives (IsBodyPage (picked (base 0)) gives.gate bytes) same (λ p looked written.
    IsBehindGate-unseen pages base found gives p looked (IsBodyPage-behind pages base found gives bytes entries p follows written))

-- In the second all that stands before the gate is.
pub AgreesToGate-second : (pages : ℕ) (base image : Image) (found : Found) (gives : Gives pages base found) (bytes : List ℕ) (entries : List Entry)
    → InSecondWindow pages base image found gives bytes entries → AgreesToGate pages base image found gives
AgreesToGate-second pages base image found gives bytes entries window =
    let half : ℕ = picked (base 0) in
    let two : half ≤ 1 = picked-half (base 0) in
    let same : (p : ℕ) → IsLookedAt pages base found gives p → (p ≡ at_log half gives.gate → ⊥) → image p ≡ base p =
    λ p looked other. looked-same pages base image found gives bytes entries p window looked other in
    record {
      selector = same 0 (inl refl) (λ is. omega (arith, is));
      half = λ p is. same p (inr (inl is)) (gate-half gives.start.layout (length (tuples_spelling gives.start.states)) half gives.gate p two gives.log.within is);
      log = λ i below. same (at_log half i) (inr (inr (inl (record { at = i; below = omega (arith, below); is = omega arith })))) (λ is. omega (arith, is, below));
    }

-- So there too all is alike that the reading looks at, while the gate is closed.
pub Agrees-second : (pages : ℕ) (base image : Image) (found : Found) (gives : Gives pages base found) (bytes : List ℕ) (entries : List Entry)
    → InSecondWindow pages base image found gives bytes entries → gate_is_open image (picked (base 0)) gives.gate ≡ false → Agrees pages base image found gives
Agrees-second pages base image found gives bytes entries window closed =
    let half : ℕ = picked (base 0) in
    let two : half ≤ 1 = picked-half (base 0) in
    record {
      before = AgreesToGate-second pages base image found gives bytes entries window;
      closed = closed;
      contents = λ set p last content.
          looked-same pages base image found gives bytes entries p window (inr (inr (inr (set, (last, content)))))
          (λ is. omega (arith, poured-data gives.start.layout content.state 0 p content.poured, is, two, gives.log.within));
    }

-- The log behind the gate is the same throughout the second window.
behind-same : (layout : Layout) (laid image : Image) (half gate i : ℕ) (entries : List Entry) → half ≤ 1 → gate < i → i ≤ log_pages - 1
    → SameOff (IsPouredPage layout half gate entries) laid image → image (at_log half i) ≡ laid (at_log half i)
behind-same layout laid image half gate i entries two past within same = same (at_log half i) poured where
  poured : IsPouredPage layout half gate entries (at_log half i) → ⊥
  poured (inl content) = omega (arith, poured-data layout content.state 0 (at_log half i) content.poured, two, within)
  poured (inr is) = omega (arith, is, past)

-- So the body stands, and the next gate is closed.
pub IsBodyAt-poured : (layout : Layout) (laid image : Image) (half gate : ℕ) (bytes : List ℕ) (entries : List Entry) → half ≤ 1
    → SameOff (IsPouredPage layout half gate entries) laid image → IsBodyAt laid half gate bytes → IsBodyAt image half gate bytes
IsBodyAt-poured layout laid image half gate bytes entries two same body =
    let area : behind_gate image half gate ≡ behind_gate laid half gate =
    pages-agree laid image (at_log half (gate + 1)) (log_pages - 1 - gate) (λ k below.
    subst (λ (p : ℕ). image p ≡ laid p) (let e : at_log half (gate + 1 + k) ≡ at_log half (gate + 1) + k = omega arith in e)
    (behind-same layout laid image half gate (gate + 1 + k) entries two (omega arith) (omega (arith, below)) same)) in
    record {
      front = body.front;
      least = body.least;
      room = body.room;
      stand = ap (λ (area : List ℕ). take (length bytes) area) area ∙ body.stand;
    }

pub closed-poured : (layout : Layout) (laid image : Image) (half gate next : ℕ) (entries : List Entry) → half ≤ 1 → gate < next → next ≤ log_pages - 1
    → SameOff (IsPouredPage layout half gate entries) laid image → gate_is_open laid half next ≡ false → gate_is_open image half next ≡ false
closed-poured layout laid image half gate next entries two past within same closed =
    ap is_open (behind-same layout laid image half gate next entries two past within same) ∙ closed
