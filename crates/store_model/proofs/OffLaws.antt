-- What stands on pages that the reading of a store doesn't look at changes nothing, and so it is with the log area behind the first
-- closed gate.
use Rattle.std.proofs.Common.{◌≡◌, ℕ, ◌+◌, ◌-◌, ◌*◌, ◌<◌, ◌≤◌, true, false, List, take, refl, ap, ◌∙◌, arith, inl, inr}
use Rattle.std.specs.Prelude.{bytes_eq, if◌then◌else◌}
use Rattle.store_model.specs.Dependence.{Agrees, IsBehindGate, IsLookedAt}
use Rattle.store_model.specs.Disk.{HasPages, Image, SameOff}
use Rattle.store_model.specs.Half.{picked, selector_text}
use Rattle.store_model.specs.Holds.{IsPoured}
use Rattle.store_model.specs.Layout.{Layout, data_page}
use Rattle.store_model.specs.Log.{IsLogPage, at_log, is_open, log_pages}
use Rattle.store_model.specs.Reading.{Found, Gives, Opened, Reads}
use Rattle.store_model.specs.State.{State}
use Rattle.store_model.proofs.DependenceLaws.{Gives-agree}

-- An image with other bytes on pages that aren't looked at has all alike that is.
pub Agrees-off : (pages : ℕ) (image other : Image) (found : Found) (gives : Gives pages image found) (off : ℕ → Type 0) → SameOff off image other
    → ((p : ℕ) → IsLookedAt pages image found gives p → off p → ⊥) → Agrees pages image other found gives
Agrees-off pages image other found gives off same unseen =
    let half : ℕ = picked (image 0) in
    let log : (i : ℕ) → i < gives.gate + 1 → other (at_log half i) ≡ image (at_log half i) =
    λ i below. same (at_log half i) (unseen (at_log half i) (inr (inr (inl (record { at = i; below = below; is = omega arith }))))) in
    record {
      before = record {
        selector = same 0 (unseen 0 (inl refl));
        half = λ p is. same p (unseen p (inr (inl is)));
        log = λ i below. log i (omega (arith, below));
      };
      closed = ap is_open (log gives.gate (omega arith)) ∙ gives.log.closed;
      contents = λ entries p last is. same p (unseen p (inr (inr (inr (entries, (last, is))))));
    }

-- It tells the same store.
pub Gives-off : (pages : ℕ) (image other : Image) (found : Found) (gives : Gives pages image found) (off : ℕ → Type 0) → HasPages image → SameOff off image other
    → ((p : ℕ) → IsLookedAt pages image found gives p → off p → ⊥) → Gives pages other found
Gives-off pages image other found gives off whole same unseen =
    Gives-agree pages image other found gives whole (Agrees-off pages image other found gives off same unseen)

pub Reads-off : (pages : ℕ) (image other : Image) (found : Found) (reads : Reads pages image (Opened found)) (off : ℕ → Type 0) → HasPages image
    → SameOff off image other → ((p : ℕ) → IsLookedAt pages image found reads.0 p → off p → ⊥) → Reads pages other (Opened found)
Reads-off pages image other found reads off whole same unseen = (Gives-off pages image other found reads.0 off whole same unseen, reads.1)

-- there are two halves
pub picked-half : (page : List ℕ) → picked page ≤ 1
picked-half page = elim (bytes_eq (take 8 page) selector_text) as (λ one. (if one then 1 else 0) ≤ 1) [
  | true ↦ omega arith
  | false ↦ omega arith
]

-- the pages of a content lie in the data area
pub poured-data : (layout : Layout) (state : State) (from p : ℕ) → IsPoured layout state from p → data_page layout ≤ p
poured-data layout state from p (inl full) = omega (arith, full.is)
poured-data layout state from p (inr tail) = omega (arith, tail.is)

-- The log area behind the first closed gate isn't looked at.
pub IsBehindGate-unseen : (pages : ℕ) (image : Image) (found : Found) (gives : Gives pages image found) (p : ℕ) → IsLookedAt pages image found gives p
    → IsBehindGate pages image found gives p → ⊥
IsBehindGate-unseen pages image found gives p looked behind =
    let half : ℕ = picked (image 0) in
    let two : half ≤ 1 = picked-half (image 0) in
    let low : p < 1027 = omega (arith, behind.is, behind.below, two) in
    let high : 3 + 512 * half < p = omega (arith, behind.is) in
    elim looked [
      | inl selector ↦ omega (arith, selector, high)
      | inr others ↦ elim others [
        | inl states ↦ elim states [
          | inl header ↦ omega (arith, header, high)
          | inr tuples ↦ omega (arith, tuples.from, low)
        ]
        | inr more ↦ elim more [
          | inl log ↦ omega (arith, log.is, log.below, behind.is)
          | inr content ↦
              omega (arith, poured-data gives.start.layout content.1.1.state 0 p content.1.1.poured, low)
        ]
      ]
    ]

-- Each of its pages is named by its number there, and so are some of them, one behind the other.
pub IsBehindGate-at : (pages : ℕ) (image : Image) (found : Found) (gives : Gives pages image found) (i : ℕ) → gives.gate < i → i ≤ log_pages - 1
    → IsBehindGate pages image found gives (at_log (picked (image 0)) i)
IsBehindGate-at pages image found gives i past within =
    record { at = i - (gives.gate + 1); below = omega (arith, past, within); is = omega (arith, past) }

pub IsBehindGate-part : (pages : ℕ) (image : Image) (found : Found) (gives : Gives pages image found) (from count p : ℕ) → gives.gate < from
    → from + count ≤ log_pages → IsLogPage (picked (image 0)) from count p → IsBehindGate pages image found gives p
IsBehindGate-part pages image found gives from count p past within log =
    record { at = from - (gives.gate + 1) + log.at; below = omega (arith, past, within, log.below); is = omega (arith, past, log.is) }

-- Whatever stands in the log area behind the first closed gate, the disk tells the same store, and reads as it.
pub Gives-behind_gate : (pages : ℕ) (image other : Image) (found : Found) (gives : Gives pages image found) → HasPages image
    → SameOff (IsBehindGate pages image found gives) image other → Gives pages other found
Gives-behind_gate pages image other found gives whole same =
    Gives-off pages image other found gives (IsBehindGate pages image found gives) whole same (IsBehindGate-unseen pages image found gives)

pub Reads-behind_gate : (pages : ℕ) (image other : Image) (found : Found) (reads : Reads pages image (Opened found)) → HasPages image
    → SameOff (IsBehindGate pages image found reads.0) image other → Reads pages other (Opened found)
Reads-behind_gate pages image other found reads whole same = (Gives-behind_gate pages image other found reads.0 whole same, reads.1)
