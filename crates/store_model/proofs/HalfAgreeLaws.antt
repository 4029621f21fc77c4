-- A half is found alike on each image that has its header and the pages of its tuples alike, and so are the bodies of its log
-- where the pages before its first closed gate are alike.
use Rattle.std.proofs.Common.{◌≡◌, ℕ, ◌+◌, ◌-◌, ◌<◌, ◌≤◌, List, [], ◌∷◌, ◌++◌, length, take, drop, false, refl, sym, ap, ◌∙◌, subst, arith, inl, inr}
use Rattle.std.specs.FinMap.{FinMap}
use Rattle.std.proofs.lemmas.List.{take-append-drop, take_at}
use Rattle.store_model.specs.Dependence.{IsHalfPage}
use Rattle.store_model.specs.Disk.{HasPages, Image, area_of}
use Rattle.store_model.specs.Half.{tuples_spelling}
use Rattle.store_model.specs.HalfRefusals.{FindsHalf}
use Rattle.store_model.specs.Key.{key_order}
use Rattle.store_model.specs.Layout.{Layout, header_page, states_page}
use Rattle.store_model.specs.Log.{at_log, body_pages, is_open, log_pages}
use Rattle.store_model.specs.LogReading.{AreBodies, HasBodies, IsBodyAt, StoredBody, gate_is_open, next_gate}
use Rattle.store_model.specs.State.{State}
use Rattle.store_model.proofs.AreaAgreeLaws.{take-area-agree}

-- A half is found alike where its header and the pages that its tuples lie on are the same.
pub FindsHalf-agree : (pages : ℕ) (image other : Image) (half : ℕ) (layout : Layout) (last : ℕ) (states : FinMap key_order State) → HasPages image
    → ((p : ℕ) → IsHalfPage layout (length (tuples_spelling states)) half p → other p ≡ image p)
    → FindsHalf pages image half layout last states → FindsHalf pages other half layout last states
FindsHalf-agree pages image other half layout last states whole same finds =
    let tuples : List ℕ = tuples_spelling states in
    let count : ℕ = length tuples in
    let first : ℕ = states_page layout half in
    let area : List ℕ = area_of other first layout.room in
    let read : take count area ≡ tuples =
    take-area-agree image other first (body_pages count) layout.room count whole (omega (arith, finds.spells.half.room)) (omega arith)
    (λ k below. same (first + k) (inr (record { from = omega arith; to = omega (arith, below) })))
    ∙ ap (λ (xs : List ℕ). take count xs) finds.spells.area_is
    ∙ take_at tuples finds.spells.area_rest count refl in
    record {
      fits = finds.fits;
      spells = record {
        half = finds.spells.half;
        header_rest = finds.spells.header_rest;
        header_is = same (header_page half) (inl refl) ∙ finds.spells.header_is;
        area_rest = drop count area;
        area_is = sym (take-append-drop count area) ∙ ap (λ (xs : List ℕ). xs ++ drop count area) read;
      };
    }

-- A body stands alike where the pages behind its gate, up to the next one, are the same.
pub IsBodyAt-agree : (image other : Image) (half gate : ℕ) (bytes : List ℕ) → HasPages image
    → ((i : ℕ) → gate < i → i < next_gate gate (length bytes) → other (at_log half i) ≡ image (at_log half i))
    → IsBodyAt image half gate bytes → IsBodyAt other half gate bytes
IsBodyAt-agree image other half gate bytes whole same body =
    let count : ℕ = length bytes in
    let first : ℕ = at_log half (gate + 1) in
    record {
      front = body.front;
      least = body.least;
      room = body.room;
      stand =
          take-area-agree image other first (body_pages count) (log_pages - 1 - gate) count whole (omega (arith, body.room)) (omega arith)
          (λ k below. subst (λ (p : ℕ). other p ≡ image p) (let e : at_log half (gate + 1 + k) ≡ first + k = omega arith in e)
          (same (gate + 1 + k) (omega arith) (omega (arith, below))))
          ∙ body.stand;
    }

-- bodies end behind where they begin
pub AreBodies-reach : (image : Image) (half from : ℕ) (bodies : List StoredBody) (to : ℕ) → AreBodies image half from bodies to → from ≤ to
AreBodies-reach image half from [] to are = omega (arith, are)
AreBodies-reach image half from (body ∷ bodies) to are =
    omega (arith, AreBodies-reach image half (next_gate from (length body.bytes)) bodies to are.3)

-- Bodies stand alike where the pages from the first gate on, up to the last one, are the same.
pub AreBodies-agree : (image other : Image) (half from : ℕ) (bodies : List StoredBody) (to : ℕ) → HasPages image
    → ((i : ℕ) → i < to → other (at_log half i) ≡ image (at_log half i)) → AreBodies image half from bodies to → AreBodies other half from bodies to
AreBodies-agree image other half from [] to whole same are = are
AreBodies-agree image other half from (body ∷ bodies) to whole same are =
    let next : ℕ = next_gate from (length body.bytes) in
    let reach : next ≤ to = AreBodies-reach image half next bodies to are.3 in (
      are.0,
      ap is_open (same from (omega (arith, reach))) ∙ are.1,
      IsBodyAt-agree image other half from body.bytes whole (λ i past below. same i (omega (arith, below, reach))) are.2,
      AreBodies-agree image other half next bodies to whole same are.3,
    )

-- A log has the same bodies where the pages before its first closed gate are the same, and that gate is closed.
pub HasBodies-agree : (image other : Image) (half : ℕ) (bodies : List StoredBody) (gate : ℕ) → HasPages image
    → ((i : ℕ) → i < gate → other (at_log half i) ≡ image (at_log half i)) → gate_is_open other half gate ≡ false
    → HasBodies image half bodies gate → HasBodies other half bodies gate
HasBodies-agree image other half bodies gate whole same closed log = record {
  are = AreBodies-agree image other half 0 bodies gate whole same log.are;
  within = log.within;
  closed = closed;
}
