-- A log has bodies up to a closed gate, or lacks one behind an open gate.
use Rattle.std.proofs.Common.{◌≡◌, ℕ, zero, suc, ◌+◌, ◌-◌, ◌<◌, ◌≤◌, ◌⊎◌, ◌^◌, false, inl, inr, List, [], ◌∷◌, length, take, drop, refl, sym, ap, subst, ◌∙◌, arith}
use Rattle.std.specs.Prelude.{IsTrue, ⊤, bytes_eq}
use Rattle.std.specs.Int.{w32, from_be_bytes}
use Rattle.std.proofs.lemmas.Bool.{both_ways, cases_Bool, cases_lt}
use Rattle.std.proofs.lemmas.List.{drop-take, length-take-le}
use Rattle.std.proofs.lemmas.Nat.{from_be_bytes-to_be_bytes_4}
use Rattle.std.proofs.lemmas.Slice.Eq.{bytes_eq-Decides}
use Rattle.store_model.specs.Disk.{HasPages, Image, area_of}
use Rattle.store_model.specs.Field.{told_four}
use Rattle.store_model.specs.Log.{at_log, body_pages, log_pages}
use Rattle.store_model.specs.LogReading.{AreBodies, HasBodies, IsBodyAt, LacksBody, StoredBody, behind_gate, gate_is_open, next_gate}
use Rattle.store_model.proofs.AreaLaws.{length-area}
use Rattle.store_model.proofs.ByteLaws.{AreBytes-area, AreBytes-drop, AreBytes-take, four-low}
use Rattle.store_model.proofs.FieldLaws.{AreBytes}
use Rattle.store_model.proofs.LogReadingLaws.{IsBodyAt-read, IsBodyAt-too_long, IsBodyAt-untold, begin_of, front-same}

-- no body stands behind a gate
abbrev IsNone : Image → ℕ → ℕ → Type 0
IsNone image half gate = (bytes : List ℕ) → IsBodyAt image half gate bytes → ⊥

-- a body, or that none stands there
abbrev AtCase : Image → ℕ → ℕ → Type 0
AtCase image half gate = ((bytes : List ℕ) × IsBodyAt image half gate bytes) ⊎ IsNone image half gate

-- the number that a page tells behind the text
count-told : (page : List ℕ) (count : ℕ) → count < 2 ^ 32 → take 12 page ≡ begin_of count → told_four page 8 ≡ count
count-told page count low begins =
    ap (from_be_bytes w32) (sym (drop-take 8 4 page) ∙ ap (drop 8) begins) ∙ from_be_bytes-to_be_bytes_4 count low

-- a page that begins with the text and a number
begun-case : (image : Image) (half gate count : ℕ) → HasPages image → take 12 (image (at_log half (gate + 1))) ≡ begin_of count → count < 2 ^ 32
    → AtCase image half gate
begun-case image half gate count pages begins low =
    let first : ℕ = at_log half (gate + 1) in
    elim (cases_lt count 13) [
      | inl few ↦ inr (IsBodyAt-untold image half gate pages (λ other least less same.
          omega (arith, few, least, front-same count other low less (sym begins ∙ same))))
      | inr enough ↦ elim (cases_lt (log_pages - 1) (next_gate gate count)) [
        | inl past ↦ inr (IsBodyAt-too_long image half gate count pages begins low past)
        | inr room ↦ (
            let area : List ℕ = area_of image first (body_pages count) in
            let long : length (take count area) ≡ count = length-take-le count area (omega (arith, length-area image first (body_pages count) pages)) in
            inl (take count area, IsBodyAt-read image half gate count (take count area) pages begins enough room long refl)
            )
      ]
    ]

-- A body stands behind a gate, or none does.
IsBodyAt-or_none : (image : Image) (half gate : ℕ) → HasPages image → AtCase image half gate
IsBodyAt-or_none image half gate pages =
    let page : List ℕ = image (at_log half (gate + 1)) in
    let count : ℕ = told_four page 8 in
    let low : count < 2 ^ 32 = four-low (take 4 (drop 8 page)) (AreBytes-take (drop 8 page) 4 (AreBytes-drop page 8 (pages (at_log half (gate + 1))).each)) in
    let decides = bytes_eq-Decides (take 12 page) (begin_of count) in
    elim (cases_Bool (bytes_eq (take 12 page) (begin_of count))) [
      | inl begins ↦ begun-case image half gate count pages (decides.0 begins) low
      | inr other ↦ inr (IsBodyAt-untold image half gate pages (λ told least less same.
          both_ways (bytes_eq (take 12 page) (begin_of count)) other
          (decides.1 (same ∙ ap begin_of (sym (count-told page told less same))))))
    ]

-- The bodies from a gate on, up to a closed one or one that none stands behind.
record LogFrom (image : Image) (half from : ℕ) : Type 0 where
  bodies : List StoredBody
  gate : ℕ
  are : AreBodies image half from bodies gate
  within : gate ≤ log_pages - 1
  end : (gate_is_open image half gate ≡ false) ⊎ (IsTrue (gate_is_open image half gate) × IsNone image half gate)

-- one more body in front
more-log : (image : Image) (half from : ℕ) (bytes : List ℕ) → IsTrue (gate_is_open image half from) → IsBodyAt image half from bytes
    → LogFrom image half (next_gate from (length bytes)) → LogFrom image half from
more-log image half from bytes opened body rest =
    record {
      bodies = record { page = from; bytes = bytes } ∷ rest.bodies;
      gate = rest.gate;
      are = (refl, opened, body, rest.are);
      within = rest.within;
      end = rest.end;
    }

-- no body
end-log : (image : Image) (half from : ℕ) → from ≤ log_pages - 1
    → (gate_is_open image half from ≡ false) ⊎ (IsTrue (gate_is_open image half from) × IsNone image half from) → LogFrom image half from
end-log image half from within end = record { bodies = []; gate = from; are = refl; within = within; end = end }

log-from : (n : ℕ) (image : Image) (half from : ℕ) → HasPages image → from ≤ log_pages - 1 → log_pages - 1 ≤ from + n → LogFrom image half from
log-from zero image half from pages within enough =
    elim (cases_Bool (gate_is_open image half from)) [
      | inr closed ↦ end-log image half from within (inl closed)
      | inl opened ↦ end-log image half from within (inr (opened, λ bytes body. omega (arith, enough, body.room)))
    ]
log-from (suc n) image half from pages within enough =
    elim (cases_Bool (gate_is_open image half from)) [
      | inr closed ↦ end-log image half from within (inl closed)
      | inl opened ↦ elim (IsBodyAt-or_none image half from pages) [
        | inr none ↦ end-log image half from within (inr (opened, none))
        | inl body ↦
            more-log image half from body.0 opened body.1
            (log-from n image half (next_gate from (length body.0)) pages (omega (arith, body.1.room)) (omega (arith, enough)))
      ]
    ]

-- A log has bodies up to a closed gate, or lacks one.
pub HasBodies-or_lacks : (image : Image) (half : ℕ) → HasPages image
    → ((bodies : List StoredBody) × ((gate : ℕ) × HasBodies image half bodies gate))
    ⊎ ((bodies : List StoredBody) × ((gate : ℕ) × LacksBody image half bodies gate))
HasBodies-or_lacks image half pages =
    let log = log-from (log_pages - 1) image half 0 pages (omega arith) (omega arith) in
    elim log.end [
      | inl closed ↦ inl (log.bodies, (log.gate, record { are = log.are; within = log.within; closed = closed }))
      | inr lacks ↦ inr (log.bodies, (log.gate, record { are = log.are; within = log.within; opened = lacks.0; none = lacks.1 }))
    ]

-- The bytes of each body are bytes.
abbrev pub AreOfBytes : List StoredBody → Type 0
AreOfBytes [] = ⊤
AreOfBytes (body ∷ bodies) = AreBytes body.bytes × AreOfBytes bodies

pub AreOfBytes-bodies : (image : Image) (half from : ℕ) (bodies : List StoredBody) (gate : ℕ) → HasPages image → AreBodies image half from bodies gate
    → AreOfBytes bodies
AreOfBytes-bodies image half from [] gate pages are = tt
AreOfBytes-bodies image half from (body ∷ bodies) gate pages are = (
  subst AreBytes are.2.stand
      (AreBytes-take (behind_gate image half from) (length body.bytes) (AreBytes-area image (at_log half (from + 1)) (log_pages - 1 - from) pages)),
  AreOfBytes-bodies image half (next_gate from (length body.bytes)) bodies gate pages are.3,
)
