-- Pages that the reading of a store doesn't look at: those of the other half, and those of the data area that no state owns.
use Rattle.std.proofs.Common.{◌≡◌, ℕ, zero, suc, ◌+◌, ◌-◌, ◌*◌, ◌<◌, ◌≤◌, length, inl, inr, refl, ap, arith}
use Rattle.store_model.specs.Dependence.{IsContentPage, IsFreePage, IsHalfPage, IsLookedAt, IsOtherHalfPage, LosesNone}
use Rattle.store_model.specs.Disk.{Image, page_bytes}
use Rattle.store_model.specs.Half.{picked, tuples_spelling}
use Rattle.store_model.specs.Images.{Within}
use Rattle.store_model.specs.Layout.{Layout, data_page, states_page}
use Rattle.store_model.specs.Log.{IsLogPage, body_pages, log_pages}
use Rattle.store_model.specs.Reading.{Gives, Found, blocks_of_states}
use Rattle.store_model.specs.Space.{owners}
use Rattle.store_model.proofs.HeldLaws.{IsPoured-owned}
use Rattle.store_model.proofs.LastSetLaws.{TakesEach-set, owners-states}
use Rattle.store_model.proofs.OffLaws.{picked-half, poured-data}
use Rattle.store_model.proofs.ReadingOneLaws.{start-small}

-- the pages that a half's tuples lie on stand before the data area
tuples-below : (layout : Layout) (bytes half p : ℕ) → half ≤ 1 → bytes ≤ page_bytes * layout.room → Within (states_page layout half) (body_pages bytes) p
    → p < data_page layout
tuples-below layout bytes zero p two room tuples = omega (arith, tuples.to, room)
tuples-below layout bytes (suc zero) p two room tuples = omega (arith, tuples.to, room)
tuples-below layout bytes (suc (suc half)) p two room tuples = absurd (omega (arith, two))

-- so a page from there on is none that a half looks at, nor one of its log
data-half : (layout : Layout) (bytes half p : ℕ) → half ≤ 1 → bytes ≤ page_bytes * layout.room → data_page layout ≤ p → IsHalfPage layout bytes half p → ⊥
data-half layout bytes half p two room past (inl header) = omega (arith, header, past, two)
data-half layout bytes half p two room past (inr tuples) = omega (arith, tuples-below layout bytes half p two room tuples, past)

data-log : (layout : Layout) (half gate p : ℕ) → half ≤ 1 → gate ≤ log_pages - 1 → data_page layout ≤ p → IsLogPage half 0 (gate + 1) p → ⊥
data-log layout half gate p two within past log = omega (arith, log.is, log.below, within, past, two)

-- A page of the data area that no state owns isn't looked at, where the last frame lost no entry.
pub IsFreePage-unseen : (pages : ℕ) (image : Image) (found : Found) (gives : Gives pages image found) (p : ℕ) → LosesNone image gives.start.layout gives.bodies
    → IsLookedAt pages image found gives p → IsFreePage gives.start.layout (blocks_of_states found.states) p → ⊥
IsFreePage-unseen pages image found gives p lossless looked free =
    let layout : Layout = gives.start.layout in
    let half : ℕ = picked (image 0) in
    let two : half ≤ 1 = picked-half (image 0) in
    let past : data_page layout ≤ p = omega (arith, free.is) in
    elim looked [
      | inl selector ↦ omega (arith, selector, past)
      | inr others ↦ elim others [
        | inl states ↦ data-half layout (length (tuples_spelling gives.start.states)) half p two gives.finds.spells.half.room past states
        | inr more ↦ elim more [
          | inl log ↦ data-log layout half gives.gate p two gives.log.within past log
          | inr content ↦ (
              let is : IsContentPage layout content.0 p = content.1.1 in
              let owned = IsPoured-owned layout is.state 0 p is.poured in
              let there = TakesEach-set image layout gives.start gives.bodies found content.0 is.entry is.key is.state refl
              (start-small pages image half gives.start gives.finds) lossless gives.takes content.1.0 is.among is.sets in
              let same : owned.0 ≡ free.at = omega (arith, owned.1, free.is) in
              omega (arith, owned.2, owners-states found.states is.key is.state owned.0 there, ap (λ (at : ℕ). owners (blocks_of_states found.states) at) same, free.free)
              )
        ]
      ]
    ]

-- the halves have no page in common
halves-apart : (layout : Layout) (bytes half p : ℕ) → half ≤ 1 → bytes ≤ page_bytes * layout.room → IsHalfPage layout bytes half p → IsOtherHalfPage layout half p → ⊥
halves-apart layout bytes half p two room (inl header) (inl there) = omega (arith, header, there, two)
halves-apart layout bytes half p two room (inl header) (inr (inl log)) = omega (arith, header, log.is, two)
halves-apart layout bytes half p two room (inl header) (inr (inr states)) = omega (arith, header, states.from, two)
halves-apart layout bytes half p two room (inr tuples) (inl there) = omega (arith, tuples.from, there, two)
halves-apart layout bytes half p two room (inr tuples) (inr (inl log)) = omega (arith, tuples.from, log.is, log.below, two)
halves-apart layout bytes zero p two room (inr tuples) (inr (inr states)) = omega (arith, tuples.to, room, states.from)
halves-apart layout bytes (suc zero) p two room (inr tuples) (inr (inr states)) = omega (arith, tuples.from, states.to)
halves-apart layout bytes (suc (suc half)) p two room (inr tuples) (inr (inr states)) = omega (arith, two)

logs-apart : (layout : Layout) (half gate p : ℕ) → half ≤ 1 → gate ≤ log_pages - 1 → IsLogPage half 0 (gate + 1) p → IsOtherHalfPage layout half p → ⊥
logs-apart layout half gate p two within log (inl there) = omega (arith, log.is, there, two)
logs-apart layout half gate p two within log (inr (inl other)) = omega (arith, log.is, log.below, within, other.is, other.below, two)
logs-apart layout half gate p two within log (inr (inr states)) = omega (arith, log.is, log.below, within, states.from, two)

other-below : (layout : Layout) (half p : ℕ) → half ≤ 1 → IsOtherHalfPage layout half p → (0 < p) × (p < data_page layout)
other-below layout half p two (inl there) = (omega (arith, there), omega (arith, there, two))
other-below layout half p two (inr (inl log)) = (omega (arith, log.is), omega (arith, log.is, log.below, two))
other-below layout zero p two (inr (inr states)) = (omega (arith, states.from), omega (arith, states.to))
other-below layout (suc zero) p two (inr (inr states)) = (omega (arith, states.from), omega (arith, states.to))
other-below layout (suc (suc half)) p two (inr (inr states)) = absurd (omega (arith, two))

-- No page of the half that isn't picked is looked at.
pub IsOtherHalfPage-unseen : (pages : ℕ) (image : Image) (found : Found) (gives : Gives pages image found) (p : ℕ) → IsLookedAt pages image found gives p
    → IsOtherHalfPage gives.start.layout (picked (image 0)) p → ⊥
IsOtherHalfPage-unseen pages image found gives p looked other =
    let layout : Layout = gives.start.layout in
    let half : ℕ = picked (image 0) in
    let two : half ≤ 1 = picked-half (image 0) in
    let below = other-below layout half p two other in
    elim looked [
      | inl selector ↦ omega (arith, selector, below.0)
      | inr others ↦ elim others [
        | inl states ↦ halves-apart layout (length (tuples_spelling gives.start.states)) half p two gives.finds.spells.half.room states other
        | inr more ↦ elim more [
          | inl log ↦ logs-apart layout half gives.gate p two gives.log.within log other
          | inr content ↦ omega (arith, poured-data layout content.1.1.state 0 p content.1.1.poured, below.1)
        ]
      ]
    ]
