-- The windows of a commit write no page of the data area but those of the contents.
use Rattle.std.proofs.Common.{◌≡◌, ℕ, zero, suc, ◌+◌, ◌-◌, ◌<◌, ◌≤◌, IsTrue, List, [], ◌∷◌, length, inl, inr, ap, sym, ◌∙◌, subst, arith}
use Rattle.std.proofs.lemmas.Bool.{cases_lt}
use Rattle.std.proofs.lemmas.List.Elements.{Contains-append_left, Contains-append_right}
use Rattle.disk_model.specs.Disks.{OnlyWrites}
use Rattle.disk_model.specs.declared.disk.Disk.{Ghosts}
use Rattle.disk_model.proofs.DiskLaws.{OnlyWrites-more, OnlyWrites-wider}
use Rattle.recover.specs.Turns.{IsTurnPage}
use Rattle.store_model.specs.Holds.{place_of}
use Rattle.store_model.specs.Layout.{Layout, data_page, data_pages, states_page}
use Rattle.store_model.specs.Log.{body_pages}
use Rattle.store_model.specs.Space.{AreBlocks, Block, IsOwnedPage, blocks_of, owners}
use Rattle.store_model.specs.Windows.{IsBodyPage}
use Rattle.vault.specs.Leads.{IsLeadPage}
use Rattle.vault.specs.Pours.{IsPourPage, IsSecondPage, Pour, pour_blocks}
use Rattle.store_model.proofs.HeldLaws.{IsPoured-page}
use Rattle.store_model.proofs.PlaceLaws.{owners-append}
use Rattle.vault.specs.Vaults.{InWindows}
use Rattle.vault.specs.declared.memory.Memory.{Memory}
use Rattle.vault.proofs.Pourings.{pour_page-owned}
use Rattle.vault.proofs.Turnings.{turned-wrote}

-- no page of a half's states is one of the data area
states-before : (layout : Layout) (half p : ℕ) → half ≤ 1 → p < states_page layout half + layout.room → data_page layout ≤ p → ⊥
states-before layout zero p two to past = omega (arith, to, past)
states-before layout (suc zero) p two to past = omega (arith, to, past)
states-before layout (suc (suc n)) p two to past = omega (arith, two)

-- nor is one of a turn
pub turn-before : (layout : Layout) (half p : ℕ) → half ≤ 1 → data_page layout ≤ p → IsTurnPage layout half p → ⊥
turn-before layout half p two past (inr is) = omega (arith, is, past)
turn-before layout half p two past (inl (inl inside)) = states-before layout half p two inside.to past
turn-before layout half p two past (inl (inr (inl header))) = omega (arith, header, past, two)
turn-before layout half p two past (inl (inr (inr gate))) = omega (arith, gate, past, two)

-- nor is one of a body
pub body-before : (layout : Layout) (half gate p : ℕ) (bytes : List ℕ) → half < 2 → gate + 1 + body_pages (length bytes) ≤ 511 → data_page layout ≤ p
    → IsBodyPage half gate bytes p → ⊥
body-before layout half gate p bytes two fits past page = omega (arith, page.is, page.below, two, fits, past)

-- and of the second window only those are that contents are poured to
second-owned : (layout : Layout) (pours : List Pour) (half gate at : ℕ) → half < 2 → gate ≤ 511 → owners (pour_blocks pours) at ≡ 0
    → IsSecondPage layout pours half gate (data_page layout + at) → ⊥
second-owned layout pours half gate at two most free (inl page) =
    let there = pour_page-owned layout pours (data_page layout + at) page in
    let here : there.0 ≡ at = omega (arith, there.1) in
    let owned : 1 ≤ owners (pour_blocks pours) at = subst (λ (n : ℕ). 1 ≤ owners (pour_blocks pours) n) here there.2 in
    omega (arith, owned, free)
second-owned layout pours half gate at two most free (inr is) = omega (arith, is, two, most)

module _ {D : Type 0} (g : Ghosts D) (before : Memory) (bytes : List ℕ) (pours : List Pour) (old new : D) (windows : InWindows g before bytes pours old new) where
  -- So each page of the data area that the contents' blocks don't own reads as before.
  pub InWindows-off : IsTrue g.tells → (at : ℕ) → owners (pour_blocks pours) at ≡ 0
      → (g.story new).reads (data_page before.layout + at) ≡ (g.story old).reads (data_page before.layout + at)
  InWindows-off tells at free =
      let first = windows.first in
      let p : ℕ = data_page before.layout + at in
      let past : data_page before.layout ≤ p = omega arith in
      let most : first.gate ≤ 511 = omega (arith, first.fits) in
      let late : (g.story new).reads p ≡ (g.story windows.mid).reads p =
      elim windows.second [
        | inl same ↦ ap (λ (disk : D). (g.story disk).reads p) same
        | inr (settled, wrote) ↦ (wrote.wrote tells).reads p (second-owned before.layout pours first.half first.gate at first.two most free)
      ] in
      late
      ∙ (first.wrote.wrote tells).reads p (body-before before.layout first.half first.gate p bytes first.two first.fits past)
      ∙ ((turned-wrote g old first.base before first.turned).wrote tells).reads p (turn-before before.layout (1 - before.log.half) p (omega arith) past)

-- each page of contents is one of the data area that their blocks own
pour_page-within : (layout : Layout) (pours : List Pour) (p : ℕ) → AreBlocks (data_pages layout) (pour_blocks pours) → IsPourPage layout pours p
    → IsOwnedPage layout (pour_blocks pours) p
pour_page-within layout [] p within page = absurd page
pour_page-within layout (pour ∷ pours) p within (inl here) =
    let mine : List Block = blocks_of (place_of pour.0) in
    let one = IsPoured-page layout pour.0 0 p (λ block there. within block (Contains-append_left mine (pour_blocks pours) block there)) here in
    record { at = one.at; is = one.is; within = one.within; owned = omega (arith, one.owned, owners-append mine (pour_blocks pours) one.at) }
pour_page-within layout (pour ∷ pours) p within (inr behind) =
    let mine : List Block = blocks_of (place_of pour.0) in
    let one = pour_page-within layout pours p (λ block there. within block (Contains-append_right mine (pour_blocks pours) block there)) behind in
    record { at = one.at; is = one.is; within = one.within; owned = omega (arith, one.owned, owners-append mine (pour_blocks pours) one.at) }

-- a page before the data area, or one of it that these blocks own
pub turn-page : (layout : Layout) (taken : List Block) (half p : ℕ) → half ≤ 1 → IsTurnPage layout half p → IsLeadPage layout taken p
turn-page layout taken half p two page = elim (cases_lt p (data_page layout)) [
  | inl before ↦ inl before
  | inr past ↦ absurd (turn-before layout half p two past page)
]

body_page-lead : (layout : Layout) (taken : List Block) (half gate p : ℕ) (bytes : List ℕ) → half < 2 → gate + 1 + body_pages (length bytes) ≤ 511
    → IsBodyPage half gate bytes p → IsLeadPage layout taken p
body_page-lead layout taken half gate p bytes two fits page = elim (cases_lt p (data_page layout)) [
  | inl before ↦ inl before
  | inr past ↦ absurd (body-before layout half gate p bytes two fits past page)
]

second_page-lead : (layout : Layout) (pours : List Pour) (half gate p : ℕ) → half < 2 → gate ≤ 511 → AreBlocks (data_pages layout) (pour_blocks pours)
    → IsSecondPage layout pours half gate p → IsLeadPage layout (pour_blocks pours) p
second_page-lead layout pours half gate p two most within (inl page) =
    inr (pour_page-within layout pours p within page)
second_page-lead layout pours half gate p two most within (inr is) = inl (omega (arith, is, two, most))

module _ {D : Type 0} (g : Ghosts D) (before : Memory) (bytes : List ℕ) (pours : List Pour) (old new : D) (windows : InWindows g before bytes pours old new) where
  -- So they write no other page than those of a lead.
  pub InWindows-lead : AreBlocks (data_pages before.layout) (pour_blocks pours) → OnlyWrites g (IsLeadPage before.layout (pour_blocks pours)) old new
  InWindows-lead within =
      let first = windows.first in
      let layout : Layout = before.layout in
      let taken : List Block = pour_blocks pours in
      let most : first.gate ≤ 511 = omega (arith, first.fits) in
      let turned : OnlyWrites g (IsLeadPage layout taken) old first.base =
      OnlyWrites-wider g (IsTurnPage layout (1 - before.log.half)) (IsLeadPage layout taken) old first.base
      (λ p page. turn-page layout taken (1 - before.log.half) p (omega arith) page) (turned-wrote g old first.base before first.turned) in
      let laid : OnlyWrites g (IsLeadPage layout taken) old windows.mid =
      OnlyWrites-more g (IsBodyPage first.half first.gate bytes) (IsLeadPage layout taken) old first.base windows.mid
      (λ p page. body_page-lead layout taken first.half first.gate p bytes first.two first.fits page) turned first.wrote in
      elim windows.second [
        | inl same ↦ subst (λ (disk : D). OnlyWrites g (IsLeadPage layout taken) old disk) (sym same) laid
        | inr both ↦
            OnlyWrites-more g (IsSecondPage layout pours first.half first.gate) (IsLeadPage layout taken) old windows.mid new
            (λ p page. second_page-lead layout pours first.half first.gate p first.two most within page) laid both.1
      ]
