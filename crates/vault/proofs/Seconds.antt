-- The second window of a commit: the contents are poured, and the gate is opened.
use Rattle.std.proofs.Common.{◌≡◌, ℕ, ◌+◌, ◌<◌, ◌≤◌, List, inl, inr, arith}
use Rattle.std.specs.List.{All}
use Rattle.std.specs.Prelude.{slice_index_or}
use Rattle.disk_model.specs.Disks.{OnlyWrites}
use Rattle.disk_model.specs.declared.disk.Disk.{Ghosts}
use Rattle.disk_model.proofs.DiskLaws.{OnlyWrites-more, OnlyWrites-wider}
use Rattle.store_model.specs.Disk.{Image, SameOff}
use Rattle.store_model.specs.Holds.{place_of}
use Rattle.store_model.specs.Layout.{Layout, data_page}
use Rattle.store_model.specs.Log.{IsLogPage, at_log}
use Rattle.store_model.proofs.HeldLaws.{ObjectStands-off}
use Rattle.vault.specs.Pours.{IsPourPage, IsSecondPage, Pour, Poured}

-- What was poured stays where no page of the data area changes.
pub poured-off : (layout : Layout) (pours : List Pour) (old new : Image) → ((p : ℕ) → data_page layout ≤ p → new p ≡ old p)
    → All (Poured old layout) pours → All (Poured new layout) pours
poured-off layout pours old new same before k d less =
    let pour = slice_index_or pours k d in
    ObjectStands-off old new (data_page layout) (record { content = pour.1; number = pour.0.born; place = place_of pour.0 })
    (λ at owned. same (data_page layout + at) (omega arith)) (before k d less)

-- the page of a gate, alone
pub gate-alone : (half gate p : ℕ) → IsLogPage half gate 1 p → p ≡ at_log half gate
gate-alone half gate p page = omega (arith, page.is, page.below)

-- a gate stands before the data area
pub gate-before : (layout : Layout) (half gate p : ℕ) → half < 2 → gate ≤ 511 → IsLogPage half gate 1 p → data_page layout ≤ p → ⊥
gate-before layout half gate p two most page past = omega (arith, page.is, page.below, two, most, past)

-- What was poured stays as the gate is opened.
pub poured-opened : (layout : Layout) (pours : List Pour) (half gate : ℕ) (old new : Image) → half < 2 → gate ≤ 511 → SameOff (IsLogPage half gate 1) old new
    → All (Poured old layout) pours → All (Poured new layout) pours
poured-opened layout pours half gate old new two most same =
    poured-off layout pours old new (λ p past. same p (λ page. gate-before layout half gate p two most page past))

module _ {D : Type 0} (g : Ghosts D) (layout : Layout) (pours : List Pour) (half gate : ℕ) where
  -- the contents alone
  pub second-poured : (old new : D) → OnlyWrites g (IsPourPage layout pours) old new → OnlyWrites g (IsSecondPage layout pours half gate) old new
  second-poured old new wrote = OnlyWrites-wider g (IsPourPage layout pours) (IsSecondPage layout pours half gate) old new (λ p here. inl here) wrote

  -- and then the gate
  pub second-opened : (old mid new : D) → OnlyWrites g (IsPourPage layout pours) old mid → OnlyWrites g (IsLogPage half gate 1) mid new
      → OnlyWrites g (IsSecondPage layout pours half gate) old new
  second-opened old mid new poured opened =
      OnlyWrites-more g (IsLogPage half gate 1) (IsSecondPage layout pours half gate) old mid new (λ p page. inr (gate-alone half gate p page))
      (second-poured old mid poured) opened
