-- A turn to a half that is written anew.
use Rattle.std.specs.Prelude.{ℕ, ◌≡◌, ◌⊎◌, false, IsTrue}
use Rattle.std.specs.FinMap.{FinMap}
use Rattle.check_point.specs.Writers.{IsOfHalf}
use Rattle.disk_model.specs.Disks.{OnlyReads, OnlyWrites}
use Rattle.disk_model.specs.declared.disk.Disk.{Ghosts}
use Rattle.store_model.specs.Disk.{Image, SameOff, area_of, zero_page}
use Rattle.store_model.specs.Half.{SpellsHalf, picked}
use Rattle.store_model.specs.Images.{Settled, Story}
use Rattle.store_model.specs.Key.{key_order}
use Rattle.store_model.specs.Layout.{Layout, header_page, log_page, states_page}
use Rattle.store_model.specs.LogReading.{gate_is_open}
use Rattle.store_model.specs.Reading.{Found, Opened, Reads}
use Rattle.store_model.specs.State.{State}

-- a store of these states
abbrev pub found_by : Layout → ℕ → FinMap key_order State → Found
found_by layout last states = record { layout = layout; last = last; states = states }

-- a page that a turn to a half may write: one of the half's, or the selector
abbrev pub IsTurnPage : Layout → ℕ → ℕ → Type 0
IsTurnPage layout half p = IsOfHalf layout half p ⊎ (p ≡ 0)

-- A disk is behind a turn to a half: a crash leaves what it reads as, its selector picks the half, and the first gate of the half's
-- log is closed.
pub record IsTurned (story : Story) (half : ℕ) : Type 0 where
  pub settled : Settled story
  pub picks : picked (story.reads 0) ≡ half
  pub closed : gate_is_open story.reads half 0 ≡ false

-- A half holds these states and a log of no bodies.
pub record HalfStands (image : Image) (layout : Layout) (half last : ℕ) (states : FinMap key_order State) : Type 0 where
  pub spells : SpellsHalf (image (header_page half)) (area_of image (states_page layout half) layout.room) layout last states
  pub gate : image (log_page half) ≡ zero_page

-- What a turn to a half with these states may have written, at whatever moment it ended: in its first window the half's pages; and where that
-- window was closed by a sync, and the half holds the states, the selector in the second.
pub record InTurn {D : Type 0} (g : Ghosts D) (layout : Layout) (half last : ℕ) (states : FinMap key_order State) (old new : D) : Type 0 where
  pub mid : D
  pub first : OnlyWrites g (IsOfHalf layout half) old mid
  pub second : OnlyReads g mid new
      ⊎ ((IsTrue g.tells → Settled (g.story mid) × HalfStands (g.story mid).reads layout half last states) × OnlyWrites g (λ p. p ≡ 0) mid new)

-- What a crash in a turn leaves: the same store is read, and no page has changed but those of the turn.
pub record ReadsThrough (pages : ℕ) (found : Found) (half : ℕ) (before image : Image) : Type 0 where
  pub reads : Reads pages image (Opened found)
  pub same : SameOff (IsTurnPage found.layout half) before image
