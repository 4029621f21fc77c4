-- What is found on a disk that is opened.
use Rattle.std.specs.Prelude.{ℕ, ◌≡◌, ◌⊎◌, ◌+◌, ◌-◌, ◌≤◌, ◌<◌}
use Rattle.disk_model.specs.Disks.{OnlyReads}
use Rattle.disk_model.specs.declared.disk.Disk.{Ghosts}
use Rattle.recover.specs.Turns.{ReadsThrough}
use Rattle.recover.specs.declared.opening.Found.{Found}
use Rattle.store_model.specs.Disk.{Calls, Image}
use Rattle.store_model.specs.Half.{IsHalf, picked}
use Rattle.store_model.specs.HalfRefusals.{FindsHalf}
use Rattle.store_model.specs.Images.{Settled, time_of}
use Rattle.store_model.specs.Layout.{data_page, total_pages}
use Rattle.store_model.specs.Log.{body_pages}
use Rattle.store_model.specs.Reading as reading
use Rattle.store_model.specs.Reading.{blocks_of_states}
use Rattle.store_model.specs.Space.{Apart}

-- the store that was found
abbrev pub found_of : Found → reading.Found
found_of found = record { layout = found.layout; last = found.last; states = found.relation.states }

-- It fits a disk of so many pages, its states are those that a half may have, no page is owned twice, and its log is at its start.
pub record IsFound (pages : ℕ) (found : Found) : Type 0 where
  pub fits : total_pages found.layout ≤ pages
  pub half : IsHalf found.layout found.last found.relation.states
  pub apart : Apart (blocks_of_states found.relation.states)
  pub log : found.log ≡ record { layout = found.layout; half = found.log.half; gate = 0; next = 0 }

-- a page before the data area of the layout that the picked half tells
pub record IsMetadata (pages : ℕ) (image : Image) (p : ℕ) : Type 0 where
  pub start : reading.Found
  pub finds : FindsHalf pages image (picked (image 0)) start.layout start.last start.states
  pub before : p < data_page start.layout

-- A disk has taken the writes and syncs of an opening with states of so many bytes: a sync, and a turn. Nothing is said of its reads.
pub record TookOpening (bytes : ℕ) (old new : Calls) : Type 0 where
  pub writes : new.writes ≡ old.writes + (body_pages bytes + 3)
  pub syncs : new.syncs ≡ old.syncs + 3

-- the times from which a run over a disk is spoken of: the return of its first call, and its start, where nothing was pending
abbrev pub BeginsAt : {D : Type 0} → Ghosts D → D → ℕ → Type 0
BeginsAt g old since = (since ≡ time_of (g.calls old) + 1) ⊎ (Settled (g.story old) × (since ≡ (g.story old).time))

-- Whatever a crash left at any moment since then has P.
pub record LeavesFrom {D : Type 0} (g : Ghosts D) (P : Image → Type 0) (since : ℕ) (new : D) : Type 0 where
  pub past : since ≤ (g.story new).time
  pub each : (image : Image) → (g.story new).left since image → P image

-- Whatever a crash left since then reads as this store, its contents whole or not, and no page has changed but those of a turn to the half
-- that the disk hadn't picked.
abbrev pub LeavesFound : {D : Type 0} → Ghosts D → D → reading.Found → ℕ → D → Type 0
LeavesFound g old found since new =
    LeavesFrom g (ReadsThrough (g.size old) found (1 - picked ((g.story old).reads 0)) (g.story old).reads) since new

-- or the first call, a sync, didn't return well, and nothing was written
abbrev pub MayLeaveFound : {D : Type 0} → Ghosts D → D → reading.Found → ℕ → D → Type 0
MayLeaveFound g old found since new = LeavesFound g old found since new ⊎ (OnlyReads g old new × ((g.story new).time ≤ since))
