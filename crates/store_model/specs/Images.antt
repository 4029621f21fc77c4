-- Time and crashes of a disk. Its time is the number of its calls, and the images are what a crash may leave of it.
use Rattle.std.specs.Prelude.{ℕ, ◌+◌, ◌<◌, ◌≤◌, ◌≡◌, ◌⊎◌}
use Rattle.store_model.specs.Disk.{Image, Calls, HasPages, IsPage, SameOff}

-- The sum of the counts of calls.
abbrev pub time_of : Calls → ℕ
time_of calls = calls.reads + calls.writes + calls.syncs

-- The time, what the pages read as, and which images a crash at some moment since a time might have left.
pub record Story : Type 1 where
  pub time : ℕ
  pub reads : Image
  pub left : ℕ → Image → Type 0
  -- a disk as it reads is one of its own images
  pub own : left time reads
  -- a crash since a later time is one since an earlier one
  pub since : (t u : ℕ) (image : Image) → t ≤ u → u ≤ time → left u image → left t image
  -- a crash leaves whole pages
  pub pages : (t : ℕ) (image : Image) → left t image → HasPages image

-- which images a crash now may leave
abbrev pub MayLeave : Story → Image → Type 0
MayLeave story image = story.left story.time image

-- an image from now, with other bytes on at most these pages
abbrev pub Altered : (ℕ → Type 0) → Story → Image → Type 0
Altered pages story image = (from : Image) × MayLeave story from × SameOff pages from image

-- a crash leaves now what the disk reads as
abbrev pub Settled : Story → Type 0
Settled story = (image : Image) → MayLeave story image → image ≡ story.reads

-- each image from before, with any 4096 bytes on this page, may be left now
abbrev pub MayTear : ℕ → Story → Story → Type 0
MayTear page old new = (from image : Image) → MayLeave old from → SameOff (λ p. p ≡ page) from image → IsPage (image page) → MayLeave new image

-- each image from before may be left now
abbrev pub MayStill : Story → Story → Type 0
MayStill old new = (image : Image) → MayLeave old image → MayLeave new image

-- Time went on, and at most these pages were written.
pub record Wrote (pages : ℕ → Type 0) (old new : Story) : Type 0 where
  pub later : old.time ≤ new.time
  pub reads : SameOff pages old.reads new.reads
  pub leaves : (t : ℕ) (image : Image) → t ≤ old.time → new.left t image → old.left t image ⊎ Altered pages old image
  pub keeps : (t : ℕ) (image : Image) → t ≤ old.time → old.left t image → new.left t image

-- Time went on, and no page was written.
pub record Stayed (old new : Story) : Type 0 where
  pub later : old.time ≤ new.time
  pub reads : new.reads ≡ old.reads
  pub leaves : (t : ℕ) (image : Image) → t ≤ old.time → new.left t image → old.left t image
  pub keeps : (t : ℕ) (image : Image) → t ≤ old.time → old.left t image → new.left t image

-- Nothing changed, and no time went by.
pub record Unchanged (old new : Story) : Type 0 where
  pub time : new.time ≡ old.time
  pub reads : new.reads ≡ old.reads
  pub leaves : (t : ℕ) (image : Image) → new.left t image → old.left t image
  pub keeps : (t : ℕ) (image : Image) → old.left t image → new.left t image

-- A crash at any moment from old to new leaves what has P.
pub record LeavesOnly (P : Image → Type 0) (old new : Story) : Type 0 where
  pub later : old.time ≤ new.time
  pub leaves : (t : ℕ) (image : Image) → t ≤ old.time → new.left t image → old.left t image ⊎ P image
  pub keeps : (t : ℕ) (image : Image) → t ≤ old.time → old.left t image → new.left t image

-- the pages from first on, n of them
pub record Within (first n p : ℕ) : Type 0 where
  pub from : first ≤ p
  pub to : p < first + n

-- From some time on each image has P k or a later one, and the disk has been at P k since then.
pub record Reached (P : ℕ → Image → Type 0) (k : ℕ) (story : Story) : Type 0 where
  pub time : ℕ
  pub past : time ≤ story.time
  pub once : (image : Image) × story.left time image × P k image
  pub each : (image : Image) → story.left time image → (j : ℕ) × (k ≤ j) × P j image

-- step after step up to n, and never back
abbrev pub Climbed : (ℕ → Image → Type 0) → ℕ → Story → Type 0
Climbed P n story = (k : ℕ) → k ≤ n → Reached P k story
