-- Stores as their states tell them: what a disk has behind the frames of its log, with no word on contents but that the states verify.
use Rattle.std.specs.Prelude.{ℕ, zero, suc, ◌≡◌, ◌⊎◌, List, [], ◌∷◌, Some, slice_get}
use Rattle.std.specs.FinMap.{FinMap, get}
use Rattle.store_model.specs.Disk.{Image}
use Rattle.store_model.specs.Frame.{Entry}
use Rattle.store_model.specs.Holds.{Holds}
use Rattle.store_model.specs.Key.{key_order}
use Rattle.store_model.specs.Layout.{Layout, data_page}
use Rattle.store_model.specs.Reading.{AreKept, Found, Opened, Reads, with_frame}
use Rattle.store_model.specs.State.{State, Tells}
use Rattle.store_model.specs.Verify.{Verifies}

-- what is found behind the first k of these frames, of which no entry is lost
abbrev pub found_at : Found → List (List Entry) → ℕ → Found
found_at opened frames zero = opened
found_at opened [] (suc k) = opened
found_at opened (entries ∷ frames) (suc k) = found_at (with_frame opened entries entries) frames k

-- each of these states verifies
abbrev pub DoAllVerify : Image → Layout → FinMap key_order State → Type 0
DoAllVerify image layout states = (key : List ℕ) (state : State) → get states key ≡ Some state → Verifies image (data_page layout) state

-- a disk reads as what is found, and each state verifies
pub record ReadsWhole (pages : ℕ) (image : Image) (found : Found) : Type 0 where
  pub reads : Reads pages image (Opened found)
  pub verify : DoAllVerify image found.layout found.states

-- It reads so behind a frame of which exactly those entries are kept whose states all verify.
pub record ReadsPart (pages : ℕ) (image : Image) (before : Found) (entries : List Entry) : Type 0 where
  pub kept : List Entry
  pub are_kept : AreKept image before.layout entries kept
  pub reads : ReadsWhole pages image (with_frame before entries kept)

-- The first k frames stand on a disk, with at most a part of the next.
abbrev pub Stands : ℕ → Image → Found → List (List Entry) → ℕ → Type 0
Stands pages image opened frames k =
    ReadsWhole pages image (found_at opened frames k)
    ⊎ ((entries : List Entry) × (slice_get frames k ≡ Some entries) × ReadsPart pages image (found_at opened frames k) entries)

-- A step that may write one more frame: a disk reads as what is found before it, or as that behind those of these entries of which all the
-- states verify.
abbrev pub StandsStep : ℕ → Image → Found → List Entry → Type 0
StandsStep pages image before entries = ReadsWhole pages image before ⊎ ReadsPart pages image before entries

-- each of these states tells the content that its pages hold
abbrev pub DoAllTell : Image → Layout → FinMap key_order State → Type 0
DoAllTell image layout states =
    (key : List ℕ) (state : State) → get states key ≡ Some state
    → (content : List ℕ) × Tells state content × Holds image (data_page layout) state content
