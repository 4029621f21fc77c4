-- What a vault keeps of its disk's images, by states alone: no premise on contents, and no chance.
use Rattle.std.specs.Prelude.{ℕ, ◌≡◌, ◌≤◌, ◌⊎◌, ◌++◌, List, [], ◌∷◌, length, map}
use Rattle.std.specs.List.{All, flat_map}
use Rattle.store_model.specs.Disk.{Image}
use Rattle.store_model.specs.Fits.{DoFit}
use Rattle.store_model.specs.Frame.{Entry, IsFrame, Spells, entry_spelling}
use Rattle.store_model.specs.Half.{IsHalf, tuples_spelling}
use Rattle.store_model.specs.Images.{MayLeave, Story}
use Rattle.store_model.specs.Layout.{Layout, data_pages}
use Rattle.store_model.specs.Reading.{Found, last_number}
use Rattle.store_model.specs.Stands.{DoAllTell, Stands, found_at}

-- what a vault keeps: the tuples of the states that were opened, their last number, the last numbers of groups, the body of a failed
-- one, and the entries' spellings
pub record Kept : Type 0 where
  pub states : List ℕ
  pub last : ℕ
  pub groups : List ℕ
  pub failed : List ℕ
  pub forms : List (List ℕ)

-- the frame of the group whose lead failed, or none
abbrev pub IsLost : ℕ → List ℕ → List (List Entry) → Type 0
IsLost pages failed lost = ((failed ≡ []) × (lost ≡ [])) ⊎ ((entries : List Entry) × (lost ≡ entries ∷ []) × Spells pages failed entries)

-- What is kept tells the store that was opened, and the frames of the groups since then.
pub record HasFrames (layout : Layout) (kept : Kept) (opened : Found) (frames lost : List (List Entry)) : Type 0 where
  pub layout_is : opened.layout ≡ layout
  -- the states are those that a half may have, so that their tuples tell them
  pub half : IsHalf opened.layout opened.last opened.states
  pub states_are : kept.states ≡ tuples_spelling opened.states
  pub last_is : kept.last ≡ opened.last
  pub each : All (IsFrame (data_pages layout)) frames
  pub forms : kept.forms ≡ map entry_spelling (flat_map (λ (entries : List Entry). entries) frames)
  pub groups : kept.groups ≡ map (last_number 0) frames
  pub lost_is : IsLost (data_pages layout) kept.failed lost

-- What is kept of the images of a disk that read as a whole store at the time `since`: whatever a crash left since then has the first
-- so many of the groups, with at most a part of the next, whatever it leaves now has all of them, every state tells its content, and every
-- group took the places that fit.
pub record KeepsImages (pages : ℕ) (story : Story) (mine : Found) (kept : Kept) (since : ℕ) : Type 0 where
  pub opened : Found
  pub frames : List (List Entry)
  pub lost : List (List Entry)
  pub are : HasFrames mine.layout kept opened frames lost
  pub at : mine ≡ found_at opened frames (length frames)
  pub past : since ≤ story.time
  pub each : (image : Image) → story.left since image → (k : ℕ) × (k ≤ length frames) × Stands pages image opened (frames ++ lost) k
  pub now : (image : Image) → MayLeave story image → Stands pages image opened (frames ++ lost) (length frames)
  -- each object's state tells the content that its pages hold
  pub told : DoAllTell story.reads mine.layout mine.states
  -- and the places that each group's entries took are those that fit
  pub fit : DoFit opened frames
