-- What was answered is there after a crash: under a key that the next group doesn't change a disk has just what the answered groups left.
use Rattle.std.proofs.Common.{◌≡◌, ℕ, List, Some}
use Rattle.std.specs.Prelude.{slice_get}
use Rattle.std.specs.FinMap.{get}
use Rattle.store_model.specs.Disk.{Image}
use Rattle.store_model.specs.Images.{MayLeave, Story}
use Rattle.store_model.specs.Layout.{Layout, data_page}
use Rattle.store_model.specs.Reading.{Found, Opened, Reads}
use Rattle.store_model.specs.Store.{Store}
use Rattle.store_model.specs.Survival.{BothTold, Group, IsUnder, SurvivesAll, store_at}
use Rattle.store_model.proofs.SurvivalLaws.{Survives-not_forgotten}

-- Whatever a crash now leaves reads as a store of this layout, and has under the key what the groups left that were answered.
pub SurvivesAll-answered : (pages : ℕ) (layout : Layout) (start : Store) (groups : List Group) (since answered : ℕ) (story : Story) (image : Image)
    (found : Found) (key : List ℕ) → SurvivesAll pages layout start groups since answered story → MayLeave story image
    → Reads pages image (Opened found) → ((group : Group) → slice_get groups answered ≡ Some group → IsUnder group.commits key → ⊥)
    → BothTold ⊥ image (data_page layout) (get found.states key) (get (store_at start groups answered).objects key)
SurvivesAll-answered pages layout start groups since answered story image found key survives left reads none =
    Survives-not_forgotten pages image layout start groups answered found key reads none (survives.now image left)
