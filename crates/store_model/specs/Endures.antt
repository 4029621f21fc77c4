-- How a run's disk was when it ended, or was stopped.
use Rattle.std.specs.Prelude.{ℕ, ◌≡◌, ◌≤◌, ◌⊎◌, ◌++◌, List, [], length}
use Rattle.store_model.specs.Images.{Story}
use Rattle.store_model.specs.Layout.{Layout}
use Rattle.store_model.specs.Play.{PlayedLine, play}
use Rattle.store_model.specs.Store.{Store}
use Rattle.store_model.specs.Survival.{Group, SurvivesAll, groups_of}

-- The groups of lines, and then that of the line under way, survive each crash; or opening's first sync hadn't returned well, and no line
-- was run.
abbrev pub Endures : ℕ → Layout → Store → List PlayedLine → List Group → ℕ → Story → Type 0
Endures pages layout start lines under_way since story =
    SurvivesAll pages layout start (groups_of lines ++ under_way) since (length (groups_of lines)) story
    ⊎ ((lines ≡ []) × (story.time ≤ since))

-- the groups of a script are those of the lines, that under way, and others
pub record GoesOnWith (all before under_way : List Group) : Type 0 where
  pub rest : List Group
  pub is : all ≡ before ++ under_way ++ rest

-- of a whole script
abbrev pub IsUnderWay : Layout → Store → List ℕ → List PlayedLine → List Group → Type 0
IsUnderWay layout start text lines under_way = GoesOnWith (groups_of (play layout start text).lines) (groups_of lines) under_way
