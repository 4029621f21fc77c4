-- A run on the way, in the words of the definitions.
use Rattle.std.specs.Prelude.{◌≡◌, ℕ, ◌+◌, ⊤, IsTrue, List, ◌∷◌, ◌++◌, length, Option, Some, None}
use Rattle.std.specs.Io.KnownBytes.{Appends}
use Rattle.blob_base.specs.Faults.{Rose}
use Rattle.blob_base.specs.declared.faults.IoFault.TheVariants.{Failed, OutOfMemory}
use Rattle.disk_model.specs.declared.disk.Disk.{Ghosts}
use Rattle.blob_steps.specs.declared.fault.StoreFault.{StoreFault}
use Rattle.blob_steps.specs.declared.fault.StoreFault.TheVariants as fault
use Rattle.blob_steps.specs.declared.line.LineFault.{LineFault}
use Rattle.blob_steps.specs.declared.line.LineFault.TheVariants as line
use Rattle.blob_script.specs.declared.status.Status.{Status}
use Rattle.blob_script.specs.declared.status.Status.TheVariants as status
use Rattle.blob_steps.specs.declared.world.World.{World}
use Rattle.blob_steps.specs.Faults.{IsGet}
use Rattle.blob_steps.specs.Lines.{LineTaken}
use Rattle.blob_steps.specs.Runs.{Grew, PagesAre}
use Rattle.blob_steps.specs.Steps.{WorldStands}
use Rattle.store_model.specs.Cost.{Cost, with_lines}
use Rattle.store_model.specs.Layout.{Layout}
use Rattle.store_model.specs.Play.{Played, PlayedLine, play, play_lines, store_behind, text_of}
use Rattle.store_model.specs.Script.{Line, Malformed, Step, lines_of, line_at}
use Rattle.store_model.specs.Standing.{AllHeld}
use Rattle.store_model.specs.Store.{Store}
use Rattle.store_model.specs.Survival.{ReadsAs, SurvivesAll, groups_of, store_at}
use Rattle.store_model.specs.World as model
use Rattle.recover.specs.Openings.{LeavesFrom}
use Rattle.vault.specs.Leads.{Costs}

-- the first line that is left is this, for the line of this number
pub record TakesLine (number : ℕ) (old new : Option (List ℕ)) (what : Line) : Type 0 where
  pub line : List ℕ
  pub taken : LineTaken old line new
  pub is : line_at number line ≡ what

-- the first line that is left is malformed
abbrev pub BadLine : ℕ → Option (List ℕ) → Type 0
BadLine number None = ⊤
BadLine number (Some script) = (line : List ℕ) × (rest : List (List ℕ)) × (lines_of script ≡ line ∷ rest) × (line_at number line ≡ Malformed)

-- the play of lines from this number on, from this world on
abbrev pub playing : Layout → ℕ → model.World → List (List ℕ) → Played
playing layout number world lines = play_lines layout number lines world

-- some lines, and then a play
abbrev pub after_lines : List PlayedLine → Played → Played
after_lines lines played = record { lines = lines ++ played.lines; end = played.end }

-- What is left of a known script plays on, behind these lines, to the play of the whole.
abbrev pub PlaysOn : Layout → Store → List PlayedLine → ℕ → model.World → Option (List ℕ) → Option (List ℕ) → Type 0
PlaysOn layout start lines number world first left =
    (script : List ℕ) → first ≡ Some script
    → (rest : List ℕ) × (left ≡ Some rest) × (after_lines lines (playing layout number world (lines_of rest)) ≡ play layout start script)

-- A run on the way: it has run some lines and is at the world behind them, the sink took what they print, the disk has what
-- they made of it, what is left of the script plays on to the whole, and their groups have survived each crash since a time.
pub record Going {D : Type 0} (g : Ghosts D) (start : Store) (first_cost begun_cost : Cost) (since : ℕ) (mine : World D) (number : ℕ) (first left old new : Option (List ℕ)) (was : D) : Type 0 where
  pub world : model.World
  pub stands : WorldStands mine world
  pub lines : List PlayedLine
  pub store_is : world.store ≡ store_behind start lines
  pub grew : Grew old new
  pub took : IsTrue g.tells → Appends old new (text_of lines)
  pub pages : IsTrue g.tells → PagesAre g mine.vault.memory.layout start lines was mine.vault.disk
  pub counts : Costs g first_cost (with_lines start lines begun_cost) was mine.vault.disk mine.vault.memory
  pub plays_on : PlaysOn mine.vault.memory.layout start lines number world first left
  pub behind : store_at start (groups_of lines) (length (groups_of lines)) ≡ store_behind start lines
  pub survives : IsTrue g.tells
      → SurvivesAll (g.size mine.vault.disk) mine.vault.memory.layout start (groups_of lines) since (length (groups_of lines)) (g.story mine.vault.disk)

-- A run of this world begins over a store: memory is at it and the disk holds its contents, where it tells its pages, at this cost; and
-- whatever a crash left since a time reads as it.
pub record StartsOn {D : Type 0} (g : Ghosts D) (start : Store) (cost : Cost) (since : ℕ) (mine : World D) : Type 0 where
  pub stands : WorldStands mine (model.world_over start)
  pub held : IsTrue g.tells → AllHeld (g.story mine.vault.disk).reads mine.vault.memory.layout start.objects
  pub gate : mine.vault.memory.log.gate ≡ cost.gate
  pub survives : IsTrue g.tells
      → LeavesFrom g (λ image. ReadsAs (g.size mine.vault.disk) image mine.vault.memory.layout start.objects start.last) since mine.vault.disk

-- What is left of a known script ends as the whole does, whatever the store.
abbrev pub EndsOn : ℕ → Option (List ℕ) → Option (List ℕ) → Type 0
EndsOn number first left =
    (script : List ℕ) → first ≡ Some script
    → (rest : List ℕ) × (left ≡ Some rest)
    × ((layout : Layout) (start : Store) (world : model.World) → (playing layout number world (lines_of rest)).end ≡ (play layout start script).end)

-- What is left of a known script begins with the line of this number.
abbrev pub BeginsWith : ℕ → Option (List ℕ) → Option (List ℕ) → Type 0
BeginsWith number first left =
    (script : List ℕ) → first ≡ Some script
    → (before : List (List ℕ)) × (rest : List ℕ) × (left ≡ Some rest) × (lines_of script ≡ before ++ lines_of rest) × (number ≡ length before + 1)

-- A run on the way, whatever the disk tells.
pub record GoingSo (number : ℕ) (first left old new : Option (List ℕ)) : Type 0 where
  pub grew : Grew old new
  pub ends_on : EndsOn number first left
  pub begins : BeginsWith number first left

-- what ends the reading of a line, other than well
abbrev pub EndsReading : Status → ℕ → Option (List ℕ) → ℕ → ℕ → Type 0
EndsReading (status.Malformed line) number left before now = (line ≡ number) × BadLine number left
EndsReading status.ReadFault number left before now = Rose before now
EndsReading status.OutOfMemory number left before now = ⊤
EndsReading _ number left before now = ⊥

-- what ends a step, other than well
abbrev pub EndsStep : Status → ℕ → ℕ → Type 0
EndsStep status.DiskFault before now = Rose before now
EndsStep (status.NotBuilt line) before now = ⊤
EndsStep status.OutOfMemory before now = ⊤
EndsStep (status.Damaged key link want got) before now = ⊤
EndsStep _ before now = ⊥

-- damage that ends a step is that of the key that the step gets
abbrev pub EndsNaming : Step → Status → Type 0
EndsNaming step (status.Damaged key link want got) = IsGet step key
EndsNaming step _ = ⊤

-- what a step without an answer ends a run with
abbrev pub step_ending : StoreFault → Status
step_ending fault.Failed = status.DiskFault
step_ending fault.OutOfMemory = status.OutOfMemory
step_ending (fault.Damaged key link want got) = status.Damaged key link want got

-- what a fault in reading a line ends a run with
abbrev pub reading_ending : LineFault → Status
reading_ending (line.Source Failed) = status.ReadFault
reading_ending (line.Source OutOfMemory) = status.OutOfMemory
reading_ending line.OutOfMemory = status.OutOfMemory

-- a status with which a script's run ends before its end
abbrev pub IsRunning : Status → Type 0
IsRunning status.Done = ⊥
IsRunning (status.Refused why) = ⊥
IsRunning status.Usage = ⊥
IsRunning _ = ⊤

-- a status with which a script's run ends
abbrev pub IsAccepted : Status → Type 0
IsAccepted (status.Refused why) = ⊥
IsAccepted status.Usage = ⊥
IsAccepted _ = ⊤
