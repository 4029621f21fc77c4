-- Runs of scripts, and what runs leave their ends with, in the words of the definitions.
use Rattle.std.specs.Prelude.{◌≡◌, ℕ, ◌+◌, ◌≤◌, ◌⊎◌, ⊤, Bool, false, IsTrue, List, ◌∷◌, ◌++◌, length, Option, Some}
use Rattle.std.specs.FinMap.{FinMap}
use Rattle.std.specs.Io.KnownBytes.{Appends}
use Rattle.blob_base.specs.Faults.{KeepsEnd, Rose}
use Rattle.blob_report.specs.Ends.{IsFront, TookFront}
use Rattle.disk_model.specs.Disks.{Keeps}
use Rattle.disk_model.specs.declared.disk.Disk as disk_trait
use Rattle.io_ends.specs.declared.traits.Source as source_trait
use Rattle.io_ends.specs.declared.traits.Sink as sink_trait
use Rattle.blob_script.specs.declared.status.Status.{Status}
use Rattle.blob_script.specs.declared.status.Status.TheVariants as status
use Rattle.blob_script.specs.Endings.{ending_of}
use Rattle.blob_steps.specs.Faults.{IsGet}
use Rattle.store_model.specs.Closing.{closing_text}
use Rattle.store_model.specs.Cost.{Cost, Spent, with_lines}
use Rattle.store_model.specs.Endures.{Endures, IsUnderWay}
use Rattle.store_model.specs.Images.{Wrote}
use Rattle.store_model.specs.Key.{key_order}
use Rattle.store_model.specs.Layout.{Layout}
use Rattle.store_model.specs.Play.{AtInputEnd, AtMalformed, AtUnbuilt, End, Played, PlayedLine, play, store_behind, taken_in, text_of}
use Rattle.store_model.specs.Script.{Asks, Step, line_at, lines_of}
use Rattle.store_model.specs.Standing.{AllStand, IsDamaged}
use Rattle.store_model.specs.Store.{Object, Store}
use Rattle.store_model.specs.Survival.{Group, RestsAs}
use Rattle.vault.specs.Leads.{IsLeadPage}

-- how often each of the three ends has failed
pub record Counts : Type 0 where
  pub source : ℕ
  pub sink : ℕ
  pub disk : ℕ

-- a fault is told only where the count of that end rose
abbrev pub IsRaised : Status → Counts → Counts → Type 0
IsRaised status.ReadFault before now = Rose before.source now.source
IsRaised status.WriteFault before now = Rose before.sink now.sink
IsRaised status.DiskFault before now = Rose before.disk now.disk
IsRaised _ before now = ⊤

-- damage is told only of one of these objects
abbrev pub ShowsDamage : Status → FinMap key_order Object → Type 0
ShowsDamage (status.Damaged key link want got) objects = IsDamaged objects key link want got
ShowsDamage _ objects = ⊤

-- a status other than damage
abbrev pub IsUndamaged : Status → Type 0
IsUndamaged (status.Damaged key link want got) = ⊥
IsUndamaged _ = ⊤

-- a status with which a script was run to its end
abbrev pub OnPlayed : Status → Type 0 → Type 0
OnPlayed status.Done P = P
OnPlayed (status.Malformed line) P = P
OnPlayed (status.NotBuilt line) P = P
OnPlayed _ P = ⊤

-- a status after which the disk rests: no call of the vault has failed
abbrev pub OnResting : Status → Type 0 → Type 0
OnResting status.Done P = P
OnResting (status.Malformed line) P = P
OnResting (status.NotBuilt line) P = P
OnResting status.ReadFault P = P
OnResting status.WriteFault P = P
OnResting (status.Damaged key link want got) P = P
OnResting _ P = ⊤

-- These lines of a play were run: all of them where the run came to the end that the play has, and else the first ones.
abbrev pub Ran : Status → List PlayedLine → Played → Type 0
Ran status.Done lines whole = (lines ≡ whole.lines) × (whole.end ≡ AtInputEnd)
Ran (status.Malformed line) lines whole = (lines ≡ whole.lines) × (whole.end ≡ AtMalformed line)
Ran (status.NotBuilt line) lines whole = (lines ≡ whole.lines) × (whole.end ≡ AtUnbuilt line)
Ran _ lines whole = (rest : List PlayedLine) × (whole.lines ≡ lines ++ rest)

-- The statuses after which the last line that the sink took may be cut short: its own fault, and want of memory of a
-- sink that isn't frugal.
abbrev pub MayCut : Status → Bool → Type 0
MayCut status.WriteFault frugal = ⊤
MayCut status.OutOfMemory frugal = frugal ≡ false
MayCut _ frugal = ⊥

-- The sink took what the lines print, or a front of that where the status may cut it short.
abbrev pub TookLines : Status → Bool → Option (List ℕ) → Option (List ℕ) → List PlayedLine → Type 0
TookLines status frugal old new lines = Appends old new (text_of lines) ⊎ (MayCut status frugal × TookFront old new (text_of lines))

-- the sink took some text
abbrev pub Grew : Option (List ℕ) → Option (List ℕ) → Type 0
Grew old new = (text : List ℕ) × Appends old new text

-- The closing line: the sink took a front of it, all of it unless the sink failed or a sink that isn't frugal found no
-- memory.
pub record Closed (status : Status) (frugal : Bool) (before now : ℕ) (old new : Option (List ℕ)) : Type 0 where
  pub line : List ℕ
  pub took : Appends old new line
  pub front : IsFront line (closing_text (ending_of status))
  pub whole : (line ≡ closing_text (ending_of status)) ⊎ Rose before now ⊎ (frugal ≡ false)

-- What lines that begin with this store made of a disk: each object of the store behind them stands in the data area, with zeros behind it
-- on its tail page where one of the lines wrote it; and no page of the data area has changed but those of the blocks that their committed
-- transactions took, now or in a crash.
pub record PagesAre {D : Type 0} (g : disk_trait.Ghosts D) (layout : Layout) (start : Store) (lines : List PlayedLine) (old new : D) : Type 0 where
  pub objects : AllStand start.last (g.story new).reads layout (store_behind start lines).objects
  pub others : Wrote (IsLeadPage layout (taken_in lines)) (g.story old) (g.story new)

-- What survives each crash of a run that came behind these lines, since a time: their groups, with at most a part of the group of one more,
-- which is the script's next. Or no line was run, and the time hadn't come.
pub record RunSurvives {D : Type 0} (g : disk_trait.Ghosts D) (layout : Layout) (start : Store) (script : Option (List ℕ)) (lines : List PlayedLine) (since : ℕ) (now : D) : Type 0 where
  pub under_way : List Group
  pub few : length under_way ≤ 1
  pub next : (text : List ℕ) → script ≡ Some text → IsUnderWay layout start text lines under_way
  pub survives : IsTrue g.tells → Endures (g.size now) layout start lines under_way since (g.story now)

-- what each of the three ends keeps
pub record KeepsEnds {S K D : Type 0} (source : source_trait.Ghosts S) (sink : sink_trait.Ghosts K) (disk : disk_trait.Ghosts D)
    (source_old : S) (sink_old : K) (disk_old : D) (source_new : S) (sink_new : K) (disk_new : D) : Type 0 where
  pub of_source : KeepsEnd source.faults source.frugal source_old source_new
  pub of_sink : KeepsEnd sink.faults sink.frugal sink_old sink_new
  pub of_disk : Keeps disk disk_old disk_new

-- the counts of their faults
abbrev pub counts_of : {S K D : Type 0} → source_trait.Ghosts S → sink_trait.Ghosts K → disk_trait.Ghosts D → S → K → D → Counts
counts_of source sink disk from to on = record { source = source.faults from; sink = sink.faults to; disk = disk.faults on }

-- How the run of a script that began with this store ended, up to the closing line: which lines were run, and what came of them. The disk
-- had the cost `first` as it was, and `begun` where the first line began. Of its crashes those since a time are told.
pub record Ended {D : Type 0} (g : disk_trait.Ghosts D) (layout : Layout) (start : Store) (first begun : Cost) (since : ℕ) (frugal : Bool) (script old new : Option (List ℕ))
    (was now : D) (status : Status) : Type 0 where
  pub lines : List PlayedLine
  pub ran : (text : List ℕ) → script ≡ Some text → Ran status lines (play layout start text)
  pub grew : Grew old new
  pub took : IsTrue g.tells → TookLines status frugal old new lines
  pub pages : IsTrue g.tells → OnPlayed status (PagesAre g layout start lines was now)
  pub crashes : RunSurvives g layout start script lines since now
  pub rests : IsTrue g.tells → OnResting status (RestsAs (g.size now) layout (store_behind start lines) (g.story now))
  pub counts : IsTrue g.tells → OnPlayed status (Spent first (with_lines start lines begun) (g.calls was) (g.calls now))
  pub damage : ShowsDamage status (store_behind start lines).objects
  pub whole : IsTrue g.tells → IsUndamaged status

-- the status with which a script's run ended is that of the end that its play has, where it is one of its own
abbrev pub EndsAs : Status → End → Type 0
EndsAs status.Done end = end ≡ AtInputEnd
EndsAs (status.Malformed line) end = end ≡ AtMalformed line
EndsAs (status.NotBuilt line) end = end ≡ AtUnbuilt line
EndsAs _ end = ⊤

-- A line of a script, behind these, gets this key.
pub record HasGet (text key : List ℕ) : Type 0 where
  pub before : List (List ℕ)
  pub line : List ℕ
  pub rest : List (List ℕ)
  pub is : lines_of text ≡ before ++ line ∷ rest
  pub step : Step
  pub asks : line_at (length before + 1) line ≡ Asks step
  pub gets : IsGet step key

-- damage is told only of a key that the script gets
abbrev pub TellsGet : Status → List ℕ → Type 0
TellsGet (status.Damaged key link want got) text = HasGet text key
TellsGet _ text = ⊤

-- How a run ended whatever the disk told: the sink took some text; the script's end, which no store changes, is that of its play; and damage
-- is told only of a key that the script gets.
pub record EndedSo (script old new : Option (List ℕ)) (status : Status) : Type 0 where
  pub grew : Grew old new
  pub ends : (layout : Layout) (start : Store) (text : List ℕ) → script ≡ Some text → EndsAs status (play layout start text).end
  pub gets : (text : List ℕ) → script ≡ Some text → TellsGet status text
