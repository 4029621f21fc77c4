-- Gets of contents that don't verify, and the scripts that come to one.
use Rattle.std.specs.Prelude.{◌≡◌, ◌⊎◌, ℕ, ◌+◌, ⊤, List, [], ◌∷◌, Option, Some, None}
use Rattle.std.specs.FinMap.{FinMap, get}
use Rattle.blob_script.specs.declared.status.Status.{Status}
use Rattle.blob_script.specs.declared.status.Status.TheVariants as status
use Rattle.blob_steps.specs.Sessions.{ShowsStored}
use Rattle.blob_steps.specs.Steps.{WorldKnown}
use Rattle.blob_steps.specs.declared.fault.StoreFault.{StoreFault}
use Rattle.blob_steps.specs.declared.fault.StoreFault.TheVariants as fault
use Rattle.blob_steps.specs.declared.world.World.{World as Mine}
use Rattle.disk_model.specs.declared.disk.Disk.{Ghosts}
use Rattle.store_model.specs.Disk.{Image}
use Rattle.store_model.specs.Key.{key_order}
use Rattle.store_model.specs.Layout.{Layout, data_page}
use Rattle.store_model.specs.Play.{step_play}
use Rattle.store_model.specs.Report.{Damage}
use Rattle.store_model.specs.Script as script
use Rattle.store_model.specs.Script.{Line, Step, line_at, lines_of}
use Rattle.store_model.specs.State.{State}
use Rattle.store_model.specs.Turn.{Get}
use Rattle.store_model.specs.Verify.{FailsFirst, computed}
use Rattle.store_model.specs.World.{Outcome, World}

-- A step is a get that passes its refusals and shows an object of the store, and the state of its key, among these, doesn't verify over
-- this image, whose data area begins at page `first`: this link is the first that fails.
pub record IsBrokenGet (image : Image) (first : ℕ) (states : FinMap key_order State) (world : World) (step : Step) (one : Damage) : Type 0 where
  pub session : ℕ
  pub step_is : step ≡ script.Session session (script.Transact (Get one.key))
  pub shows : ShowsStored world.store (world.sessions session) one.key
  pub state : State
  pub there : get states one.key ≡ Some state
  pub fails : FailsFirst (computed image first state) state one.link one.want one.got

-- behind a step with this outcome, which commits nothing
abbrev pub comes_then : Option Outcome → (World → Type 0) → Type 0
comes_then None Rest = ⊥
comes_then (Some outcome) Rest = (outcome.commits ≡ []) × Rest outcome.world

-- at this line, or behind it
abbrev pub comes_line : Layout → (World → Step → Damage → Type 0) → Damage → World → Line → (World → Type 0) → Type 0
comes_line layout Broken one world script.Skipped Rest = Rest world
comes_line layout Broken one world (script.Asks step) Rest =
    Broken world step one ⊎ (((other : Damage) → Broken world step other → ⊥) × comes_then (step_play layout world step) Rest)
comes_line layout Broken one world script.Malformed Rest = ⊥

-- The play of lines, the first of which has this number, in this world, comes to a step that finds this damage, before any other that
-- finds one, and before it commits a transaction.
abbrev pub ComesTo : Layout → (World → Step → Damage → Type 0) → Damage → ℕ → List (List ℕ) → World → Type 0
ComesTo layout Broken one number [] world = ⊥
ComesTo layout Broken one number (line ∷ lines) world =
    comes_line layout Broken one world (line_at number line) (ComesTo layout Broken one (number + 1) lines)

-- A run ended with this damage, or before, since an end failed or there was no memory.
abbrev pub EndsAtBreak : Damage → Status → Type 0
EndsAtBreak one (status.Damaged damaged broken kept_value computed_value) =
    record { key = damaged; link = broken; want = kept_value; got = computed_value } ≡ one
EndsAtBreak one status.ReadFault = ⊤
EndsAtBreak one status.WriteFault = ⊤
EndsAtBreak one status.DiskFault = ⊤
EndsAtBreak one status.OutOfMemory = ⊤
EndsAtBreak one _ = ⊥

-- A step of the program's world is such a get, over its disk.
abbrev pub Breaks : {D : Type 0} → Ghosts D → Mine D → World → Step → Damage → Type 0
Breaks g mine world step one =
    IsBrokenGet (g.story mine.vault.disk).reads (data_page mine.vault.memory.layout) mine.vault.memory.relation.states world step one

-- it is none, whatever the damage
abbrev pub NeverBreaks : {D : Type 0} → Ghosts D → Mine D → World → Step → Type 0
NeverBreaks g mine world step = (one : Damage) → Breaks g mine world step one → ⊥

-- damage that a fault tells is that of such a get
abbrev pub BreaksFault : {D : Type 0} → Ghosts D → Mine D → World → Step → StoreFault → Type 0
BreaksFault g mine world step fault.Failed = ⊤
BreaksFault g mine world step fault.OutOfMemory = ⊤
BreaksFault g mine world step (fault.Damaged damaged broken kept_value computed_value) =
    Breaks g mine world step (record { key = damaged; link = broken; want = kept_value; got = computed_value })

-- So is damage that ends a run at a step; it may end too since the disk failed or there was no memory, or at a verb that isn't built.
abbrev pub EndsBreaking : {D : Type 0} → Ghosts D → Mine D → World → Step → Status → Type 0
EndsBreaking g mine world step (status.Damaged damaged broken kept_value computed_value) =
    Breaks g mine world step (record { key = damaged; link = broken; want = kept_value; got = computed_value })
EndsBreaking g mine world step status.DiskFault = ⊤
EndsBreaking g mine world step status.OutOfMemory = ⊤
EndsBreaking g mine world step (status.NotBuilt line) = step_play mine.vault.memory.layout world step ≡ None
EndsBreaking g mine world step _ = ⊥

-- A run on the way to a damage: what is left of its script comes to it from the program's world, whose states and pages are these.
pub record ComingTo {D : Type 0} (g : Ghosts D) (layout : Layout) (image : Image) (states : FinMap key_order State) (one : Damage) (number : ℕ)
    (left : Option (List ℕ)) (mine : Mine D) : Type 0 where
  pub world : World
  pub known : WorldKnown mine world
  pub script : List ℕ
  pub left_is : left ≡ Some script
  pub comes : ComesTo layout (IsBrokenGet image (data_page layout) states) one number (lines_of script) world
  pub layout_is : mine.vault.memory.layout ≡ layout
  pub states_are : mine.vault.memory.relation.states ≡ states
  pub pages : (at : ℕ) → (g.story mine.vault.disk).reads (data_page layout + at) ≡ image (data_page layout + at)
