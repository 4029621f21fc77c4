-- A check on the way, in the words of the definitions.
use Rattle.std.specs.Prelude.{◌≡◌, ◌≤◌, ℕ, ⊤, IsTrue, List, [], ◌∷◌, ◌++◌, Some, length, slice_get}
use Rattle.std.specs.FinMap.{entries}
use Rattle.blob_base.specs.Faults.{KeepsEnd}
use Rattle.blob_report.specs.Ends.{HasPrinted, IsCaused, TookFront}
use Rattle.blob_report.specs.Reports.{IsOfLink, damages_text, verdict_of}
use Rattle.blob_report.specs.declared.checking.Checked.{Checked}
use Rattle.blob_script.specs.declared.status.Status.{Status}
use Rattle.blob_script.specs.declared.status.Status.TheVariants as status
use Rattle.disk_model.specs.Disks.{OnlyReads}
use Rattle.disk_model.specs.declared.disk.Disk as disk_trait
use Rattle.io_ends.specs.declared.traits.Sink as sink_trait
use Rattle.store_model.specs.Layout.{Layout, data_page}
use Rattle.store_model.specs.Reading.{Found}
use Rattle.store_model.specs.Report.{AreDamages, Damage, check_text}
use Rattle.store_model.specs.State.{State}

-- what is held of these damages: the first of them, and how many they are
pub record HasCounted (checked : Checked) (damages : List Damage) : Type 0 where
  pub verdict_is : checked.verdict ≡ verdict_of damages
  pub damaged_is : checked.damaged ≡ length damages

-- and what is held of these and some more
abbrev pub AddsTo : Checked → Checked → List Damage → Type 0
AddsTo before after more = (damages : List Damage) → HasCounted before damages → HasCounted after (damages ++ more)

-- the first of these damages is one of a link of the state of its key
abbrev pub FirstNamed : List (List ℕ × State) → List Damage → Type 0
FirstNamed es [] = ⊤
FirstNamed es (one ∷ rest) = (i : ℕ) × ((state : State) × (slice_get es i ≡ Some (one.key, state)) × IsOfLink state one)

-- a status of a check that is broken off
abbrev pub IsFault : Status → Type 0
IsFault status.WriteFault = ⊤
IsFault status.DiskFault = ⊤
IsFault status.OutOfMemory = ⊤
IsFault _ = ⊥

-- States were checked, and the lines of their damages printed.
pub record DidCheck {K D : Type 0} (sink : sink_trait.Ghosts K) (g : disk_trait.Ghosts D) (layout : Layout) (es : List (List ℕ × State))
    (Counts : List Damage → Type 0) (sink_old sink_new : K) (old new : D) : Type 0 where
  pub damages : List Damage
  pub are : IsTrue g.tells → AreDamages (g.story old).reads (data_page layout) es damages
  pub named : FirstNamed es damages
  pub few : length damages ≤ length es
  pub counted : Counts damages
  pub printed : HasPrinted sink (damages_text damages) sink_old sink_new
  pub only : OnlyReads g old new

-- Their check was broken off: a front of the text of their damages was printed.
pub record BrokeCheck {K D : Type 0} (sink : sink_trait.Ghosts K) (g : disk_trait.Ghosts D) (text_of : List Damage → List ℕ) (layout : Layout)
    (es : List (List ℕ × State)) (how : Status) (sink_old sink_new : K) (old new : D) : Type 0 where
  pub damages : List Damage
  pub are : IsTrue g.tells → AreDamages (g.story old).reads (data_page layout) es damages
  pub front : TookFront (sink.taken sink_old) (sink.taken sink_new) (text_of damages)
  pub fault : IsFault how
  pub caused : IsCaused how (sink.faults sink_old) (sink.faults sink_new) (g.faults old) (g.faults new)
  pub keeps : KeepsEnd sink.faults sink.frugal sink_old sink_new
  pub only : OnlyReads g old new

-- A store was checked, and the whole text printed.
pub record WasChecked {K D : Type 0} (sink : sink_trait.Ghosts K) (g : disk_trait.Ghosts D) (found : Found) (verdict : Status)
    (sink_old sink_new : K) (old new : D) : Type 0 where
  pub damages : List Damage
  pub are : IsTrue g.tells → AreDamages (g.story old).reads (data_page found.layout) (entries found.states) damages
  pub named : FirstNamed (entries found.states) damages
  pub verdict_is : verdict ≡ verdict_of damages
  pub printed : HasPrinted sink (check_text found damages) sink_old sink_new
  pub only : OnlyReads g old new
