-- The runs that format a store, show it and check it, in the words of the definitions.
use Rattle.std.specs.Prelude.{◌≡◌, ◌⊎◌, ℕ, ⊤, IsTrue, List, [], ◌∷◌, Some}
use Rattle.std.specs.Io.KnownBytes.{Appends}
use Rattle.std.specs.FinMap.{get}
use Rattle.std.specs.List.{flat_map}
use Rattle.blob_base.specs.Refusals.{refusal_of}
use Rattle.blob_base.specs.declared.faults.StoreRefusal.{StoreRefusal}
use Rattle.blob_report.specs.Ends.{TookFront}
use Rattle.blob_script.specs.declared.status.Status.{Status}
use Rattle.blob_script.specs.declared.status.Status.TheVariants as status
use Rattle.disk_model.specs.Disks.{OnlyReads}
use Rattle.disk_model.specs.declared.disk.Disk as disk_trait
use Rattle.io_ends.specs.declared.traits.Sink as sink_trait
use Rattle.recover.specs.Openings.{BeginsAt, MayLeaveFound, TookOpening}
use Rattle.recover.specs.declared.fault.RecoverFault.{RecoverFault}
use Rattle.recover.specs.declared.fault.RecoverFault.TheVariants as fault
use Rattle.relation.specs.Parts.{encoded_by}
use Rattle.store_model.specs.Disk.{Image}
use Rattle.store_model.specs.Reading.{Found, Opened, Reads, Refused}
use Rattle.store_model.specs.Report.{Damage, HasDamages, check_text, damage_line, show_text, state_line}
use Rattle.store_model.specs.State.{State}
use Rattle.store_model.specs.Verify.{IsDamage}

-- Whatever store the disk read as, whole or not, is what a crash leaves, at any moment from the return of the first sync on, and where nothing
-- was pending, from the start on; or that sync didn't return well, and nothing was written.
abbrev pub StoreSurvives : {D : Type 0} → disk_trait.Ghosts D → D → D → Type 0
StoreSurvives g old new =
    IsTrue g.tells → (found : Found) (since : ℕ) → BeginsAt g old since → Reads (g.size old) (g.story old).reads (Opened found)
    → MayLeaveFound g old found since new

-- An opening was all that a disk wrote and synced: a sync, and a turn with the states of the store that it read as.
abbrev pub CostsOpening : {D : Type 0} → disk_trait.Ghosts D → D → D → Type 0
CostsOpening g old new =
    IsTrue g.tells → (found : Found) → Reads (g.size old) (g.story old).reads (Opened found)
    → TookOpening (encoded_by found.states) (g.calls old) (g.calls new)

-- the status of a disk that wasn't opened, or wasn't formatted
abbrev pub opening_ending : RecoverFault → Status
opening_ending (fault.Refused why) = status.Refused why
opening_ending fault.Failed = status.DiskFault
opening_ending fault.OutOfMemory = status.OutOfMemory

-- a status with which a whole report was printed
abbrev pub HasReported : Status → Type 0
HasReported status.Done = ⊤
HasReported (status.Damaged key link want got) = ⊤
HasReported _ = ⊥

-- a status of a run that wasn't turned away, and isn't one of damage
abbrev pub IsAtWork : Status → Type 0
IsAtWork status.Done = ⊤
IsAtWork status.WriteFault = ⊤
IsAtWork status.DiskFault = ⊤
IsAtWork status.OutOfMemory = ⊤
IsAtWork _ = ⊥

-- the lines of states
abbrev pub states_text : List (List ℕ × State) → List ℕ
states_text es = flat_map state_line es

-- A disk was refused: it is no store, for this reason, nothing was printed, and nothing was written.
pub record TurnedAway {K D : Type 0} (g : disk_trait.Ghosts D) (why : StoreRefusal) (sink_old sink_new : K) (old new : D) : Type 0 where
  pub reads : IsTrue g.tells → Reads (g.size old) (g.story old).reads (Refused (refusal_of why))
  pub alone : sink_new ≡ sink_old
  pub only : OnlyReads g old new

-- A report was printed of the store that a disk reads as, and still does.
pub record Reported {K D : Type 0} (sink : sink_trait.Ghosts K) (g : disk_trait.Ghosts D) (IsText : Image → Found → List ℕ → Type 0)
    (sink_old sink_new : K) (old new : D) : Type 0 where
  pub found : Found
  pub before : IsTrue g.tells → Reads (g.size old) (g.story old).reads (Opened found)
  pub after : IsTrue g.tells → Reads (g.size old) (g.story new).reads (Opened found)
  pub text : List ℕ
  pub is : IsTrue g.tells → IsText (g.story old).reads found text
  pub took : Appends (sink.taken sink_old) (sink.taken sink_new) text

-- A front of the report was printed of the store that a disk reads as.
pub record ReportedFront {K D : Type 0} (sink : sink_trait.Ghosts K) (g : disk_trait.Ghosts D) (IsText : Image → Found → List ℕ → Type 0)
    (sink_old sink_new : K) (old : D) : Type 0 where
  pub found : Found
  pub before : IsTrue g.tells → Reads (g.size old) (g.story old).reads (Opened found)
  pub text : List ℕ
  pub is : IsTrue g.tells → IsText (g.story old).reads found text
  pub took : TookFront (sink.taken sink_old) (sink.taken sink_new) text

-- nothing was, or a front
abbrev pub BrokenOff : {K D : Type 0} → sink_trait.Ghosts K → disk_trait.Ghosts D → (Image → Found → List ℕ → Type 0) → K → K → D → Type 0
BrokenOff sink g IsText sink_old sink_new old = (sink_new ≡ sink_old) ⊎ ReportedFront sink g IsText sink_old sink_new old

-- the text of a show
abbrev pub IsShown : Image → Found → List ℕ → Type 0
IsShown image found text = text ≡ show_text found

-- what a show with this status has done
abbrev pub Showed : {K D : Type 0} → sink_trait.Ghosts K → disk_trait.Ghosts D → Status → K → K → D → D → Type 0
Showed sink g status.Done sink_old sink_new old new = Reported sink g IsShown sink_old sink_new old new
Showed sink g (status.Refused why) sink_old sink_new old new = TurnedAway g why sink_old sink_new old new
Showed sink g status.WriteFault sink_old sink_new old new = BrokenOff sink g IsShown sink_old sink_new old
Showed sink g status.DiskFault sink_old sink_new old new = BrokenOff sink g IsShown sink_old sink_new old
Showed sink g status.OutOfMemory sink_old sink_new old new = BrokenOff sink g IsShown sink_old sink_new old
Showed sink g _ sink_old sink_new old new = ⊥

-- the lines of damages
abbrev pub damages_text : List Damage → List ℕ
damages_text damages = flat_map damage_line damages

-- the status of a check that found these
abbrev pub verdict_of : List Damage → Status
verdict_of [] = status.Done
verdict_of (one ∷ rest) = status.Damaged one.key one.link one.want one.got

-- the text of a check
abbrev pub IsChecked : Image → Found → List ℕ → Type 0
IsChecked image found text = (damages : List Damage) × HasDamages image found damages × (text ≡ check_text found damages)

-- of one with this status: Done where there are no damages, and else the first of them
abbrev pub IsCheckedAs : Status → Image → Found → List ℕ → Type 0
IsCheckedAs how image found text =
    (damages : List Damage) × HasDamages image found damages × (text ≡ check_text found damages) × (how ≡ verdict_of damages)

-- what a check with this status has done
abbrev pub Checked : {K D : Type 0} → sink_trait.Ghosts K → disk_trait.Ghosts D → Status → K → K → D → D → Type 0
Checked sink g status.Done sink_old sink_new old new = Reported sink g (IsCheckedAs status.Done) sink_old sink_new old new
Checked sink g (status.Damaged key link want got) sink_old sink_new old new =
    Reported sink g (IsCheckedAs (status.Damaged key link want got)) sink_old sink_new old new
Checked sink g (status.Refused why) sink_old sink_new old new = TurnedAway g why sink_old sink_new old new
Checked sink g status.WriteFault sink_old sink_new old new = BrokenOff sink g IsChecked sink_old sink_new old
Checked sink g status.DiskFault sink_old sink_new old new = BrokenOff sink g IsChecked sink_old sink_new old
Checked sink g status.OutOfMemory sink_old sink_new old new = BrokenOff sink g IsChecked sink_old sink_new old
Checked sink g _ sink_old sink_new old new = ⊥

-- a damage is that of this state: its link is the first that fails over some content of the state's size
abbrev pub IsOfLink : State → Damage → Type 0
IsOfLink state one = IsDamage state one.link one.want one.got

-- it is that of a state of the key, of the store that a disk reads as
pub record IsOfStore {D : Type 0} (g : disk_trait.Ghosts D) (one : Damage) (old : D) : Type 0 where
  pub found : Found
  pub before : IsTrue g.tells → Reads (g.size old) (g.story old).reads (Opened found)
  pub state : State
  pub there : get found.states one.key ≡ Some state
  pub link : IsOfLink state one

-- damage that is told is such
abbrev pub NamesDamage : {D : Type 0} → disk_trait.Ghosts D → Status → D → Type 0
NamesDamage g (status.Damaged damaged broken kept_value computed_value) old =
    IsOfStore g (record { key = damaged; link = broken; want = kept_value; got = computed_value }) old
NamesDamage g _ old = ⊤
