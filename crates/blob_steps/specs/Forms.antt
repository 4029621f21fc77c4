-- What each form of words does, and the run of a command line as a whole.
use Rattle.std.specs.Prelude.{◌≡◌, ◌<◌, ◌≤◌, ◌↔◌, ◌⊎◌, ◌+◌, ℕ, ⊤, IsTrue, List, Option, Some, None}
use Rattle.std.specs.FinMap.{empty}
use Rattle.std.specs.Io.KnownBytes.{Appends}
use Rattle.blob_base.specs.declared.faults.StoreRefusal.{StoreRefusal}
use Rattle.blob_base.specs.declared.faults.StoreRefusal.TheVariants.{TooSmall}
use Rattle.blob_report.specs.Ends.{TookFront}
use Rattle.blob_report.specs.Reports.{Checked, CostsOpening, HasReported, IsAtWork, NamesDamage, Showed, StoreSurvives, TurnedAway}
use Rattle.blob_script.specs.declared.form.Form as command
use Rattle.blob_script.specs.declared.form.Form.TheVariants as command_form
use Rattle.blob_script.specs.declared.status.Status.{Status}
use Rattle.blob_script.specs.declared.status.Status.TheVariants as status
use Rattle.disk_model.specs.Disks.{OnlyWrites}
use Rattle.disk_model.specs.declared.disk.Disk as disk_trait
use Rattle.io_ends.specs.declared.traits.Source as source_trait
use Rattle.io_ends.specs.declared.traits.Sink as sink_trait
use Rattle.recover.specs.Openings.{BeginsAt, IsMetadata}
use Rattle.recover.specs.Turns.{IsTurnPage, found_by}
use Rattle.blob_steps.specs.Breaks.{ComesTo, EndsAtBreak, IsBrokenGet}
use Rattle.blob_steps.specs.Going.{IsAccepted}
use Rattle.blob_steps.specs.Known.{FoundKnown}
use Rattle.blob_steps.specs.Runs.{Closed, Ended, EndedSo, IsRaised, KeepsEnds, counts_of}
use Rattle.store_model.specs.Cost.{Cost, no_cost, with_format, with_opening}
use Rattle.store_model.specs.Form.{Check, Form, Format, Fresh, IsForm, IsNoForm, Show, Steps}
use Rattle.store_model.specs.Images.{time_of}
use Rattle.store_model.specs.Layout.{Layout, data_page, total_pages}
use Rattle.store_model.specs.Reading.{Found, Opened, Reads}
use Rattle.store_model.specs.Report.{Damage, format_text}
use Rattle.store_model.specs.Script.{lines_of}
use Rattle.store_model.specs.State.{State}
use Rattle.store_model.specs.Store.{Store, empty_store}
use Rattle.store_model.specs.Survival.{ReadsAs}
use Rattle.store_model.specs.Verify.{IsDamage}
use Rattle.store_model.specs.World.{world_over}

-- the layout of the store that a form makes, where it makes one
abbrev pub layout_of : Form → Option Layout
layout_of (Format layout) = Some layout
layout_of (Fresh layout) = Some layout
layout_of Steps = None
layout_of Show = None
layout_of Check = None

-- the disk has too few pages for a layout, and both numbers are told
pub record IsTooSmall (layout : Layout) (size : ℕ) (why : StoreRefusal) : Type 0 where
  pub small : size < total_pages layout
  pub why_is : why ≡ TooSmall (total_pages layout) size

-- a status of a store that is refused
abbrev pub IsRefusal : Status → Type 0
IsRefusal (status.Refused why) = ⊤
IsRefusal _ = ⊥

-- a status of damage
abbrev pub IsDamaged : Status → Type 0
IsDamaged (status.Damaged key link want got) = ⊤
IsDamaged _ = ⊥

-- each end is as it was
pub record LeftAlone {S K D : Type 0} (source_old : S) (sink_old : K) (disk_old : D) (source_new : S) (sink_new : K) (disk_new : D) : Type 0 where
  pub source : source_new ≡ source_old
  pub sink : sink_new ≡ sink_old
  pub disk : disk_new ≡ disk_old

-- a status with which a script's run ends, over a store that was opened
abbrev pub IsOpened : Status → Type 0
IsOpened status.DiskFault = ⊥
IsOpened status.OutOfMemory = ⊥
IsOpened (status.Refused why) = ⊥
IsOpened status.Usage = ⊥
IsOpened _ = ⊤

-- damage that is told is that of a state: bytes were read for it over which this link is the first that fails
abbrev pub IsDamageOfState : Status → Type 0
IsDamageOfState (status.Damaged key link want got) = (state : State) × IsDamage state link want got
IsDamageOfState _ = ⊤

-- A script was run over the store that a disk has. The disk had this cost before.
pub record DidSteps {S K D : Type 0} (source : source_trait.Ghosts S) (sink : sink_trait.Ghosts K) (disk : disk_trait.Ghosts D) (cost : Cost)
    (source_old : S) (sink_old : K) (disk_old : D) (how : Status) (source_new : S) (sink_new : K) (disk_new : D) : Type 0 where
  -- refused where the disk is no store, for this reason, and then nothing was done
  pub refused : (why : StoreRefusal) → how ≡ status.Refused why → (source_new ≡ source_old) × TurnedAway disk why sink_old sink_new disk_old disk_new
  -- a script of which any line was run, or none was there, was run over a store
  pub opened : IsTrue disk.tells → IsOpened how → (found : Found) × Reads (disk.size disk_old) (disk.story disk_old).reads (Opened found)
  -- Over a whole store: which lines of the script were run, and what came of them. It is told of the crashes since the return of the first
  -- call, which is the opening's first sync, and since the start where nothing was pending.
  pub ended : IsTrue disk.tells → (layout : Layout) (start : Store) (since : ℕ)
      → ReadsAs (disk.size disk_old) (disk.story disk_old).reads layout start.objects start.last → BeginsAt disk disk_old since
      → IsAccepted how × Ended disk layout start cost (with_opening start cost) since (sink.frugal sink_old) (source.left source_old)
      (sink.taken sink_old) (sink.taken sink_new) disk_old disk_new how
  -- Over any store: its contents may be damaged, but all else of its objects is known. A script that comes, before it commits a transaction,
  -- to a get of an object whose state doesn't verify ends at the first of those, with the first of that state's links that fails; or before,
  -- since an end failed or there was no memory.
  pub broken : IsTrue disk.tells → (found : Found) → Reads (disk.size disk_old) (disk.story disk_old).reads (Opened found)
      → (start : Store) → FoundKnown found start → (script : List ℕ) → source.left source_old ≡ Some script → (one : Damage)
      → ComesTo found.layout (IsBrokenGet (disk.story disk_old).reads (data_page found.layout) found.states) one 1 (lines_of script) (world_over start)
      → EndsAtBreak one how
  -- whatever the disk tells
  pub so : (IsRefusal how → ⊥) → EndedSo (source.left source_old) (sink.taken sink_old) (sink.taken sink_new) how
  pub damage : IsDamageOfState how

-- A format failed, since the disk did or there was no memory: nothing was read and nothing printed, and no page but those of a half and the
-- selector may have been written. There was no store yet that could survive.
pub record FailedFormat {S K D : Type 0} (disk : disk_trait.Ghosts D) (layout : Layout) (source_old : S) (sink_old : K) (disk_old : D) (how : Status)
    (source_new : S) (sink_new : K) (disk_new : D) : Type 0 where
  pub why : (how ≡ status.DiskFault) ⊎ (how ≡ status.OutOfMemory)
  pub source : source_new ≡ source_old
  pub sink : sink_new ≡ sink_old
  pub wrote : OnlyWrites disk (IsTurnPage layout 0) disk_old disk_new

-- A store of this layout was formatted, and a script was run over it.
pub record DidFresh {S K D : Type 0} (source : source_trait.Ghosts S) (sink : sink_trait.Ghosts K) (disk : disk_trait.Ghosts D) (layout : Layout)
    (source_old : S) (sink_old : K) (disk_old : D) (how : Status) (source_new : S) (sink_new : K) (disk_new : D) : Type 0 where
  -- refused where the layout exceeds the disk, and then nothing was done
  pub small : (why : StoreRefusal) → IsTooSmall layout (disk.size disk_old) why
      → (how ≡ status.Refused why) × LeftAlone source_old sink_old disk_old source_new sink_new disk_new
  -- and nowhere else, unless the disk doesn't read as what was written
  pub refused : IsTrue disk.tells → (why : StoreRefusal) → how ≡ status.Refused why → IsTooSmall layout (disk.size disk_old) why
  pub away : IsRefusal how → (source_new ≡ source_old) × (sink_new ≡ sink_old)
  -- Which lines of the script were run else, and what came of them; or the format failed. It is told of the crashes since the return of the
  -- sixth call, which is the opening's first sync behind the five of the format.
  pub ended : IsTrue disk.tells → total_pages layout ≤ disk.size disk_old
      → (IsAccepted how × Ended disk layout empty_store no_cost (with_opening empty_store (with_format no_cost)) (time_of (disk.calls disk_old) + 6)
      (sink.frugal sink_old) (source.left source_old) (sink.taken sink_old) (sink.taken sink_new) disk_old disk_new how)
      ⊎ FailedFormat disk layout source_old sink_old disk_old how source_new sink_new disk_new
  -- whatever the disk tells
  pub so : (IsRefusal how → ⊥) → EndedSo (source.left source_old) (sink.taken sink_old) (sink.taken sink_new) how
  pub damage : IsDamageOfState how

-- A store of this layout was formatted.
pub record DidFormat {K D : Type 0} (sink : sink_trait.Ghosts K) (disk : disk_trait.Ghosts D) (layout : Layout)
    (sink_old : K) (disk_old : D) (how : Status) (sink_new : K) (disk_new : D) : Type 0 where
  -- refused exactly where the layout exceeds the disk, and then nothing was done
  pub refused : (why : StoreRefusal) → (how ≡ status.Refused why) ↔ IsTooSmall layout (disk.size disk_old) why
  pub alone : IsRefusal how → (sink_new ≡ sink_old) × (disk_new ≡ disk_old)
  pub ended : IsRefusal how ⊎ IsAtWork how
  -- how many pages the layout takes was printed, all of it where it ended well
  pub front : TookFront (sink.taken sink_old) (sink.taken sink_new) (format_text layout)
  pub printed : how ≡ status.Done → Appends (sink.taken sink_old) (sink.taken sink_new) (format_text layout)
  -- and none of it where the disk failed
  pub unsaid : how ≡ status.DiskFault → sink_new ≡ sink_old
  -- the disk reads as the empty store then, and no other page than those of a half and the selector has changed, now or in a crash
  pub reads : IsTrue disk.tells → how ≡ status.Done → Reads (disk.size disk_old) (disk.story disk_new).reads (Opened (found_by layout 0 empty))
  pub wrote : OnlyWrites disk (IsTurnPage layout 0) disk_old disk_new

-- A store was opened and shown: its report was printed, or why not. No page of its data area has changed, now or in a crash, and a crash
-- leaves the store that there was.
pub record DidShow {K D : Type 0} (sink : sink_trait.Ghosts K) (disk : disk_trait.Ghosts D)
    (sink_old : K) (disk_old : D) (how : Status) (sink_new : K) (disk_new : D) : Type 0 where
  pub showed : Showed sink disk how sink_old sink_new disk_old disk_new
  -- a report that was printed cost an opening
  pub costs : HasReported how → CostsOpening disk disk_old disk_new
  pub wrote : OnlyWrites disk (IsMetadata (disk.size disk_old) (disk.story disk_old).reads) disk_old disk_new
  pub survives : StoreSurvives disk disk_old disk_new

-- A store was opened and checked: its report was printed, or why not. Damage that is told is that of a state. No page of its data area
-- has changed, now or in a crash, and a crash leaves the store that there was.
pub record DidCheck {K D : Type 0} (sink : sink_trait.Ghosts K) (disk : disk_trait.Ghosts D)
    (sink_old : K) (disk_old : D) (how : Status) (sink_new : K) (disk_new : D) : Type 0 where
  pub checked : Checked sink disk how sink_old sink_new disk_old disk_new
  -- a report that was printed cost an opening, but for reads
  pub costs : HasReported how → CostsOpening disk disk_old disk_new
  pub named : NamesDamage disk how disk_old
  pub wrote : OnlyWrites disk (IsMetadata (disk.size disk_old) (disk.story disk_old).reads) disk_old disk_new
  pub survives : StoreSurvives disk disk_old disk_new

-- What a form does. The source is read by `fresh` and `steps` alone.
abbrev pub Did : {S K D : Type 0} → source_trait.Ghosts S → sink_trait.Ghosts K → disk_trait.Ghosts D → Form
    → S → K → D → Status → S → K → D → Type 0
Did source sink disk (Format layout) source_old sink_old disk_old how source_new sink_new disk_new =
    (source_new ≡ source_old) × DidFormat sink disk layout sink_old disk_old how sink_new disk_new
Did source sink disk (Fresh layout) source_old sink_old disk_old how source_new sink_new disk_new =
    DidFresh source sink disk layout source_old sink_old disk_old how source_new sink_new disk_new
Did source sink disk Steps source_old sink_old disk_old how source_new sink_new disk_new =
    DidSteps source sink disk no_cost source_old sink_old disk_old how source_new sink_new disk_new
Did source sink disk Show source_old sink_old disk_old how source_new sink_new disk_new =
    (source_new ≡ source_old) × DidShow sink disk sink_old disk_old how sink_new disk_new
Did source sink disk Check source_old sink_old disk_old how source_new sink_new disk_new =
    (source_new ≡ source_old) × DidCheck sink disk sink_old disk_old how sink_new disk_new

-- the words ask for a check, and it found damage
pub record IsReported (words : List (List ℕ)) (how : Status) : Type 0 where
  pub check : IsForm words Check
  pub damage : IsDamaged how

-- the same of a form that was read
pub record IsReportedBy (form : Option command.Form) (how : Status) : Type 0 where
  pub check : form ≡ Some command_form.Check
  pub damage : IsDamaged how

-- The run of a command line over three ends: how it ended, and how it left them.
pub record Run {S K D : Type 0} (source : source_trait.Ghosts S) (sink : sink_trait.Ghosts K) (disk : disk_trait.Ghosts D) (words : List (List ℕ))
    (source_old : S) (sink_old : K) (disk_old : D) (how : Status) (source_new : S) (sink_new : K) (disk_new : D) : Type 0 where
  -- Usage exactly where the words are no form
  pub usage : (how ≡ status.Usage) ↔ IsNoForm words
  -- the sink before the closing line
  pub sink_before : K
  -- nothing was done where the words are no form; and else what their form does
  pub alone : IsNoForm words → LeftAlone source_old sink_old disk_old source_new sink_before disk_new
  pub did : (form : Form) → IsForm words form → Did source sink disk form source_old sink_old disk_old how source_new sink_before disk_new
  -- the closing line; the report of a check that found damage stands in its place
  pub closing : (IsReported words how → ⊥)
      → Closed how (sink.frugal sink_old) (sink.faults sink_old) (sink.faults sink_new) (sink.taken sink_before) (sink.taken sink_new)
  pub reported : IsReported words how → sink_new ≡ sink_before
  -- a fault has its cause
  pub faults : IsRaised how (counts_of source sink disk source_old sink_old disk_old) (counts_of source sink disk source_new sink_new disk_new)
  -- no count of faults fell, the disk has its size, and each end is as frugal as it was
  pub keeps : KeepsEnds source sink disk source_old sink_old disk_old source_new sink_new disk_new
