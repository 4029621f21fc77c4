-- What runs leave their ends with: what a sink took, and why a run ended with a fault.
use Rattle.std.specs.Prelude.{◌≡◌, ℕ, ⊤, Bool, false, List, ◌++◌, Option}
use Rattle.std.specs.Io.KnownBytes.{Appends}
use Rattle.blob_base.specs.Faults.{KeepsEnd, Rose}
use Rattle.blob_base.specs.declared.faults.IoFault.{IoFault}
use Rattle.blob_base.specs.declared.faults.IoFault.TheVariants as io
use Rattle.blob_script.specs.declared.status.Status.{Status}
use Rattle.blob_script.specs.declared.status.Status.TheVariants as status
use Rattle.io_ends.specs.declared.traits.Sink as sink_trait

-- `front` is the front of `whole`
pub record IsFront (front whole : List ℕ) : Type 0 where
  pub rest : List ℕ
  pub whole_is : whole ≡ front ++ rest

-- the sink took a front of this text
pub record TookFront (old new : Option (List ℕ)) (whole : List ℕ) : Type 0 where
  pub text : List ℕ
  pub took : Appends old new text
  pub front : IsFront text whole

-- the statuses of faults of a sink and of a disk
abbrev pub print_ending : IoFault → Status
print_ending io.Failed = status.WriteFault
print_ending io.OutOfMemory = status.OutOfMemory

abbrev pub disk_ending : IoFault → Status
disk_ending io.Failed = status.DiskFault
disk_ending io.OutOfMemory = status.OutOfMemory

-- a fault is told only where the count of that end rose; want of memory is free
abbrev pub IsCaused : Status → ℕ → ℕ → ℕ → ℕ → Type 0
IsCaused status.WriteFault sink_before sink_now disk_before disk_now = Rose sink_before sink_now
IsCaused status.DiskFault sink_before sink_now disk_before disk_now = Rose disk_before disk_now
IsCaused _ sink_before sink_now disk_before disk_now = ⊤

-- a status that ends printing: the sink failed, or, as it isn't frugal, found no memory
abbrev pub EndsPrinting : Status → Bool → ℕ → ℕ → Type 0
EndsPrinting status.WriteFault frugal before now = Rose before now
EndsPrinting status.OutOfMemory frugal before now = frugal ≡ false
EndsPrinting _ frugal before now = ⊥

-- a text was printed
pub record HasPrinted {K : Type 0} (g : sink_trait.Ghosts K) (text : List ℕ) (old new : K) : Type 0 where
  pub took : Appends (g.taken old) (g.taken new) text
  pub keeps : KeepsEnd g.faults g.frugal old new

-- its printing was broken off, with this status
pub record BrokeOff {K : Type 0} (g : sink_trait.Ghosts K) (whole : List ℕ) (how : Status) (old new : K) : Type 0 where
  pub front : TookFront (g.taken old) (g.taken new) whole
  pub ends : EndsPrinting how (g.frugal old) (g.faults old) (g.faults new)
  pub keeps : KeepsEnd g.faults g.frugal old new
