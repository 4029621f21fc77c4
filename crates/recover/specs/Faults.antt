-- Why a disk isn't opened, in the words of the definitions.
use Rattle.std.specs.Prelude.{ℕ, ◌≡◌, ◌<◌, Bool, false, List}
use Rattle.blob_base.specs.Faults.{Rose}
use Rattle.blob_base.specs.Refusals.{refusal_of}
use Rattle.blob_base.specs.declared.faults.IoFault.{IoFault}
use Rattle.blob_base.specs.declared.faults.IoFault.TheVariants as io
use Rattle.blob_base.specs.declared.faults.StoreRefusal.TheVariants as refusal
use Rattle.check_point.specs.declared.read.HalfFault.{HalfFault}
use Rattle.check_point.specs.declared.read.HalfFault.TheVariants as half_fault_of
use Rattle.recover.specs.declared.fault.RecoverFault.{RecoverFault}
use Rattle.recover.specs.declared.fault.RecoverFault.TheVariants as fault
use Rattle.store_model.specs.Disk.{Image}
use Rattle.store_model.specs.HalfRefusals.{RefusesHalf}
use Rattle.store_model.specs.HalfRefusals as half_refusal
use Rattle.store_model.specs.Space.{Block, IsLeastOwnedTwice}
use Rattle.store_model.specs.LogReading.{StoredBody}
use Rattle.store_model.specs.Frame.{Entry}
use Rattle.store_model.specs.Reading.{Found, IsFirstBad, Reads, Refused, RefusesLog}

-- a disk's fault
abbrev pub from_io : IoFault → RecoverFault
from_io io.Failed = fault.Failed
from_io io.OutOfMemory = fault.OutOfMemory

-- the fault of a half that isn't read
abbrev pub half_fault : ℕ → HalfFault → RecoverFault
half_fault half (half_fault_of.TooSmall need have) = fault.Refused (refusal.TooSmall need have)
half_fault half (half_fault_of.BadHalf at) = fault.Refused (refusal.BadHalf half at)
half_fault half (half_fault_of.BadTuple at) = fault.Refused (refusal.BadTuple half at)
half_fault half half_fault_of.Failed = fault.Failed
half_fault half half_fault_of.OutOfMemory = fault.OutOfMemory

-- A failure comes only where the disk's count rose; want of memory is free.
abbrev pub CameFrom : ℕ → ℕ → RecoverFault → Type 0
CameFrom before now (fault.Refused why) = Unit {0}
CameFrom before now fault.Failed = Rose before now
CameFrom before now fault.OutOfMemory = Unit {0}

-- A refusal is the reading of a disk of so many pages.
abbrev pub IsRead : ℕ → Image → RecoverFault → Type 0
IsRead pages image (fault.Refused why) = Reads pages image (Refused (refusal_of why))
IsRead pages image fault.Failed = Unit {0}
IsRead pages image fault.OutOfMemory = Unit {0}

-- A refusal is that of the log of a half.
abbrev pub IsOfLog : Image → ℕ → Found → RecoverFault → Type 0
IsOfLog image half before (fault.Refused (refusal.BadFrame other page)) = (other ≡ half) × RefusesLog image half before page
IsOfLog image half before (fault.Refused (refusal.TooSmall need have)) = ⊥
IsOfLog image half before (fault.Refused (refusal.BadHalf other at)) = ⊥
IsOfLog image half before (fault.Refused (refusal.BadTuple other at)) = ⊥
IsOfLog image half before (fault.Refused (refusal.OwnedTwice page)) = ⊥
IsOfLog image half before fault.Failed = Unit {0}
IsOfLog image half before fault.OutOfMemory = Unit {0}

-- A refusal is that of the first bad frame among bodies of a half.
abbrev pub IsFirstBadFault : ℕ → (List StoredBody → List Entry → List Entry → Type 0) → Found → List StoredBody → RecoverFault → Type 0
IsFirstBadFault half Kept before bodies (fault.Refused (refusal.BadFrame other page)) = (other ≡ half) × IsFirstBad Kept before bodies page
IsFirstBadFault half Kept before bodies (fault.Refused (refusal.TooSmall need have)) = ⊥
IsFirstBadFault half Kept before bodies (fault.Refused (refusal.BadHalf other at)) = ⊥
IsFirstBadFault half Kept before bodies (fault.Refused (refusal.BadTuple other at)) = ⊥
IsFirstBadFault half Kept before bodies (fault.Refused (refusal.OwnedTwice page)) = ⊥
IsFirstBadFault half Kept before bodies fault.Failed = Unit {0}
IsFirstBadFault half Kept before bodies fault.OutOfMemory = Unit {0}

-- why a disk isn't formatted: it has fewer pages than are needed, its count of faults rose, or it isn't frugal
abbrev pub FormatCameFrom : ℕ → ℕ → ℕ → ℕ → Bool → RecoverFault → Type 0
FormatCameFrom needed pages before now frugal (fault.Refused (refusal.TooSmall need have)) = (need ≡ needed) × (have ≡ pages) × (pages < needed)
FormatCameFrom needed pages before now frugal (fault.Refused (refusal.BadHalf half at)) = ⊥
FormatCameFrom needed pages before now frugal (fault.Refused (refusal.BadTuple half at)) = ⊥
FormatCameFrom needed pages before now frugal (fault.Refused (refusal.BadFrame half page)) = ⊥
FormatCameFrom needed pages before now frugal (fault.Refused (refusal.OwnedTwice page)) = ⊥
FormatCameFrom needed pages before now frugal fault.Failed = Rose before now
FormatCameFrom needed pages before now frugal fault.OutOfMemory = frugal ≡ false

-- A refusal is that of a half that is picked.
abbrev pub IsOfHalf : ℕ → Image → ℕ → RecoverFault → Type 0
IsOfHalf pages image half (fault.Refused (refusal.TooSmall need have)) = RefusesHalf pages image half (half_refusal.TooSmall need have)
IsOfHalf pages image half (fault.Refused (refusal.BadHalf other at)) = (other ≡ half) × RefusesHalf pages image half (half_refusal.BadHalf at)
IsOfHalf pages image half (fault.Refused (refusal.BadTuple other at)) = (other ≡ half) × RefusesHalf pages image half (half_refusal.BadTuple at)
IsOfHalf pages image half (fault.Refused (refusal.BadFrame other page)) = ⊥
IsOfHalf pages image half (fault.Refused (refusal.OwnedTwice page)) = ⊥
IsOfHalf pages image half fault.Failed = Unit {0}
IsOfHalf pages image half fault.OutOfMemory = Unit {0}

-- A refusal is that of blocks of which a page lies in two.
abbrev pub IsOfSpace : List Block → RecoverFault → Type 0
IsOfSpace blocks (fault.Refused (refusal.OwnedTwice page)) = IsLeastOwnedTwice blocks page
IsOfSpace blocks (fault.Refused (refusal.TooSmall need have)) = ⊥
IsOfSpace blocks (fault.Refused (refusal.BadHalf half at)) = ⊥
IsOfSpace blocks (fault.Refused (refusal.BadTuple half at)) = ⊥
IsOfSpace blocks (fault.Refused (refusal.BadFrame half page)) = ⊥
IsOfSpace blocks fault.Failed = ⊥
IsOfSpace blocks fault.OutOfMemory = Unit {0}
