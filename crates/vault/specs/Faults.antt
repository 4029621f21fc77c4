-- Why a vault doesn't lead or turn.
use Rattle.std.specs.Prelude.{ℕ, ◌≡◌, ◌⊎◌, Bool, false, Option, None, Some}
use Rattle.blob_base.specs.Faults.{Rose}
use Rattle.blob_base.specs.declared.faults.IoFault.{IoFault}
use Rattle.blob_base.specs.declared.faults.IoFault.TheVariants as io
use Rattle.vault.specs.declared.fault.Cause.{Cause}
use Rattle.vault.specs.declared.fault.Cause.TheVariants as cause
use Rattle.vault.specs.declared.fault.GatherFault.{GatherFault}
use Rattle.vault.specs.declared.fault.GatherFault.TheVariants as gather
use Rattle.vault.specs.declared.fault.LeadFault.{LeadFault}
use Rattle.vault.specs.declared.fault.LeadFault.TheVariants as fault

-- the cause that a fault of the disk is
abbrev pub cause_of : IoFault → Cause
cause_of io.Failed = cause.Disk
cause_of io.OutOfMemory = cause.Memory

-- A disk's fault shuts only where its count rose, and want of memory only where the disk isn't frugal.
abbrev pub Shuts : ℕ → ℕ → Bool → Cause → Type 0
Shuts before now frugal cause.Disk = Rose before now
Shuts before now frugal cause.Memory = frugal ≡ false

-- A vault is shut for this cause: it was before, or a device call of this one failed. Want of memory shuts none.
abbrev pub IsShutBy : Option Cause → ℕ → ℕ → Bool → Option Cause → LeadFault → Type 0
IsShutBy was before now frugal is (fault.Shut why) = (is ≡ Some why) × ((was ≡ Some why) ⊎ Shuts before now frugal why)
IsShutBy was before now frugal is fault.OutOfMemory = is ≡ was

-- the fault of a read that a fault of the disk is
abbrev pub gather_fault_of : IoFault → GatherFault
gather_fault_of io.Failed = gather.Failed
gather_fault_of io.OutOfMemory = gather.OutOfMemory

-- Why bytes of a content aren't read: the vault was shut before, for this cause; or it wasn't, and the number is stale; or the faults of the
-- disk rose; or it found no memory, and isn't frugal.
abbrev pub IsUnread : (Option ℕ → Type 0) → Option Cause → ℕ → ℕ → Bool → GatherFault → Type 0
IsUnread IsStale was before now frugal (gather.Shut why) = was ≡ Some why
IsUnread IsStale was before now frugal (gather.Stale number) = (was ≡ None) × IsStale number
IsUnread IsStale was before now frugal gather.Failed = (was ≡ None) × Rose before now
IsUnread IsStale was before now frugal gather.OutOfMemory = (was ≡ None) × (frugal ≡ false)
