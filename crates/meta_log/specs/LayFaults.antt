-- Why a body isn't laid.
use Rattle.std.specs.Prelude.{ℕ, ◌<◌, ◌≡◌, Bool, false}
use Rattle.blob_base.specs.Faults.{Rose}
use Rattle.blob_base.specs.declared.faults.IoFault.{IoFault}
use Rattle.blob_base.specs.declared.faults.IoFault.TheVariants as io
use Rattle.meta_log.specs.declared.fault.LayFault.{LayFault}
use Rattle.meta_log.specs.declared.fault.LayFault.TheVariants as fault

-- a disk's fault, as that of a log
abbrev pub lay_fault : IoFault → LayFault
lay_fault io.Failed = fault.Failed
lay_fault io.OutOfMemory = fault.OutOfMemory

-- The log is full where more pages are needed than are left. A fault comes only where the disk's count rose, and want of memory
-- only where the disk isn't frugal.
abbrev pub LayCameFrom : ℕ → ℕ → ℕ → ℕ → Bool → LayFault → Type 0
LayCameFrom needed room before now frugal (fault.LogFull need left) = (need ≡ needed) × (left ≡ room) × (room < needed)
LayCameFrom needed room before now frugal fault.Failed = Rose before now
LayCameFrom needed room before now frugal fault.OutOfMemory = frugal ≡ false
