-- What is read of a log, and why it isn't.
use Rattle.std.specs.Prelude.{ℕ, ◌≤◌, ◌*◌, List, Option, None, Some, length, map}
use Rattle.blob_base.specs.Faults.{Rose}
use Rattle.blob_base.specs.declared.faults.IoFault.{IoFault}
use Rattle.blob_base.specs.declared.faults.IoFault.TheVariants as io
use Rattle.store_model.specs.Disk.{Image, page_bytes}
use Rattle.store_model.specs.LogReading.{IsBodyAt, LacksBody, StoredBody}
use Rattle.meta_log.specs.declared.read.Body.{Body}
use Rattle.meta_log.specs.declared.read.ReadFault.{ReadFault}
use Rattle.meta_log.specs.declared.read.ReadFault.TheVariants as fault

-- bodies that were read, as definitions see them
abbrev pub stored_body : Body → StoredBody
stored_body body = record { page = body.page; bytes = body.bytes }

abbrev pub stored : List Body → List StoredBody
stored bodies = map stored_body bodies

-- a body has no more bytes than the log area
abbrev pub IsShort : Body → Type 0
IsShort body = length body.bytes ≤ 511 * page_bytes

-- What was found behind an open gate: its body, or that there is none.
abbrev pub IsFound : Image → ℕ → ℕ → Option (List ℕ) → Type 0
IsFound image half gate None = (bytes : List ℕ) → IsBodyAt image half gate bytes → ⊥
IsFound image half gate (Some bytes) = IsBodyAt image half gate bytes

-- a disk's fault, as that of a reading
abbrev pub read_fault : IoFault → ReadFault
read_fault io.Failed = fault.Failed
read_fault io.OutOfMemory = fault.OutOfMemory

-- A disk fails only where its count rose. Memory may be short at any time, and a gate is refused for what the log is.
abbrev pub ReadCameFrom : ℕ → ℕ → ReadFault → Type 0
ReadCameFrom before now (fault.BadFrame page bodies) = Unit {0}
ReadCameFrom before now fault.Failed = Rose before now
ReadCameFrom before now fault.OutOfMemory = Unit {0}

-- a gate is refused only where no body stands behind it
abbrev pub IsRefused : Image → ℕ → ReadFault → Type 0
IsRefused image half (fault.BadFrame page bodies) = LacksBody image half (stored bodies) page
IsRefused image half fault.Failed = Unit {0}
IsRefused image half fault.OutOfMemory = Unit {0}
