-- Why bytes aren't read into memory.
use Rattle.std.specs.Prelude.{ℕ}
use Rattle.blob_base.specs.Faults.{Rose}
use Rattle.blob_base.specs.declared.faults.IoFault.{IoFault}
use Rattle.blob_base.specs.declared.faults.IoFault.TheVariants.{Failed, OutOfMemory}

-- A disk fails only where its count rose. Memory may be short at any time.
abbrev pub FailedFrom : ℕ → ℕ → IoFault → Type 0
FailedFrom before now Failed = Rose before now
FailedFrom before now OutOfMemory = Unit {0}
