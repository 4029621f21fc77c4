-- What a disk over a file shows, and what it doesn't tell.
use Rattle.std.specs.Prelude.{◌≡◌, ℕ, Bool, true, List, Option, Some, IfSome}
use Rattle.std.specs.Io.KnownBytes.{Appends, Consumes, Keeps}
use Rattle.disk_file.specs.declared.file.FileDisk.{FileDisk}
use Rattle.store_model.specs.Disk.{Calls}

-- how many pages it has
abbrev pub disk_size : {F : Type 0} → FileDisk F → ℕ
disk_size disk = disk.size

-- how often it has failed
abbrev pub disk_faults : {F : Type 0} → FileDisk F → ℕ
disk_faults disk = disk.faults

-- it never finds no memory
abbrev pub disk_frugal : {F : Type 0} → FileDisk F → Bool
disk_frugal disk = true

-- It doesn't tell its calls, so these are none that it counted.
abbrev pub no_calls : Calls
no_calls = record { reads = 0; writes = 0; syncs = 0 }

-- A file was moved to a place, with its bytes kept, and there gave these bytes. Of what a file doesn't tell (its
-- position, its bytes, what it has left) this says nothing.
pub record ReadsAt {F : Type 0} (position : F → Option ℕ) (whole left : F → Option (List ℕ)) (old new : F) (place : ℕ)
    (bytes : List ℕ) : Type 0 where
  pub moved : F
  pub there : IfSome (position old) (λ _. position moved ≡ Some place)
  pub kept : Keeps (whole old) (whole moved)
  pub given : Consumes (left moved) (left new) bytes

-- A file was moved to a place, with its bytes kept, and there took these bytes. Of what a file doesn't tell (its
-- position, its bytes, what it holds) this says nothing.
pub record WritesAt {F : Type 0} (position : F → Option ℕ) (whole held : F → Option (List ℕ)) (old new : F) (place : ℕ)
    (bytes : List ℕ) : Type 0 where
  pub moved : F
  pub there : IfSome (position old) (λ _. position moved ≡ Some place)
  pub kept : Keeps (whole old) (whole moved)
  pub taken : Appends (held moved) (held new) bytes
