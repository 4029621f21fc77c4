-- What each call on a disk keeps and counts.
use Rattle.std.specs.Prelude.{ℕ, ◌≡◌, Bool, IsTrue, Result}
use Rattle.blob_base.specs.Faults.{KeepsEnd, OnMade, OnNoMemory}
use Rattle.blob_base.specs.declared.faults.IoFault.{IoFault}
use Rattle.store_model.specs.Disk.{Calls}
use Rattle.store_model.specs.Images.{Story, Unchanged, time_of}

-- the disk keeps its size, its count of faults doesn't fall, and it stays as frugal as it was
pub record KeepsDisk {D : Type 0} (pages faults : D → ℕ) (frugal : D → Bool) (old new : D) : Type 0 where
  pub size : pages new ≡ pages old
  pub end : KeepsEnd faults frugal old new

-- A call was counted where it was made, and the time is the number of calls. A call that found no memory raised no fault, and
-- changed nothing.
pub record Counted {D T : Type 0} (tells : Bool) (story : D → Story) (calls : D → Calls) (faults : D → ℕ) (more : Calls → Calls) (old new : D)
    (result : Result T IoFault) : Type 0 where
  pub made : IsTrue tells → OnMade result (calls new ≡ more (calls old))
  pub time : IsTrue tells → (story new).time ≡ time_of (calls new)
  pub raised : OnNoMemory result (faults new ≡ faults old)
  pub unmade : IsTrue tells → OnNoMemory result ((calls new ≡ calls old) × Unchanged (story old) (story new))
