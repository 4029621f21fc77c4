-- What a disk in memory tells.
use Rattle.std.specs.Prelude.{ℕ, ◌+◌, ◌-◌, ◌^◌, ◌≡◌, ◌↔◌, min, Bool, false, Contains, IsErrOf, OnOk, Result, take}
use Rattle.blob_base.specs.Faults.{OnFailed, OnMade, OnNoMemory}
use Rattle.blob_base.specs.declared.faults.IoFault.{IoFault}
use Rattle.blob_base.specs.declared.faults.IoFault.TheVariants.{Failed}
use Rattle.disk_model.specs.declared.memory.MemDisk.{MemDisk}
use Rattle.disk_model.specs.Calls.{Replay, image_of, settled, replay_calls, calls_of}
use Rattle.disk_model.specs.Stories.{story_of}
use Rattle.store_model.specs.Disk.{Calls}
use Rattle.store_model.specs.Images.{Story}

-- its time, what its pages read as, and which images a crash may leave
abbrev pub disk_story : MemDisk → Story
disk_story disk = story_of disk.start.items disk.calls.items

-- what its first calls made of what it began with
abbrev pub replay_at : MemDisk → ℕ → Replay
replay_at disk moment = replay_calls (settled (image_of disk.start.items)) (take moment disk.calls.items)

-- the calls that it took
abbrev pub disk_calls : MemDisk → Calls
disk_calls disk = calls_of disk.calls.items

-- how often it has failed
abbrev pub disk_faults : MemDisk → ℕ
disk_faults disk = disk.faults

-- how many pages it has
abbrev pub disk_size : MemDisk → ℕ
disk_size disk = disk.size

-- it may find no memory
abbrev pub disk_frugal : MemDisk → Bool
disk_frugal disk = false

-- A call that was made failed exactly where its number, counted from 1, is one of those that were chosen, and the count of
-- faults rose by one then and stayed else. The choice is kept.
pub record AsChosen {T : Type 0} (old new : MemDisk) (result : Result T IoFault) : Type 0 where
  pub failed : OnMade result (IsErrOf result Failed ↔ Contains old.fails ((disk_story old).time + 1))
  pub faulted : OnFailed result (disk_faults new ≡ min (disk_faults old + 1) (2 ^ 64 - 1))
  pub faultless : OnOk result (disk_faults new ≡ disk_faults old)
  pub unmade : OnNoMemory result (disk_faults new ≡ disk_faults old)
  pub kept : new.fails ≡ old.fails
