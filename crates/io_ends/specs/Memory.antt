-- What the ends over memory tell.
use Rattle.std.specs.Prelude.{ℕ, ◌+◌, ◌-◌, ◌^◌, ◌≡◌, ◌↔◌, min, Bool, true, false, Contains, IsErrOf, List, OnOk, Option, Some, Result, drop}
use Rattle.blob_base.specs.Faults.{OnFailed, OnMade, OnNoMemory}
use Rattle.blob_base.specs.declared.faults.IoFault.{IoFault}
use Rattle.blob_base.specs.declared.faults.IoFault.TheVariants.{Failed}
use Rattle.io_ends.specs.declared.memory.MemSource.{MemSource}
use Rattle.io_ends.specs.declared.memory.MemSink.{MemSink}

-- the bytes that a source has left
abbrev pub source_left : MemSource → List ℕ
source_left source = drop source.given source.bytes

-- how often a source has failed
abbrev pub source_faults : MemSource → ℕ
source_faults source = source.faults

-- the bytes that a sink took
abbrev pub sink_taken : MemSink → List ℕ
sink_taken sink = sink.taken

-- how often a sink has failed
abbrev pub sink_faults : MemSink → ℕ
sink_faults sink = sink.faults

-- what both tell
abbrev pub source_tells : MemSource → Option (List ℕ)
source_tells source = Some (source_left source)

abbrev pub sink_tells : MemSink → Option (List ℕ)
sink_tells sink = Some (sink_taken sink)

-- a source never finds no memory, and a sink may
abbrev pub source_frugal : MemSource → Bool
source_frugal source = true

abbrev pub sink_frugal : MemSink → Bool
sink_frugal sink = false

-- the number of the call behind so many: calls are counted from 1, and 64 bits count no further than they can
abbrev pub call_behind : ℕ → ℕ
call_behind calls = min (calls + 1) (2 ^ 64 - 1)

-- the count of faults behind one more
abbrev pub fault_behind : ℕ → ℕ
fault_behind faults = min (faults + 1) (2 ^ 64 - 1)

-- A read failed exactly where its number is one of those that were chosen, and the count of faults rose by one then and
-- stayed else. The choice is kept, and so is how many bytes a read gives at most.
pub record ReadAsChosen {T : Type 0} (old new : MemSource) (result : Result T IoFault) : Type 0 where
  pub failed : IsErrOf result Failed ↔ Contains old.fails (call_behind old.calls)
  pub faulted : OnFailed result (source_faults new ≡ fault_behind (source_faults old))
  pub faultless : OnOk result (source_faults new ≡ source_faults old)
  pub counted : new.calls ≡ call_behind old.calls
  pub kept : new.fails ≡ old.fails
  pub piece : new.piece ≡ old.piece

-- A write that was made failed exactly where its number is one of those that were chosen, and the count of faults rose by
-- one then and stayed else. The choice is kept.
pub record WrittenAsChosen {T : Type 0} (old new : MemSink) (result : Result T IoFault) : Type 0 where
  pub failed : OnMade result (IsErrOf result Failed ↔ Contains old.fails (call_behind old.calls))
  pub faulted : OnFailed result (sink_faults new ≡ fault_behind (sink_faults old))
  pub faultless : OnOk result (sink_faults new ≡ sink_faults old)
  pub unmade : OnNoMemory result (sink_faults new ≡ sink_faults old)
  pub counted : new.calls ≡ call_behind old.calls
  pub kept : new.fails ≡ old.fails
