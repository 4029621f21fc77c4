-- Words for what a call of a source, a sink or a disk may answer other than Ok, and why.
use Rattle.std.specs.Prelude.{ℕ, ◌+◌, ◌-◌, ◌^◌, ◌≤◌, ◌≡◌, min, Bool, false, Result, Ok, Err, IfErr}
use Rattle.blob_base.specs.declared.faults.IoFault.{IoFault}
use Rattle.blob_base.specs.declared.faults.IoFault.TheVariants.{Failed, OutOfMemory}

-- a count of faults rose, or stands at the last value of 64 bits
abbrev pub Rose : ℕ → ℕ → Type 0
Rose before now = min (before + 1) (2 ^ 64 - 1) ≤ now

-- a fault comes only where the count rose, and want of memory only where the end isn't frugal
abbrev pub CameFrom : IoFault → ℕ → ℕ → Bool → Type 0
CameFrom Failed before now frugal = Rose before now
CameFrom OutOfMemory before now frugal = frugal ≡ false

-- What each call on an end keeps: the count of its faults doesn't fall, and it stays as frugal as it was.
pub record KeepsEnd {E : Type 0} (faults : E → ℕ) (frugal : E → Bool) (old new : E) : Type 0 where
  pub later : faults old ≤ faults new
  pub same : frugal new ≡ frugal old

-- why calls on an end failed
abbrev pub HasCause : {E T : Type 0} → (E → ℕ) → (E → Bool) → E → E → Result T IoFault → Type 0
HasCause faults frugal old new result = IfErr result (λ e. CameFrom e (faults old) (faults new) (frugal old))

-- the call was made, whether it failed or not
abbrev pub OnMade : {T : Type 0} → Result T IoFault → Type 0 → Type 0
OnMade (Ok x) P = P
OnMade (Err Failed) P = P
OnMade (Err OutOfMemory) P = Unit {0}

-- the call was made and failed
abbrev pub OnFailed : {T : Type 0} → Result T IoFault → Type 0 → Type 0
OnFailed (Ok x) P = Unit {0}
OnFailed (Err Failed) P = P
OnFailed (Err OutOfMemory) P = Unit {0}

-- the call found no memory, and wasn't made
abbrev pub OnNoMemory : {T : Type 0} → Result T IoFault → Type 0 → Type 0
OnNoMemory (Ok x) P = Unit {0}
OnNoMemory (Err Failed) P = Unit {0}
OnNoMemory (Err OutOfMemory) P = P
