-- Laws on the causes of faults.
use Rattle.std.proofs.Common.{◌≡◌, ℕ, ◌≤◌, Bool, Result, Ok, Err, refl, sym, ◌∙◌, arith}
use Rattle.std.proofs.Math.Nat.{le_refl, le_trans}
use Rattle.blob_base.specs.declared.faults.IoFault.{IoFault}
use Rattle.blob_base.specs.declared.faults.IoFault.TheVariants.{Failed, OutOfMemory}
use Rattle.blob_base.specs.Faults.{CameFrom, HasCause, KeepsEnd, Rose}

-- a count that rose later rose since earlier
pub Rose-since : (first before now : ℕ) → first ≤ before → Rose before now → Rose first now
Rose-since first before now later rose = omega arith

-- a count that rose before has risen since, where it doesn't fall
pub Rose-until : (before now last : ℕ) → Rose before now → now ≤ last → Rose before last
Rose-until before now last rose later = omega arith

-- the cause of a later call is a cause since earlier
pub CameFrom-since : (fault : IoFault) (first before now : ℕ) (frugal was : Bool) → first ≤ before → frugal ≡ was → CameFrom fault before now frugal → CameFrom fault first now was
CameFrom-since Failed first before now frugal was later same cause = Rose-since first before now later cause
CameFrom-since OutOfMemory first before now frugal was later same cause = sym same ∙ cause

-- no call
pub KeepsEnd-none : {E : Type 0} (faults : E → ℕ) (frugal : E → Bool) (end : E) → KeepsEnd faults frugal end end
KeepsEnd-none faults frugal end = record { later = le_refl (faults end); same = refl }

-- one call after another
pub KeepsEnd-then : {E : Type 0} (faults : E → ℕ) (frugal : E → Bool) (old mid new : E) → KeepsEnd faults frugal old mid → KeepsEnd faults frugal mid new
    → KeepsEnd faults frugal old new
KeepsEnd-then faults frugal old mid new one other = record { later = le_trans one.later other.later; same = other.same ∙ one.same }

-- the cause of a later call is one of them all
pub HasCause-since : {E T : Type 0} (faults : E → ℕ) (frugal : E → Bool) (old mid new : E) (result : Result T IoFault) → KeepsEnd faults frugal old mid
    → HasCause faults frugal mid new result → HasCause faults frugal old new result
HasCause-since faults frugal old mid new (Ok value) kept cause = cause
HasCause-since faults frugal old mid new (Err e) kept cause =
    CameFrom-since e (faults old) (faults mid) (faults new) (frugal mid) (frugal old) kept.later kept.same cause
