-- Why a step has no answer.
use Rattle.std.specs.Prelude.{ℕ, ◌≡◌, ⊤, List, Option, Some, None}
use Rattle.std.specs.FinMap.{FinMap, get}
use Rattle.blob_base.specs.Faults.{Rose}
use Rattle.blob_base.specs.declared.faults.IoFault.{IoFault}
use Rattle.blob_base.specs.declared.faults.IoFault.TheVariants as io
use Rattle.blob_steps.specs.declared.fault.StoreFault.{StoreFault}
use Rattle.blob_steps.specs.declared.fault.StoreFault.TheVariants as fault
use Rattle.store_model.specs.Disk.{Image}
use Rattle.store_model.specs.Key.{key_order}
use Rattle.store_model.specs.Script.{Session, Step, Transact}
use Rattle.store_model.specs.Standing.{IsDamaged}
use Rattle.store_model.specs.State.{State}
use Rattle.store_model.specs.Store.{Object}
use Rattle.store_model.specs.Turn.{Get}
use Rattle.store_model.specs.Verify.{FailsFirst, IsDamage, computed, given}
use Rattle.vault.specs.declared.fault.Cause.TheVariants as cause
use Rattle.vault.specs.declared.fault.GatherFault.{GatherFault}
use Rattle.vault.specs.declared.fault.GatherFault.TheVariants as gather
use Rattle.vault.specs.declared.fault.LeadFault.{LeadFault}
use Rattle.vault.specs.declared.fault.LeadFault.TheVariants as lead

-- a step of a session that gets this key
abbrev pub IsGet : Step → List ℕ → Type 0
IsGet step key = (session : ℕ) × (step ≡ Session session (Transact (Get key)))

-- what a fault of the disk is to a step
abbrev pub store_fault : IoFault → StoreFault
store_fault io.Failed = fault.Failed
store_fault io.OutOfMemory = fault.OutOfMemory

-- what a fault of a lead or of a turn is to a step
abbrev pub lead_fault : LeadFault → StoreFault
lead_fault (lead.Shut cause.Disk) = fault.Failed
lead_fault (lead.Shut cause.Memory) = fault.OutOfMemory
lead_fault lead.OutOfMemory = fault.OutOfMemory

-- what a fault of reading a content is to a step; a key's own number isn't stale
abbrev pub gathered_fault : GatherFault → StoreFault
gathered_fault (gather.Shut cause.Disk) = fault.Failed
gathered_fault (gather.Shut cause.Memory) = fault.OutOfMemory
gathered_fault (gather.Stale now) = fault.OutOfMemory
gathered_fault gather.Failed = fault.Failed
gathered_fault gather.OutOfMemory = fault.OutOfMemory

-- The disk failed only where the count of its faults rose.
abbrev pub IsRaisedFault : ℕ → ℕ → StoreFault → Type 0
IsRaisedFault before now fault.Failed = Rose before now
IsRaisedFault before now fault.OutOfMemory = ⊤
IsRaisedFault before now (fault.Damaged key link want got) = ⊤

-- Damage is that of an object.
abbrev pub ShowsDamageFault : FinMap key_order Object → StoreFault → Type 0
ShowsDamageFault objects fault.Failed = ⊤
ShowsDamageFault objects fault.OutOfMemory = ⊤
ShowsDamageFault objects (fault.Damaged key link want got) = IsDamaged objects key link want got

-- Damage is that of this key and this state.
abbrev pub DamageOf : List ℕ → State → StoreFault → Type 0
DamageOf one state fault.Failed = ⊤
DamageOf one state fault.OutOfMemory = ⊤
DamageOf one state (fault.Damaged key link want got) = (key ≡ one) × IsDamage state link want got

-- It is the damage of this key that these bytes show of this state.
abbrev pub FailsOver : List ℕ → State → List ℕ → StoreFault → Type 0
FailsOver one state content fault.Failed = ⊥
FailsOver one state content fault.OutOfMemory = ⊥
FailsOver one state content (fault.Damaged key link want got) = (key ≡ one) × FailsFirst (given content state) state link want got

-- Damage is what the pages of this state give.
abbrev pub FailsOn : Image → ℕ → State → StoreFault → Type 0
FailsOn image first state fault.Failed = ⊤
FailsOn image first state fault.OutOfMemory = ⊤
FailsOn image first state (fault.Damaged key link want got) = FailsFirst (computed image first state) state link want got

-- a fault other than damage
abbrev pub IsUndamagedFault : StoreFault → Type 0
IsUndamagedFault fault.Failed = ⊤
IsUndamagedFault fault.OutOfMemory = ⊤
IsUndamagedFault (fault.Damaged key link want got) = ⊥

-- Damage is that of this key and the state there, where there is one.
abbrev pub DamageAt : List ℕ → Option State → StoreFault → Type 0
DamageAt one None = IsUndamagedFault
DamageAt one (Some state) = DamageOf one state

-- So it is what the state's pages give.
abbrev pub FailsAt : Image → ℕ → Option State → StoreFault → Type 0
FailsAt image first None = IsUndamagedFault
FailsAt image first (Some state) = FailsOn image first state

-- Damage is that of the key that this step gets.
abbrev pub NamesGet : Step → StoreFault → Type 0
NamesGet step fault.Failed = ⊤
NamesGet step fault.OutOfMemory = ⊤
NamesGet step (fault.Damaged key link want got) = IsGet step key

-- Damage is that of the state that stands under its key among these.
abbrev pub IsDamageAmong : FinMap key_order State → StoreFault → Type 0
IsDamageAmong states fault.Failed = ⊤
IsDamageAmong states fault.OutOfMemory = ⊤
IsDamageAmong states (fault.Damaged key link want got) = (state : State) × (get states key ≡ Some state) × IsDamage state link want got
