-- What is said of the faults of bodies.
use Rattle.std.specs.Prelude.{ℕ, ◌+◌, ⊤}
use Rattle.frame_codec.specs.declared.fault.FrameFault.{FrameFault}
use Rattle.frame_codec.specs.declared.fault.FrameFault.TheVariants.{BadBody, OutOfMemory}

-- something is said of the offset of a bad body, and nothing of want of memory
abbrev pub IfBad : FrameFault → (ℕ → Type 0) → Type 0
IfBad (BadBody at) says = says at
IfBad OutOfMemory says = ⊤

-- the same fault, of bytes that stand at an offset of others
abbrev pub fault_behind : FrameFault → ℕ → FrameFault
fault_behind (BadBody place) at = BadBody (at + place)
fault_behind OutOfMemory at = OutOfMemory
