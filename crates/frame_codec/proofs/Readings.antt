-- What was read of a write, put together, and what is said of a fault behind other bytes.
use Rattle.std.proofs.Common.{◌≡◌, ℕ, ◌+◌, ◌≤◌, List, ◌++◌, length, drop, sym, ap, ◌∙◌, arith}
use Rattle.std.specs.Prelude.{IsTrue}
use Rattle.store_model.specs.BodyRefusals.{may_stand, told_kind}
use Rattle.store_model.specs.Frame as model
use Rattle.store_model.specs.State.{State}
use Rattle.store_model.specs.Tuple.{IsAtFront, IsKeyAtFront, key_spelling, spelling}
use Rattle.store_model.proofs.WriteLaws.{Del-stands, Set-stands}
use Rattle.frame_codec.specs.Faults.{IfBad, fault_behind}
use Rattle.frame_codec.specs.Reading.{IsSetRead, IsWriteRead}
use Rattle.frame_codec.specs.Values.{model_write}
use Rattle.frame_codec.specs.declared.entry.Write.{Write}
use Rattle.frame_codec.specs.declared.fault.FrameFault.{FrameFault}
use Rattle.frame_codec.specs.declared.fault.FrameFault.TheVariants.{BadBody, OutOfMemory}

pub IfBad-behind : (fault : FrameFault) (at : ℕ) (P Q : ℕ → Type 0) → ((place : ℕ) → P place → Q (at + place)) → IfBad fault P → IfBad (fault_behind fault at) Q
IfBad-behind (BadBody place) at P Q says bad = says place bad
IfBad-behind OutOfMemory at P Q says bad = tt

pub IfBad-weaker : (fault : FrameFault) (P Q : ℕ → Type 0) → ((place : ℕ) → P place → Q place) → IfBad fault P → IfBad fault Q
IfBad-weaker (BadBody place) P Q says bad = says place bad
IfBad-weaker OutOfMemory P Q says bad = tt

-- a write of a state
set-read : (pages number : ℕ) (before : List model.Entry) (writes : List model.Write) (bytes key : List ℕ) (state : State) (one : model.Write) (long : ℕ)
    → model.Set key state ≡ one → 1 ≤ length bytes → told_kind bytes ≡ 1 → IsTrue (may_stand before writes key) → IsAtFront pages (drop 1 bytes) key state
    → state.born ≡ number → long ≡ length (spelling key state) → IsWriteRead pages number before writes bytes one (1 + long)
set-read pages number before writes bytes key state one long set some kind may front born long_is =
    let stands : bytes ≡ model.write_spelling (model.Set key state) ++ drop (1 + long) bytes =
    Set-stands pages bytes key state some kind front
    ∙ ap (λ (n : ℕ). model.write_spelling (model.Set key state) ++ drop (1 + n) bytes) (sym long_is) in
    rw (← set) (record { write = (front.tuple, born); may = may; stands = stands; long_is = omega (arith, long_is) })

pub IsWriteRead-set : (pages number : ℕ) (before : List model.Entry) (writes : List model.Write) (bytes rest key : List ℕ) (one : Write) (long : ℕ)
    → 1 ≤ length bytes → told_kind bytes ≡ 1 → rest ≡ drop 1 bytes → IsTrue (may_stand before writes key) → IsSetRead pages number rest key one long
    → IsWriteRead pages number before writes bytes (model_write one) (1 + long)
IsWriteRead-set pages number before writes bytes rest key one long some kind rest_is may read =
    set-read pages number before writes bytes key read.state (model_write one) long (sym read.set) some kind may (rw rest_is at read.front) read.born read.long_is

-- a write without one
pub IsWriteRead-del : (pages number : ℕ) (before : List model.Entry) (writes : List model.Write) (bytes rest key : List ℕ) (long : ℕ)
    → 1 ≤ length bytes → told_kind bytes ≡ 2 → rest ≡ drop 1 bytes → IsTrue (may_stand before writes key) → IsKeyAtFront rest key → long ≡ 2 + length key
    → IsWriteRead pages number before writes bytes (model.Del key) long
IsWriteRead-del pages number before writes bytes rest key long some kind rest_is may front long_is =
    let here : IsKeyAtFront (drop 1 bytes) key = rw rest_is at front in
    let same : 1 + length (key_spelling key) ≡ long = omega (arith, long_is) in
    let stands : bytes ≡ model.write_spelling (model.Del key) ++ drop long bytes =
    Del-stands bytes key some kind here ∙ ap (λ (n : ℕ). model.write_spelling (model.Del key) ++ drop n bytes) same in
    record { write = here.named; may = may; stands = stands; long_is = omega (arith, long_is) }
