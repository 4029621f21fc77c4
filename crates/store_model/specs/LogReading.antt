-- The reading of a half's log area: the bodies behind its open gates, up to the first closed one.
use Rattle.std.specs.Prelude.{ℕ, ◌+◌, ◌-◌, ◌≤◌, ◌≡◌, Bool, false, IsTrue, List, [], ◌∷◌, ◌++◌, length, take, codes}
use Rattle.std.specs.Int.{w32, to_be_bytes}
use Rattle.store_model.specs.Disk.{Image, area_of}
use Rattle.store_model.specs.Log.{at_log, body_pages, is_open, log_pages}

-- a body: the page of its gate, and its bytes
pub record StoredBody : Type 0 where
  pub page : ℕ
  pub bytes : List ℕ

-- the bytes of the log area behind a gate
abbrev pub behind_gate : Image → ℕ → ℕ → List ℕ
behind_gate image half gate = area_of image (at_log half (gate + 1)) (log_pages - 1 - gate)

-- the gate behind a body of so many bytes
abbrev pub next_gate : ℕ → ℕ → ℕ
next_gate gate bytes = gate + body_pages bytes + 1

-- A body stands behind a gate: these bytes begin with the text and with how many they are, and the next gate stands behind them in
-- the log area.
pub record IsBodyAt (image : Image) (half gate : ℕ) (bytes : List ℕ) : Type 0 where
  pub front : take 12 bytes ≡ codes "BLOBFRM1" ++ to_be_bytes w32 (length bytes)
  pub least : 13 ≤ length bytes
  pub room : next_gate gate (length bytes) ≤ log_pages - 1
  pub stand : take (length bytes) (behind_gate image half gate) ≡ bytes

-- whether a gate is open
abbrev pub gate_is_open : Image → ℕ → ℕ → Bool
gate_is_open image half gate = is_open (image (at_log half gate))

-- These bodies stand one behind the other behind open gates, from this gate to that one.
abbrev pub AreBodies : Image → ℕ → ℕ → List StoredBody → ℕ → Type 0
AreBodies image half from [] to = from ≡ to
AreBodies image half from (body ∷ bodies) to =
    (body.page ≡ from) × IsTrue (gate_is_open image half from) × IsBodyAt image half from body.bytes
    × AreBodies image half (next_gate from (length body.bytes)) bodies to

-- The log has these bodies, and its first closed gate is this one.
pub record HasBodies (image : Image) (half : ℕ) (bodies : List StoredBody) (gate : ℕ) : Type 0 where
  pub are : AreBodies image half 0 bodies gate
  pub within : gate ≤ log_pages - 1
  pub closed : gate_is_open image half gate ≡ false

-- The log has these bodies, and behind the open gate that follows them stands none.
pub record LacksBody (image : Image) (half : ℕ) (bodies : List StoredBody) (gate : ℕ) : Type 0 where
  pub are : AreBodies image half 0 bodies gate
  pub within : gate ≤ log_pages - 1
  pub opened : IsTrue (gate_is_open image half gate)
  pub none : (bytes : List ℕ) → IsBodyAt image half gate bytes → ⊥
