-- A log, as contracts see it.
use Rattle.std.specs.Prelude.{ℕ, ◌<◌, ◌≤◌}
use Rattle.store_model.specs.Layout.{Layout}
use Rattle.meta_log.specs.declared.log.Log.TheInside.{Inside}

-- The half, the place of the closed gate in its log area, and that of the next gate. They are one where no body lies behind
-- the gate.
pub record Parts : Type 0 where
  pub layout : Layout
  pub half : ℕ
  pub gate : ℕ
  pub next : ℕ

abbrev pub parts_of : Inside → Parts
parts_of log = record { layout = log.layout; half = log.half; gate = log.gate; next = log.next }

-- the gates stand in the log area, in order
pub record IsSound (log : Inside) : Type 0 where
  pub half : log.half < 2
  pub order : log.gate ≤ log.next
  pub most : log.next ≤ 511
