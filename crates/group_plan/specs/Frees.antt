-- The blocks that no state owns after changes.
use Rattle.std.specs.Prelude.{ℕ, List, Option}
use Rattle.std.specs.List.{flat_map}
use Rattle.store_model.specs.Placing.{Holding, left_blocks}
use Rattle.store_model.specs.Space.{Block}
use Rattle.txn.specs.Requests.{need_of}
use Rattle.txn.specs.declared.change.Change.{Change}

-- the blocks of the objects that were there which no state owns after changes of their keys
abbrev pub left_by : (List ℕ → Option Holding) → List (List ℕ × Change) → List Block
left_by held changes = flat_map (λ one. left_blocks (need_of one.1) (held one.0)) changes
