-- What a play costs on the disk: exactly so many writes and syncs.
use Rattle.std.specs.Prelude.{ℕ, ◌+◌, ◌-◌, ◌≡◌, Bool, true, false, List, [], ◌∷◌, length, nat_lt, if◌then◌else◌, Option, Some, None}
use Rattle.std.specs.List.{sum_by}
use Rattle.store_model.specs.Disk.{Calls}
use Rattle.store_model.specs.Frame.{body_front}
use Rattle.store_model.specs.Group.{Commit}
use Rattle.store_model.specs.Log.{body_pages, log_pages}
use Rattle.store_model.specs.Placing.{Placed, new_place, object_bytes, pages_written}
use Rattle.store_model.specs.Play.{PlayedLine}
use Rattle.store_model.specs.Store.{Placement, Store}
use Rattle.store_model.specs.World.{stored_bytes}

-- how many pages are written for the contents of a commit, each of them once
abbrev pub content_pages : Commit → ℕ
content_pages commit = sum_by pages_written commit.placed

-- How many bytes a change takes in a frame: one more than the stored form of the state that it sets, or two more than the key that goes.
abbrev pub bytes_written : List ℕ → Option Placement → ℕ
bytes_written key (Some place) = 1 + object_bytes key place
bytes_written key None = 2 + length key

abbrev pub change_bytes : Placed → ℕ
change_bytes placed = bytes_written placed.key (new_place placed)

-- how many the entry of a commit takes. A content counts by its extents and its tail alone.
abbrev pub entry_bytes : Commit → ℕ
entry_bytes commit = 18 + sum_by change_bytes commit.placed

-- how many the body takes of the frame that commits write together
abbrev pub frame_bytes : List Commit → ℕ
frame_bytes commits = body_front + sum_by entry_bytes commits

-- the writes and syncs of a disk so far, and the place of the gate in its log
pub record Cost : Type 0 where
  pub writes : ℕ
  pub syncs : ℕ
  pub gate : ℕ

-- nothing, with the gate at the log's front
abbrev pub no_cost : Cost
no_cost = record { writes = 0; syncs = 0; gate = 0 }

-- A turn of halves writes the states' pages, the header, the first gate and the selector, and syncs twice. The log begins anew.
abbrev pub with_turn : Store → Cost → Cost
with_turn store cost = record { writes = cost.writes + (body_pages (stored_bytes store.objects) + 3); syncs = cost.syncs + 2; gate = 0 }

-- a format: the header, the first gate and the selector, and two syncs
abbrev pub with_format : Cost → Cost
with_format cost = record { writes = cost.writes + 3; syncs = cost.syncs + 2; gate = 0 }

-- an opening: a sync, and a turn
abbrev pub with_opening : Store → Cost → Cost
with_opening store cost = with_turn store (record { writes = cost.writes; syncs = cost.syncs + 1; gate = cost.gate })

-- a turn where so many pages don't fit behind the gate
abbrev pub with_room : Store → ℕ → Cost → Cost
with_room store need cost = if nat_lt (log_pages - 1 - cost.gate) need then with_turn store cost else cost

-- A body of so many pages, the next gate, so many content pages, each once, and this gate, with a sync before the contents and one behind.
abbrev pub with_body : ℕ → ℕ → Cost → Cost
with_body pages contents cost = record { writes = cost.writes + (pages + 2 + contents); syncs = cost.syncs + 2; gate = cost.gate + (pages + 1) }

-- The lead of these commits over a store, with a turn before it where the frame has no room. Without a commit it writes nothing.
abbrev pub with_lead : Store → List Commit → Cost → Cost
with_lead store [] cost = cost
with_lead store (commit ∷ commits) cost =
    with_body (body_pages (frame_bytes (commit ∷ commits))) (sum_by content_pages (commit ∷ commits))
    (with_room store (body_pages (frame_bytes (commit ∷ commits)) + 1) cost)

-- a line over a store
abbrev pub with_line : Store → Bool → List Commit → Cost → Cost
with_line store true commits cost = with_turn store cost
with_line store false commits cost = with_lead store commits cost

-- lines, the first of them over this store
abbrev pub with_lines : Store → List PlayedLine → Cost → Cost
with_lines store [] cost = cost
with_lines store (line ∷ lines) cost = with_lines line.store lines (with_line store line.turns line.commits cost)

-- A disk has taken the writes and syncs of one cost behind another, and any number of reads.
pub record Spent (before after : Cost) (old new : Calls) : Type 0 where
  pub writes : new.writes + before.writes ≡ old.writes + after.writes
  pub syncs : new.syncs + before.syncs ≡ old.syncs + after.syncs

-- a disk has taken reads alone
pub record Reads (old new : Calls) : Type 0 where
  pub writes : new.writes ≡ old.writes
  pub syncs : new.syncs ≡ old.syncs
