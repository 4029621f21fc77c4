-- The judgement of a request in its group: whether what it read still is, whether there is a number, places and room for it.
use Rattle.std.specs.Prelude.{ℕ, ◌+◌, ◌-◌, nat_lt, not, List, ◌++◌, Option, Some, None, Result, Ok, Err, option_map, if◌then◌else◌}
use Rattle.std.specs.List.{find, sum_by}
use Rattle.store_model.specs.Placing.{Holding, Need, Placed, bytes_after, bytes_before, place_all}
use Rattle.store_model.specs.Space.{Block}
use Rattle.store_model.specs.State.{greatest_number}
use Rattle.store_model.specs.Turn.{same_number}

-- A request, as its group judges it: the session, the number of its transaction among those that the session began, the greatest
-- number that it was told of, the numbers that it read, and what its changes need, both in the order of their keys.
pub record Asked : Type 0 where
  pub session : ℕ
  pub nth : ℕ
  pub seen : ℕ
  pub reads : List (List ℕ × Option ℕ)
  pub needs : List (List ℕ × Need)

-- What a group is judged by: what is known of each key's object, the last number, the blocks that objects own, how many bytes
-- their states take, and how many there are for states; and how many pages the data area has.
pub record Ledger : Type 0 where
  pub held : List ℕ → Option Holding
  pub last : ℕ
  pub owned : List Block
  pub bytes : ℕ
  pub room : ℕ
  pub pages : ℕ

-- What the committing members of a group have come to so far: the blocks that they took, how many bytes the states grew by, the
-- last number, and the keys that they change.
pub record Tally : Type 0 where
  pub taken : List Block
  pub grown : ℕ
  pub last : ℕ
  pub changed : List (List ℕ)

-- why a request isn't committed
pub data Rejection : Type 0 where
  Conflict : List ℕ → Option ℕ → Option ℕ → Rejection
  NoNumber : ℕ → Rejection
  NoSpace : List ℕ → ℕ → Rejection
  NoRoom : ℕ → ℕ → Rejection
  Ahead : ℕ → ℕ → Rejection

-- a request is committed with its changes placed, or is rejected
abbrev pub Judgement : Type 0
Judgement = Result (List Placed) Rejection

-- the number of a key, or none
abbrev pub number_held : Ledger → List ℕ → Option ℕ
number_held ledger key = option_map (λ object. object.number) (ledger.held key)

-- the first read whose key has another number now
abbrev pub first_moved : Ledger → List (List ℕ × Option ℕ) → Option (List ℕ × Option ℕ)
first_moved ledger reads = find (λ read. not (same_number read.1 (number_held ledger read.0))) reads

-- by how many bytes changes make the states grow, all together: 0 where they make them shrink
abbrev pub growth_of : List Placed → ℕ
growth_of placed = sum_by bytes_after placed - sum_by bytes_before placed

-- whether the states have room for `need` bytes
abbrev pub judge_room : ℕ → ℕ → List Placed → Judgement
judge_room need room placed = if nat_lt room need then Err (NoRoom need room) else Ok placed

-- a request that found these places, or none
abbrev pub judge_places : Ledger → Tally → Result (List Placed) (List ℕ × ℕ) → Judgement
judge_places ledger tally (Ok placed) = judge_room (ledger.bytes + tally.grown + growth_of placed) ledger.room placed
judge_places ledger tally (Err none) = Err (NoSpace none.0 none.1)

-- a request for which there is a number, or not
abbrev pub judge_number : Ledger → Tally → Asked → Judgement
judge_number ledger tally asked =
    if nat_lt tally.last greatest_number then judge_places ledger tally (place_all ledger.pages ledger.held asked.needs (tally.taken ++ ledger.owned))
    else Err (NoNumber tally.last)

-- a request of which this is the first read that isn't so now, where there is one
abbrev pub judge_reads : Ledger → Tally → Asked → Option (List ℕ × Option ℕ) → Judgement
judge_reads ledger tally asked (Some moved) = Err (Conflict moved.0 moved.1 (number_held ledger moved.0))
judge_reads ledger tally asked None = judge_number ledger tally asked

-- The judgement of a request behind the members that came to this tally. The first refusal that applies is its answer: it was told
-- of a number that isn't there yet; what it read isn't so now; there is no number left; a key finds no place; the states have no
-- room.
abbrev pub judge : Ledger → Tally → Asked → Judgement
judge ledger tally asked =
    if nat_lt ledger.last asked.seen then Err (Ahead asked.seen ledger.last)
    else judge_reads ledger tally asked (first_moved ledger asked.reads)
