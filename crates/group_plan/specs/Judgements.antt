-- The judgement of a request, in the words of the definitions.
use Rattle.std.specs.Prelude.{ℕ, ◌≡◌, ◌+◌, ◌≤◌, List, [], map, zip, Option, Some, None, Ok, Err, option_map}
use Rattle.std.specs.List.{AllZip, flat_map}
use Rattle.std.specs.FinMap.{FinMap, entries}
use Rattle.extent_alloc.specs.Parts.{Parts}
use Rattle.store_model.specs.Judgement as model
use Rattle.store_model.specs.Judgement.{Conflict, Rejection, growth_of, judge}
use Rattle.store_model.specs.Key.{key_order}
use Rattle.store_model.specs.Placing as model_placing
use Rattle.store_model.specs.Placing.{freed_blocks, new_blocks}
use Rattle.store_model.specs.Space.{Block}
use Rattle.store_model.specs.State.{State, greatest_number}
use Rattle.relation.specs.Parts.{encoded_by}
use Rattle.txn.specs.Requests.{asked_of}
use Rattle.txn.specs.declared.request.Request.{Request}
use Rattle.group_plan.specs.Frees.{left_by}
use Rattle.group_plan.specs.Plans.{IsWritten, ledger_by, model_reply, holdings_by}
use Rattle.group_plan.specs.Takings.{HasMoved, Moves}
use Rattle.group_plan.specs.Touches.{write_keys}
use Rattle.group_plan.specs.declared.judging.Judged.{Judged}
use Rattle.group_plan.specs.declared.judging.Limits.{Limits}
use Rattle.group_plan.specs.declared.judging.Refusal.{Refusal}
use Rattle.group_plan.specs.declared.judging.Refusal.TheVariants as refusal
use Rattle.group_plan.specs.declared.judging.Tally.{Tally}
use Rattle.group_plan.specs.declared.plan.Reply.{Reply}
use Rattle.group_plan.specs.declared.takings.Takings.{Takings}

-- the number of a key, or none
abbrev pub number_by : FinMap key_order State → List ℕ → Option ℕ
number_by states key = option_map (λ object. object.number) (holdings_by states key)

-- the first read whose key has another number now
abbrev pub first_moved : FinMap key_order State → List (List ℕ × Option ℕ) → Option (List ℕ × Option ℕ)
first_moved states reads = model.first_moved (ledger_by states 0 0 0) reads

-- the conflict of the first read whose key has another number now, where there is one
abbrev pub IsConflict : FinMap key_order State → List (List ℕ × Option ℕ) → Option Reply → Type 0
IsConflict states reads None = first_moved states reads ≡ None
IsConflict states reads (Some reply) =
    (moved : List ℕ × Option ℕ) × (first_moved states reads ≡ Some moved) × (model_reply reply ≡ Err (Conflict moved.0 moved.1 (number_by states moved.0)))

-- what the committing members of a group have come to that took these blocks
abbrev pub tally_by : List Block → Tally → model.Tally
tally_by blocks tally = record { taken = blocks; grown = tally.grown; last = tally.last; changed = [] }

-- the judgement of a request
abbrev pub judgement_by : FinMap key_order State → Limits → Tally → Request → Parts → Takings → model.Judgement
judgement_by states limits tally request space takings =
    judge (ledger_by states limits.last limits.room space.pages) (tally_by takings.blocks.items tally) (asked_of request)

-- A request is committed, and has its places.
pub record IsJudged (states : FinMap key_order State) (limits : Limits) (tally : Tally) (request : Request) (old new : Parts) (before after : Takings) (done : Judged) : Type 0 where
  pub placed : List model_placing.Placed
  pub judged : judgement_by states limits tally request old before ≡ Ok placed
  pub written : AllZip (IsWritten (tally.last + 1)) (zip (entries request.writes) placed) done.writes
  pub moves : Moves (flat_map new_blocks placed) old new before after
  pub growth : done.growth ≡ growth_of placed
  pub keys : write_keys done.writes ≡ map (λ one. one.key) placed
  pub freed : flat_map freed_blocks placed ≡ left_by (holdings_by states) (entries request.writes)
  pub room : encoded_by states + tally.grown + done.growth ≤ limits.room
  pub number : tally.last + 1 ≤ greatest_number

-- why a request isn't committed; blocks that were taken for it are listed
abbrev pub IsRefusal : FinMap key_order State → Limits → Tally → Request → Parts → Parts → Takings → Takings → Refusal → Type 0
IsRefusal states limits tally request old new before after (refusal.Refused reply) =
    (why : Rejection) × (judgement_by states limits tally request old before ≡ Err why) × (model_reply reply ≡ Err why) × HasMoved old new before after
IsRefusal states limits tally request old new before after refusal.OutOfMemory = HasMoved old new before after
