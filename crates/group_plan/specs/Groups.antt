-- A group on the way, in the words of the definitions.
use Rattle.std.specs.Prelude.{ℕ, ◌≡◌, ◌+◌, ◌<◌, ◌≤◌, List, [], ◌∷◌, ◌++◌, map, Ok, Err}
use Rattle.std.specs.List.{AllZip}
use Rattle.std.specs.FinMap.{FinMap}
use Rattle.extent_alloc.specs.Parts.{Parts}
use Rattle.frame_codec.specs.declared.entry.Entry.{Entry}
use Rattle.relation.specs.Parts.{bytes_bound, encoded_by}
use Rattle.store_model.specs.Group.{Member, commits_of, member_of, reply_of, taken_blocks, tally_after}
use Rattle.store_model.specs.Judgement as model
use Rattle.store_model.specs.Key.{key_order}
use Rattle.store_model.specs.State.{State, greatest_number}
use Rattle.txn.specs.Requests.{asked_of}
use Rattle.txn.specs.declared.request.Request.{Request}
use Rattle.group_plan.specs.Judgements.{tally_by}
use Rattle.group_plan.specs.Plans.{IsEntryOf, IsPlan, commit_places, committed, freed_by, ledger_by, members_of, model_reply}
use Rattle.group_plan.specs.Takings.{Moves}
use Rattle.group_plan.specs.Touches.{entry_keys}
use Rattle.group_plan.specs.declared.judging.Limits.{Limits}
use Rattle.group_plan.specs.declared.judging.Tally.{Tally}
use Rattle.group_plan.specs.declared.plan.Group.{Group}
use Rattle.group_plan.specs.declared.plan.Plan.{Plan}
use Rattle.group_plan.specs.declared.takings.Takings.{Takings}

-- the next member, behind those that came to this tally
abbrev pub member_by : FinMap key_order State → Limits → Tally → Request → Parts → Takings → Member
member_by states limits tally request space takings =
    member_of (ledger_by states limits.last limits.room space.pages) (tally_by takings.blocks.items tally) (asked_of request)

-- the keys that a judgement changes
abbrev pub changed_by : model.Judgement → List (List ℕ)
changed_by (Err why) = []
changed_by (Ok placed) = map (λ one. one.key) placed

-- A member was added to a group, the request of which has this place in the queue.
pub record AddsMember (states : FinMap key_order State) (limits : Limits) (request : Request) (i : ℕ) (member : Member) (old new : Group) (space now : Parts) (before after : Takings) : Type 0 where
  pub replies : map model_reply new.plan.replies ≡ map model_reply old.plan.replies ++ reply_of member ∷ []
  pub more : List Entry
  pub entries : new.plan.entries ≡ old.plan.entries ++ more
  pub keys : entry_keys more ≡ changed_by member.judgement
  pub are_entries : AllZip IsEntryOf (committed (request ∷ []) (member ∷ [])) more
  pub members : new.plan.members ≡ old.plan.members ++ commit_places i (member ∷ [])
  pub frees : new.plan.frees ≡ old.plan.frees ++ freed_by (commits_of (member ∷ []))
  pub moves : Moves (taken_blocks (commits_of (member ∷ []))) space now before after
  pub grown : new.tally.grown ≡ (tally_after (tally_by before.blocks.items old.tally) member.judgement).grown
  pub last : new.tally.last ≡ (tally_after (tally_by before.blocks.items old.tally) member.judgement).last
  pub room : encoded_by states + new.tally.grown < bytes_bound
  pub number : new.tally.last ≤ greatest_number

-- These members of a queue are planned, and their places are taken.
pub record IsGathered (queue : List Request) (members : List Member) (old new : Parts) (before after : Takings) (plan : Plan) : Type 0 where
  pub planned : IsPlan queue members plan
  pub moves : Moves (taken_blocks (commits_of members)) old new before after

-- a queue's group is
abbrev pub Gathers : FinMap key_order State → Limits → List Request → Parts → Parts → Takings → Takings → Plan → Type 0
Gathers states limits queue old new before after plan = IsGathered queue (members_of (ledger_by states limits.last limits.room old.pages) queue) old new before after plan
