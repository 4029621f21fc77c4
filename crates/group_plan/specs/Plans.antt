-- Plans, in the words of the definitions.
use Rattle.std.specs.Prelude.{ℕ, ◌+◌, ◌≤◌, ◌≡◌, List, [], ◌∷◌, map, zip, Option, Some, None, Ok, Err, option_map}
use Rattle.std.specs.List.{AllZip, filter_map, flat_map}
use Rattle.std.specs.FinMap.{FinMap, entries, get}
use Rattle.frame_codec.specs.declared.entry.Entry.{Entry}
use Rattle.frame_codec.specs.declared.entry.Write.{Write}
use Rattle.frame_codec.specs.declared.entry.Write.TheVariants as write
use Rattle.group_plan.specs.declared.plan.Plan.{Plan}
use Rattle.group_plan.specs.declared.plan.Reply.{Reply}
use Rattle.group_plan.specs.declared.plan.Reply.TheVariants as reply
use Rattle.relation.specs.Parts.{encoded_by, owned_by}
use Rattle.store_model.specs.Group.{Commit, Member, commit_of, commits_of, group, reply_of}
use Rattle.store_model.specs.Group as model
use Rattle.store_model.specs.Holds.{place_of}
use Rattle.store_model.specs.Judgement.{Ledger, Conflict, NoNumber, NoSpace, NoRoom, Ahead}
use Rattle.store_model.specs.Key.{key_order}
use Rattle.store_model.specs.Placing.{Holding, Placed, freed_blocks, new_place}
use Rattle.store_model.specs.State.{IsState, Places, State, Tells}
use Rattle.store_model.specs.Store.{Placement}
use Rattle.txn.specs.Requests.{asked_of}
use Rattle.txn.specs.declared.change.Change.{Change}
use Rattle.txn.specs.declared.change.Change.TheVariants as change
use Rattle.txn.specs.declared.change.Extension.{Extension}
use Rattle.txn.specs.declared.request.Request.{Request}

-- what a state says of its object besides the content
abbrev pub holding_of : State → Holding
holding_of state = record { size = state.size; number = state.born; place = place_of state }

-- what the states say of each key's object
abbrev pub holdings_by : FinMap key_order State → List ℕ → Option Holding
holdings_by states key = option_map holding_of (get states key)

-- what a group is judged by over states, with a last number, so many bytes for states and so many data pages
abbrev pub ledger_by : FinMap key_order State → ℕ → ℕ → ℕ → Ledger
ledger_by states last room pages = record {
  held = holdings_by states;
  last = last;
  owned = owned_by states;
  bytes = encoded_by states;
  room = room;
  pages = pages;
}

-- the members of the group of requests
abbrev pub members_of : Ledger → List Request → List Member
members_of ledger queue = group ledger (map asked_of queue)

-- a reply in the words of the definitions
abbrev pub model_reply : Reply → model.Reply
model_reply (reply.Committed number) = Ok number
model_reply (reply.Conflict key read now) = Err (Conflict key read now)
model_reply (reply.NoNumber last) = Err (NoNumber last)
model_reply (reply.NoSpace key tier) = Err (NoSpace key tier)
model_reply (reply.NoRoom need have) = Err (NoRoom need have)
model_reply (reply.Ahead seen front) = Err (Ahead seen front)

-- A state is what a change makes of its key at this place, under this number: one of the content that is put, or the draft of the
-- longer content.
abbrev pub IsMadeBy : Change → ℕ → Placement → State → Type 0
IsMadeBy (change.Put content) number place state = (state.born ≡ number) × (place_of state ≡ place) × Tells state content
IsMadeBy (change.Append extension) number place state = Places extension.draft.value place.heads place.tail number state
IsMadeBy change.Del number place state = ⊥

-- what an entry writes under a key for a change that has this place, or none
abbrev pub DoesWrite : List ℕ → Change → ℕ → Option Placement → Write → Type 0
DoesWrite key one number (Some place) (write.Set at state) = (at ≡ key) × IsState state.value × IsMadeBy one number place state.value
DoesWrite key one number (Some place) (write.Del at) = ⊥
DoesWrite key one number None (write.Set at state) = ⊥
DoesWrite key one number None (write.Del at) = at ≡ key

-- a change with its blocks, as an entry of this number writes it
abbrev pub IsWritten : ℕ → (List ℕ × Change) × Placed → Write → Type 0
IsWritten number one write = DoesWrite one.0.0 one.0.1 number (new_place one.1) write

-- a member that is committed, and its request
abbrev pub committed_member : Request × Member → Option (Request × Commit)
committed_member one = option_map (λ commit. (one.0, commit)) (commit_of one.1)

-- the members that are committed, each with its request
abbrev pub committed : List Request → List Member → List (Request × Commit)
committed queue members = filter_map committed_member (zip queue members)

-- an entry is that of a committed member: its number, its session, its transaction, and what its changes write
pub record IsEntryOf (one : Request × Commit) (entry : Entry) : Type 0 where
  pub number : entry.number ≡ one.1.number
  pub session : entry.session ≡ one.1.session
  pub nth : entry.nth ≡ one.1.nth
  pub writes : AllZip (IsWritten one.1.number) (zip (entries one.0.writes) one.1.placed) entry.writes

-- the places in the queue, from this one on, of the members that are committed
abbrev pub commit_places : ℕ → List Member → List ℕ
commit_places i [] = []
commit_places i (member ∷ members) = commit_place i (commit_of member) (commit_places (i + 1) members) where
  commit_place : ℕ → Option Commit → List ℕ → List ℕ
  commit_place i None others = others
  commit_place i (Some commit) others = i ∷ others

-- the blocks that no state owns after commits
abbrev pub freed_by : List Commit → List (ℕ × ℕ)
freed_by commits = flat_map (λ commit. flat_map freed_blocks commit.placed) commits

-- the appends of a request make the contents longer that they read
abbrev pub DoesLengthen : FinMap key_order State → Request → Type 0
DoesLengthen states request =
    (key : List ℕ) (extension : Extension) (state : State) → get request.writes key ≡ Some (change.Append extension) → get states key ≡ Some state
    → get request.reads key ≡ Some (Some state.born) → state.size ≤ extension.draft.value.size

-- a plan is that of a queue's group: its reply to each member, and for each that is committed its entry, its place in the queue, and
-- the blocks that no state owns after it
pub record IsPlan (queue : List Request) (members : List Member) (plan : Plan) : Type 0 where
  pub replies : map model_reply plan.replies ≡ map reply_of members
  pub entries : AllZip IsEntryOf (committed queue members) plan.entries
  pub members_are : plan.members ≡ commit_places 0 members
  pub frees : plan.frees ≡ freed_by (commits_of members)
