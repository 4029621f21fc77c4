-- The world that a script's lines change, and a lead: the commit of the group at the front of its queue.
use Rattle.std.specs.Prelude.{ℕ, ◌+◌, ◌*◌, ◌==◌, List, [], ◌∷◌, length, map, drop, fold, Bool, true, false, Option, Some, None, Ok, Err, option_map, if◌then◌else◌}
use Rattle.std.specs.List.{flat_map, list_any, sum_by}
use Rattle.std.specs.FinMap.{FinMap, entries, get}
use Rattle.store_model.specs.Answer as answer
use Rattle.store_model.specs.Answer.{AnswerLine, answer_text}
use Rattle.store_model.specs.Disk.{page_bytes}
use Rattle.store_model.specs.Group.{Commit, Member, Reply, commits_of, group, reply_of}
use Rattle.store_model.specs.Judgement.{Asked, Ledger, Rejection}
use Rattle.store_model.specs.Judgement as why
use Rattle.store_model.specs.Key.{key_order}
use Rattle.store_model.specs.Layout.{Layout, data_pages}
use Rattle.store_model.specs.Placing.{Holding, Need, new_place, object_bytes}
use Rattle.store_model.specs.Placing as need
use Rattle.store_model.specs.Space.{Block, blocks_of}
use Rattle.store_model.specs.Store.{Object, Store, content_at}
use Rattle.store_model.specs.Transaction.{Change, Transaction, apply, new_transaction}
use Rattle.store_model.specs.Transaction as change
use Rattle.store_model.specs.Turn.{Free, Open, Session, Stage, Waiting, new_session}

-- the store, the sessions by their numbers, and those whose requests are queued, in the order of their commits
pub record World : Type 0 where
  pub store : Store
  pub sessions : ℕ → Session
  pub queue : List ℕ

-- over a store, with sessions that have begun nothing
abbrev pub world_over : Store → World
world_over store = record { store = store; sessions = λ _. new_session; queue = [] }

-- the sessions with another state of one of them
abbrev pub with_session : (ℕ → Session) → ℕ → Session → ℕ → Session
with_session sessions number session n = if n == number then session else sessions n

-- what is known of an object besides its content
abbrev pub holding_of : Object → Holding
holding_of object = record { size = length object.content; number = object.number; place = object.place }

-- what is known of each key's object
abbrev pub holdings : FinMap key_order Object → List ℕ → Option Holding
holdings objects key = option_map holding_of (get objects key)

-- the blocks that objects own, in the order of their keys
abbrev pub owned_blocks : FinMap key_order Object → List Block
owned_blocks objects = flat_map (λ entry. blocks_of entry.1.place) (entries objects)

-- how many bytes the states of all objects take
abbrev pub stored_bytes : FinMap key_order Object → ℕ
stored_bytes objects = sum_by (λ entry. object_bytes entry.0 entry.1.place) (entries objects)

-- how many bytes a layout has for the states of a half
abbrev pub states_bytes : Layout → ℕ
states_bytes layout = page_bytes * layout.room

-- what a group is judged by in a store of this layout
abbrev pub ledger_of : Layout → Store → Ledger
ledger_of layout store = record {
  held = holdings store.objects;
  last = store.last;
  owned = owned_blocks store.objects;
  bytes = stored_bytes store.objects;
  room = states_bytes layout;
  pages = data_pages layout;
}

-- how long a content is, and 0 for none
abbrev pub size_of : Option (List ℕ) → ℕ
size_of (Some content) = length content
size_of None = 0

-- what a change of a key needs, where the store has this under it
abbrev pub need_of : Option (List ℕ) → Change → Need
need_of stored (change.Put content) = need.Whole (length content)
need_of stored (change.More bytes) = need.Longer (size_of stored + length bytes)
need_of stored change.Gone = need.Nothing

-- what the changes of a transaction need, in the order of their keys
abbrev pub needs_of : Store → Transaction → List (List ℕ × Need)
needs_of store transaction = map (λ one. (one.0, need_of (content_at store one.0) one.1)) (entries transaction.changes)

-- a session's transaction
abbrev pub transaction_of : Stage → Transaction
transaction_of Free = new_transaction 0
transaction_of (Open transaction) = transaction
transaction_of (Waiting transaction) = transaction

-- the request of a session's transaction
abbrev pub request_of : Store → ℕ → Session → Asked
request_of store number session =
    let transaction = transaction_of session.stage in
    record { session = number; nth = session.begun; seen = transaction.seen; reads = entries transaction.reads; needs = needs_of store transaction }

-- the requests in the queue
abbrev pub requests_of : World → List Asked
requests_of world = map (λ number. request_of world.store number (world.sessions number)) world.queue

-- the group that a lead commits
abbrev pub group_in : Layout → World → List Member
group_in layout world = group (ledger_of layout world.store) (requests_of world)

-- why a request isn't committed, as an answer
abbrev pub rejection_line : Rejection → AnswerLine
rejection_line (why.Conflict key read now) = answer.Conflict key read now
rejection_line (why.NoNumber last) = answer.NoNumber last
rejection_line (why.NoSpace key tier) = answer.NoSpace key tier
rejection_line (why.NoRoom need have) = answer.NoRoom need have
rejection_line (why.Ahead seen front) = answer.Ahead seen front

-- a reply as an answer
abbrev pub reply_line : Reply → AnswerLine
reply_line (Ok number) = answer.Committed number
reply_line (Err why) = rejection_line why

-- the line of a member's reply
abbrev pub reply_text : Member → List ℕ
reply_text member = answer_text (answer.Session member.asked.session (reply_line (reply_of member)) None)

-- the changes of a session's transaction, in the order of their keys
abbrev pub changes_of : (ℕ → Session) → ℕ → List (List ℕ × Change)
changes_of sessions number = entries (transaction_of (sessions number).stage).changes

-- the store after a commit
abbrev pub with_commit : (ℕ → Session) → Store → Commit → Store
with_commit sessions store commit = apply store commit.number (changes_of sessions commit.session) (map new_place commit.placed)

-- the sessions after a lead: its members have no transaction
abbrev pub freed : (ℕ → Session) → List Member → ℕ → Session
freed sessions members number =
    if list_any (λ member. number == member.asked.session) members then record { begun = (sessions number).begun; stage = Free }
    else sessions number

-- what a step prints, the transactions that it commits, whether it turns the halves of the disk by itself, and the world after it
pub record Outcome : Type 0 where
  pub text : List ℕ
  pub commits : List Commit
  pub turns : Bool
  pub world : World

-- what comes of the lead of these members: a line for each; their transactions are made, in order; and they leave the queue
abbrev pub led : World → List Member → Outcome
led world members = record {
  text = flat_map reply_text members;
  commits = commits_of members;
  turns = false;
  world = record {
    store = fold (with_commit world.sessions) world.store (commits_of members);
    sessions = freed world.sessions members;
    queue = drop (length members) world.queue;
  };
}

-- a lead of an empty queue
abbrev pub idle : World → Outcome
idle world = record { text = answer_text answer.Idle; commits = []; turns = false; world = world }

-- a lead at this queue
abbrev pub lead_queue : Layout → World → List ℕ → Outcome
lead_queue layout world [] = idle world
lead_queue layout world (session ∷ queue) = led world (group_in layout world)

-- A lead commits the group at the front of the queue.
abbrev pub lead : Layout → World → Outcome
lead layout world = lead_queue layout world world.queue

-- A checkpoint turns the halves, and changes nothing else.
abbrev pub checkpointed : World → Outcome
checkpointed world = record { text = answer_text answer.Checkpointed; commits = []; turns = true; world = world }
