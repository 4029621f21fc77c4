-- Sessions as the values that the definitions speak of.
use Rattle.std.specs.Prelude.{◌≡◌, ◌↔◌, ℕ, ⊤, false, List, slice_get, Option, Some, None}
use Rattle.std.specs.List.{slice_set as set}
use Rattle.std.specs.FinMap.{get}
use Rattle.blob_script.specs.Answers.{model_line}
use Rattle.blob_steps.specs.Known.{StoreKnown}
use Rattle.blob_steps.specs.Looks.{show_of}
use Rattle.blob_steps.specs.declared.look.Look.{Look}
use Rattle.blob_steps.specs.declared.look.Look.TheVariants as look
use Rattle.blob_steps.specs.declared.session.Looked.{Looked}
use Rattle.blob_steps.specs.declared.session.Looked.TheVariants as looked
use Rattle.blob_steps.specs.declared.session.Session.{Session}
use Rattle.blob_steps.specs.declared.session.Stage.{Stage}
use Rattle.blob_steps.specs.declared.session.Stage.TheVariants as stage
use Rattle.store_model.specs.Answer as answer
use Rattle.store_model.specs.Store.{Store, content_at, number_at}
use Rattle.store_model.specs.Transaction.{Transaction, Put}
use Rattle.store_model.specs.Turn as model
use Rattle.store_model.specs.Turn.{is_one_too_many, is_stale, session_after, turn}
use Rattle.store_model.specs.World.{transaction_of}
use Rattle.txn.specs.Requests.{transaction_of as requested}
use Rattle.txn.specs.Txns.{NoAppends, own_bytes, transaction_by}
use Rattle.vault.specs.declared.memory.Memory.{Memory}
use Rattle.txn.specs.declared.refusal.TxnRefusal.{TxnRefusal}
use Rattle.txn.specs.declared.refusal.TxnRefusal.TheVariants as refusal
use Rattle.txn.specs.declared.request.Request.{Request}

-- What the session of a number has under way is this: nothing; a transaction, its own and that of its count of begins; or one whose
-- request it waits for.
abbrev pub StageStands : Stage → ℕ → ℕ → model.Stage → Type 0
StageStands stage.Free number begun theirs = theirs ≡ model.Free
StageStands (stage.Open txn) number begun theirs = (theirs ≡ model.Open (transaction_by txn)) × (txn.session ≡ number) × (txn.nth ≡ begun)
StageStands stage.Waiting number begun theirs = (transaction : Transaction) × (theirs ≡ model.Waiting transaction)

-- a session has no open transaction
abbrev pub IsNotOpen : Stage → Type 0
IsNotOpen stage.Free = ⊤
IsNotOpen (stage.Open txn) = ⊥
IsNotOpen stage.Waiting = ⊤

-- The session of a number is at a session.
pub record SessionStands (mine : Session) (number : ℕ) (theirs : model.Session) : Type 0 where
  pub begun : mine.begun ≡ theirs.begun
  pub stage : StageStands mine.stage number mine.begun theirs.stage

-- The session of a number was answered this line to an action, and is where that leads.
pub record TurnsTo (store : Store) (theirs : model.Session) (action : model.Action) (number : ℕ) (new : Session) (line : answer.AnswerLine) : Type 0 where
  pub line_is : line ≡ (turn store theirs action).line
  pub stands : SessionStands new number (session_after theirs action (turn store theirs action))

-- The session of a number asks by this request for the open transaction that it had, and waits.
pub record Asks (theirs : model.Session) (number : ℕ) (request : Request) (new : Session) : Type 0 where
  pub opened : theirs.stage ≡ model.Open (requested request)
  pub session : request.session ≡ number
  pub nth : request.nth ≡ theirs.begun
  pub appends : NoAppends request.writes
  pub waits : new.stage ≡ stage.Waiting

-- the action that a look is
abbrev pub look_action : Look → List ℕ → model.Action
look_action look.Get key = model.Get key
look_action look.Stat key = model.Stat key

-- the line of a look over this store, by a session that has this under way after it
abbrev pub looked_line : Look → Store → model.Stage → List ℕ → Looked → answer.AnswerLine
looked_line one store after key (looked.Line line) = model_line line
looked_line one store after key looked.Own = show_of one (Some (own_bytes (get (transaction_of after).changes key)))
looked_line one store after key looked.Stored = show_of one (content_at store key)

-- the open transaction puts the key where its own content is shown
abbrev pub IsPut : model.Stage → List ℕ → Looked → Type 0
IsPut after key looked.Own = (transaction : Transaction) × (after ≡ model.Open transaction) × ((content : List ℕ) × (get transaction.changes key ≡ Some (Put content)))
IsPut after key _ = ⊤

-- A session's look at a key passes its refusals, and shows the object that the store has there: its transaction is open and has no
-- change of the key.
pub record ShowsStored (store : Store) (theirs : model.Session) (key : List ℕ) : Type 0 where
  pub transaction : Transaction
  pub opened : theirs.stage ≡ model.Open transaction
  pub few : is_one_too_many transaction key ≡ false
  pub fresh : is_stale (number_at store key) transaction key ≡ false
  pub unchanged : get transaction.changes key ≡ None
  pub born : ℕ
  pub there : number_at store key ≡ Some born

-- The session of a number was answered so to a look, and is where that leads.
pub record LooksTo (one : Look) (store : Store) (theirs : model.Session) (key : List ℕ) (number : ℕ) (new : Session) (found : Looked) : Type 0 where
  pub line_is : (turn store theirs (look_action one key)).line ≡ looked_line one store (turn store theirs (look_action one key)).stage key found
  pub stands : SessionStands new number (session_after theirs (look_action one key) (turn store theirs (look_action one key)))
  pub put : IsPut (turn store theirs (look_action one key)).stage key found
  pub stored : (found ≡ looked.Stored) ↔ ShowsStored store theirs key

-- the program's sessions where that of a number is another
pub record IsSet (old new : List Session) (number : ℕ) (was later : Session) : Type 0 where
  pub there : slice_get old number ≡ Some was
  pub new_is : new ≡ set old number later

-- A session of the program is where an action leads, over some store.
abbrev pub TurnsSomehow : Session → ℕ → model.Action → Session → Type 0
TurnsSomehow was number action later =
    (theirs : model.Session) → SessionStands was number theirs → (over : Store) × SessionStands later number (session_after theirs action (turn over theirs action))

-- A session of the program took its turn over the program's store, which answered this line.
pub record HasTurned (mine : Memory) (old new : List Session) (number : ℕ) (action : model.Action) (line : answer.AnswerLine) : Type 0 where
  pub was : Session
  pub later : Session
  pub set_is : IsSet old new number was later
  pub turns : (theirs : model.Session) (over : Store) → StoreKnown mine over → SessionStands was number theirs → TurnsTo over theirs action number later line
  pub some : TurnsSomehow was number action later
  pub begun : later.begun ≡ was.begun
  pub waits : was.stage ≡ stage.Waiting → later.stage ≡ stage.Waiting

-- A session of the program looked at a key over the program's store, and found this.
pub record HasLooked (mine : Memory) (old new : List Session) (number : ℕ) (key : List ℕ) (found : Looked) : Type 0 where
  pub was : Session
  pub later : Session
  pub set_is : IsSet old new number was later
  pub looks : (one : Look) (theirs : model.Session) (over : Store) → StoreKnown mine over → SessionStands was number theirs → LooksTo one over theirs key number later found
  pub some : (one : Look) → TurnsSomehow was number (look_action one key) later
  pub begun : later.begun ≡ was.begun
  pub waits : was.stage ≡ stage.Waiting → later.stage ≡ stage.Waiting

-- the line of a refusal, but for want of memory
abbrev pub refused_line : TxnRefusal → Option answer.AnswerLine
refused_line (refusal.TooMany keys) = Some (answer.TooMany keys)
refused_line (refusal.Stale now) = Some (answer.Stale now)
refused_line refusal.Absent = Some answer.Absent
refused_line (refusal.TooLong size) = Some (answer.TooLong size)
refused_line refusal.OutOfMemory = None
