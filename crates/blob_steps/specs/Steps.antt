-- What a step does to the program's world, in the words of the definitions.
use Rattle.std.specs.Prelude.{◌≡◌, ◌≢◌, ◌==◌, ℕ, ◌+◌, ◌<◌, ◌≤◌, Bool, true, false, IsTrue, List, [], length, map, take, zip, slice_get, Option, Some, None, Result, OnOk, IfErr}
use Rattle.std.specs.List.{flat_map, list_any, slice_set as set}
use Rattle.group_plan.specs.Plans.{model_reply}
use Rattle.group_plan.specs.declared.plan.Reply.{Reply as ReplyTo}
use Rattle.store_model.specs.Answer.{answer_text}
use Rattle.store_model.specs.Group.{taken_blocks}
use Rattle.store_model.specs.World.{reply_line}
use Rattle.disk_model.specs.Disks.{Keeps}
use Rattle.disk_model.specs.declared.disk.Disk.{Ghosts}
use Rattle.blob_steps.specs.Faults.{IsDamageAmong, IsRaisedFault, IsUndamagedFault, ShowsDamageFault}
use Rattle.blob_steps.specs.Known.{StoreKnown}
use Rattle.blob_steps.specs.Sessions.{SessionStands}
use Rattle.blob_steps.specs.declared.fault.StoreFault.{StoreFault}
use Rattle.blob_steps.specs.declared.session.Session.{Session}
use Rattle.blob_steps.specs.declared.session.Stage.{Stage}
use Rattle.blob_steps.specs.declared.session.Stage.TheVariants.{Free, Waiting}
use Rattle.blob_steps.specs.declared.world.Played.{Played}
use Rattle.blob_steps.specs.declared.world.Played.TheVariants as played
use Rattle.blob_steps.specs.declared.world.World.{World}
use Rattle.store_model.specs.Answer as answer
use Rattle.store_model.specs.Cost.{Cost, with_line}
use Rattle.store_model.specs.Images.{LeavesOnly, Wrote}
use Rattle.store_model.specs.Layout.{data_page}
use Rattle.store_model.specs.Play.{step_play, turned}
use Rattle.store_model.specs.Script.{Step}
use Rattle.store_model.specs.Standing.{AllHeld, AllStand}
use Rattle.store_model.specs.Store.{Store}
use Rattle.store_model.specs.Survival.{Group, Survives, groups_by}
use Rattle.store_model.specs.Turn as turn
use Rattle.store_model.specs.World as model
use Rattle.store_model.specs.World.{Outcome}
use Rattle.txn.specs.Requests.{transaction_of}
use Rattle.txn.specs.declared.request.Request.{Request}
use Rattle.vault.specs.Leads.{Costs, IsLeadPage, StoreStands}
use Rattle.vault.specs.Pours.{AreWhole}
use Rattle.vault.specs.declared.memory.Memory.{Memory}

-- a request in the queue is that of its session's transaction
pub record RequestStands (request : Request) (theirs : turn.Session) : Type 0 where
  pub begun : theirs.begun ≡ request.nth
  pub stage : theirs.stage ≡ turn.Waiting (transaction_of request)

-- The program's world is at a world: its store, as far as this says, its sessions, its queue, and the requests in it.
pub record WorldIs {D : Type 0} (Is : Memory → Store → Type 0) (mine : World D) (world : model.World) : Type 0 where
  pub store : Is mine.vault.memory world.store
  pub sessions : (number : ℕ) (one : Session) → slice_get mine.sessions.items number ≡ Some one → SessionStands one number (world.sessions number)
  pub queue : world.queue ≡ map (λ request. request.session) mine.queue
  pub requests : (i : ℕ) (request : Request) → slice_get mine.queue i ≡ Some request → RequestStands request (world.sessions request.session)

-- its store is the one in memory, or is known but for the contents
abbrev pub WorldStands : {D : Type 0} → World D → model.World → Type 0
WorldStands mine world = WorldIs StoreStands mine world

abbrev pub WorldKnown : {D : Type 0} → World D → model.World → Type 0
WorldKnown mine world = WorldIs StoreKnown mine world

-- the session of each request waits
abbrev pub DoWait : List Session → List Request → Type 0
DoWait sessions queue =
    (i : ℕ) (request : Request) → slice_get queue i ≡ Some request
    → (one : Session) × (slice_get sessions request.session ≡ Some one) × (one.stage ≡ Waiting)

-- no two requests are of one session
abbrev pub AreDistinct : List Request → Type 0
AreDistinct queue =
    (i j : ℕ) (one other : Request) → i < j → slice_get queue i ≡ Some one → slice_get queue j ≡ Some other → one.session ≢ other.session

-- The sessions of the program's world are at these, whatever its store is, and each request is that of its session.
pub record AreSessions {D : Type 0} (mine : World D) (theirs : ℕ → turn.Session) : Type 0 where
  pub sessions : (number : ℕ) (one : Session) → slice_get mine.sessions.items number ≡ Some one → SessionStands one number (theirs number)
  pub requests : (i : ℕ) (request : Request) → slice_get mine.queue i ≡ Some request → RequestStands request (theirs request.session)

-- What is true of each world that goes on: its sessions are at those of the definitions, its vault isn't shut, there are sixteen sessions,
-- and each request is that of another one, which waits.
pub record IsWorld {D : Type 0} (mine : World D) : Type 0 where
  pub some : (sessions : ℕ → turn.Session) × AreSessions mine sessions
  pub unshut : mine.vault.shut ≡ None
  pub sixteen : length mine.sessions.items ≡ 16
  pub whole : AreWhole mine.queue
  pub wait : DoWait mine.sessions.items mine.queue
  pub distinct : AreDistinct mine.queue

-- sessions that have begun nothing
abbrev pub AreNew : List Session → Type 0
AreNew sessions = (number : ℕ) (one : Session) → slice_get sessions number ≡ Some one → (one.begun ≡ 0) × SessionStands one number turn.new_session

-- no session has begun more transactions than this
abbrev pub HaveBegun : {D : Type 0} → ℕ → World D → Type 0
HaveBegun n mine = (number : ℕ) (one : Session) → slice_get mine.sessions.items number ≡ Some one → one.begun ≤ n

-- A session was answered this line to an action of its transaction, and the program's world is where that leads.
pub record TakesTurn {D : Type 0} (mine new : World D) (number : ℕ) (action : turn.Action) (line : answer.AnswerLine) : Type 0 where
  pub line_is : (world : model.World) → WorldKnown mine world → line ≡ (turn.turn world.store (world.sessions number) action).line
  pub stands : (world : model.World) → WorldStands mine world
      → WorldStands new (turned world number action (turn.turn world.store (world.sessions number) action)).world
  pub knows : (world : model.World) → WorldKnown mine world
      → WorldKnown new (turned world number action (turn.turn world.store (world.sessions number) action)).world
  pub sound : IsWorld new
  pub begun : (n : ℕ) → HaveBegun n mine → HaveBegun (n + 1) new
  pub vault : new.vault ≡ mine.vault

-- What a step with this outcome has done to the disk: where the objects stood before, those stand that it leads to; no page of the data
-- area has changed but those of the blocks that its transactions took, now or in a crash; and it cost just what the outcome costs.
pub record Did {D : Type 0} (g : Ghosts D) (before : Store) (outcome : Outcome) (mine new : World D) : Type 0 where
  pub objects : IsTrue g.tells → (from : ℕ) → AllStand from (g.story mine.vault.disk).reads mine.vault.memory.layout before.objects
      → AllStand from (g.story new.vault.disk).reads mine.vault.memory.layout outcome.world.store.objects
  pub wrote : IsTrue g.tells
      → Wrote (IsLeadPage mine.vault.memory.layout (taken_blocks outcome.commits)) (g.story mine.vault.disk) (g.story new.vault.disk)
  pub costs : (cost : Cost) → cost.gate ≡ mine.vault.memory.log.gate
      → Costs g cost (with_line before outcome.turns outcome.commits cost) mine.vault.disk new.vault.disk new.vault.memory

-- The program's world and the disk are where an outcome leads from this world, and the text is the outcome's, where the disk
-- tells its pages and holds the contents of the world's objects.
pub record CameTo {D : Type 0} (g : Ghosts D) (world : model.World) (outcome : Outcome) (text : List ℕ) (mine new : World D) : Type 0 where
  pub stands : WorldStands new outcome.world
  pub did : Did g world.store outcome mine new
  pub text_is : IsTrue g.tells → AllHeld (g.story mine.vault.disk).reads mine.vault.memory.layout world.store.objects → text ≡ outcome.text

-- What came of a step in this world: it has an outcome, where the program's world and the disk are; or its verb isn't built, and the
-- vault is as it was.
abbrev pub DoesPlay : {D : Type 0} → Ghosts D → model.World → Step → List ℕ → World D → World D → Played → Type 0
DoesPlay g world step text mine new played.Answered =
    (outcome : Outcome) × (step_play mine.vault.memory.layout world step ≡ Some outcome) × CameTo g world outcome text mine new
DoesPlay g world step text mine new played.NotBuilt = (step_play mine.vault.memory.layout world step ≡ None) × (new.vault ≡ mine.vault)

-- The program's world is where an outcome without a commit leads, as far as it is known: it has the same states, and no page of the data
-- area has changed.
pub record Follows {D : Type 0} (g : Ghosts D) (world : model.World) (mine new : World D) : Type 0 where
  pub known : WorldKnown new world
  pub states : new.vault.memory.relation.states ≡ mine.vault.memory.relation.states
  pub pages : IsTrue g.tells → (at : ℕ) → (g.story new.vault.disk).reads (data_page mine.vault.memory.layout + at)
      ≡ (g.story mine.vault.disk).reads (data_page mine.vault.memory.layout + at)

-- so it is behind a step of a known world that has an outcome
abbrev pub DoesFollow : {D : Type 0} → Ghosts D → model.World → Step → World D → World D → Played → Type 0
DoesFollow g world step mine new played.Answered =
    (outcome : Outcome) × (step_play mine.vault.memory.layout world step ≡ Some outcome)
    × (outcome.commits ≡ [] → Follows g outcome.world mine new)
DoesFollow g world step mine new played.NotBuilt = step_play mine.vault.memory.layout world step ≡ None

-- What a step leaves, whether it has an answer or not: with one, the world is sound and each session has begun at most one transaction
-- more; without, a fault has its cause, damage is that of the key's state, and so of an object, and where the contents are held there
-- is none.
pub record Stepped {D T : Type 0} (g : Ghosts D) (mine later : World D) (result : Result T StoreFault) : Type 0 where
  pub sound : OnOk result (IsWorld later)
  pub begun : (n : ℕ) → HaveBegun n mine → OnOk result (HaveBegun (n + 1) later)
  pub layout : later.vault.memory.layout ≡ mine.vault.memory.layout
  pub keeps : Keeps g mine.vault.disk later.vault.disk
  pub raised : IfErr result (IsRaisedFault (g.faults mine.vault.disk) (g.faults later.vault.disk))
  pub among : IfErr result (IsDamageAmong mine.vault.memory.relation.states)
  pub damage : (world : model.World) → WorldStands mine world → IfErr result (ShowsDamageFault world.store.objects)
  pub whole : IsTrue g.tells → (world : model.World) → WorldStands mine world
      → AllHeld (g.story mine.vault.disk).reads mine.vault.memory.layout world.store.objects → IfErr result IsUndamagedFault

-- the group of a step with this outcome, where it has one and committed something
abbrev pub groups_in : Option Outcome → List Group
groups_in None = []
groups_in (Some outcome) = groups_by outcome.commits outcome.world.store

-- At whatever moment of a step the disk stopped, and whether the step had an answer or not, a crash leaves the store that the world had,
-- with all its contents, or that one with a part of the step's group.
abbrev pub StepSurvives : {D : Type 0} → Ghosts D → Step → World D → World D → Type 0
StepSurvives g step mine later =
    IsTrue g.tells → (world : model.World) → WorldStands mine world
    → AllHeld (g.story mine.vault.disk).reads mine.vault.memory.layout world.store.objects
    → LeavesOnly (λ image. Survives (g.size mine.vault.disk) image mine.vault.memory.layout world.store
    (groups_in (step_play mine.vault.memory.layout world step)) 0) (g.story mine.vault.disk) (g.story later.vault.disk)

-- the text of replies to the sessions of these numbers
abbrev pub replies_text : List ℕ → List ReplyTo → List ℕ
replies_text numbers replies = flat_map (λ (one : ℕ × ReplyTo). answer_text (answer.Session one.0 (reply_line (model_reply one.1)) None)) (zip numbers replies)

-- The session of this number has nothing under way.
pub record LeavesFree {D : Type 0} (mine new : World D) (number : ℕ) : Type 0 where
  pub one : Session
  pub was : slice_get mine.sessions.items number ≡ Some one
  pub sessions : new.sessions.items ≡ set mine.sessions.items number (record { begun = one.begun; stage = Free })
  pub queue : new.queue ≡ mine.queue
  pub vault : new.vault ≡ mine.vault

-- whether a number is one of these
abbrev pub is_of : ℕ → List ℕ → Bool
is_of number numbers = list_any (λ other. number == other) numbers

-- what a session has under way where it was replied to, or not
abbrev pub stage_left : Bool → Stage → Stage
stage_left true was = Free
stage_left false was = was

-- The sessions of the first n numbers have nothing under way.
pub record Replying {D : Type 0} (n : ℕ) (numbers : List ℕ) (mine new : World D) : Type 0 where
  pub sessions : (number : ℕ) (one : Session) → slice_get new.sessions.items number ≡ Some one
      → (was : Session) × (slice_get mine.sessions.items number ≡ Some was) × (one.begun ≡ was.begun)
      × (one.stage ≡ stage_left (is_of number (take n numbers)) was.stage)
  pub sixteen : length new.sessions.items ≡ 16
  pub queue : new.queue ≡ mine.queue
  pub vault : new.vault ≡ mine.vault
