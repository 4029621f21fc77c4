-- Turns of sessions, over the program's world.
use Rattle.std.proofs.Common.{◌≡◌, ◌==◌, ℕ, zero, suc, ◌+◌, ◌<◌, ◌≤◌, Bool, true, false, cond, List, [], ◌∷◌, length, Option, Some, None, inl, inr, refl, sym, ◌∙◌, ap, subst, arith}
use Rattle.std.proofs.lemmas.Bool.{cases_Bool}
use Rattle.std.proofs.lemmas.Bool.Decides.{nat_tests}
use Rattle.std.proofs.lemmas.List.{length-set}
use Rattle.std.specs.Prelude.{option_map, slice_get, slice_index_or, map, Result, Ok, Err, IfOk, OnOk}
use Rattle.std.proofs.lemmas.Option.{slice_get-get_or}
use Rattle.std.specs.Cmp.{eq_by_cmp_equiv}
use Rattle.std.specs.List.{slice_set as set}
use Rattle.store_model.specs.Answer as answer
use Rattle.store_model.specs.Play.{queue_after, turned}
use Rattle.store_model.specs.Key.{key_order}
use Rattle.store_model.specs.Standing.{BothStand}
use Rattle.store_model.specs.State.{State}
use Rattle.store_model.specs.Store.{Object, Store, number_at}
use Rattle.std.specs.FinMap.{empty, get, get-empty, get-insert, insert}
use Rattle.store_model.specs.Transaction.{Transaction}
use Rattle.store_model.specs.Turn as turn
use Rattle.store_model.specs.Turn.{begun_after, session_after, stage_turn}
use Rattle.store_model.specs.World as model
use Rattle.store_model.specs.World.{with_session}
use Rattle.store_model.proofs.SortedLaws.{keys_total}
use Rattle.txn.specs.Requests.{transaction_of}
use Rattle.txn.specs.declared.request.Request.{Request}
use Rattle.blob_steps.specs.Known.{BothKnown, StoreKnown}
use Rattle.blob_steps.specs.Sessions.{HasTurned, IsNotOpen, IsSet, SessionStands, StageStands, TurnsSomehow, TurnsTo}
use Rattle.blob_steps.specs.Steps.{AreSessions, HaveBegun, IsWorld, RequestStands, TakesTurn, WorldIs, WorldKnown, WorldStands}
use Rattle.blob_steps.specs.declared.session.Session.{Session}
use Rattle.blob_steps.specs.declared.session.Stage.{Stage}
use Rattle.blob_steps.specs.declared.session.Stage.TheVariants.{Free, Open, Waiting}
use Rattle.blob_steps.specs.declared.world.World.{World}
use Rattle.vault.specs.Leads.{StoreStands}
use Rattle.vault.specs.Pours.{AreWhole}
use Rattle.vault.specs.declared.memory.Memory.{Memory}
use Rattle.vault.specs.declared.vault.Vault.{Vault}

-- one element of a list was set
pub get-set_here : {X : Type 0} (xs : List X) (i : ℕ) (y was : X) → slice_get xs i ≡ Some was → slice_get (set xs i y) i ≡ Some y
get-set_here [] i y was is = absurd (cc is)
get-set_here (x ∷ xs) zero y was is = refl
get-set_here (x ∷ xs) (suc i) y was is = get-set_here xs i y was is

pub get-set_there : {X : Type 0} (xs : List X) (i j : ℕ) (y : X) → (i == j) ≡ false → slice_get (set xs i y) j ≡ slice_get xs j
get-set_there [] i j y apart = refl
get-set_there (x ∷ xs) zero zero y apart = absurd (cc apart)
get-set_there (x ∷ xs) zero (suc j) y apart = refl
get-set_there (x ∷ xs) (suc i) zero y apart = refl
get-set_there (x ∷ xs) (suc i) (suc j) y apart = get-set_there xs i j y (grind (arith, nat_tests, apart))

-- an element of a list
pub get-at : {X : Type 0} (xs : List X) (i : ℕ) (x d : X) → i < length xs → x ≡ slice_index_or xs i d → slice_get xs i ≡ Some x
get-at xs i x d less is = slice_get-get_or xs i d less ∙ ap Some (sym is)

-- what holds of a value, where there is one
pub if-ok : {X E : Type 0} {P Q : X → Type 0} (r : Result X E) → ((x : X) → P x → Q x) → IfOk r P → IfOk r Q
if-ok (Ok x) more holds = more x holds
if-ok (Err e) more holds = tt

pub on-ok : {X E P Q : Type 0} (r : Result X E) → (P → Q) → OnOk r P → OnOk r Q
on-ok (Ok x) more holds = more holds
on-ok (Err e) more holds = tt

-- a waiting session has begun as many after each action
begun-waiting : (action : turn.Action) (transaction : Transaction) (begun : ℕ) → begun_after action (turn.Waiting transaction) begun ≡ begun
begun-waiting turn.Begin transaction begun = refl
begun-waiting (turn.Get key) transaction begun = refl
begun-waiting (turn.Stat key) transaction begun = refl
begun-waiting (turn.Put key content) transaction begun = refl
begun-waiting (turn.Append key bytes) transaction begun = refl
begun-waiting (turn.Delete key) transaction begun = refl
begun-waiting turn.Commit transaction begun = refl
begun-waiting turn.Abort transaction begun = refl

-- a request stands after each action of its session
pub RequestStands-turn : (store : Store) (request : Request) (theirs : turn.Session) (action : turn.Action) → RequestStands request theirs
    → RequestStands request (session_after theirs action (turn.turn store theirs action))
RequestStands-turn store request theirs action stands = record {
  begun = ap (λ (s : turn.Stage). begun_after action s theirs.begun) stands.stage ∙ begun-waiting action (transaction_of request) theirs.begun ∙ stands.begun;
  stage = ap (λ (s : turn.Stage). (stage_turn store s action).stage) stands.stage;
}

-- whether two numbers are the same
pub same-number : (n m : ℕ) → (n == m) ≡ true → n ≡ m
same-number n m is = grind (arith, nat_tests, is)

pub same-self : (n : ℕ) → (n == n) ≡ true
same-self n = grind (arith, nat_tests)

-- the sessions where one of them is another
pub session-here : (sessions : ℕ → turn.Session) (number : ℕ) (one : turn.Session) (n : ℕ) → (n == number) ≡ true → with_session sessions number one n ≡ one
session-here sessions number one n is = ap (λ (b : Bool). cond b one (sessions n)) is

pub session-there : (sessions : ℕ → turn.Session) (number : ℕ) (one : turn.Session) (n : ℕ) → (n == number) ≡ false → with_session sessions number one n ≡ sessions n
session-there sessions number one n is = ap (λ (b : Bool). cond b one (sessions n)) is

-- the sessions of the program where one of them was set
pub one-set : (xs : List Session) (number n : ℕ) (later one : Session) → (n == number) ≡ true → slice_get (set xs number later) n ≡ Some one
    → (was : Session) → slice_get xs number ≡ Some was → one ≡ later
one-set xs number n later one same is was there =
    let here : slice_get (set xs number later) n ≡ Some later = ap (slice_get (set xs number later)) (same-number n number same) ∙ get-set_here xs number later was there in
    let both : Some one ≡ Some later = sym is ∙ here in cc

pub other-set : (xs : List Session) (number n : ℕ) (later one : Session) → (n == number) ≡ false → slice_get (set xs number later) n ≡ Some one → slice_get xs n ≡ Some one
other-set xs number n later one other is =
    let apart : (number == n) ≡ false = grind (arith, nat_tests, other) in
    sym (get-set_there xs number n later apart) ∙ is

-- each session where one of them was set
pub IsSet-each : (old new : List Session) (number : ℕ) (was later : Session) (P : ℕ → Session → Type 0) → IsSet old new number was later
    → P number later → ((n : ℕ) (one : Session) → (n == number) ≡ false → slice_get old n ≡ Some one → P n one)
    → (n : ℕ) (one : Session) → slice_get new n ≡ Some one → P n one
IsSet-each old new number was later P set_is here others n one is =
    let there : slice_get (set old number later) n ≡ Some one = subst (λ (xs : List Session). slice_get xs n ≡ Some one) set_is.new_is is in
    elim (cases_Bool (n == number)) [
      | inl same ↦
          (let moved : one ≡ later = one-set old number n later one same there was set_is.there in
          subst (λ (m : ℕ). P m one) (sym (same-number n number same)) (subst (P number) (sym moved) here))
      | inr other ↦ others n one other (other-set old number n later one other there)
    ]

-- the one that was set
pub get-later : (old new : List Session) (number : ℕ) (was later : Session) → IsSet old new number was later → slice_get new number ≡ Some later
get-later old new number was later set_is = ap (λ (xs : List Session). slice_get xs number) set_is.new_is ∙ get-set_here old number later was set_is.there

-- the sessions stand where one of them was set
pub sessions-turned : (old new : List Session) (number : ℕ) (was later : Session) (sessions : ℕ → turn.Session) (theirs : turn.Session) → IsSet old new number was later
    → SessionStands later number theirs → ((n : ℕ) (one : Session) → slice_get old n ≡ Some one → SessionStands one n (sessions n))
    → (n : ℕ) (one : Session) → slice_get new n ≡ Some one → SessionStands one n (with_session sessions number theirs n)
sessions-turned old new number was later sessions theirs set_is stands before =
    IsSet-each old new number was later (λ n one. SessionStands one n (with_session sessions number theirs n)) set_is
    (subst (SessionStands later number) (sym (session-here sessions number theirs number (same-self number))) stands)
    (λ n one other is. subst (SessionStands one n) (sym (session-there sessions number theirs n other)) (before n one is))

-- a request stands where a session took its turn
pub request-turned : (store : Store) (sessions : ℕ → turn.Session) (number : ℕ) (action : turn.Action) (request : Request) → RequestStands request (sessions request.session)
    → RequestStands request (with_session sessions number (session_after (sessions number) action (turn.turn store (sessions number) action)) request.session)
request-turned store sessions number action request stands =
    let after : turn.Session = session_after (sessions number) action (turn.turn store (sessions number) action) in
    elim (cases_Bool (request.session == number)) [
      | inl same ↦
          (let is : request.session ≡ number = same-number request.session number same in
          subst (RequestStands request) (sym (session-here sessions number after request.session same))
          (RequestStands-turn store request (sessions number) action (subst (λ (n : ℕ). RequestStands request (sessions n)) is stands)))
      | inr other ↦ subst (RequestStands request) (sym (session-there sessions number after request.session other)) stands
    ]

-- no session has begun more than one more
pub begun-set : {D : Type 0} (mine new : World D) (number : ℕ) (was later : Session) (n : ℕ) → IsSet mine.sessions.items new.sessions.items number was later → later.begun ≤ was.begun + 1
    → HaveBegun n mine → HaveBegun (n + 1) new
begun-set mine new number was later n set_is more have =
    IsSet-each mine.sessions.items new.sessions.items number was later (λ k one. one.begun ≤ n + 1) set_is
    (omega (arith, have number was set_is.there, more)) (λ k one other is. omega (arith, have k one is))

-- a session that waits still does, where the one that was set does so if it did
pub waits-set : (old new : List Session) (number : ℕ) (was later : Session) (at : ℕ) (one : Session) → IsSet old new number was later → (was.stage ≡ Waiting → later.stage ≡ Waiting)
    → slice_get old at ≡ Some one → one.stage ≡ Waiting → (now : Session) × (slice_get new at ≡ Some now) × (now.stage ≡ Waiting)
waits-set old new number was later at one set_is waits there waiting =
    elim (cases_Bool (at == number)) [
      | inl same ↦
          (let is : at ≡ number = same-number at number same in
          let here : slice_get old number ≡ Some one = subst (λ (n : ℕ). slice_get old n ≡ Some one) is there in
          let both : Some was ≡ Some one = sym set_is.there ∙ here in
          let one_is : was ≡ one = cc in
          (later, ap (slice_get new) is ∙ get-later old new number was later set_is, waits (ap (λ (s : Session). s.stage) one_is ∙ waiting)))
      | inr other ↦
          (let apart : (number == at) ≡ false = grind (arith, nat_tests, other) in
          (one, ap (λ (xs : List Session). slice_get xs at) set_is.new_is ∙ get-set_there old number at later apart ∙ there, waiting))
    ]

pub sixteen-set : (old new : List Session) (number : ℕ) (was later : Session) → IsSet old new number was later → length old ≡ 16 → length new ≡ 16
sixteen-set old new number was later set_is sixteen = ap (λ (xs : List Session). length xs) set_is.new_is ∙ length-set old number later ∙ sixteen

-- a state that stands for an object is that of it
BothKnown-stands : (state : Option State) (object : Option Object) → BothStand state object → BothKnown state object
BothKnown-stands None None stands = tt
BothKnown-stands None (Some object) stands = stands
BothKnown-stands (Some state) None stands = stands
BothKnown-stands (Some state) (Some object) stands = record { sound = stands.sound; number = stands.number; place = stands.place; size = stands.tells.size }

-- a store that memory is at is known
pub StoreKnown-stands : (mine : Memory) (store : Store) → StoreStands mine store → StoreKnown mine store
StoreKnown-stands mine store stands = record {
  objects = λ key. BothKnown-stands (get mine.relation.states key) (get store.objects key) (stands.objects key);
  last = stands.last;
}

-- a world is known whose store is
pub WorldKnown-from : {D : Type 0} (Is : Memory → Store → Type 0) (mine : World D) (world : model.World) → ((store : Store) → Is mine.vault.memory store → StoreKnown mine.vault.memory store)
    → WorldIs Is mine world → WorldKnown mine world
WorldKnown-from Is mine world known is = record { store = known world.store is.store; sessions = is.sessions; queue = is.queue; requests = is.requests }

-- so is one that the program's world is at
pub WorldKnown-stands : {D : Type 0} (mine : World D) (world : model.World) → WorldStands mine world → WorldKnown mine world
WorldKnown-stands mine world is = WorldKnown-from StoreStands mine world (λ store stands. StoreKnown-stands mine.vault.memory store stands) is

-- A session of the program's world took its turn, and the world is where that leads.
pub record Moves {D : Type 0} (mine new : World D) (number : ℕ) (action : turn.Action) : Type 0 where
  pub stands : (world : model.World) → WorldStands mine world
      → WorldStands new (turned world number action (turn.turn world.store (world.sessions number) action)).world
  pub knows : (world : model.World) → WorldKnown mine world
      → WorldKnown new (turned world number action (turn.turn world.store (world.sessions number) action)).world
  pub sound : IsWorld new
  pub begun : (n : ℕ) → HaveBegun n mine → HaveBegun (n + 1) new

-- A session alone took its turn: what the vault has in memory and the queue are as they were.
pub record Alone {D : Type 0} (mine new : World D) (number : ℕ) (was later : Session) : Type 0 where
  pub set_is : IsSet mine.sessions.items new.sessions.items number was later
  pub memory : new.vault.memory ≡ mine.vault.memory
  pub unshut : new.vault.shut ≡ None
  pub queue : new.queue ≡ mine.queue
  pub begun : later.begun ≤ was.begun + 1
  pub waits : was.stage ≡ Waiting → later.stage ≡ Waiting

-- so is the whole vault
pub Alone-same : {D : Type 0} (mine new : World D) (number : ℕ) (was later : Session) → IsWorld mine → new.vault ≡ mine.vault
    → IsSet mine.sessions.items new.sessions.items number was later → new.queue ≡ mine.queue → later.begun ≤ was.begun + 1
    → (was.stage ≡ Waiting → later.stage ≡ Waiting) → Alone mine new number was later
Alone-same {D = D} mine new number was later sound same set_is queue begun waits = record {
  set_is = set_is;
  memory = ap (λ (v : Vault D). v.memory) same;
  unshut = ap (λ (v : Vault D). v.shut) same ∙ sound.unshut;
  queue = queue;
  begun = begun;
  waits = waits;
}

-- an action other than a commit leaves the queue as it is
abbrev pub LeavesQueue : turn.Action → Type 0
LeavesQueue action = (stage : turn.Stage) (queue : List ℕ) (number : ℕ) → queue_after action stage queue number ≡ queue

module _ {D : Type 0} (mine new : World D) (number : ℕ) (was later : Session) (action : turn.Action) (sound : IsWorld mine)
    (alone : Alone mine new number was later)
    (turns : (world : model.World) → WorldKnown mine world
    → SessionStands later number (session_after (world.sessions number) action (turn.turn world.store (world.sessions number) action)))
    (some : TurnsSomehow was number action later)
    (queued : (world : model.World) → WorldKnown mine world → queue_after action (world.sessions number).stage world.queue number ≡ world.queue) where
  request-was : (i : ℕ) (request : Request) → slice_get new.queue i ≡ Some request → slice_get mine.queue i ≡ Some request
  request-was i request there = ap (λ (rs : List Request). slice_get rs i) (sym alone.queue) ∙ there

  alone-is : (Is : Memory → Store → Type 0) → ((store : Store) → Is mine.vault.memory store → StoreKnown mine.vault.memory store) → (world : model.World) → WorldIs Is mine world
      → WorldIs Is new (turned world number action (turn.turn world.store (world.sessions number) action)).world
  alone-is Is known world is = record {
    store = subst (λ (m : Memory). Is m world.store) (sym alone.memory) is.store;
    sessions = sessions-turned mine.sessions.items new.sessions.items number was later world.sessions
        (session_after (world.sessions number) action (turn.turn world.store (world.sessions number) action)) alone.set_is
        (turns world (WorldKnown-from Is mine world known is)) is.sessions;
    queue = queued world (WorldKnown-from Is mine world known is) ∙ is.queue ∙ ap (map (λ (request : Request). request.session)) (sym alone.queue);
    requests = λ i request there. request-turned world.store world.sessions number action request (is.requests i request (request-was i request there));
  }

  -- the sessions, whatever the store
  alone-sessions : (sessions : ℕ → turn.Session) → AreSessions mine sessions → (after : ℕ → turn.Session) × AreSessions new after
  alone-sessions sessions are =
      let over = some (sessions number) (are.sessions number was alone.set_is.there) in
      let theirs : turn.Session = session_after (sessions number) action (turn.turn over.0 (sessions number) action) in (
        with_session sessions number theirs,
        record {
          sessions = sessions-turned mine.sessions.items new.sessions.items number was later sessions theirs alone.set_is over.1 are.sessions;
          requests = λ i request there. request-turned over.0 sessions number action request (are.requests i request (request-was i request there));
        },
      )

  pub Moves-alone : Moves mine new number action
  Moves-alone = record {
    stands = alone-is StoreStands (λ store stands. StoreKnown-stands mine.vault.memory store stands);
    knows = alone-is StoreKnown (λ store known. known);
    sound = record {
      some = alone-sessions sound.some.0 sound.some.1;
      unshut = alone.unshut;
      sixteen = sixteen-set mine.sessions.items new.sessions.items number was later alone.set_is sound.sixteen;
      whole = subst AreWhole (sym alone.queue) sound.whole;
      wait = λ i request there.
          let before = sound.wait i request (request-was i request there) in
          waits-set mine.sessions.items new.sessions.items number was later request.session before.0 alone.set_is alone.waits before.1 before.2;
      distinct = λ i j one other less here there. sound.distinct i j one other less (request-was i one here) (request-was j other there);
    };
    begun = λ n have. begun-set mine new number was later n alone.set_is alone.begun have;
  }

-- The session was answered this line, whatever the world.
pub TakesTurn-alone : {D : Type 0} (mine new : World D) (number : ℕ) (was later : Session) (action : turn.Action) (line : answer.AnswerLine) → IsWorld mine
    → new.vault ≡ mine.vault → Alone mine new number was later
    → ((world : model.World) → WorldKnown mine world → TurnsTo world.store (world.sessions number) action number later line)
    → TurnsSomehow was number action later
    → ((world : model.World) → WorldKnown mine world → queue_after action (world.sessions number).stage world.queue number ≡ world.queue)
    → TakesTurn mine new number action line
TakesTurn-alone mine new number was later action line sound same alone turns some queued =
    let moves : Moves mine new number action = Moves-alone mine new number was later action sound alone (λ world is. (turns world is).stands) some queued in
    record { line_is = λ world is. (turns world is).line_is; stands = moves.stands; knows = moves.knows; sound = moves.sound; begun = moves.begun; vault = same }

-- A session took its turn over the program's store.
pub TakesTurn-turned : {D : Type 0} (mine new : World D) (number : ℕ) (action : turn.Action) (line : answer.AnswerLine) → IsWorld mine → LeavesQueue action
    → new.vault ≡ mine.vault → new.queue ≡ mine.queue
    → HasTurned mine.vault.memory mine.sessions.items new.sessions.items number action line → TakesTurn mine new number action line
TakesTurn-turned mine new number action line sound leaves same queue_is done =
    TakesTurn-alone mine new number done.was done.later action line sound same
    (Alone-same mine new number done.was done.later sound same done.set_is queue_is (omega (arith, done.begun)) done.waits)
    (λ world is. done.turns (world.sessions number) world.store is.store (is.sessions number done.was done.set_is.there))
    done.some
    (λ world is. leaves (world.sessions number).stage world.queue number)

-- a commit that isn't queued leaves the queue as it is
pub not-queued : (stage : Stage) (number begun : ℕ) (theirs : turn.Stage) (queue : List ℕ) → IsNotOpen stage → StageStands stage number begun theirs
    → queue_after turn.Commit theirs queue number ≡ queue
not-queued Free number begun theirs queue closed stands = ap (λ (s : turn.Stage). queue_after turn.Commit s queue number) stands
not-queued (Open txn) number begun theirs queue closed stands = absurd closed
not-queued Waiting number begun theirs queue closed stands = ap (λ (s : turn.Stage). queue_after turn.Commit s queue number) stands.1

-- the number of a key's state is that of its object
pub number-alike : (state : Option State) (object : Option Object) → BothKnown state object → option_map (λ (o : Object). o.number) object ≡ option_map (λ (s : State). s.born) state
number-alike None None stands = refl
number-alike None (Some object) stands = absurd stands
number-alike (Some state) None stands = absurd stands
number-alike (Some state) (Some object) stands = ap Some (sym stands.number)

-- the number of a key in the store is that of the state that the program found
pub number-found : {X : Type 0} (now : X → State) (mine : Memory) (store : Store) (key : List ℕ) (found : Option X) → StoreKnown mine store
    → option_map now found ≡ get mine.relation.states key → number_at store key ≡ option_map (λ (x : X). (now x).born) found
number-found now mine store key None is found = number-alike (get mine.relation.states key) (get store.objects key) (is.objects key) ∙ ap (option_map (λ (s : State). s.born)) (sym found)
number-found now mine store key (Some x) is found = number-alike (get mine.relation.states key) (get store.objects key) (is.objects key) ∙ ap (option_map (λ (s : State). s.born)) (sym found)

-- there is a store with a number under a key, or with none, and with a last number
pub store-with : (key : List ℕ) (number : Option ℕ) (front : ℕ) → (store : Store) × (store.last ≡ front) × (number_at store key ≡ number)
store-with key None front = (
  record { objects = empty; last = front },
  refl,
  ap (option_map (λ (o : Object). o.number)) (get-empty key_order key),
)
store-with key (Some number) front =
    let object : Object = record { content = []; number = number; place = record { heads = []; tail = None } } in (
      record { objects = insert empty key object; last = front },
      refl,
      ap (option_map (λ (o : Object). o.number))
          (get-insert keys_total (empty {X = Object} {R = key_order}) key object key
          ∙ ap (λ (b : Bool). cond b (Some object) (get {X = Object} {R = key_order} empty key)) ((eq_by_cmp_equiv keys_total).refl key)),
    )
