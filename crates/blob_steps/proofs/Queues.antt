-- Requests that join the queue of the program's world and that leave it.
use Rattle.std.proofs.Common.{◌≡◌, ◌≢◌, ◌==◌, ℕ, zero, suc, ◌+◌, ◌<◌, ◌⊎◌, true, List, [], ◌∷◌, ◌++◌, length, Some, None, inl, inr, refl, sym, ◌∙◌, ap, subst, arith, length-append}
use Rattle.std.specs.Prelude.{map, slice_get, slice_index_or}
use Rattle.std.proofs.lemmas.List.{map-append}
use Rattle.std.proofs.lemmas.List.Elements.{All-append}
use Rattle.store_model.specs.Answer as answer
use Rattle.store_model.specs.Play.{queue_after, turned}
use Rattle.store_model.specs.Turn as turn
use Rattle.store_model.specs.Turn.{session_after, stage_turn}
use Rattle.store_model.specs.World as model
use Rattle.store_model.specs.World.{with_session, world_over}
use Rattle.store_model.specs.Store.{Store, empty_store}
use Rattle.txn.specs.Requests.{transaction_of}
use Rattle.txn.specs.Txns.{NoAppends}
use Rattle.txn.specs.declared.request.Request.{Request}
use Rattle.blob_steps.specs.Known.{StoreKnown}
use Rattle.blob_steps.specs.Sessions.{Asks, IsSet, SessionStands, StageStands}
use Rattle.blob_steps.specs.Steps.{AreNew, AreSessions, IsWorld, RequestStands, TakesTurn, WorldIs}
use Rattle.vault.specs.Leads.{StoreStands}
use Rattle.vault.specs.Pours.{AreWhole}
use Rattle.vault.specs.declared.memory.Memory.{Memory}
use Rattle.vault.specs.declared.vault.Vault.{Vault}
use Rattle.blob_steps.specs.declared.session.Session.{Session}
use Rattle.blob_steps.specs.declared.session.Stage.{Stage}
use Rattle.blob_steps.specs.declared.session.Stage.TheVariants.{Waiting}
use Rattle.blob_steps.specs.declared.world.World.{World}
use Rattle.blob_steps.proofs.Turning.{begun-set, get-later, request-turned, same-self, session-here, sessions-turned, sixteen-set, waits-set}

-- an element of a list with one more at its end
pub get-push : {X : Type 0} (xs : List X) (x one : X) (i : ℕ) → slice_get (xs ++ x ∷ []) i ≡ Some one
    → (slice_get xs i ≡ Some one) ⊎ ((i ≡ length xs) × (one ≡ x))
get-push [] x one zero is = inr (refl, cc is)
get-push [] x one (suc i) is = absurd (cc is)
get-push (y ∷ xs) x one zero is = inl is
get-push (y ∷ xs) x one (suc i) is = elim (get-push xs x one i is) [
  | inl before ↦ inl before
  | inr last ↦ inr (ap suc last.0, last.1)
]

-- an element stands below the length
get-below : {X : Type 0} (xs : List X) (one : X) (i : ℕ) → slice_get xs i ≡ Some one → i < length xs
get-below [] one i is = absurd (cc is)
get-below (x ∷ xs) one zero is = omega arith
get-below (x ∷ xs) one (suc i) is = omega (arith, get-below xs one i is)

-- one new session more
pub AreNew-push : (xs ys : List Session) (x : Session) (n : ℕ) → ys ≡ xs ++ x ∷ [] → length xs ≡ n → AreNew xs → x.begun ≡ 0 → ((number : ℕ) → SessionStands x number turn.new_session)
    → (length ys ≡ n + 1) × AreNew ys
AreNew-push xs ys x n is long new begun stands = (
  ap (λ (zs : List Session). length zs) is ∙ length-append xs (x ∷ []) ∙ omega (arith, long),
  λ number one there. elim (get-push xs x one number (ap (λ (zs : List Session). slice_get zs number) (sym is) ∙ there)) [
    | inl before ↦ new number one before
    | inr last ↦ subst (λ (s : Session). (s.begun ≡ 0) × SessionStands s number turn.new_session) (sym last.1) (begun, stands number)
  ],
)

-- no request is in a queue without requests
none-there : {X : Type 0} (xs : List X) (i : ℕ) (x : X) → xs ≡ [] → slice_get xs i ≡ Some x → ⊥
none-there {X = X} xs i x none is = let gone : None ≡ Some x = sym (ap (λ (ys : List X). slice_get ys i) none) ∙ is in absurd (cc gone)

-- the world of a run that begins
pub WorldIs-new : {D : Type 0} (Is : Memory → Store → Type 0) (mine : World D) (store : Store) → AreNew mine.sessions.items → mine.queue ≡ [] → Is mine.vault.memory store
    → WorldIs Is mine (world_over store)
WorldIs-new Is mine store new queue stands = record {
  store = stands;
  sessions = λ number one is. (new number one is).1;
  queue = sym (ap (map (λ (r : Request). r.session)) queue);
  requests = λ i request is. absurd (none-there mine.queue i request queue is);
}

pub IsWorld-new : {D : Type 0} (mine : World D) → mine.vault.shut ≡ None
    → length mine.sessions.items ≡ 16 → AreNew mine.sessions.items → mine.queue ≡ [] → IsWorld mine
IsWorld-new mine unshut sixteen new queue = record {
  some = (
    λ number. turn.new_session,
    record { sessions = λ number one is. (new number one is).1; requests = λ i request is. absurd (none-there mine.queue i request queue is) },
  );
  unshut = unshut;
  sixteen = sixteen;
  whole = subst AreWhole (sym queue) (λ k d less. absurd (omega (arith, less)));
  wait = λ i request is. absurd (none-there mine.queue i request queue is);
  distinct = λ i j one other less here there. absurd (none-there mine.queue i one queue here);
}

-- What a commit makes of the program's world: its session waits, and its request is the last of the queue.
pub record IsQueued {D : Type 0} (mine new : World D) (number : ℕ) (old later : Session) (request : Request) : Type 0 where
  pub set_is : IsSet mine.sessions.items new.sessions.items number old later
  pub vault : new.vault ≡ mine.vault
  pub queue : new.queue ≡ mine.queue ++ request ∷ []
  pub asks : (theirs : turn.Session) → SessionStands old number theirs → Asks theirs number request later
  pub begun : later.begun ≡ old.begun

-- the stage of a waiting session
waiting-stands : (stage : Stage) (number begun : ℕ) (theirs : turn.Stage) (request : Request) → stage ≡ Waiting → theirs ≡ turn.Waiting (transaction_of request)
    → StageStands stage number begun theirs
waiting-stands stage number begun theirs request waits is = subst (λ (s : Stage). StageStands s number begun theirs) (sym waits) (transaction_of request, is)

-- an open session doesn't wait
open-waits : (old : Session) (number : ℕ) (theirs : turn.Session) (request : Request) → SessionStands old number theirs → theirs.stage ≡ turn.Open (transaction_of request)
    → old.stage ≡ Waiting → ⊥
open-waits old number theirs request stands opened waits =
    let waiting : StageStands Waiting number old.begun theirs.stage = subst (λ (s : Stage). StageStands s number old.begun theirs.stage) waits stands.stage in
    let both : turn.Open (transaction_of request) ≡ turn.Waiting waiting.0 = sym opened ∙ waiting.1 in
    absurd (cc both)

module _ {D : Type 0} (mine new : World D) (number : ℕ) (old later : Session) (request : Request) (sound : IsWorld mine)
    (done : IsQueued mine new number old later request) where
  -- what the session asks for
  asks-in : (sessions : ℕ → turn.Session) → AreSessions mine sessions → Asks (sessions number) number request later
  asks-in sessions are = done.asks (sessions number) (are.sessions number old done.set_is.there)

  -- the session after the commit
  stands-later : (store : Store) (sessions : ℕ → turn.Session) → AreSessions mine sessions
      → SessionStands later number (session_after (sessions number) turn.Commit (turn.turn store (sessions number) turn.Commit))
  stands-later store sessions are =
      let asks = asks-in sessions are in
      let before : SessionStands old number (sessions number) = are.sessions number old done.set_is.there in
      record {
        begun = done.begun ∙ before.begun;
        stage = waiting-stands later.stage number later.begun (turn.turn store (sessions number) turn.Commit).stage request asks.waits
            (ap (λ (s : turn.Stage). (stage_turn store s turn.Commit).stage) asks.opened);
      }

  -- the sessions after it
  abbrev sessions-after : Store → (ℕ → turn.Session) → ℕ → turn.Session
  sessions-after store sessions = with_session sessions number (session_after (sessions number) turn.Commit (turn.turn store (sessions number) turn.Commit))

  -- its request
  request-later : (store : Store) (sessions : ℕ → turn.Session) → AreSessions mine sessions → RequestStands request (sessions-after store sessions request.session)
  request-later store sessions are =
      let asks = asks-in sessions are in
      let after : turn.Session = session_after (sessions number) turn.Commit (turn.turn store (sessions number) turn.Commit) in
      subst (RequestStands request) (sym (session-here sessions number after request.session (same-session request.session number asks.session)))
      (record { begun = sym asks.nth; stage = ap (λ (s : turn.Stage). (stage_turn store s turn.Commit).stage) asks.opened }) where
        same-session : (n m : ℕ) → n ≡ m → (n == m) ≡ true
        same-session n m is = subst (λ (k : ℕ). (n == k) ≡ true) is (same-self n)

  queued-sessions : (store : Store) (sessions : ℕ → turn.Session) → AreSessions mine sessions → AreSessions new (sessions-after store sessions)
  queued-sessions store sessions are = record {
    sessions = sessions-turned mine.sessions.items new.sessions.items number old later sessions
        (session_after (sessions number) turn.Commit (turn.turn store (sessions number) turn.Commit)) done.set_is (stands-later store sessions are) are.sessions;
    requests = λ i one there. elim (get-push mine.queue request one i (ap (λ (rs : List Request). slice_get rs i) (sym done.queue) ∙ there)) [
      | inl before ↦ request-turned store sessions number turn.Commit one (are.requests i one before)
      | inr last ↦ subst (λ (r : Request). RequestStands r (sessions-after store sessions r.session)) (sym last.1) (request-later store sessions are)
    ];
  }

  queued-is : (Is : Memory → Store → Type 0) (world : model.World) → WorldIs Is mine world → WorldIs Is new (turned world number turn.Commit (turn.turn world.store (world.sessions number) turn.Commit)).world
  queued-is Is world is =
      let are : AreSessions mine world.sessions = record { sessions = is.sessions; requests = is.requests } in
      let asks = asks-in world.sessions are in
      let after = queued-sessions world.store world.sessions are in
      record {
        store = subst (λ (v : Vault D). Is v.memory world.store) (sym done.vault) is.store;
        sessions = after.sessions;
        queue = ap (λ (s : turn.Stage). queue_after turn.Commit s world.queue number) asks.opened
            ∙ ap (λ (ns : List ℕ). ns ++ number ∷ []) is.queue
            ∙ ap (λ (n : ℕ). map (λ (r : Request). r.session) mine.queue ++ n ∷ []) (sym asks.session)
            ∙ sym (map-append (λ (r : Request). r.session) mine.queue (request ∷ []))
            ∙ ap (map (λ (r : Request). r.session)) (sym done.queue);
        requests = after.requests;
      }

  -- no request of the session was in the queue
  none-queued : (i : ℕ) (one : Request) → slice_get mine.queue i ≡ Some one → one.session ≡ number → ⊥
  none-queued i one there is =
      let sessions : ℕ → turn.Session = sound.some.0 in
      let waits = sound.wait i one there in
      let here : slice_get mine.sessions.items number ≡ Some waits.0 = ap (slice_get mine.sessions.items) (sym is) ∙ waits.1 in
      let both : Some old ≡ Some waits.0 = sym done.set_is.there ∙ here in
      let same : old ≡ waits.0 = cc in
      open-waits old number (sessions number) request (sound.some.1.sessions number old done.set_is.there) (asks-in sessions sound.some.1).opened
      (ap (λ (s : Session). s.stage) same ∙ waits.2)

  -- A session's commit was queued.
  pub TakesTurn-queued : TakesTurn mine new number turn.Commit answer.Queued
  TakesTurn-queued =
      let first : Asks (sound.some.0 number) number request later = asks-in sound.some.0 sound.some.1 in
      record {
        line_is = λ world is.
            sym (ap (λ (s : turn.Stage). (stage_turn world.store s turn.Commit).line)
            (asks-in world.sessions (record { sessions = is.sessions; requests = is.requests })).opened);
        stands = queued-is StoreStands;
        knows = queued-is StoreKnown;
        sound = record {
          some = (sessions-after empty_store sound.some.0, queued-sessions empty_store sound.some.0 sound.some.1);
          unshut = ap (λ (v : Vault D). v.shut) done.vault ∙ sound.unshut;
          sixteen = sixteen-set mine.sessions.items new.sessions.items number old later done.set_is sound.sixteen;
          whole = subst AreWhole (sym done.queue) (All-append (λ (r : Request). NoAppends r.writes) mine.queue (request ∷ []) sound.whole
              (λ k d less. subst (λ (r : Request). NoAppends r.writes) (only k d less) first.appends));
          wait = λ i one there. elim (get-push mine.queue request one i (ap (λ (rs : List Request). slice_get rs i) (sym done.queue) ∙ there)) [
            | inl before ↦
                (let was = sound.wait i one before in
                waits-set mine.sessions.items new.sessions.items number old later one.session was.0 done.set_is (λ waits. first.waits) was.1 was.2)
            | inr last ↦
                (let is : one.session ≡ number = ap (λ (r : Request). r.session) last.1 ∙ first.session in
                subst (λ (n : ℕ). (now : Session) × (slice_get new.sessions.items n ≡ Some now) × (now.stage ≡ Waiting)) (sym is) (later, there-now, first.waits))
          ];
          distinct = λ i j one other less here there.
              let front = get-push mine.queue request one i (ap (λ (rs : List Request). slice_get rs i) (sym done.queue) ∙ here) in
              let back = get-push mine.queue request other j (ap (λ (rs : List Request). slice_get rs j) (sym done.queue) ∙ there) in
              two-apart i j one other less front back;
        };
        begun = λ n have. begun-set mine new number old later n done.set_is (omega (arith, done.begun)) have;
        vault = done.vault;
      } where
        only : (k : ℕ) (d : Request) (less : k < 1) → request ≡ slice_index_or (request ∷ []) k d
        only zero d less = refl
        only (suc k) d less = absurd (omega (arith, less))

        there-now : slice_get new.sessions.items number ≡ Some later
        there-now = get-later mine.sessions.items new.sessions.items number old later done.set_is

        two-apart : (i j : ℕ) (one other : Request) → i < j → (slice_get mine.queue i ≡ Some one) ⊎ ((i ≡ length mine.queue) × (one ≡ request))
            → (slice_get mine.queue j ≡ Some other) ⊎ ((j ≡ length mine.queue) × (other ≡ request)) → one.session ≢ other.session
        two-apart i j one other less (inl here) (inl there) same = sound.distinct i j one other less here there same
        two-apart i j one other less (inl here) (inr last) same =
            none-queued i one here (same ∙ ap (λ (r : Request). r.session) last.1 ∙ (asks-in sound.some.0 sound.some.1).session)
        two-apart i j one other less (inr first) (inl there) same = omega (arith, less, first.0, get-below mine.queue other j there)
        two-apart i j one other less (inr first) (inr last) same = omega (arith, less, first.0, last.0)
