-- A lead, over the program's world.
use Rattle.std.proofs.Common.{◌≡◌, ◌≢◌, ℕ, zero, suc, ◌+◌, ◌==◌, ◌<◌, ◌≤◌, Bool, true, false, cond, ◌||◌, ◌⊎◌, IsTrue, List, [], ◌∷◌, ◌++◌, length, map, take, drop, fold, Some, None, inl, inr, refl, sym, ◌∙◌, ap, subst, arith}
use Rattle.std.specs.Prelude.{slice_get, slice_index_or}
use Rattle.std.specs.FinMap.{FinMap}
use Rattle.std.specs.List.{All, AllPairs, list_any}
use Rattle.std.proofs.lemmas.Map.Made.{IsDistinct-from_AllPairs}
use Rattle.std.proofs.lemmas.Bool.{cases_Bool}
use Rattle.std.proofs.lemmas.Bool.Decides.{Decides-eqb}
use Rattle.std.proofs.lemmas.List.{length-map}
use Rattle.std.proofs.lemmas.Map.Steps.{length-le_from_distinct_below}
use Rattle.std.proofs.lemmas.Option.{slice_get-get_or, slice_get_within}
use Rattle.disk_model.specs.Disks.{Keeps, OnlyWrites}
use Rattle.disk_model.specs.declared.disk.Disk.{Ghosts}
use Rattle.disk_model.proofs.DiskLaws.{Keeps-none, Keeps-then}
use Rattle.group_plan.specs.Plans.{committed, members_of, model_reply}
use Rattle.group_plan.specs.declared.plan.Reply.{Reply as ReplyTo}
use Rattle.store_model.specs.Answer as answer
use Rattle.store_model.specs.Answer.{answer_text}
use Rattle.store_model.specs.Cost.{with_lead}
use Rattle.store_model.specs.Group.{Commit, Member, Reply, commits_of, member_of, no_tally, reply_of, taken_blocks}
use Rattle.store_model.specs.Images.{LeavesOnly, Wrote}
use Rattle.store_model.specs.Judgement.{Ledger}
use Rattle.store_model.specs.Key.{key_order}
use Rattle.store_model.specs.Layout.{Layout, data_page}
use Rattle.store_model.specs.Standing.{AllStand}
use Rattle.store_model.specs.State.{State}
use Rattle.store_model.specs.Store as model
use Rattle.store_model.specs.Script as script
use Rattle.store_model.specs.Survival.{Group, Survives, groups_by}
use Rattle.store_model.specs.Turn as turn
use Rattle.store_model.specs.World as world
use Rattle.store_model.specs.World.{Outcome, freed, group_in, idle, lead, lead_queue, led, with_commit}
use Rattle.txn.specs.Requests.{asked_of}
use Rattle.txn.specs.declared.request.Request.{Request}
use Rattle.vault.specs.Crashes.{LeadSurvives}
use Rattle.vault.specs.Leads.{Costs, IsLeadPage, Led, MayHaveWritten, StoreStands, ledger_in}
use Rattle.vault.specs.Pours.{AreWhole, made_by}
use Rattle.vault.specs.Vaults.{IsUnmade}
use Rattle.vault.specs.declared.memory.Memory.{Memory}
use Rattle.vault.specs.declared.vault.Vault.{Vault}
use Rattle.vault.proofs.Turnings.{turned-wrote}
use Rattle.blob_steps.specs.Sessions.{SessionStands, StageStands}
use Rattle.blob_steps.specs.Known.{AllKnown, StoreKnown}
use Rattle.blob_steps.specs.Steps.{AreDistinct, AreSessions, CameTo, Did, Follows, HaveBegun, IsWorld, Replying, RequestStands, StepSurvives, WorldIs, WorldKnown, WorldStands, is_of, replies_text, stage_left}
use Rattle.blob_steps.specs.declared.session.Session.{Session}
use Rattle.blob_steps.specs.declared.session.Stage.{Stage}
use Rattle.blob_steps.specs.declared.session.Stage.TheVariants.{Free}
use Rattle.blob_steps.specs.declared.world.World.{World}
use Rattle.blob_steps.proofs.Answering.{Did-none}
use Rattle.blob_steps.proofs.Members.{AreOf, AreOf-members, group-stands, made-members, members-of, members-text}
use Rattle.blob_steps.proofs.Turning.{WorldKnown-stands, same-number}

-- the sessions of requests
abbrev pub sessions_of : List Request → List ℕ
sessions_of queue = map (λ (r : Request). r.session) queue

-- the session of one request more
pub sessions-next : (queue : List Request) (i : ℕ) (request : Request) (old new : List ℕ) → slice_get queue i ≡ Some request → old ≡ sessions_of (take i queue)
    → new ≡ old ++ request.session ∷ [] → new ≡ sessions_of (take (i + 1) queue)
sessions-next queue i request old new there so_far new_is =
    new_is ∙ ap (λ (ns : List ℕ). ns ++ request.session ∷ []) so_far
    ∙ sym (ap (λ (k : ℕ). sessions_of (take k queue)) (one-more i) ∙ sessions-more queue i there) where
      one-more : (k : ℕ) → k + 1 ≡ suc k
      one-more k = omega arith

      sessions-more : (rs : List Request) (k : ℕ) → slice_get rs k ≡ Some request → sessions_of (take (suc k) rs) ≡ sessions_of (take k rs) ++ request.session ∷ []
      sessions-more [] k is = absurd (cc is)
      sessions-more (r ∷ rs) zero is = let same : r ≡ request = cc is in ap (λ (x : Request). x.session ∷ []) same
      sessions-more (r ∷ rs) (suc k) is = ap (λ (ns : List ℕ). r.session ∷ ns) (sessions-more rs k is)

-- a lead of requests is that of their group
lead-is : (layout : Layout) (now : world.World) (queue : List Request) → now.queue ≡ sessions_of queue → 0 < length queue
    → lead layout now ≡ led now (group_in layout now)
lead-is layout now [] is some = absurd (omega (arith, some))
lead-is layout now (q ∷ queue) is some = ap (lead_queue layout now) is

-- a lead of none is idle
pub lead-none : {D : Type 0} (g : Ghosts D) (mine : World D) (now : world.World) (text : List ℕ) → WorldStands mine now → mine.queue ≡ [] → text ≡ answer_text answer.Idle
    → CameTo g now (lead mine.vault.memory.layout now) text mine mine
lead-none g mine now text is none text_is =
    let empty : now.queue ≡ [] = is.queue ∙ ap sessions_of none in
    subst (λ (outcome : Outcome). CameTo g now outcome text mine mine) (sym (ap (lead_queue mine.vault.memory.layout now) empty)) (record {
      stands = is;
      did = Did-none g now.store (idle now) mine mine (record { none = refl; stays = refl; same = refl }) refl;
      text_is = λ told stand. text_is;
    })

-- and leaves a known world as it is
pub follows-none : {D : Type 0} (g : Ghosts D) (mine : World D) (now : world.World) → WorldKnown mine now → mine.queue ≡ []
    → Follows g (lead mine.vault.memory.layout now).world mine mine
follows-none g mine now is none =
    let empty : now.queue ≡ [] = is.queue ∙ ap sessions_of none in
    subst (λ (outcome : Outcome). Follows g outcome.world mine mine) (sym (ap (lead_queue mine.vault.memory.layout now) empty))
    (record { known = is; states = refl; pages = λ told at. refl })

-- there are as many replies as members
pub replies-count : (replies : List ReplyTo) (members : List Member) → map model_reply replies ≡ map reply_of members → length replies ≡ length members
replies-count replies members same = sym (length-map replies model_reply) ∙ ap (λ (rs : List Reply). length rs) same ∙ length-map members reply_of

-- an element of what is left behind the first ones
none-plus : (i : ℕ) → zero + i ≡ i
none-plus i = omega arith

more-plus : (n i : ℕ) → suc n + i ≡ suc (n + i)
more-plus n i = omega arith

get-drop : {X : Type 0} (xs : List X) (n i : ℕ) (x : X) → slice_get (drop n xs) i ≡ Some x → slice_get xs (n + i) ≡ Some x
get-drop xs zero i x is = ap (slice_get xs) (none-plus i) ∙ is
get-drop [] (suc n) i x is = absurd (cc is)
get-drop (y ∷ xs) (suc n) i x is = ap (slice_get (y ∷ xs)) (more-plus n i) ∙ get-drop xs n i x is

get-take : {X : Type 0} (xs : List X) (n i : ℕ) (x : X) → slice_get (take n xs) i ≡ Some x → (slice_get xs i ≡ Some x) × (i < n)
get-take xs zero i x is = absurd (cc is)
get-take [] (suc n) i x is = absurd (cc is)
get-take (y ∷ xs) (suc n) zero x is = (is, omega arith)
get-take (y ∷ xs) (suc n) (suc i) x is = let behind = get-take xs n i x is in (behind.0, omega (arith, behind.1))

drop-map : {X Y : Type 0} (f : X → Y) (n : ℕ) (xs : List X) → drop n (map f xs) ≡ map f (drop n xs)
drop-map f zero xs = refl
drop-map f (suc n) [] = refl
drop-map f (suc n) (x ∷ xs) = drop-map f n xs

get-some : {X : Type 0} (xs : List X) (i : ℕ) → i < length xs → (x : X) × (slice_get xs i ≡ Some x)
get-some [] i less = absurd (omega (arith, less))
get-some (x ∷ xs) zero less = (x, refl)
get-some (x ∷ xs) (suc i) less = get-some xs i (omega (arith, less))

-- the request whose session stands at a place
get-session : (queue : List Request) (i number : ℕ) → slice_get (sessions_of queue) i ≡ Some number → (request : Request) × (slice_get queue i ≡ Some request) × (request.session ≡ number)
get-session [] i number is = absurd (cc is)
get-session (q ∷ queue) zero number is = (q, refl, cc is)
get-session (q ∷ queue) (suc i) number is = get-session queue i number is

-- where a number stands that is one of some
of-found : (number : ℕ) (numbers : List ℕ) → is_of number numbers ≡ true → (i : ℕ) × (slice_get numbers i ≡ Some number)
of-found number [] is = absurd (cc is)
of-found number (n ∷ numbers) is = elim (cases_Bool (number == n)) [
  | inl here ↦ (0, ap Some (sym (same-number number n here)))
  | inr other ↦
      (let rest : is_of number numbers ≡ true = sym (ap (λ (b : Bool). b || is_of number numbers) other) ∙ is in
      let found = of-found number numbers rest in
      (suc found.0, found.1))
]

-- the session of a request behind the first ones is none of theirs
pub not-of : (queue : List Request) (n i : ℕ) (request : Request) → AreDistinct queue → slice_get queue (n + i) ≡ Some request
    → is_of request.session (take n (sessions_of queue)) ≡ false
not-of queue n i request distinct is = elim (cases_Bool (is_of request.session (take n (sessions_of queue)))) [
  | inl here ↦
      (let found = of-found request.session (take n (sessions_of queue)) here in
      let at = get-take (sessions_of queue) n found.0 request.session found.1 in
      let one = get-session queue found.0 request.session at.0 in
      absurd (distinct found.0 (n + i) one.0 request (omega (arith, at.1)) one.1 is one.2))
  | inr other ↦ other
]

-- requests of different sessions, of which there are sixteen, are no more than these
distinct-sessions : (queue : List Request) → AreDistinct queue → AllPairs (λ (x y : ℕ). x ≢ y) (sessions_of queue)
distinct-sessions queue apart i j d less within =
    let here = get-session queue i (slice_index_or (sessions_of queue) i d) (slice_get-get_or (sessions_of queue) i d (omega (arith, less, within))) in
    let there = get-session queue j (slice_index_or (sessions_of queue) j d) (slice_get-get_or (sessions_of queue) j d within) in
    λ same. apart i j here.0 there.0 less here.1 there.1 (here.2 ∙ same ∙ sym there.2)

pub few-requests : (queue : List Request) → AreDistinct queue → ((i : ℕ) (request : Request) → slice_get queue i ≡ Some request → request.session < 16) → length queue ≤ 16
few-requests queue apart below =
    omega (
      arith,
      length-map queue (λ (r : Request). r.session),
      length-le_from_distinct_below (sessions_of queue) 16 (IsDistinct-from_AllPairs Decides-eqb (sessions_of queue) (distinct-sessions queue apart))
          (λ number is.
          let found = of-found number (sessions_of queue) is in
          let one = get-session queue found.0 number found.1 in
          omega (arith, below found.0 one.0 one.1, one.2)),
    )

-- the session of each request is one of the sixteen
pub session-below : {D : Type 0} (mine : World D) → IsWorld mine → (i : ℕ) (request : Request) → slice_get mine.queue i ≡ Some request
    → request.session < 16
session-below mine sound i request there =
    let waits = sound.wait i request there in
    omega (arith, slice_get_within mine.sessions.items request.session waits.0 waits.1, sound.sixteen)

pub sessions-below : {D : Type 0} (mine : World D) (numbers : List ℕ) → IsWorld mine → numbers ≡ sessions_of mine.queue
    → All (λ (number : ℕ). number < 16) numbers
sessions-below mine numbers sound is =
    subst (All (λ (number : ℕ). number < 16)) (sym is) (λ k d less.
    let number : ℕ = slice_index_or (sessions_of mine.queue) k d in
    let here = get-session mine.queue k number (slice_get-get_or (sessions_of mine.queue) k d less) in
    omega (arith, session-below mine sound k here.0 here.1, here.2))

-- members for the first requests of a queue, whatever they are judged by
abbrev pub some_members : Ledger → ℕ → List Request → List Member
some_members ledger zero queue = []
some_members ledger (suc n) [] = []
some_members ledger (suc n) (q ∷ queue) = member_of ledger (no_tally ledger) (asked_of q) ∷ some_members ledger n queue

pub AreOf-some : (ledger : Ledger) (n : ℕ) (queue : List Request) → AreOf queue (some_members ledger n queue)
AreOf-some ledger zero queue = tt
AreOf-some ledger (suc n) [] = tt
AreOf-some ledger (suc n) (q ∷ queue) = (refl, AreOf-some ledger n queue)

pub length-some_members : (ledger : Ledger) (n : ℕ) (queue : List Request) → n ≤ length queue → n ≡ length (some_members ledger n queue)
length-some_members ledger zero queue few = refl
length-some_members ledger (suc n) [] few = absurd (omega (arith, few))
length-some_members ledger (suc n) (q ∷ queue) few = ap suc (length-some_members ledger n queue (omega (arith, few)))

-- the sessions after a lead, freed or not
freed-yes : (sessions : ℕ → turn.Session) (members : List Member) (number : ℕ) → list_any (λ (m : Member). number == m.asked.session) members ≡ true
    → freed sessions members number ≡ record { begun = (sessions number).begun; stage = turn.Free }
freed-yes sessions members number is = ap (λ (b : Bool). cond b (record { begun = (sessions number).begun; stage = turn.Free }) (sessions number)) is

freed-no : (sessions : ℕ → turn.Session) (members : List Member) (number : ℕ) → list_any (λ (m : Member). number == m.asked.session) members ≡ false
    → freed sessions members number ≡ sessions number
freed-no sessions members number is = ap (λ (b : Bool). cond b (record { begun = (sessions number).begun; stage = turn.Free }) (sessions number)) is

-- a session stands where it has begun as many and has this under way
stands-so : (one : Session) (stage : Stage) (begun number : ℕ) (theirs : turn.Session) → one.stage ≡ stage → one.begun ≡ begun → begun ≡ theirs.begun → StageStands stage number begun theirs.stage
    → SessionStands one number theirs
stands-so one stage begun number theirs stage_is begun_is same stands = record {
  begun = begun_is ∙ same;
  stage = subst (λ (s : Stage). StageStands s number one.begun theirs.stage) (sym stage_is) (subst (λ (n : ℕ). StageStands stage number n theirs.stage) (sym begun_is) stands);
}

-- A group was led: the program's world before it, with the vault after it and without its requests, and behind its replies.
pub record HasLed {D : Type 0} (mine middle new : World D) (members : List Member) (n : ℕ) : Type 0 where
  pub sound : IsWorld mine
  pub sessions : middle.sessions ≡ mine.sessions
  pub queue : middle.queue ≡ drop n mine.queue
  pub layout : middle.vault.memory.layout ≡ mine.vault.memory.layout
  pub unshut : middle.vault.shut ≡ None
  pub are : AreOf mine.queue members
  pub count : n ≡ length members
  pub replied : Replying n (sessions_of mine.queue) middle new

module _ {D : Type 0} (mine middle new : World D) (members : List Member) (n : ℕ) (done : HasLed mine middle new members n) where
  queue-left : new.queue ≡ drop n mine.queue
  queue-left = done.replied.queue ∙ done.queue

  -- what is known of each session
  session-was : (number : ℕ) (one : Session) → slice_get new.sessions.items number ≡ Some one
      → (was : Session) × (slice_get mine.sessions.items number ≡ Some was) × (one.begun ≡ was.begun)
      × (one.stage ≡ stage_left (is_of number (take n (sessions_of mine.queue))) was.stage)
  session-was number one is =
      let before = done.replied.sessions number one is in
      (before.0, ap (λ xs. slice_get xs.items number) (sym done.sessions) ∙ before.1, before.2, before.3)

  any-of : (number : ℕ) → is_of number (take n (sessions_of mine.queue)) ≡ list_any (λ (m : Member). number == m.asked.session) members
  any-of number = ap (λ (k : ℕ). is_of number (take k (sessions_of mine.queue))) done.count ∙ members-of number mine.queue members done.are

  -- a request that is left
  request-left : (i : ℕ) (request : Request) → slice_get new.queue i ≡ Some request → slice_get mine.queue (n + i) ≡ Some request
  request-left i request is = get-drop mine.queue n i request (ap (λ (rs : List Request). slice_get rs i) (sym queue-left) ∙ is)

  left-alone : (i : ℕ) (request : Request) → slice_get new.queue i ≡ Some request → is_of request.session (take n (sessions_of mine.queue)) ≡ false
  left-alone i request is = not-of mine.queue n i request done.sound.distinct (request-left i request is)

  -- the sessions behind the replies, whatever the store
  pub led-sessions : (sessions : ℕ → turn.Session) → AreSessions mine sessions → AreSessions new (freed sessions members)
  led-sessions sessions are = record {
    sessions = λ number one there.
        let was = session-was number one there in
        let before : SessionStands was.0 number (sessions number) = are.sessions number was.0 was.1 in
        elim (cases_Bool (is_of number (take n (sessions_of mine.queue)))) [
          | inl here ↦
              subst (SessionStands one number) (sym (freed-yes sessions members number (sym (any-of number) ∙ here)))
              (stands-so one Free was.0.begun number (record { begun = (sessions number).begun; stage = turn.Free })
              (was.3 ∙ ap (λ (b : Bool). stage_left b was.0.stage) here) was.2 before.begun refl)
          | inr other ↦
              subst (SessionStands one number) (sym (freed-no sessions members number (sym (any-of number) ∙ other)))
              (stands-so one was.0.stage was.0.begun number (sessions number) (was.3 ∙ ap (λ (b : Bool). stage_left b was.0.stage) other) was.2 before.begun before.stage)
        ];
    requests = λ i request there.
        subst (RequestStands request) (sym (freed-no sessions members request.session (sym (any-of request.session) ∙ left-alone i request there)))
        (are.requests (n + i) request (request-left i request there));
  }

  -- the program's world stands behind the replies
  pub led-is : (Is : Memory → model.Store → Type 0) (now : world.World) → WorldIs Is mine now → Is middle.vault.memory (led now members).world.store → WorldIs Is new (led now members).world
  led-is Is now is store =
      let after = led-sessions now.sessions (record { sessions = is.sessions; requests = is.requests }) in
      record {
        store = subst (λ (v : Vault D). Is v.memory (led now members).world.store) (sym done.replied.vault) store;
        sessions = after.sessions;
        queue = ap (λ (k : ℕ). drop k now.queue) (sym done.count) ∙ ap (λ (ns : List ℕ). drop n ns) is.queue
            ∙ drop-map (λ (r : Request). r.session) n mine.queue ∙ ap sessions_of (sym queue-left);
        requests = after.requests;
      }

  -- and it is a world
  pub led-sound : IsWorld new
  led-sound = record {
    some = (freed done.sound.some.0 members, led-sessions done.sound.some.0 done.sound.some.1);
    unshut = ap (λ (v : Vault D). v.shut) done.replied.vault ∙ done.unshut;
    sixteen = done.replied.sixteen;
    whole = subst AreWhole (sym queue-left) (whole-left mine.queue n done.sound.whole);
    wait = λ i request there.
        let before = done.sound.wait (n + i) request (request-left i request there) in
        let within : request.session < length new.sessions.items =
        omega (arith, slice_get_within mine.sessions.items request.session before.0 before.1, done.sound.sixteen, done.replied.sixteen) in
        let one = get-some new.sessions.items request.session within in
        let was = session-was request.session one.0 one.1 in
        let both : Some was.0 ≡ Some before.0 = sym was.1 ∙ before.1 in
        let same : was.0 ≡ before.0 = cc in
        (one.0, one.1, was.3 ∙ ap (λ (b : Bool). stage_left b was.0.stage) (left-alone i request there) ∙ ap (λ (s : Session). s.stage) same ∙ before.2);
    distinct = λ i j one other less here there.
        done.sound.distinct (n + i) (n + j) one other (omega (arith, less)) (request-left i one here) (request-left j other there);
  } where
    whole-left : (queue : List Request) (k : ℕ) → AreWhole queue → AreWhole (drop k queue)
    whole-left queue zero whole = whole
    whole-left [] (suc k) whole = whole
    whole-left (q ∷ queue) (suc k) whole = whole-left queue k (λ i d less. whole (suc i) d (omega (arith, less)))

  -- no session has begun more
  pub led-begun : (k : ℕ) → HaveBegun k mine → HaveBegun (k + 1) new
  led-begun k have number one is = let was = session-was number one is in omega (arith, was.2, have number was.0 was.1)

-- what a lead may have written, it wrote by calls that keep what calls keep
pub lead-keeps : {D : Type 0} (g : Ghosts D) (before : Memory) (queue : List Request) (members : List Member) (old new : D)
    → (new ≡ old) ⊎ MayHaveWritten g before queue members old new → Keeps g old new
lead-keeps {D = D} g before queue members old new (inl same) = subst (λ (disk : D). Keeps g old disk) (sym same) (Keeps-none g old)
lead-keeps {D = D} g before queue members old new (inr wrote) =
    let windows = wrote.windows in
    let first = windows.first in
    Keeps-then g old windows.mid new (Keeps-then g old first.base windows.mid (turned-wrote g old first.base before first.turned).keeps first.wrote.keeps) (behind windows.second) where
      behind : {P : Type 0} {pages : ℕ → Type 0} {mid : D} → (new ≡ mid) ⊎ (P × OnlyWrites g pages mid new) → Keeps g mid new
      behind {mid = mid} (inl same) = subst (λ (disk : D). Keeps g mid disk) (sym same) (Keeps-none g mid)
      behind (inr (settled, written)) = written.keeps

module _ {D : Type 0} (g : Ghosts D) (mine middle new : World D) (replies : List ReplyTo) where
  -- the group of the program
  abbrev pub group_members : List Member
  group_members = members_of (ledger_in mine.vault.memory) mine.queue

  -- a lead of a known world is that of the group
  outcome-known : (now : world.World) → WorldKnown mine now → AreWhole mine.queue → 0 < length mine.queue → lead mine.vault.memory.layout now ≡ led now group_members
  outcome-known now is whole some =
      lead-is mine.vault.memory.layout now mine.queue is.queue some
      ∙ ap (led now) (group-stands mine.vault.memory mine.queue now is.store whole is.queue is.requests)

  -- one without a commit leaves the vault as it was
  pub follows-led : (now : world.World) (n : ℕ) → WorldKnown mine now → HasLed mine middle new group_members n → 0 < length mine.queue
      → (commits_of group_members ≡ [] → IsUnmade mine.vault.disk middle.vault.disk mine.vault.memory middle.vault.memory mine.vault.shut middle.vault.shut)
      → (lead mine.vault.memory.layout now).commits ≡ [] → Follows g (lead mine.vault.memory.layout now).world mine new
  follows-led now n is done some idle none =
      let same : lead mine.vault.memory.layout now ≡ led now group_members = outcome-known now is done.sound.whole some in
      let no_commits : commits_of group_members ≡ [] = sym (ap (λ (o : Outcome). o.commits) same) ∙ none in
      let kept = idle no_commits in
      let stays : (led now group_members).world.store ≡ now.store = ap (λ (commits : List Commit). fold (with_commit now.sessions) now.store commits) no_commits in
      let known : StoreKnown middle.vault.memory now.store = record {
        objects = subst (λ (states : FinMap key_order State). AllKnown states now.store.objects) (sym kept.states) is.store.objects;
        last = kept.last ∙ is.store.last;
      } in
      subst (λ (o : Outcome). Follows g o.world mine new) (sym same) (record {
        known = led-is mine middle new group_members n done StoreKnown now is (subst (StoreKnown middle.vault.memory) (sym stays) known);
        states = ap (λ (v : Vault D). v.memory.relation.states) done.replied.vault ∙ kept.states;
        pages = λ told at.
            ap (λ (v : Vault D). (g.story v.disk).reads (data_page mine.vault.memory.layout + at)) done.replied.vault
            ∙ ap (λ (d : D). (g.story d).reads (data_page mine.vault.memory.layout + at)) kept.disk;
      })

  -- what the vault says of the lead
  module _ (now : world.World) (is : WorldStands mine now)
      (led_is : Led g mine.vault.disk middle.vault.disk mine.vault.memory now.store mine.queue group_members replies middle.vault.memory) where
    made-now : made_by now.store (committed mine.queue group_members) ≡ (led now group_members).world.store
    made-now =
        made-members now.sessions now.store mine.queue group_members
        (AreOf-members (ledger_in mine.vault.memory) (no_tally (ledger_in mine.vault.memory)) mine.queue) is.requests

    outcome-is : AreWhole mine.queue → 0 < length mine.queue → lead mine.vault.memory.layout now ≡ led now group_members
    outcome-is whole some = outcome-known now (WorldKnown-stands mine now is) whole some

    pub stands-led : (n : ℕ) → HasLed mine middle new group_members n → WorldStands new (led now group_members).world
    stands-led n done = led-is mine middle new group_members n done StoreStands now is (subst (StoreStands middle.vault.memory) made-now led_is.stands)

    -- what it did, with the vault after it
    did-led : new.vault ≡ middle.vault → Did g now.store (led now group_members) mine new
    did-led same = record {
      objects = λ told from stand.
          subst (λ (v : Vault D). AllStand from (g.story v.disk).reads mine.vault.memory.layout (led now group_members).world.store.objects) (sym same)
          (subst (λ (s : model.Store). AllStand from (g.story middle.vault.disk).reads mine.vault.memory.layout s.objects) made-now (led_is.objects told from stand));
      wrote = λ told.
          subst (λ (v : Vault D). Wrote (IsLeadPage mine.vault.memory.layout (taken_blocks (commits_of group_members))) (g.story mine.vault.disk) (g.story v.disk)) (sym same)
          (led_is.wrote.wrote told);
      costs = λ cost gate.
          subst (λ (v : Vault D). Costs g cost (with_lead now.store (commits_of group_members) cost) mine.vault.disk v.disk v.memory) (sym same)
          (led_is.costs cost gate);
    }

    pub came-led : (n : ℕ) (text : List ℕ) → HasLed mine middle new group_members n → 0 < length mine.queue → text ≡ replies_text (sessions_of mine.queue) replies
        → CameTo g now (lead mine.vault.memory.layout now) text mine new
    came-led n text done some text_is =
        subst (λ (outcome : Outcome). CameTo g now outcome text mine new) (sym (outcome-is done.sound.whole some)) (record {
          stands = stands-led n done;
          did = did-led done.replied.vault;
          text_is = λ told stand. text_is ∙ members-text mine.queue group_members replies done.are led_is.replies_are;
        })

-- A lead survives as the vault says it, of the group that the program leads.
pub survives-led : {D : Type 0} (g : Ghosts D) (mine later : World D) → IsWorld mine → 0 < length mine.queue
    → (IsTrue g.tells → LeadSurvives g mine.vault.memory mine.queue mine.vault.disk later.vault.disk) → StepSurvives g script.Lead mine later
survives-led g mine later sound some survives = λ told now is held.
    let layout : Layout = mine.vault.memory.layout in
    let members : List Member = members_of (ledger_in mine.vault.memory) mine.queue in
    let made : made_by now.store (committed mine.queue members) ≡ (led now members).world.store =
    made-members now.sessions now.store mine.queue members (AreOf-members (ledger_in mine.vault.memory) (no_tally (ledger_in mine.vault.memory)) mine.queue) is.requests in
    let known : WorldKnown mine now = WorldKnown-stands mine now is in
    let outcome : lead layout now ≡ led now members =
    lead-is layout now mine.queue known.queue some
    ∙ ap (led now) (group-stands mine.vault.memory mine.queue now known.store sound.whole known.queue known.requests) in
    let same : groups_by (commits_of members) (made_by now.store (committed mine.queue members)) ≡ groups_by (lead layout now).commits (lead layout now).world.store =
    ap (groups_by (commits_of members)) made ∙ ap (λ (o : Outcome). groups_by o.commits o.world.store) (sym outcome) in
    subst (λ (groups : List Group). LeavesOnly (λ image. Survives (g.size mine.vault.disk) image layout now.store groups 0) (g.story mine.vault.disk) (g.story later.vault.disk)) same
    (survives told now.store is.store held)
