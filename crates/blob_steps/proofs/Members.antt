-- The members of a group, and the requests that they are.
use Rattle.std.proofs.Common.{◌≡◌, ℕ, suc, ◌==◌, Bool, true, false, cond, ◌||◌, List, [], ◌∷◌, ◌++◌, length, map, take, Option, Some, None, Ok, Err, refl, sym, ◌∙◌, ap, arith}
use Rattle.std.specs.Prelude.{fold, option_map, slice_get}
use Rattle.std.specs.List.{cons_option, flat_map, list_any}
use Rattle.std.specs.FinMap.{entries}
use Rattle.group_plan.specs.Plans.{committed, members_of, model_reply}
use Rattle.group_plan.specs.declared.plan.Reply.{Reply as ReplyTo}
use Rattle.store_model.specs.Answer as answer
use Rattle.store_model.specs.Answer.{answer_text}
use Rattle.store_model.specs.Group.{Commit, Member, Reply, commit_by, commits_of, does_touch, member_of, members_from, no_tally, reply_of, tally_after}
use Rattle.store_model.specs.Judgement.{Asked, Judgement, Ledger, Tally, judge}
use Rattle.store_model.specs.Placing.{Need, new_place}
use Rattle.store_model.specs.Store as model
use Rattle.store_model.specs.Transaction.{apply}
use Rattle.store_model.specs.Turn as turn
use Rattle.store_model.specs.World as world
use Rattle.store_model.specs.World.{group_in, needs_of, reply_line, reply_text, request_of, transaction_of, with_commit}
use Rattle.txn.specs.Requests.{asked_of, transaction_of as requested}
use Rattle.txn.specs.Txns.{NoAppends}
use Rattle.txn.specs.declared.request.Request.{Request}
use Rattle.blob_steps.specs.Known.{StoreKnown}
use Rattle.vault.specs.Leads.{ledger_in}
use Rattle.vault.specs.Pours.{AreWhole, made_by, made_one}
use Rattle.vault.specs.declared.memory.Memory.{Memory}
use Rattle.blob_steps.proofs.Ledgers.{asked-stands, ledger-stands}
use Rattle.blob_steps.specs.Steps.{RequestStands, is_of, replies_text}

-- these members are of the first requests of a queue
abbrev pub AreOf : List Request → List Member → Type 0
AreOf queue [] = Unit {0}
AreOf [] (member ∷ members) = ⊥
AreOf (request ∷ queue) (member ∷ members) = (member.asked ≡ asked_of request) × AreOf queue members

pub AreOf-members : (ledger : Ledger) (tally : Tally) (queue : List Request) → AreOf queue (members_from ledger tally (map asked_of queue))
AreOf-members ledger tally [] = tt
AreOf-members ledger tally (q ∷ queue) =
    elim (does_touch (asked_of q) tally.changed) as (λ (b : Bool). AreOf (q ∷ queue)
    (cond b [] (member_of ledger tally (asked_of q) ∷ members_from ledger (tally_after tally (judge ledger tally (asked_of q))) (map asked_of queue)))) [
      | true ↦ tt
      | false ↦ (refl, AreOf-members ledger (tally_after tally (judge ledger tally (asked_of q))) queue)
    ]

-- each request of a queue stands
abbrev pub AllRequested : (ℕ → turn.Session) → List Request → Type 0
AllRequested sessions queue = (i : ℕ) (request : Request) → slice_get queue i ≡ Some request → RequestStands request (sessions request.session)

-- the commit of a member makes the changes of its session's transaction
with-made : (sessions : ℕ → turn.Session) (store : model.Store) (request : Request) (commit : Commit) → RequestStands request (sessions request.session) → commit.session ≡ request.session
    → made_one store (request, commit) ≡ with_commit sessions store commit
with-made sessions store request commit stands same =
    ap (λ (s : turn.Stage). apply store commit.number (entries (transaction_of s).changes) (map new_place commit.placed)) (sym stands.stage)
    ∙ ap (λ (n : ℕ). apply store commit.number (entries (transaction_of (sessions n).stage).changes) (map new_place commit.placed)) (sym same)

-- the transactions of a group are made as the definitions make them
pub made-members : (sessions : ℕ → turn.Session) (store : model.Store) (queue : List Request) (members : List Member) → AreOf queue members → AllRequested sessions queue
    → made_by store (committed queue members) ≡ fold (with_commit sessions) store (commits_of members)
made-members sessions store [] [] are stand = refl
made-members sessions store (q ∷ queue) [] are stand = refl
made-members sessions store [] (m ∷ members) are stand = absurd are
made-members sessions store (q ∷ queue) (m ∷ members) are stand =
    let others : (after : model.Store) → made_by after (committed queue members) ≡ fold (with_commit sessions) after (commits_of members) =
    λ after. made-members sessions after queue members are.1 (λ i request is. stand (suc i) request is) in
    elim (m.judgement) as (λ (j : Judgement).
    made_by store (cons_option (option_map (λ commit. (q, commit)) (commit_by m.asked m.number j)) (committed queue members))
    ≡ fold (with_commit sessions) store (cons_option (commit_by m.asked m.number j) (commits_of members))) [
      | Ok placed ↦
          (let commit : Commit = record { session = m.asked.session; nth = m.asked.nth; number = m.number; placed = placed } in
          ap (λ (after : model.Store). made_by after (committed queue members)) (with-made sessions store q commit (stand 0 q refl) (ap (λ (a : Asked). a.session) are.0))
          ∙ others (with_commit sessions store commit))
      | Err why ↦ others store
    ]

-- the replies to them are printed as the definitions print them
pub members-text : (queue : List Request) (members : List Member) (replies : List ReplyTo) → AreOf queue members → map model_reply replies ≡ map reply_of members
    → replies_text (map (λ (r : Request). r.session) queue) replies ≡ flat_map reply_text members
members-text [] [] [] are same = refl
members-text [] [] (r ∷ replies) are same = refl
members-text (q ∷ queue) [] [] are same = refl
members-text (q ∷ queue) [] (r ∷ replies) are same = absurd (cc same)
members-text [] (m ∷ members) replies are same = absurd are
members-text (q ∷ queue) (m ∷ members) [] are same = absurd (cc same)
members-text (q ∷ queue) (m ∷ members) (r ∷ replies) are same =
    let reply : model_reply r ≡ reply_of m = cc in
    let others : map model_reply replies ≡ map reply_of members = cc in
    ap (λ (text : List ℕ). answer_text (answer.Session q.session (reply_line (model_reply r)) None) ++ text) (members-text queue members replies are.1 others)
    ∙ ap (λ (a : Reply). answer_text (answer.Session q.session (reply_line a) None) ++ flat_map reply_text members) reply
    ∙ ap (λ (n : ℕ). answer_text (answer.Session n (reply_line (reply_of m)) None) ++ flat_map reply_text members) (sym (ap (λ (a : Asked). a.session) are.0))

-- a session is that of a member where it is that of a first request
pub members-of : (number : ℕ) (queue : List Request) (members : List Member) → AreOf queue members
    → is_of number (take (length members) (map (λ (r : Request). r.session) queue)) ≡ list_any (λ (member : Member). number == member.asked.session) members
members-of number [] [] are = refl
members-of number (q ∷ queue) [] are = refl
members-of number [] (m ∷ members) are = absurd are
members-of number (q ∷ queue) (m ∷ members) are =
    ap (λ (b : Bool). (number == q.session) || b) (members-of number queue members are.1)
    ∙ ap (λ (n : ℕ). (number == n) || list_any (λ (member : Member). number == member.asked.session) members) (sym (ap (λ (a : Asked). a.session) are.0))

-- a request is that of its session's transaction
request-asked : (store : model.Store) (request : Request) (theirs : turn.Session) → NoAppends request.writes → RequestStands request theirs
    → request_of store request.session theirs ≡ asked_of request
request-asked store request theirs whole stands =
    ap (λ (s : turn.Stage). asked_by theirs.begun (transaction_of s).seen (entries (transaction_of s).reads) (needs_of store (transaction_of s))) stands.stage
    ∙ ap (λ (n : ℕ). asked_by n request.seen (entries request.reads) (needs_of store (requested request))) stands.begun
    ∙ ap (λ (needs : List (List ℕ × Need)). asked_by request.nth request.seen (entries request.reads) needs) (asked-stands store request whole) where
      asked_by : ℕ → ℕ → List (List ℕ × Option ℕ) → List (List ℕ × Need) → Asked
      asked_by nth seen reads needs = record { session = request.session; nth = nth; seen = seen; reads = reads; needs = needs }

requests-asked : (store : model.Store) (sessions : ℕ → turn.Session) (queue : List Request) → AreWhole queue → AllRequested sessions queue
    → map (λ (number : ℕ). request_of store number (sessions number)) (map (λ (r : Request). r.session) queue) ≡ map asked_of queue
requests-asked store sessions [] whole stand = refl
requests-asked store sessions (q ∷ queue) whole stand = λ i.
    request-asked store q (sessions q.session) (whole 0 q (omega arith)) (stand 0 q refl) i
    ∷ requests-asked store sessions queue (λ k d less. whole (suc k) d (omega (arith, less))) (λ k request is. stand (suc k) request is) i

-- the group of the program is that of the definitions
pub group-stands : (mine : Memory) (queue : List Request) (now : world.World) → StoreKnown mine now.store → AreWhole queue
    → now.queue ≡ map (λ (r : Request). r.session) queue → AllRequested now.sessions queue → group_in mine.layout now ≡ members_of (ledger_in mine) queue
group-stands mine queue now stands whole queue_is stand =
    ap (λ (ledger : Ledger). members_from ledger (no_tally ledger) (world.requests_of now)) (sym (ledger-stands mine now.store stands))
    ∙ ap (λ (numbers : List ℕ). members_from (ledger_in mine) (no_tally (ledger_in mine)) (map (λ (number : ℕ). request_of now.store number (now.sessions number)) numbers)) queue_is
    ∙ ap (λ (all : List Asked). members_from (ledger_in mine) (no_tally (ledger_in mine)) all) (requests-asked now.store now.sessions queue whole stand)
