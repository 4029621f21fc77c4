-- The group that a lead commits: what holds of its transactions, and that the store after it differs from the one before only
-- under the keys that they change, and in its last number by how many they are.
use Rattle.std.proofs.Common.{◌≡◌, ℕ, zero, suc, ◌+◌, Bool, true, false, cond, List, [], ◌∷◌, length, map, Option, Some, Ok, Err, inl, inr, refl, sym, ap, ◌∙◌, subst, arith}
use Rattle.std.specs.Prelude.{Contains, fold, zip}
use Rattle.std.specs.FinMap.{FinMap, get}
use Rattle.std.specs.List.{cons_option, list_any}
use Rattle.std.proofs.lemmas.List.Elements.{Contains-append_left, Contains-append_right}
use Rattle.std.proofs.lemmas.Option.{get_or_from_slice_get, slice_get_within}
use Rattle.store_model.specs.Group.{Commit, commit_by, commits_of, does_touch, is_among, member_of, members_from, no_tally, tally_after}
use Rattle.store_model.specs.Judgement.{Asked, Judgement, Ledger, Tally, judge}
use Rattle.store_model.specs.Key.{key_order}
use Rattle.store_model.specs.Layout.{Layout}
use Rattle.store_model.specs.Placing.{Need, Placed, new_place}
use Rattle.store_model.specs.Store.{Object, Placement, Store, content_of_object}
use Rattle.store_model.specs.Survival.{AreChangesApart, DoesChange, IsUnder}
use Rattle.store_model.specs.Transaction.{Change, changed, object_at, with_change}
use Rattle.store_model.specs.Turn.{Session}
use Rattle.store_model.specs.World.{World, changes_of, group_in, ledger_of, need_of, request_of, requests_of, with_commit}
use Rattle.store_model.proofs.SetLaws.{among-behind, among-cases, among-first, apart-test}
use Rattle.store_model.proofs.SurvivalMemberLaws.{AreCommitted, AreNumbered, first_keys, judged-keys, none-committed, placed_keys, second-false, untouched}
use Rattle.store_model.proofs.SurvivalPartLaws.{get-with_object, under-behind, under-first}

-- the transaction of a request that is committed
abbrev committed : Asked → ℕ → List Placed → Commit
committed asked number placed = record { session = asked.session; nth = asked.nth; number = number; placed = placed }

-- one transaction before others whose keys are apart from its own
apart-before : (commit : Commit) (commits : List Commit)
    → ((other : Commit) (key : List ℕ) → Contains commits other → DoesChange commit key → DoesChange other key → ⊥) → AreChangesApart commits
    → AreChangesApart (commit ∷ commits)
apart-before commit commits differ apart zero zero one other key less at there changes again = absurd (omega (arith, less))
apart-before commit commits differ apart zero (suc j) one other key less at there changes again =
    let same : commit ≡ one = (let both : Some commit ≡ Some one = at in cc) in
    differ other key (j, slice_get_within commits j other there, get_or_from_slice_get commits j other other there) (subst (λ (c : Commit). DoesChange c key) (sym same) changes) again
apart-before commit commits differ apart (suc i) zero one other key less at there changes again = absurd (omega (arith, less))
apart-before commit commits differ apart (suc i) (suc j) one other key less at there changes again =
    apart i j one other key (omega (arith, less)) at there changes again

-- one more
committed-before : (sessions : ℕ → Session) (tally : Tally) (asked : Asked) (placed : List Placed) (commits : List Commit)
    → first_keys asked.needs ≡ first_keys (changes_of sessions asked.session) → does_touch asked tally.changed ≡ false
    → placed_keys placed ≡ first_keys asked.needs → AreCommitted sessions (tally_after tally (Ok placed)) commits
    → AreCommitted sessions tally (committed asked (tally.last + 1) placed ∷ commits)
committed-before sessions tally asked placed commits asks untouches keys rest =
    let mine : Commit = committed asked (tally.last + 1) placed in
    let none : list_any (λ (need : List ℕ × Need). is_among need.0 tally.changed) asked.needs ≡ false =
    second-false (list_any (λ read. is_among read.0 tally.changed) asked.reads) (list_any (λ need. is_among need.0 tally.changed) asked.needs) untouches in
    record {
      fresh = λ commit key among changes before. elim (among-cases mine commits commit among) [
        | inl here ↦ untouched asked.needs tally.changed key none
            (subst (λ (ks : List (List ℕ)). Contains ks key) keys (subst (λ (c : Commit). DoesChange c key) (sym here) changes)) before
        | inr behind ↦ rest.fresh commit key behind changes (Contains-append_right (placed_keys placed) tally.changed key before)
      ];
      apart = apart-before mine commits (λ other key among changes again.
          rest.fresh other key among again (Contains-append_left (placed_keys placed) tally.changed key changes)) rest.apart;
      numbers = (refl, rest.numbers);
      keys = λ commit among. elim (among-cases mine commits commit among) [
        | inl here ↦ subst (λ (c : Commit). placed_keys c.placed ≡ first_keys (changes_of sessions c.session)) here (keys ∙ asks)
        | inr behind ↦ rest.keys commit behind
      ];
    }

-- So of all that a group commits.
members-committed : (sessions : ℕ → Session) (ledger : Ledger) (tally : Tally) (queue : List Asked)
    → ((asked : Asked) → Contains queue asked → first_keys asked.needs ≡ first_keys (changes_of sessions asked.session))
    → AreCommitted sessions tally (commits_of (members_from ledger tally queue))
members-committed sessions ledger tally [] asks = none-committed sessions tally
members-committed sessions ledger tally (asked ∷ queue) asks =
    elim (does_touch asked tally.changed) as (λ (b : Bool). does_touch asked tally.changed ≡ b → AreCommitted sessions tally (commits_of
    (cond b [] (member_of ledger tally asked ∷ members_from ledger (tally_after tally (judge ledger tally asked)) queue)))) [
      | true ↦ λ touches. none-committed sessions tally
      | false ↦ λ untouches.
          (elim (judge ledger tally asked) as (λ (j : Judgement). judge ledger tally asked ≡ j
          → AreCommitted sessions tally (cons_option (commit_by asked (tally.last + 1) j) (commits_of (members_from ledger (tally_after tally j) queue)))) [
            | Ok placed ↦ λ is.
                committed-before sessions tally asked placed (commits_of (members_from ledger (tally_after tally (Ok placed)) queue))
                (asks asked (among-first asked queue)) untouches (judged-keys ledger tally asked placed is)
                (members-committed sessions ledger (tally_after tally (Ok placed)) queue (λ one among. asks one (among-behind asked queue one among)))
            | Err why ↦ λ is. members-committed sessions ledger tally queue (λ one among. asks one (among-behind asked queue one among))
          ] refl)
    ] refl

needs-keys : (store : Store) (changes : List (List ℕ × Change)) (need : List ℕ × Change → Need)
    → first_keys (map (λ one. (one.0, need one)) changes) ≡ first_keys changes
needs-keys store [] need = refl
needs-keys store (one ∷ changes) need = ap (λ (ks : List (List ℕ)). one.0 ∷ ks) (needs-keys store changes need)

requests-ask : (world : World) (queue : List ℕ) (asked : Asked) → Contains (map (λ number. request_of world.store number (world.sessions number)) queue) asked
    → first_keys asked.needs ≡ first_keys (changes_of world.sessions asked.session)
requests-ask world [] asked among = absurd (omega (arith, among.1))
requests-ask world (number ∷ queue) asked among =
    let mine : Asked = request_of world.store number (world.sessions number) in
    elim (among-cases mine (map (λ n. request_of world.store n (world.sessions n)) queue) asked among) [
      | inl here ↦
          subst (λ (one : Asked). first_keys one.needs ≡ first_keys (changes_of world.sessions one.session)) here
          (needs-keys world.store (changes_of world.sessions number) (λ one. need_of (content_of_object (get world.store.objects one.0)) one.1))
      | inr behind ↦ requests-ask world queue asked behind
    ]

pub group-committed : (layout : Layout) (world : World) → AreCommitted world.sessions (no_tally (ledger_of layout world.store)) (commits_of (group_in layout world))
group-committed layout world =
    members-committed world.sessions (ledger_of layout world.store) (no_tally (ledger_of layout world.store)) (requests_of world)
    (requests-ask world world.queue)

-- changes leave what stands under other keys
apply-other : (number : ℕ) (objects : FinMap key_order Object) (changes : List (List ℕ × Change)) (places : List (Option Placement)) (key : List ℕ)
    → (Contains (first_keys changes) key → ⊥) → get (fold (with_change number) objects (zip changes places)) key ≡ get objects key
apply-other number objects [] places key none = refl
apply-other number objects (one ∷ changes) [] key none = refl
apply-other number objects (one ∷ changes) (place ∷ places) key none =
    let mine : Option Object = object_at number (changed one.1 (content_of_object (get objects one.0))) place in
    apply-other number (with_change number objects (one, place)) changes places key (λ among. none (among-behind one.0 (first_keys changes) key among))
    ∙ get-with_object objects one.0 mine key
    ∙ ap (λ (b : Bool). cond b mine (get objects key)) (apart-test key one.0 (λ same. none (0, omega arith, sym same)))

-- So do commits.
pub commits-others : (sessions : ℕ → Session) (store : Store) (commits : List Commit) (key : List ℕ)
    → ((commit : Commit) → Contains commits commit → placed_keys commit.placed ≡ first_keys (changes_of sessions commit.session))
    → (IsUnder commits key → ⊥) → get (fold (with_commit sessions) store commits).objects key ≡ get store.objects key
commits-others sessions store [] key keys none = refl
commits-others sessions store (commit ∷ commits) key keys none =
    let changes : List (List ℕ × Change) = changes_of sessions commit.session in
    commits-others sessions (with_commit sessions store commit) commits key (λ one among. keys one (among-behind commit commits one among))
    (λ under. none (under-behind commit commits key under))
    ∙ apply-other commit.number store.objects changes (map new_place commit.placed) key
    (λ among. none (under-first commit commits key (subst (λ (ks : List (List ℕ)). Contains ks key) (sym (keys commit (among-first commit commits))) among)))

-- and the last number is that of the last of them
pub commits-last : (sessions : ℕ → Session) (store : Store) (commits : List Commit) → AreNumbered store.last commits
    → (fold (with_commit sessions) store commits).last ≡ store.last + length commits
commits-last sessions store [] numbers = omega arith
commits-last sessions store (commit ∷ commits) numbers =
    let rest = commits-last sessions (with_commit sessions store commit) commits
    (subst (λ (n : ℕ). AreNumbered n commits) (sym numbers.0) numbers.1) in
    omega (arith, rest, numbers.0)
