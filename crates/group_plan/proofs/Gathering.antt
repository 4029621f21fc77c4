-- The members of a group, one after the other.
use Rattle.std.proofs.Common.{◌≡◌, ℕ, zero, suc, ◌+◌, ◌<◌, ◌≤◌, ◌||◌, Bool, true, false, cond, List, [], ◌∷◌, ◌++◌, length, length-append, map, take, drop, Option, Some, None, Result, Ok, Err, refl, sym, ◌∙◌, ap, subst, arith, append_assoc, append-nil}
use Rattle.std.specs.Prelude.{bytes_eq, nat_lt, slice_get, zip}
use Rattle.std.specs.List.{All, AllZip, filter_map, flat_map, list_any}
use Rattle.std.specs.List.Sorted.{IsPermutation}
use Rattle.std.specs.FinMap.{FinMap}
use Rattle.std.proofs.lemmas.List.{map-append}
use Rattle.std.proofs.lemmas.List.Elements.{All-head, All-tail, filter_map-append}
use Rattle.std.proofs.lemmas.List.Sorted.{IsPermutation-append, IsPermutation-append_comm, IsPermutation-append_right, IsPermutation-refl, IsPermutation-trans}
use Rattle.std.proofs.lemmas.Grind.{flat_map-append}
use Rattle.extent_alloc.specs.Parts.{Parts}
use Rattle.frame_codec.specs.declared.entry.Entry.{Entry}
use Rattle.relation.specs.Parts.{bytes_bound, encoded_by}
use Rattle.store_model.specs.Group.{Commit, Member, commit_of, commits_of, does_touch, is_among, member_of, members_from, no_tally, reply_of, taken_blocks, tally_after}
use Rattle.store_model.specs.Judgement as model
use Rattle.store_model.specs.Judgement.{Ahead, Asked, Judgement, Ledger, NoNumber, growth_of, judge, judge_number, judge_places, judge_reads, judge_room}
use Rattle.store_model.specs.Key.{key_order}
use Rattle.store_model.specs.Placing.{Need, Placed, freed_blocks, new_blocks, place_all}
use Rattle.store_model.specs.Space.{Block}
use Rattle.store_model.specs.State.{State, greatest_number}
use Rattle.store_model.proofs.OrderLaws.{place_all-permutation}
use Rattle.txn.specs.Requests.{asked_of}
use Rattle.txn.specs.declared.request.Request.{Request}
use Rattle.group_plan.specs.Groups.{AddsMember, Gathers, IsGathered, changed_by, member_by}
use Rattle.group_plan.specs.Judgements.{tally_by}
use Rattle.group_plan.specs.Plans.{IsEntryOf, commit_places, committed, committed_member, freed_by, ledger_by, members_of, model_reply}
use Rattle.group_plan.specs.Takings.{Moves}
use Rattle.group_plan.specs.Touches.{entry_keys, write_keys}
use Rattle.group_plan.specs.declared.judging.Limits.{Limits}
use Rattle.group_plan.specs.declared.judging.Tally.{Tally}
use Rattle.group_plan.specs.declared.plan.Group.{Group}
use Rattle.group_plan.specs.declared.takings.Takings.{Takings}
use Rattle.group_plan.proofs.Blocks.{Moves-then}
use Rattle.group_plan.proofs.Walks.{any-append, drop-end, drop-next, take-next}

-- Tallies of the same blocks, growth and number judge alike.
pub record Alike (one other : model.Tally) : Type 0 where
  pub taken : IsPermutation one.taken other.taken
  pub grown : one.grown ≡ other.grown
  pub last : one.last ≡ other.last

places-alike : (ledger : Ledger) (one other : model.Tally) (places : Result (List Placed) (List ℕ × ℕ)) → one.grown ≡ other.grown → judge_places ledger one places ≡ judge_places ledger other places
places-alike ledger one other (Ok placed) grown = ap (λ (n : ℕ). judge_room (ledger.bytes + n + growth_of placed) ledger.room placed) grown
places-alike ledger one other (Err none) grown = refl

number-alike : (ledger : Ledger) (one other : model.Tally) (asked : Asked) → Alike one other → judge_number ledger one asked ≡ judge_number ledger other asked
number-alike ledger one other asked alike =
    let places : judge_places ledger one (place_all ledger.pages ledger.held asked.needs (one.taken ++ ledger.owned)) ≡ judge_places ledger other (place_all ledger.pages ledger.held asked.needs (other.taken ++ ledger.owned)) =
    places-alike ledger one other (place_all ledger.pages ledger.held asked.needs (one.taken ++ ledger.owned)) alike.grown
    ∙ ap (judge_places ledger other)
    (place_all-permutation ledger.pages ledger.held asked.needs (one.taken ++ ledger.owned) (other.taken ++ ledger.owned)
    (IsPermutation-append one.taken other.taken ledger.owned ledger.owned alike.taken (IsPermutation-refl ledger.owned))) in
    let last : one.last ≡ other.last = alike.last in
    λ i. cond (nat_lt (last i) greatest_number) (places i) (Err (NoNumber (last i)))

reads-alike : (ledger : Ledger) (one other : model.Tally) (asked : Asked) (moved : Option (List ℕ × Option ℕ)) → Alike one other → judge_reads ledger one asked moved ≡ judge_reads ledger other asked moved
reads-alike ledger one other asked (Some moved) alike = refl
reads-alike ledger one other asked None alike = number-alike ledger one other asked alike

judge-alike : (ledger : Ledger) (one other : model.Tally) (asked : Asked) → Alike one other → judge ledger one asked ≡ judge ledger other asked
judge-alike ledger one other asked alike =
    ap (cond (nat_lt ledger.last asked.seen) (Err (Ahead asked.seen ledger.last))) (reads-alike ledger one other asked (model.first_moved ledger asked.reads) alike)

-- they make the same member
member-alike : (states : FinMap key_order State) (limits : Limits) (tally : Tally) (request : Request) (space : Parts) (takings : Takings) (pages : ℕ) (other : model.Tally)
    → space.pages ≡ pages → Alike (tally_by takings.blocks.items tally) other
    → member_by states limits tally request space takings ≡ member_of (ledger_by states limits.last limits.room pages) other (asked_of request)
member-alike states limits tally request space takings pages other same alike =
    ap (λ (n : ℕ). member_of (ledger_by states limits.last limits.room n) (tally_by takings.blocks.items tally) (asked_of request)) same
    ∙ (let judged = judge-alike (ledger_by states limits.last limits.room pages) (tally_by takings.blocks.items tally) other (asked_of request) alike in
    let last : tally.last ≡ other.last = alike.last in
    λ i. record { asked = asked_of request; number = last i + 1; judgement = judged i })

any-alike : {X : Type 0} (p q : X → Bool) (xs : List X) → ((x : X) → p x ≡ q x) → list_any p xs ≡ list_any q xs
any-alike p q [] same = refl
any-alike p q (x ∷ xs) same = λ i. same x i || any-alike p q xs same i

-- the same keys are touched
touch-alike : (asked : Asked) (a b : List (List ℕ)) → ((key : List ℕ) → is_among key a ≡ is_among key b) → does_touch asked a ≡ does_touch asked b
touch-alike asked a b same =
    let reads = any-alike (λ (read : List ℕ × Option ℕ). is_among read.0 a) (λ (read : List ℕ × Option ℕ). is_among read.0 b) asked.reads (λ read. same read.0) in
    let needs = any-alike (λ (need : List ℕ × Need). is_among need.0 a) (λ (need : List ℕ × Need). is_among need.0 b) asked.needs (λ need. same need.0) in
    λ i. reads i || needs i

-- A group has these members so far.
pub record Gathered (states : FinMap key_order State) (limits : Limits) (all : List Request) (i : ℕ) (group : Group) (old now : Parts) (before listed : Takings) : Type 0 where
  pub done : List Member
  pub tally : model.Tally
  pub found : members_of (ledger_by states limits.last limits.room old.pages) all ≡ done ++ members_from (ledger_by states limits.last limits.room old.pages) tally (map asked_of (drop i all))
  pub count : length (take i all) ≡ length done
  pub number_of : length done ≡ i
  pub replies : map model_reply group.plan.replies ≡ map reply_of done
  pub entries : AllZip IsEntryOf (committed (take i all) done) group.plan.entries
  pub members : group.plan.members ≡ commit_places 0 done
  pub frees : group.plan.frees ≡ freed_by (commits_of done)
  pub moves : Moves (taken_blocks (commits_of done)) old now before listed
  pub alike : Alike (tally_by listed.blocks.items group.tally) tally
  pub changed : (key : List ℕ) → is_among key tally.changed ≡ is_among key (entry_keys group.plan.entries)
  pub room : encoded_by states + group.tally.grown < bytes_bound
  pub number : group.tally.last ≤ greatest_number

pub Gathered-none : (states : FinMap key_order State) (limits : Limits) (all : List Request) (group : Group) (old : Parts) (before : Takings) → group.plan.replies ≡ [] → group.plan.entries ≡ [] → group.plan.members ≡ [] → group.plan.frees ≡ []
    → group.tally.grown ≡ 0 → group.tally.last ≡ limits.last → before.blocks.items ≡ [] → Moves [] old old before before → encoded_by states < bytes_bound → limits.last ≤ greatest_number
    → Gathered states limits all 0 group old old before before
Gathered-none states limits all group old before replies entries members frees grown last none moves room number = record {
  done = [];
  tally = no_tally (ledger_by states limits.last limits.room old.pages);
  found = refl;
  count = refl;
  number_of = refl;
  replies = ap (map model_reply) replies;
  entries = subst (λ (es : List Entry). AllZip IsEntryOf (committed [] []) es) (sym entries) tt;
  members = members;
  frees = frees;
  moves = moves;
  alike = record { taken = subst (λ (bs : List Block). IsPermutation bs []) (sym none) (IsPermutation-refl []); grown = grown; last = last };
  changed = λ key. ap (λ (es : List Entry). is_among key (entry_keys es)) (sym entries);
  room = omega (arith, room, grown);
  number = omega (arith, number, last);
}

zip-push : {A B : Type 0} (xs : List A) (ys : List B) (x : A) (y : B) → length xs ≡ length ys → zip (xs ++ x ∷ []) (ys ++ y ∷ []) ≡ zip xs ys ++ (x, y) ∷ []
zip-push [] [] x y same = refl
zip-push [] (b ∷ ys) x y same = absurd (omega (arith, same))
zip-push (a ∷ xs) [] x y same = absurd (omega (arith, same))
zip-push {A = A} {B = B} (a ∷ xs) (b ∷ ys) x y same = ap (λ (zs : List (A × B)). (a, b) ∷ zs) (zip-push xs ys x y (omega (arith, same)))

zip-short : {A B : Type 0} (xs : List A) (ys : List B) (i : ℕ) → length (take i xs) ≡ length ys → zip xs ys ≡ zip (take i xs) ys
zip-short [] [] zero same = refl
zip-short [] [] (suc i) same = refl
zip-short [] (y ∷ ys) zero same = absurd (omega (arith, same))
zip-short [] (y ∷ ys) (suc i) same = absurd (omega (arith, same))
zip-short (x ∷ xs) [] zero same = refl
zip-short (x ∷ xs) [] (suc i) same = absurd (omega (arith, same))
zip-short (x ∷ xs) (y ∷ ys) zero same = absurd (omega (arith, same))
zip-short {A = A} {B = B} (x ∷ xs) (y ∷ ys) (suc i) same = ap (λ (zs : List (A × B)). (x, y) ∷ zs) (zip-short xs ys i (omega (arith, same)))

all-append : {A B : Type 0} (R : A → B → Type 0) (xs cs : List A) (ys bs : List B) → AllZip R xs ys → AllZip R cs bs → AllZip R (xs ++ cs) (ys ++ bs)
all-append R [] cs [] bs one other = other
all-append R [] cs (y ∷ ys) bs one other = absurd one
all-append R (x ∷ xs) cs [] bs one other = absurd one
all-append R (x ∷ xs) cs (y ∷ ys) bs one other = (one.0, all-append R xs cs ys bs one.1 other)

-- one member more, and what of it is committed
committed-push : (queue : List Request) (members : List Member) (request : Request) (member : Member) → length queue ≡ length members
    → committed (queue ++ request ∷ []) (members ++ member ∷ []) ≡ committed queue members ++ committed (request ∷ []) (member ∷ [])
committed-push queue members request member same =
    ap (filter_map committed_member) (zip-push queue members request member same) ∙ filter_map-append committed_member (zip queue members) ((request, member) ∷ [])

places-push : (n : ℕ) (members : List Member) (member : Member) → commit_places n (members ++ member ∷ []) ≡ commit_places n members ++ commit_places (n + length members) (member ∷ [])
places-push n [] member = let same : n ≡ n + 0 = omega arith in ap (λ (m : ℕ). commit_places m (member ∷ [])) same
places-push n (one ∷ members) member =
    let same : n + 1 + length members ≡ n + suc (length members) = omega arith in
    let rest : commit_places (n + 1) (members ++ member ∷ []) ≡ commit_places (n + 1) members ++ commit_places (n + suc (length members)) (member ∷ []) =
    places-push (n + 1) members member ∙ ap (λ (m : ℕ). commit_places (n + 1) members ++ commit_places m (member ∷ [])) same in
    elim one.judgement as (λ (j : Judgement). commit_places n (record { asked = one.asked; number = one.number; judgement = j } ∷ (members ++ member ∷ []))
    ≡ commit_places n (record { asked = one.asked; number = one.number; judgement = j } ∷ members) ++ commit_places (n + suc (length members)) (member ∷ [])) [
      | Ok placed ↦ ap (λ (is : List ℕ). n ∷ is) rest
      | Err why ↦ rest
    ]

-- what a judgement leaves of tallies that are alike
after-grown : (one other : model.Tally) (j : Judgement) → one.grown ≡ other.grown → (tally_after one j).grown ≡ (tally_after other j).grown
after-grown one other (Ok placed) same = ap (λ (n : ℕ). n + growth_of placed) same
after-grown one other (Err why) same = same

after-last : (one other : model.Tally) (j : Judgement) → one.last ≡ other.last → (tally_after one j).last ≡ (tally_after other j).last
after-last one other (Ok placed) same = ap (λ (n : ℕ). n + 1) same
after-last one other (Err why) same = same

after-taken : (blocks : List Block) (other : model.Tally) (asked : Asked) (number : ℕ) (j : Judgement) → IsPermutation blocks other.taken
    → IsPermutation (blocks ++ taken_blocks (commits_of (record { asked = asked; number = number; judgement = j } ∷ []))) (tally_after other j).taken
after-taken blocks other asked number (Ok placed) same =
    let new : List Block = flat_map new_blocks placed in
    subst (λ (bs : List Block). IsPermutation (blocks ++ bs) (new ++ other.taken)) (sym (append-nil new))
    (IsPermutation-trans (blocks ++ new) (new ++ blocks) (new ++ other.taken) (IsPermutation-append_comm blocks new) (IsPermutation-append_right new blocks other.taken same))
after-taken blocks other asked number (Err why) same = subst (λ (bs : List Block). IsPermutation bs other.taken) (sym (append-nil blocks)) same

or-comm : (a b : Bool) → a || b ≡ b || a
or-comm true true = refl
or-comm true false = refl
or-comm false true = refl
or-comm false false = refl

or-none : (a : Bool) → a ≡ a || false
or-none true = refl
or-none false = refl

after-changed : (key : List ℕ) (other : model.Tally) (j : Judgement) (keys more : List (List ℕ)) → is_among key other.changed ≡ is_among key keys → more ≡ changed_by j
    → is_among key (tally_after other j).changed ≡ is_among key (keys ++ more)
after-changed key other (Ok placed) keys more same is =
    any-append (bytes_eq key) (map (λ (one : Placed). one.key) placed) other.changed
    ∙ or-comm (is_among key (map (λ (one : Placed). one.key) placed)) (is_among key other.changed)
    ∙ ap (λ (b : Bool). b || is_among key (map (λ (one : Placed). one.key) placed)) same
    ∙ ap (λ (ks : List (List ℕ)). is_among key keys || is_among key ks) (sym is)
    ∙ sym (any-append (bytes_eq key) keys more)
after-changed key other (Err why) keys more same is =
    same ∙ sym (ap (λ (ks : List (List ℕ)). is_among key (keys ++ ks)) is ∙ ap (is_among key) (append-nil keys))

-- a request that touches no changed key is the next member
from-next : (ledger : Ledger) (tally : model.Tally) (asked : Asked) (queue : List Asked) → does_touch asked tally.changed ≡ false
    → members_from ledger tally (asked ∷ queue) ≡ member_of ledger tally asked ∷ members_from ledger (tally_after tally (judge ledger tally asked)) queue
from-next ledger tally asked queue apart =
    ap (λ (b : Bool). cond b [] (member_of ledger tally asked ∷ members_from ledger (tally_after tally (judge ledger tally asked)) queue)) apart

-- and before one that touches one they end
from-end : (ledger : Ledger) (tally : model.Tally) (asked : Asked) (queue : List Asked) → does_touch asked tally.changed ≡ true → members_from ledger tally (asked ∷ queue) ≡ []
from-end ledger tally asked queue touched =
    ap (λ (b : Bool). cond b [] (member_of ledger tally asked ∷ members_from ledger (tally_after tally (judge ledger tally asked)) queue)) touched

-- one more member
pub Gathered-next : (states : FinMap key_order State) (limits : Limits) (all : List Request) (i : ℕ) (request : Request) (group next : Group) (old now new : Parts) (before listed after : Takings)
    → Gathered states limits all i group old now before listed → slice_get all i ≡ Some request → does_touch (asked_of request) (entry_keys group.plan.entries) ≡ false
    → AddsMember states limits request i (member_by states limits group.tally request now listed) group next now new listed after
    → Gathered states limits all (i + 1) next old new before after
Gathered-next states limits all i request group next old now new before listed after so_far is apart adds_by =
    let ledger : Ledger = ledger_by states limits.last limits.room old.pages in
    let asked : Asked = asked_of request in
    let judgement : Judgement = judge ledger so_far.tally asked in
    let member : Member = member_of ledger so_far.tally asked in
    let adds : AddsMember states limits request i member group next now new listed after =
    subst (λ (m : Member). AddsMember states limits request i m group next now new listed after)
    (member-alike states limits group.tally request now listed old.pages so_far.tally so_far.moves.pages so_far.alike) adds_by in
    let front : take (i + 1) all ≡ take i all ++ request ∷ [] = take-next all i request is in
    let place : 0 + length so_far.done ≡ i = omega (arith, so_far.number_of) in
    let commits : commits_of (so_far.done ++ member ∷ []) ≡ commits_of so_far.done ++ commits_of (member ∷ []) = filter_map-append commit_of so_far.done (member ∷ []) in
    let frees_of : Commit → List Block = λ (commit : Commit). flat_map freed_blocks commit.placed in
    let takes_of : Commit → List Block = λ (commit : Commit). flat_map new_blocks commit.placed in
    record {
      done = so_far.done ++ member ∷ [];
      tally = tally_after so_far.tally judgement;
      found = so_far.found
          ∙ ap (λ (rs : List Request). so_far.done ++ members_from ledger so_far.tally (map asked_of rs)) (drop-next all i request is)
          ∙ ap (λ (ms : List Member). so_far.done ++ ms)
          (from-next ledger so_far.tally asked (map asked_of (drop (i + 1) all)) (touch-alike asked so_far.tally.changed (entry_keys group.plan.entries) so_far.changed ∙ apart))
          ∙ sym (append_assoc so_far.done (member ∷ []) (members_from ledger (tally_after so_far.tally judgement) (map asked_of (drop (i + 1) all))));
      count = omega (arith, so_far.count, ap length front, length-append (take i all) (request ∷ []), length-append so_far.done (member ∷ []));
      number_of = omega (arith, so_far.number_of, length-append so_far.done (member ∷ []));
      replies = adds.replies ∙ ap (λ (rs : List (Result ℕ model.Rejection)). rs ++ reply_of member ∷ []) so_far.replies ∙ sym (map-append reply_of so_far.done (member ∷ []));
      entries = subst (λ (es : List Entry). AllZip IsEntryOf (committed (take (i + 1) all) (so_far.done ++ member ∷ [])) es) (sym adds.entries)
          (subst (λ (cs : List (Request × Commit)). AllZip IsEntryOf cs (group.plan.entries ++ adds.more))
          (sym (ap (λ (rs : List Request). committed rs (so_far.done ++ member ∷ [])) front ∙ committed-push (take i all) so_far.done request member so_far.count))
          (all-append IsEntryOf (committed (take i all) so_far.done) (committed (request ∷ []) (member ∷ [])) group.plan.entries adds.more so_far.entries adds.are_entries));
      members = adds.members
          ∙ ap (λ (ns : List ℕ). ns ++ commit_places i (member ∷ [])) so_far.members
          ∙ ap (λ (n : ℕ). commit_places 0 so_far.done ++ commit_places n (member ∷ [])) (sym place)
          ∙ sym (places-push 0 so_far.done member);
      frees = adds.frees
          ∙ ap (λ (bs : List Block). bs ++ freed_by (commits_of (member ∷ []))) so_far.frees
          ∙ sym (ap (flat_map frees_of) commits ∙ flat_map-append frees_of (commits_of so_far.done) (commits_of (member ∷ [])));
      moves = subst (λ (bs : List Block). Moves bs old new before after)
          (sym (ap (flat_map takes_of) commits ∙ flat_map-append takes_of (commits_of so_far.done) (commits_of (member ∷ []))))
          (Moves-then (taken_blocks (commits_of so_far.done)) (taken_blocks (commits_of (member ∷ []))) old now new before listed after so_far.moves adds.moves);
      alike = record {
        taken = subst (λ (bs : List Block). IsPermutation bs (tally_after so_far.tally judgement).taken) (sym adds.moves.blocks)
            (after-taken listed.blocks.items so_far.tally asked (so_far.tally.last + 1) judgement so_far.alike.taken);
        grown = adds.grown ∙ after-grown (tally_by listed.blocks.items group.tally) so_far.tally judgement so_far.alike.grown;
        last = adds.last ∙ after-last (tally_by listed.blocks.items group.tally) so_far.tally judgement so_far.alike.last;
      };
      changed = λ key.
          after-changed key so_far.tally judgement (entry_keys group.plan.entries) (entry_keys adds.more) (so_far.changed key) adds.keys
          ∙ ap (is_among key) (sym (ap entry_keys adds.entries ∙ flat_map-append (λ (entry : Entry). write_keys entry.writes) group.plan.entries adds.more));
      room = adds.room;
      number = adds.number;
    }

-- the group ends where no further member follows
ends : (states : FinMap key_order State) (limits : Limits) (all : List Request) (i : ℕ) (group : Group) (old now : Parts) (before listed : Takings)
    (so_far : Gathered states limits all i group old now before listed) → members_from (ledger_by states limits.last limits.room old.pages) so_far.tally (map asked_of (drop i all)) ≡ []
    → Gathers states limits all old now before listed group.plan
ends states limits all i group old now before listed so_far none =
    let ledger : Ledger = ledger_by states limits.last limits.room old.pages in
    let all_done : so_far.done ≡ members_of ledger all = sym (so_far.found ∙ ap (λ (ms : List Member). so_far.done ++ ms) none ∙ append-nil so_far.done) in
    subst (λ (ms : List Member). IsGathered all ms old now before listed group.plan) all_done (record {
      planned = record {
        replies = so_far.replies;
        entries = subst (λ (zs : List (Request × Member)). AllZip IsEntryOf (filter_map committed_member zs) group.plan.entries) (sym (zip-short all so_far.done i so_far.count)) so_far.entries;
        members_are = so_far.members;
        frees = so_far.frees;
      };
      moves = so_far.moves;
    })

-- a request touches a changed key
pub Gathers-touched : (states : FinMap key_order State) (limits : Limits) (all : List Request) (i : ℕ) (request : Request) (group : Group) (old now : Parts) (before listed : Takings)
    → Gathered states limits all i group old now before listed → slice_get all i ≡ Some request → does_touch (asked_of request) (entry_keys group.plan.entries) ≡ true
    → Gathers states limits all old now before listed group.plan
Gathers-touched states limits all i request group old now before listed so_far is touched =
    let ledger : Ledger = ledger_by states limits.last limits.room old.pages in
    ends states limits all i group old now before listed so_far
    (ap (λ (rs : List Request). members_from ledger so_far.tally (map asked_of rs)) (drop-next all i request is)
    ∙ from-end ledger so_far.tally (asked_of request) (map asked_of (drop (i + 1) all)) (touch-alike (asked_of request) so_far.tally.changed (entry_keys group.plan.entries) so_far.changed ∙ touched))

-- or the queue ends
pub Gathers-all : (states : FinMap key_order State) (limits : Limits) (all : List Request) (i : ℕ) (group : Group) (old now : Parts) (before listed : Takings)
    → Gathered states limits all i group old now before listed → length all ≤ i → Gathers states limits all old now before listed group.plan
Gathers-all states limits all i group old now before listed so_far done =
    let ledger : Ledger = ledger_by states limits.last limits.room old.pages in
    ends states limits all i group old now before listed so_far (ap (λ (rs : List Request). members_from ledger so_far.tally (map asked_of rs)) (drop-end all i done))

-- what is so of each element is so of the one there
pub all-at : {X : Type 0} (P : X → Type 0) (xs : List X) (i : ℕ) (x : X) → All P xs → slice_get xs i ≡ Some x → P x
all-at P [] i x all is = absurd (cc is)
all-at {X = X} P (y ∷ xs) zero x all is = let same : y ≡ x = cc is in subst P same (All-head P y xs all)
all-at P (y ∷ xs) (suc i) x all is = all-at P xs i x (All-tail P y xs all) is
