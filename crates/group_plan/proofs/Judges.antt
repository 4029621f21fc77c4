-- The judgement of a request, refusal by refusal.
use Rattle.std.proofs.Common.{◌≡◌, ℕ, ◌==◌, ◌<◌, ◌≤◌, Bool, true, false, not, cond, List, [], ◌∷◌, ◌++◌, Option, Some, None, Result, Ok, Err, IsTrue, inl, inr, refl, sym, ◌∙◌, ap, arith}
use Rattle.std.specs.Prelude.{nat_lt, option_map}
use Rattle.std.specs.List.{find}
use Rattle.std.specs.List.Sorted.{IsPermutation}
use Rattle.std.specs.FinMap.{FinMap, entries, get, get-entries}
use Rattle.std.specs.FinMap.Entries as fin
use Rattle.std.specs.Ordering.{eq_by_cmp, is_eq}
use Rattle.std.specs.declared.cmp.Ordering.{Ordering}
use Rattle.std.specs.declared.cmp.Ordering.TheVariants.{Less, Equal, Greater}
use Rattle.std.proofs.lemmas.Bool.{cases_Bool, eqb-true}
use Rattle.std.proofs.lemmas.Bool.Decides.{nat_tests}
use Rattle.std.proofs.lemmas.List.Sorted.{IsPermutation-sym}
use Rattle.extent_alloc.specs.Parts.{Parts}
use Rattle.relation.specs.Parts.{owned_by}
use Rattle.store_model.specs.Judgement as model
use Rattle.store_model.specs.Judgement.{Ahead, Asked, Ledger, NoNumber, NoRoom, NoSpace, judge, judge_places, judge_reads, judge_room}
use Rattle.store_model.specs.Key.{key_order}
use Rattle.store_model.specs.Placing.{Placed, place_all}
use Rattle.store_model.specs.State.{State, greatest_number}
use Rattle.store_model.specs.Turn.{same_number}
use Rattle.store_model.proofs.OrderLaws.{place_all-permutation}
use Rattle.store_model.proofs.SortedLaws.{keys_exact}
use Rattle.txn.specs.Appends.{AppendsRead, was_there}
use Rattle.txn.specs.Requests.{asked_of}
use Rattle.txn.specs.declared.change.Change.{Change}
use Rattle.txn.specs.declared.change.Change.TheVariants as change
use Rattle.txn.specs.declared.request.Request.{Request}
use Rattle.group_plan.specs.Judgements.{IsRefusal, first_moved, judgement_by, number_by, tally_by}
use Rattle.group_plan.specs.Places.{AllLengthen, IsPlaceRefusal, Lengthens, needs_of}
use Rattle.group_plan.specs.Plans.{DoesLengthen, holding_of, holdings_by, ledger_by}
use Rattle.group_plan.specs.declared.judging.Limits.{Limits}
use Rattle.group_plan.specs.declared.judging.Refusal.{Refusal}
use Rattle.group_plan.specs.declared.judging.Refusal.TheVariants as refusal
use Rattle.group_plan.specs.declared.judging.Tally.{Tally}
use Rattle.group_plan.specs.declared.takings.Takings.{Takings}

below : {m n : ℕ} → m < n → nat_lt m n ≡ true
below {m = m} {n = n} less = grind (arith, nat_tests)

past : {m n : ℕ} → n ≤ m → nat_lt m n ≡ false
past {m = m} {n = n} le = grind (arith, nat_tests)

-- it was told of a number that isn't there yet
pub judge-ahead : (ledger : Ledger) (tally : model.Tally) (asked : Asked) → ledger.last < asked.seen → judge ledger tally asked ≡ Err (Ahead asked.seen ledger.last)
judge-ahead ledger tally asked less =
    ap (λ (b : Bool). cond b (Err (Ahead asked.seen ledger.last)) (judge_reads ledger tally asked (model.first_moved ledger asked.reads))) (below less)

-- what it read isn't so now, or is
pub judge-reads : (ledger : Ledger) (tally : model.Tally) (asked : Asked) (moved : Option (List ℕ × Option ℕ)) → asked.seen ≤ ledger.last → model.first_moved ledger asked.reads ≡ moved → judge ledger tally asked ≡ judge_reads ledger tally asked moved
judge-reads ledger tally asked moved le is =
    ap (λ (b : Bool). cond b (Err (Ahead asked.seen ledger.last)) (judge_reads ledger tally asked (model.first_moved ledger asked.reads))) (past le)
    ∙ ap (judge_reads ledger tally asked) is

-- there is no number left
pub judge-number : (ledger : Ledger) (tally : model.Tally) (asked : Asked) → asked.seen ≤ ledger.last → model.first_moved ledger asked.reads ≡ None → greatest_number ≤ tally.last → judge ledger tally asked ≡ Err (NoNumber tally.last)
judge-number ledger tally asked le is last =
    judge-reads ledger tally asked None le is
    ∙ ap (λ (b : Bool). cond b (judge_places ledger tally (place_all ledger.pages ledger.held asked.needs (tally.taken ++ ledger.owned))) (Err (NoNumber tally.last))) (past last)

-- or there is
judge-places : (ledger : Ledger) (tally : model.Tally) (asked : Asked) → asked.seen ≤ ledger.last → model.first_moved ledger asked.reads ≡ None → tally.last < greatest_number
    → judge ledger tally asked ≡ judge_places ledger tally (place_all ledger.pages ledger.held asked.needs (tally.taken ++ ledger.owned))
judge-places ledger tally asked le is last =
    judge-reads ledger tally asked None le is
    ∙ ap (λ (b : Bool). cond b (judge_places ledger tally (place_all ledger.pages ledger.held asked.needs (tally.taken ++ ledger.owned))) (Err (NoNumber tally.last))) (below last)

-- a request is judged by the places that it finds over the space
pub judgement-places : (states : FinMap key_order State) (limits : Limits) (tally : Tally) (request : Request) (space : Parts) (takings : Takings) (places : Result (List Placed) (List ℕ × ℕ))
    → request.seen ≤ limits.last → first_moved states (entries request.reads) ≡ None → tally.last < greatest_number → IsPermutation space.owned (takings.blocks.items ++ owned_by states)
    → place_all space.pages (holdings_by states) (needs_of (entries request.writes)) space.owned ≡ places
    → judgement_by states limits tally request space takings ≡ judge_places (ledger_by states limits.last limits.room space.pages) (tally_by takings.blocks.items tally) places
judgement-places states limits tally request space takings places le is last moves found =
    let ledger : Ledger = ledger_by states limits.last limits.room space.pages in
    let so_far : model.Tally = tally_by takings.blocks.items tally in
    judge-places ledger so_far (asked_of request) le is last
    ∙ ap (judge_places ledger so_far)
    (place_all-permutation space.pages (holdings_by states) (needs_of (entries request.writes)) (takings.blocks.items ++ owned_by states) space.owned (IsPermutation-sym space.owned (takings.blocks.items ++ owned_by states) moves) ∙ found)

-- the states have no room
pub room-refused : (need room : ℕ) (placed : List Placed) (n : ℕ) → n ≡ need → room < n → judge_room need room placed ≡ Err (NoRoom n room)
room-refused need room placed n is less =
    ap (λ (m : ℕ). judge_room m room placed) (sym is)
    ∙ ap (λ (b : Bool). cond b (Err (NoRoom n room)) (Ok placed)) (below less)

-- or they have
pub room-given : (need room : ℕ) (placed : List Placed) (n : ℕ) → n ≡ need → n ≤ room → judge_room need room placed ≡ Ok placed
room-given need room placed n is le =
    ap (λ (m : ℕ). judge_room m room placed) (sym is)
    ∙ ap (λ (b : Bool). cond b (Err (NoRoom n room)) (Ok placed)) (past le)

and-not : (b : Bool) → not b ≡ false → b ≡ true
and-not true is = refl
and-not false is = absurd (cc is)

equal-of : (o : Ordering) → is_eq o ≡ true → o ≡ Equal
equal-of Less is = absurd (cc is)
equal-of Equal is = refl
equal-of Greater is = absurd (cc is)

-- where no entry passes a test, that of a key doesn't
unmoved-at : {V : Type 0} (p : List ℕ × V → Bool) (es : List (List ℕ × V)) (key : List ℕ) (v : V) → find p es ≡ None → fin.find key_order key es ≡ Some v → p (key, v) ≡ false
unmoved-at p [] key v none is = absurd (cc is)
unmoved-at {V = V} p (e ∷ es) key v none is =
    elim (cases_Bool (p e)) [
      | inl passes ↦ (let wrong : Some e ≡ None = sym (ap (λ (b : Bool). cond b (Some e) (find p es)) passes) ∙ none in absurd (cc wrong))
      | inr fails ↦
          (let rest : find p es ≡ None = sym (ap (λ (b : Bool). cond b (Some e) (find p es)) fails) ∙ none in
          elim (cases_Bool (eq_by_cmp key_order key e.0)) [
            | inl same ↦
                (let value : Some e.1 ≡ Some v = sym (ap (λ (b : Bool). cond b (Some e.1) (fin.find key_order key es)) same) ∙ is in
                let here : key ≡ e.0 = keys_exact key e.0 (equal-of (key_order key e.0) same) in
                let its : v ≡ e.1 = cc value in
                ap (λ (k : List ℕ). p (k, v)) here ∙ ap (λ (w : V). p (e.0, w)) its ∙ fails)
            | inr apart ↦ unmoved-at p es key v rest (sym (ap (λ (b : Bool). cond b (Some e.1) (fin.find key_order key es)) apart) ∙ is)
          ])
    ]

number-read : (states : FinMap key_order State) (request : Request) (key : List ℕ) (state : State) (read : Option (Option ℕ)) → first_moved states (entries request.reads) ≡ None → get states key ≡ Some state
    → get request.reads key ≡ read → IsTrue (was_there read) → get request.reads key ≡ Some (Some state.born)
number-read states request key state None none there is was = absurd (cc was)
number-read states request key state (Some None) none there is was = absurd (cc was)
number-read states request key state (Some (Some n)) none there is was =
    let test : List ℕ × Option ℕ → Bool = λ (read : List ℕ × Option ℕ). not (same_number read.1 (number_by states read.0)) in
    let passed : not (same_number (Some n) (number_by states key)) ≡ false = unmoved-at test (entries request.reads) key (Some n) none (sym (get-entries request.reads key) ∙ is) in
    let now : number_by states key ≡ Some state.born = ap (λ (o : Option State). option_map (λ object. object.number) (option_map holding_of o)) there in
    let same : n == state.born ≡ true = and-not (n == state.born) (sym (ap (λ (o : Option ℕ). not (same_number (Some n) o)) now) ∙ passed) in
    is ∙ ap (λ (m : ℕ). Some (Some m)) (eqb-true n state.born same)

-- where what a request read is so now, its appends make longer what is there
pub AllLengthen-read : (states : FinMap key_order State) (request : Request) → AppendsRead request.reads request.writes → first_moved states (entries request.reads) ≡ None → DoesLengthen states request → AllLengthen states request.writes
AllLengthen-read states request appends none longer = λ key one is. each key one (get states key) is refl where
  each : (key : List ℕ) (one : Change) (state : Option State) → get request.writes key ≡ Some one → get states key ≡ state → Lengthens state one
  each key (change.Append extension) (Some state) is there = longer key extension state is there (number-read states request key state (get request.reads key) none there refl (appends key extension is))
  each key (change.Put content) (Some state) is there = tt
  each key change.Del (Some state) is there = tt
  each key one None is there = tt

-- what finds no places isn't committed
pub IsRefusal-place : (states : FinMap key_order State) (limits : Limits) (tally : Tally) (request : Request) (old new : Parts) (before after : Takings) (why : Refusal)
    → request.seen ≤ limits.last → first_moved states (entries request.reads) ≡ None → tally.last < greatest_number → IsPermutation old.owned (before.blocks.items ++ owned_by states)
    → IsPlaceRefusal (holdings_by states) (entries request.writes) old new before after why → IsRefusal states limits tally request old new before after why
IsRefusal-place states limits tally request old new before after (refusal.Refused reply) le is last moves fails = (
  NoSpace fails.0.0 fails.0.1,
  judgement-places states limits tally request old before (Err fails.0) le is last moves fails.1,
  fails.2,
  fails.3,
)
IsRefusal-place states limits tally request old new before after refusal.OutOfMemory le is last moves fails = fails
