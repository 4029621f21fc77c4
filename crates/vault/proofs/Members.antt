-- The requests of a group's committing members, and their places in the queue.
use Rattle.std.proofs.Common.{◌≡◌, ℕ, zero, suc, ◌+◌, ◌<◌, ◌≤◌, Bool, true, false, cond, List, [], ◌∷◌, ◌++◌, length, map, Option, Some, None, refl, sym, ◌∙◌, ap, subst, arith, append_assoc, length-append}
use Rattle.std.specs.Prelude.{option_map, slice_get}
use Rattle.std.specs.List.{All, AllZip, cons_option}
use Rattle.std.proofs.lemmas.Slice.Zip.{AllZip-long}
use Rattle.frame_codec.specs.declared.entry.Entry.{Entry}
use Rattle.group_plan.specs.Plans.{IsEntryOf, commit_places, committed}
use Rattle.store_model.specs.Group.{Commit, Member, commit_of, does_touch, member_of, members_from, tally_after}
use Rattle.store_model.specs.Judgement.{Asked, Ledger, Tally, judge}
use Rattle.txn.specs.declared.request.Request.{Request}
use Rattle.vault.specs.Pours.{AreAt, AreWrittenBy, requests_at}

-- a rejected member has no place, and a committed one has its own
places-none : (i : ℕ) (member : Member) (members : List Member) → commit_of member ≡ None → commit_places i (member ∷ members) ≡ commit_places (i + 1) members
places-none i member members is = rw is refl

places-some : (i : ℕ) (member : Member) (members : List Member) (commit : Commit) → commit_of member ≡ Some commit
    → commit_places i (member ∷ members) ≡ i ∷ commit_places (i + 1) members
places-some i member members commit is = rw is refl

slice-behind : {X : Type 0} (front : List X) (x : X) (xs : List X) → slice_get (front ++ x ∷ xs) (length front) ≡ Some x
slice-behind [] x xs = refl
slice-behind (y ∷ front) x xs = slice-behind front x xs

long-more : {X : Type 0} (front : List X) (x : X) (i : ℕ) → i ≡ length front → i + 1 ≡ length (front ++ x ∷ [])
long-more front x i is = omega (arith, is, length-append front (x ∷ []))

-- the requests at the places of the committing members
requests-from : (front queue : List Request) (members : List Member) (i : ℕ) → i ≡ length front → length members ≤ length queue
    → requests_at (front ++ queue) (commit_places i members) ≡ map (λ one. one.0) (committed queue members)
requests-from front [] [] i is long = refl
requests-from front (q ∷ queue) [] i is long = refl
requests-from front [] (m ∷ members) i is long = absurd (omega (arith, long))
requests-from front (q ∷ queue) (m ∷ members) i is long =
    let moved : front ++ q ∷ queue ≡ (front ++ q ∷ []) ++ queue = sym (append_assoc front (q ∷ []) queue) in
    let others : requests_at (front ++ q ∷ queue) (commit_places (i + 1) members) ≡ map (λ one. one.0) (committed queue members) =
    ap (λ (all : List Request). requests_at all (commit_places (i + 1) members)) moved
    ∙ requests-from (front ++ q ∷ []) queue members (i + 1) (long-more front q i is) (omega (arith, long)) in
    elim (commit_of m) as (λ (o : Option Commit). commit_of m ≡ o → requests_at (front ++ q ∷ queue) (commit_places i (m ∷ members)) ≡ map (λ one. one.0) (committed (q ∷ queue) (m ∷ members))) [
      | None ↦ λ none.
          ap (requests_at (front ++ q ∷ queue)) (places-none i m members none) ∙ others
          ∙ sym (ap (λ (o : Option Commit). map (λ one. one.0) (cons_option (option_map (λ commit. (q, commit)) o) (committed queue members))) none)
      | Some commit ↦ λ some.
          let here : slice_get (front ++ q ∷ queue) i ≡ Some q = ap (slice_get (front ++ q ∷ queue)) is ∙ slice-behind front q queue in
          ap (requests_at (front ++ q ∷ queue)) (places-some i m members commit some)
          ∙ ap (λ (o : Option Request). cons_option o (requests_at (front ++ q ∷ queue) (commit_places (i + 1) members))) here
          ∙ ap (λ (rs : List Request). q ∷ rs) others
          ∙ sym (ap (λ (o : Option Commit). map (λ one. one.0) (cons_option (option_map (λ commit. (q, commit)) o) (committed queue members))) some)
    ] refl

pub requests-committed : (queue : List Request) (members : List Member) → length members ≤ length queue
    → requests_at queue (commit_places 0 members) ≡ map (λ one. one.0) (committed queue members)
requests-committed queue members long = requests-from [] queue members 0 refl long

-- a place and the ones behind it
all-more : (P : ℕ → Type 0) (x : ℕ) (xs : List ℕ) → P x → All P xs → All P (x ∷ xs)
all-more P x xs one all zero d less = one
all-more P x xs one all (suc k) d less = all k d (omega (arith, less))

none-left : (P : ℕ → Type 0) → All P []
none-left P k d less = absurd (omega (arith, less))

-- the places are those of members
places-below : (members : List Member) (i n : ℕ) → i + length members ≤ n → All (λ place. place < n) (commit_places i members)
places-below [] i n most = none-left (λ place. place < n)
places-below (m ∷ members) i n most =
    let others : All (λ place. place < n) (commit_places (i + 1) members) = places-below members (i + 1) n (omega (arith, most)) in
    elim (commit_of m) as (λ (o : Option Commit). commit_of m ≡ o → All (λ place. place < n) (commit_places i (m ∷ members))) [
      | None ↦ λ none. subst (λ (ps : List ℕ). All (λ place. place < n) ps) (sym (places-none i m members none)) others
      | Some commit ↦ λ some.
          subst (λ (ps : List ℕ). All (λ place. place < n) ps) (sym (places-some i m members commit some))
          (all-more (λ place. place < n) i (commit_places (i + 1) members) (omega (arith, most)) others)
    ] refl

-- there are as many requests as places
requests-long : (queue : List Request) (places : List ℕ) → All (λ place. place < length queue) places → length (requests_at queue places) ≡ length places
requests-long queue [] all = refl
requests-long queue (p ∷ places) all =
    let rest = requests-long queue places (λ k d less. all (suc k) d (omega (arith, less))) in
    elim (slice_get queue p) as (λ (o : Option Request). slice_get queue p ≡ o → length (cons_option o (requests_at queue places)) ≡ length (p ∷ places)) [
      | None ↦ λ none. absurd (there p none (all 0 p (omega arith)))
      | Some r ↦ λ some. omega (arith, rest)
    ] refl where
      there : (p : ℕ) → slice_get queue p ≡ None → p < length queue → ⊥
      there p none less = found queue p none less where
        found : (xs : List Request) (k : ℕ) → slice_get xs k ≡ None → k < length xs → ⊥
        found [] k is below = absurd (omega (arith, below))
        found (x ∷ xs) zero is below = absurd (cc is)
        found (x ∷ xs) (suc k) is below = found xs k is (omega (arith, below))

-- each entry is that of its request
entries-written : (ones : List (Request × Commit)) (entries : List Entry) → AllZip IsEntryOf ones entries → AllZip AreWrittenBy (map (λ one. one.0) ones) entries
entries-written [] [] all = all
entries-written [] (e ∷ entries) all = absurd all
entries-written (one ∷ ones) [] all = absurd all
entries-written (one ∷ ones) (e ∷ entries) all = ((one.1, all.0), entries-written ones entries all.1)

-- entries that were planned have their requests in the queue
pub AreAt-planned : (queue : List Request) (members : List Member) (entries : List Entry) (places : List ℕ) → length members ≤ length queue
    → AllZip IsEntryOf (committed queue members) entries → places ≡ commit_places 0 members → AreAt queue entries places
AreAt-planned queue members entries places long all is =
    let below : All (λ place. place < length queue) (commit_places 0 members) = places-below members 0 (length queue) (omega (arith, long)) in
    let written : AllZip AreWrittenBy (requests_at queue (commit_places 0 members)) entries =
    subst (λ (rs : List Request). AllZip AreWrittenBy rs entries) (sym (requests-committed queue members long)) (entries-written (committed queue members) entries all) in
    let count : length (commit_places 0 members) ≡ length entries =
    sym (requests-long queue (commit_places 0 members) below) ∙ sym (AllZip-long AreWrittenBy (requests_at queue (commit_places 0 members)) entries written) in
    subst (AreAt queue entries) (sym is) (record { count = count; there = below; written = written })

-- a group has no more members than its queue
pub members-long : (ledger : Ledger) (tally : Tally) (queue : List Asked) → length (members_from ledger tally queue) ≤ length queue
members-long ledger tally [] = omega arith
members-long ledger tally (asked ∷ queue) =
    elim (does_touch asked tally.changed) as (λ (b : Bool). length (cond b [] (member_of ledger tally asked ∷ members_from ledger (tally_after tally (judge ledger tally asked)) queue)) ≤ length (asked ∷ queue)) [
      | true ↦ omega arith
      | false ↦ omega (arith, members-long ledger (tally_after tally (judge ledger tally asked)) queue)
    ]
