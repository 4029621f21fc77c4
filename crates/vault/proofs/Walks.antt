-- What is known of the committing members of a group.
use Rattle.std.proofs.Common.{◌≡◌, ℕ, suc, ◌+◌, ◌<◌, ◌≤◌, Bool, true, false, cond, List, [], ◌∷◌, ◌++◌, length, map, Option, Some, None, Ok, Err, inl, inr, refl, sym, ◌∙◌, ap, subst, arith}
use Rattle.std.proofs.lemmas.Bool.{cases_lt}
use Rattle.std.proofs.lemmas.Bool.Decides.{nat_tests}
use Rattle.std.specs.Prelude.{nat_lt, option_map, slice_get, zip}
use Rattle.std.specs.List.{AllZip, cons_option, flat_map, sum_by}
use Rattle.std.specs.FinMap.{entries, entries_sorted, get-entries}
use Rattle.std.proofs.lemmas.Grind.{flat_map-append}
use Rattle.std.proofs.lemmas.List.Sums.{sum_by-append, sum_by-cons}
use Rattle.frame_codec.specs.declared.entry.Entry.{Entry}
use Rattle.frame_codec.specs.declared.entry.Write.{Write}
use Rattle.group_plan.specs.Plans.{IsEntryOf, IsWritten, committed}
use Rattle.store_model.specs.Cost.{content_pages}
use Rattle.store_model.specs.Group.{Commit, Member, commit_by, commit_of, commits_of, does_touch, member_of, members_from, taken_blocks, tally_after}
use Rattle.store_model.specs.Holds.{place_of}
use Rattle.store_model.specs.Judgement.{Asked, Judgement, Ledger, NoNumber, NoRoom, Ahead, Tally, first_moved, growth_of, judge, judge_number, judge_places, judge_reads}
use Rattle.store_model.specs.Placing.{Holding, Need, Placed, new_blocks, pages_written, place_all}
use Rattle.store_model.specs.Space.{Block, blocks_of}
use Rattle.store_model.specs.State.{greatest_number}
use Rattle.store_model.proofs.SortedLaws.{find-at}
use Rattle.txn.specs.Requests.{asked_of, need_of}
use Rattle.txn.specs.Txns.{NoAppends, is_append}
use Rattle.txn.specs.declared.change.Change.{Change}
use Rattle.txn.specs.declared.request.Request.{Request}
use Rattle.std.proofs.Common.{Result}
use Rattle.vault.specs.Pours.{AreWhole, Pour, pour_blocks, pour_pages, pours_by, pours_of, pours_of_all}
use Rattle.vault.proofs.Placings.{IsPlaced, all-placed, placed-blocks, placed-pages}

-- a request that is committed found its places, and a number, and room
pub record IsCommitted (ledger : Ledger) (tally : Tally) (asked : Asked) (placed : List Placed) : Type 0 where
  pub found : place_all ledger.pages ledger.held asked.needs (tally.taken ++ ledger.owned) ≡ Ok placed
  pub number : tally.last < greatest_number
  pub room : ledger.bytes + tally.grown + growth_of placed ≤ ledger.room

committed-places : (ledger : Ledger) (tally : Tally) (r : Result (List Placed) (List ℕ × ℕ)) (placed : List Placed) → judge_places ledger tally r ≡ Ok placed
    → (r ≡ Ok placed) × (ledger.bytes + tally.grown + growth_of placed ≤ ledger.room)
committed-places ledger tally (Err none) placed is = absurd (cc is)
committed-places ledger tally (Ok some) placed is = elim (cases_lt ledger.room (ledger.bytes + tally.grown + growth_of some)) [
  | inl more ↦
      (let yes : nat_lt ledger.room (ledger.bytes + tally.grown + growth_of some) ≡ true = grind (arith, nat_tests, more) in
      let told : Err (NoRoom (ledger.bytes + tally.grown + growth_of some) ledger.room) ≡ Ok placed =
      sym (ap (λ (b : Bool). cond b (Err (NoRoom (ledger.bytes + tally.grown + growth_of some) ledger.room)) (Ok some)) yes) ∙ is in
      absurd (cc told))
  | inr less ↦
      (let no : nat_lt ledger.room (ledger.bytes + tally.grown + growth_of some) ≡ false = grind (arith, nat_tests, less) in
      let told : Ok some ≡ Ok placed =
      sym (ap (λ (b : Bool). cond b (Err (NoRoom (ledger.bytes + tally.grown + growth_of some) ledger.room)) (Ok some)) no) ∙ is in
      let same : some ≡ placed = cc told in
      (ap Ok same, subst (λ (ps : List Placed). ledger.bytes + tally.grown + growth_of ps ≤ ledger.room) same less))
]

committed-number : (ledger : Ledger) (tally : Tally) (asked : Asked) (placed : List Placed) → judge_number ledger tally asked ≡ Ok placed → IsCommitted ledger tally asked placed
committed-number ledger tally asked placed is = elim (cases_lt tally.last greatest_number) [
  | inl less ↦
      (let yes : nat_lt tally.last greatest_number ≡ true = grind (arith, nat_tests, less) in
      let r : Result (List Placed) (List ℕ × ℕ) = place_all ledger.pages ledger.held asked.needs (tally.taken ++ ledger.owned) in
      let both = committed-places ledger tally r placed (sym (ap (λ (b : Bool). cond b (judge_places ledger tally r) (Err (NoNumber tally.last))) yes) ∙ is) in
      record { found = both.0; number = less; room = both.1 })
  | inr more ↦
      (let no : nat_lt tally.last greatest_number ≡ false = grind (arith, nat_tests, more) in
      let r : Result (List Placed) (List ℕ × ℕ) = place_all ledger.pages ledger.held asked.needs (tally.taken ++ ledger.owned) in
      let told : Err (NoNumber tally.last) ≡ Ok placed = sym (ap (λ (b : Bool). cond b (judge_places ledger tally r) (Err (NoNumber tally.last))) no) ∙ is in
      absurd (cc told))
]

committed-reads : (ledger : Ledger) (tally : Tally) (asked : Asked) (moved : Option (List ℕ × Option ℕ)) (placed : List Placed) → judge_reads ledger tally asked moved ≡ Ok placed
    → IsCommitted ledger tally asked placed
committed-reads ledger tally asked (Some moved) placed is = absurd (cc is)
committed-reads ledger tally asked None placed is = committed-number ledger tally asked placed is

committed-told : (ledger : Ledger) (tally : Tally) (asked : Asked) (b : Bool) (placed : List Placed)
    → cond b (Err (Ahead asked.seen ledger.last)) (judge_reads ledger tally asked (first_moved ledger asked.reads)) ≡ Ok placed → IsCommitted ledger tally asked placed
committed-told ledger tally asked true placed is = absurd (cc is)
committed-told ledger tally asked false placed is = committed-reads ledger tally asked (first_moved ledger asked.reads) placed is

pub judged-Ok : (ledger : Ledger) (tally : Tally) (asked : Asked) (placed : List Placed) → judge ledger tally asked ≡ Ok placed → IsCommitted ledger tally asked placed
judged-Ok ledger tally asked placed is = committed-told ledger tally asked (nat_lt ledger.last asked.seen) placed is

-- each committed request has its places, and appends nothing
abbrev pub ArePlaced : (List ℕ → Option Holding) → List (Request × Commit) → Type 0
ArePlaced held [] = Unit {0}
ArePlaced held (one ∷ ones) = (AllZip (IsPlaced held) (asked_of one.0).needs one.1.placed × NoAppends one.0.writes) × ArePlaced held ones

-- the committing members have
pub ArePlaced-members : (ledger : Ledger) (tally : Tally) (queue : List Request) → AreWhole queue
    → ArePlaced ledger.held (committed queue (members_from ledger tally (map asked_of queue)))
ArePlaced-members ledger tally [] whole = tt
ArePlaced-members ledger tally (q ∷ queue) whole =
    let others : (j : Judgement) → ArePlaced ledger.held (committed queue (members_from ledger (tally_after tally j) (map asked_of queue))) =
    λ j. ArePlaced-members ledger (tally_after tally j) queue (λ k d less. whole (suc k) d (omega (arith, less))) in
    elim (does_touch (asked_of q) tally.changed) as (λ (b : Bool). ArePlaced ledger.held (committed (q ∷ queue)
    (cond b [] (member_of ledger tally (asked_of q) ∷ members_from ledger (tally_after tally (judge ledger tally (asked_of q))) (map asked_of queue))))) [
      | true ↦ tt
      | false ↦
          (elim (judge ledger tally (asked_of q)) as (λ (j : Judgement). judge ledger tally (asked_of q) ≡ j
          → ArePlaced ledger.held (cons_option (option_map (λ commit. (q, commit)) (commit_by (asked_of q) (tally.last + 1) j)) (committed queue (members_from ledger (tally_after tally j) (map asked_of queue))))) [
            | Ok placed ↦ λ is.
                let found = judged-Ok ledger tally (asked_of q) placed is in
                ((all-placed ledger.pages ledger.held (asked_of q).needs (tally.taken ++ ledger.owned) placed found.found, whole 0 q (omega arith)), others (Ok placed))
            | Err why ↦ λ is. others (Err why)
          ] refl)
    ]

-- the numbers don't end among them
pub numbers-last : (ledger : Ledger) (tally : Tally) (queue : List Asked) → tally.last ≤ greatest_number
    → tally.last + length (commits_of (members_from ledger tally queue)) ≤ greatest_number
numbers-last ledger tally [] most = omega (arith, most)
numbers-last ledger tally (asked ∷ queue) most =
    elim (does_touch asked tally.changed) as (λ (b : Bool). tally.last + length (commits_of
    (cond b [] (member_of ledger tally asked ∷ members_from ledger (tally_after tally (judge ledger tally asked)) queue))) ≤ greatest_number) [
      | true ↦ omega (arith, most)
      | false ↦
          (elim (judge ledger tally asked) as (λ (j : Judgement). judge ledger tally asked ≡ j
          → tally.last + length (cons_option (commit_by asked (tally.last + 1) j) (commits_of (members_from ledger (tally_after tally j) queue))) ≤ greatest_number) [
            | Ok placed ↦ λ is.
                let found = judged-Ok ledger tally asked placed is in
                omega (arith, numbers-last ledger (tally_after tally (Ok placed)) queue (omega (arith, found.number)))
            | Err why ↦ λ is. numbers-last ledger tally queue most
          ] refl)
    ]

-- what is poured for the writes of a request, its blocks and its pages
request-blocks : (held : List ℕ → Option Holding) (number : ℕ) (es : List (List ℕ × Change)) (placed : List Placed) (writes : List Write)
    → ((j : ℕ) (one : List ℕ × Change) → slice_get es j ≡ Some one → is_append one.1 ≡ false) → AllZip (IsPlaced held) (map {B = List ℕ × Need} (λ one. (one.0, need_of one.1)) es) placed
    → AllZip (IsWritten number) (zip es placed) writes
    → (pour_blocks (flat_map (λ (w : (List ℕ × Change) × Write). pours_by w.0.1 w.1) (zip es writes)) ≡ flat_map new_blocks placed)
    × (sum_by pour_pages (flat_map (λ (w : (List ℕ × Change) × Write). pours_by w.0.1 w.1) (zip es writes)) ≡ sum_by pages_written placed)
request-blocks held number [] [] writes whole all written = (refl, refl)
request-blocks held number [] (p ∷ placed) writes whole all written = absurd all
request-blocks held number (e ∷ es) [] writes whole all written = absurd all
request-blocks held number (e ∷ es) (p ∷ placed) [] whole all written = absurd written
request-blocks held number (e ∷ es) (p ∷ placed) (w ∷ writes) whole all written =
    let rest = request-blocks held number es placed writes (λ j one is. whole (suc j) one is) all.1 written.1 in
    let here : List Pour = pours_by e.1 w in
    let more : List Pour = flat_map (λ (v : (List ℕ × Change) × Write). pours_by v.0.1 v.1) (zip es writes) in
    let first = all.0 in (
      flat_map-append (λ (pour : Pour). blocks_of (place_of pour.0)) here more
          ∙ ap (λ (bs : List Block). bs ++ pour_blocks more) (placed-blocks number e.0 e.1 p w (whole 0 e refl) first.need first.count written.0)
          ∙ ap (λ (bs : List Block). new_blocks p ++ bs) rest.0,
      omega (
        arith,
        sum_by-append pour_pages here more,
        placed-pages number e.0 e.1 p w (whole 0 e refl) first.need written.0,
        rest.1,
        sum_by-cons pages_written p placed,
      ),
    )

-- and for all committed requests
pub ones-blocks : (held : List ℕ → Option Holding) (ones : List (Request × Commit)) (entries_of : List Entry) → ArePlaced held ones → AllZip IsEntryOf ones entries_of
    → (pour_blocks (pours_of_all (zip (map (λ one. one.0) ones) entries_of)) ≡ taken_blocks (map (λ one. one.1) ones))
    × (sum_by pour_pages (pours_of_all (zip (map (λ one. one.0) ones) entries_of)) ≡ sum_by content_pages (map (λ one. one.1) ones))
ones-blocks held [] es placed all = (refl, refl)
ones-blocks held (one ∷ ones) [] placed all = absurd all
ones-blocks held (one ∷ ones) (e ∷ es) placed all =
    let rest = ones-blocks held ones es placed.1 all.1 in
    let request : Request = one.0 in
    let commit : Commit = one.1 in
    let here : List Pour = pours_of (request, e) in
    let more : List Pour = pours_of_all (zip (map (λ other. other.0) ones) es) in
    let first = request-blocks held commit.number (entries request.writes) commit.placed e.writes
    (λ j other is. placed.0.1 other.0 other.1 (get-entries request.writes other.0 ∙ find-at (entries request.writes) j other.0 other (entries_sorted request.writes) is refl))
    placed.0.0 all.0.writes in (
      flat_map-append (λ (pour : Pour). blocks_of (place_of pour.0)) here more
          ∙ ap (λ (bs : List Block). bs ++ pour_blocks more) first.0
          ∙ ap (λ (bs : List Block). flat_map new_blocks commit.placed ++ bs) rest.0,
      omega (
        arith,
        sum_by-append pour_pages here more,
        first.1,
        rest.1,
        sum_by-cons content_pages commit (map (λ other. other.1) ones),
      ),
    )

-- the commits of members are those of the committed requests
pub commits-committed : (queue : List Request) (members : List Member) → length members ≤ length queue → map (λ one. one.1) (committed queue members) ≡ commits_of members
commits-committed [] [] long = refl
commits-committed (q ∷ queue) [] long = refl
commits-committed [] (m ∷ members) long = absurd (omega (arith, long))
commits-committed (q ∷ queue) (m ∷ members) long =
    let rest = commits-committed queue members (omega (arith, long)) in
    elim (commit_of m) as (λ (o : Option Commit). map (λ (one : Request × Commit). one.1) (cons_option (option_map (λ commit. (q, commit)) o) (committed queue members)) ≡ cons_option o (commits_of members)) [
      | None ↦ rest
      | Some commit ↦ ap (λ (cs : List Commit). commit ∷ cs) rest
    ]
