-- The committing members of a group, one after the other: none touches what one before it changes.
use Rattle.std.proofs.Common.{◌≡◌, ℕ, zero, suc, ◌+◌, ◌≤◌, Bool, true, false, ◌||◌, cond, List, [], ◌∷◌, ◌++◌, map, Some, Ok, Err, refl, sym, ◌∙◌, ap, arith}
use Rattle.std.specs.Prelude.{bytes_eq, option_map, slice_get, zip}
use Rattle.std.specs.List.{AllZip, cons_option, list_any}
use Rattle.std.proofs.lemmas.List.Folds.{list_any-append}
use Rattle.std.specs.FinMap.{FinMap, entries, entries_sorted, get, get-entries}
use Rattle.frame_codec.specs.declared.entry.Entry.{Entry}
use Rattle.group_plan.specs.Plans.{IsEntryOf, committed, ledger_by}
use Rattle.relation.specs.Parts.{encoded_by}
use Rattle.store_model.specs.Group.{Commit, commit_by, does_touch, is_among, member_of, members_from, tally_after}
use Rattle.store_model.specs.Judgement.{Judgement, Ledger, Tally, growth_of, judge}
use Rattle.store_model.specs.Key.{key_order}
use Rattle.store_model.specs.Placing.{Need}
use Rattle.store_model.specs.State.{State}
use Rattle.store_model.proofs.SortedLaws.{find-at, sorted-at}
use Rattle.txn.specs.Requests.{asked_of, need_of}
use Rattle.txn.specs.Txns.{NoAppends}
use Rattle.txn.specs.declared.change.Change.{Change}
use Rattle.txn.specs.declared.request.Request.{Request}
use Rattle.vault.specs.Pours.{AreStates, AreWhole}
use Rattle.relation.specs.Changes.{with_entry}
use Rattle.vault.proofs.Growing.{grow-most}
use Rattle.vault.proofs.Sparing.{AreStates-writes}
use Rattle.vault.proofs.Placings.{IsPlaced, all-placed}
use Rattle.vault.proofs.Walks.{judged-Ok}
use Rattle.vault.proofs.Writings.{AreReady, kept-writes, neither-left, neither-right}

-- A request is committed behind those that came to this tally: it has its places and appends nothing, the states have room for it, and
-- it touches no key that one of them changes.
pub record Follows (ledger : Ledger) (tally : Tally) (one : Request × Commit) : Type 0 where
  pub placed : AllZip (IsPlaced ledger.held) (asked_of one.0).needs one.1.placed
  pub whole : NoAppends one.0.writes
  pub room : ledger.bytes + tally.grown + growth_of one.1.placed ≤ ledger.room
  pub apart : does_touch (asked_of one.0) tally.changed ≡ false

-- requests are, one after the other
abbrev pub AllFollow : Ledger → Tally → List (Request × Commit) → Type 0
AllFollow ledger tally [] = Unit {0}
AllFollow ledger tally (one ∷ ones) = Follows ledger tally one × AllFollow ledger (tally_after tally (Ok one.1.placed)) ones

-- the committing members of a group are
pub AllFollow-members : (ledger : Ledger) (tally : Tally) (queue : List Request) → AreWhole queue → AllFollow ledger tally (committed queue (members_from ledger tally (map asked_of queue)))
AllFollow-members ledger tally [] whole = tt
AllFollow-members ledger tally (q ∷ queue) whole =
    let others : (j : Judgement) → AllFollow ledger (tally_after tally j) (committed queue (members_from ledger (tally_after tally j) (map asked_of queue))) =
    λ j. AllFollow-members ledger (tally_after tally j) queue (λ k d less. whole (suc k) d (omega (arith, less))) in
    elim (does_touch (asked_of q) tally.changed) as (λ (b : Bool). does_touch (asked_of q) tally.changed ≡ b → AllFollow ledger tally (committed (q ∷ queue)
    (cond b [] (member_of ledger tally (asked_of q) ∷ members_from ledger (tally_after tally (judge ledger tally (asked_of q))) (map asked_of queue))))) [
      | true ↦ λ touch. tt
      | false ↦ λ apart.
          (elim (judge ledger tally (asked_of q)) as (λ (j : Judgement). judge ledger tally (asked_of q) ≡ j
          → AllFollow ledger tally (cons_option (option_map (λ commit. (q, commit)) (commit_by (asked_of q) (tally.last + 1) j)) (committed queue (members_from ledger (tally_after tally j) (map asked_of queue))))) [
            | Ok placed ↦ λ is.
                let found = judged-Ok ledger tally (asked_of q) placed is in (
                  record {
                    placed = all-placed ledger.pages ledger.held (asked_of q).needs (tally.taken ++ ledger.owned) placed found.found;
                    whole = whole 0 q (omega arith);
                    room = found.room;
                    apart = apart;
                  },
                  others (Ok placed),
                )
            | Err why ↦ λ is. others (Err why)
          ] refl)
    ] refl

-- what no element is, the one at a place isn't
none-at : {X : Type 0} (p : X → Bool) (xs : List X) (j : ℕ) (x : X) → list_any p xs ≡ false → slice_get xs j ≡ Some x → p x ≡ false
none-at p [] j x none is = absurd (cc is)
none-at p (y ∷ xs) zero x none is =
    let same : y ≡ x = cc is in ap p (sym same) ∙ neither-left (p y) (list_any p xs) none
none-at p (y ∷ xs) (suc j) x none is = none-at p xs j x (neither-right (p y) (list_any p xs) none) is

pub slice_get-map : {X Y : Type 0} (f : X → Y) (xs : List X) (j : ℕ) (x : X) → slice_get xs j ≡ Some x → slice_get (map f xs) j ≡ Some (f x)
slice_get-map {X} f [] j x is = absurd (cc is)
slice_get-map {X} f (y ∷ xs) zero x is =
    let same : y ≡ x = cc is in ap (λ (z : X). Some (f z)) same
slice_get-map {X} f (y ∷ xs) (suc j) x is = slice_get-map f xs j x is

-- The states now are those that the commits lead to which came to this tally.
pub record Came (before now : FinMap key_order State) (tally : Tally) : Type 0 where
  pub bytes : encoded_by now ≤ encoded_by before + tally.grown
  pub same : (q : List ℕ) → is_among q tally.changed ≡ false → get now q ≡ get before q
  pub states : AreStates now

module _ (before : FinMap key_order State) (last room pages : ℕ) where
  -- the entry of the next commit can be made
  pub ready-next : (now : FinMap key_order State) (tally : Tally) (one : Request × Commit) (entry : Entry) → Follows (ledger_by before last room pages) tally one → Came before now tally
      → IsEntryOf one entry → AreStates before
      → AreReady before now one.1.number (entries one.0.writes) one.1.placed entry.writes
  ready-next now tally one entry follows came is known =
      let needs : List (List ℕ × Need) = map {A = List ℕ × Change} {B = List ℕ × Need} (λ e. (e.0, need_of e.1)) (entries one.0.writes) in
      let none : list_any (λ (need : List ℕ × Need). is_among need.0 tally.changed) needs ≡ false =
      neither-right (list_any (λ read. is_among read.0 tally.changed) (entries one.0.reads)) (list_any (λ (need : List ℕ × Need). is_among need.0 tally.changed) needs) follows.apart in
      record {
        rise = λ i j a b less at other. sorted-at (entries one.0.writes) i j a b (entries_sorted one.0.writes) less at other;
        whole = λ j e at. follows.whole e.0 e.1 (get-entries one.0.writes e.0 ∙ find-at (entries one.0.writes) j e.0 e (entries_sorted one.0.writes) at refl);
        known = known;
        same = λ j e at. came.same e.0 (none-at (λ (need : List ℕ × Need). is_among need.0 tally.changed) needs j (e.0, need_of e.1) none
            (slice_get-map {Y = List ℕ × Need} (λ f. (f.0, need_of f.1)) (entries one.0.writes) j e at));
        placed_are = follows.placed;
        written = is.writes;
      }

  -- and then the states are those of one commit more
  pub Came-next : (now : FinMap key_order State) (tally : Tally) (one : Request × Commit) (entry : Entry)
      → AreReady before now one.1.number (entries one.0.writes) one.1.placed entry.writes → Came before now tally → Came before (with_entry now entry) (tally_after tally (Ok one.1.placed))
  Came-next now tally one entry ready came = record {
    bytes = omega (arith, grow-most before now one.1.number (entries one.0.writes) one.1.placed entry.writes ready, came.bytes);
    same = λ q apart.
        let keys : List (List ℕ) = map (λ p. p.key) one.1.placed in
        let both : is_among q keys || is_among q tally.changed ≡ false = sym (list_any-append (λ other. bytes_eq q other) keys tally.changed) ∙ apart in
        kept-writes before now one.1.number (entries one.0.writes) one.1.placed entry.writes ready q (neither-left (is_among q keys) (is_among q tally.changed) both)
        ∙ came.same q (neither-right (is_among q keys) (is_among q tally.changed) both);
    states = AreStates-writes now one.1.number (zip (entries one.0.writes) one.1.placed) entry.writes ready.written came.states;
  }
