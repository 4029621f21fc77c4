-- The entries of a group, made one after the other: the states have room for them, and what they own is what they took and didn't free.
use Rattle.std.proofs.Common.{◌≡◌, ℕ, zero, suc, ◌≤◌, Ok, List, [], ◌∷◌, ◌++◌, length, map, take, refl, sym, ap, subst, arith}
use Rattle.std.specs.List.{AllZip, flat_map}
use Rattle.std.specs.List.Sorted.{IsPermutation}
use Rattle.std.specs.FinMap.{FinMap, entries}
use Rattle.std.proofs.lemmas.List.{length-map}
use Rattle.std.proofs.lemmas.List.Sorted.{IsPermutation-append_right, IsPermutation-refl, IsPermutation-sym, IsPermutation-trans}
use Rattle.frame_codec.specs.declared.entry.Entry.{Entry}
use Rattle.group_plan.specs.Plans.{IsEntryOf, committed, freed_by, ledger_by, members_of}
use Rattle.relation.specs.Parts.{encoded_by, owned_by}
use Rattle.store_model.specs.Group.{Commit, commits_of, no_tally, taken_blocks, tally_after}
use Rattle.store_model.specs.Judgement.{Ledger, Tally}
use Rattle.store_model.specs.Key.{key_order}
use Rattle.store_model.specs.Placing.{freed_blocks, new_blocks}
use Rattle.store_model.specs.Space.{Block}
use Rattle.store_model.specs.State.{State}
use Rattle.txn.specs.Requests.{asked_of}
use Rattle.txn.specs.declared.request.Request.{Request}
use Rattle.vault.specs.Pours.{AreStates, AreWhole, HasRoom}
use Rattle.relation.specs.Changes.{bytes_limit, with_entries, with_entry}
use Rattle.vault.proofs.Following.{AllFollow, AllFollow-members, Came, Came-next, ready-next}
use Rattle.vault.proofs.Freeing.{move-writes, moves-both}
use Rattle.vault.proofs.Members.{members-long}
use Rattle.vault.proofs.Walks.{commits-committed}

-- Entries are made in states, those of these commits: the states have room after each of them, and what the commits take and what was
-- owned before is what they free and what is owned then; and each state then keeps its rules.
pub record AreMade (room : ℕ) (states : FinMap key_order State) (commits : List Commit) (es : List Entry) : Type 0 where
  pub room_is : (i : ℕ) → encoded_by (with_entries states (take i es)) ≤ room
  pub blocks : IsPermutation (freed_by commits ++ owned_by (with_entries states es)) (taken_blocks commits ++ owned_by states)
  pub sound : AreStates (with_entries states es)

-- one entry before others
AreMade-more : (room : ℕ) (states : FinMap key_order State) (commit : Commit) (commits : List Commit) (entry : Entry) (es : List Entry) → encoded_by states ≤ room
    → IsPermutation (flat_map freed_blocks commit.placed ++ owned_by (with_entry states entry)) (flat_map new_blocks commit.placed ++ owned_by states)
    → AreMade room (with_entry states entry) commits es → AreMade room states (commit ∷ commits) (entry ∷ es)
AreMade-more room states commit commits entry es few moves rest = record {
  room_is = more;
  blocks = moves-both (flat_map freed_blocks commit.placed) (freed_by commits) (flat_map new_blocks commit.placed) (taken_blocks commits) (owned_by states)
      (owned_by (with_entry states entry)) (owned_by (with_entries (with_entry states entry) es)) moves rest.blocks;
  sound = rest.sound;
} where
  more : (i : ℕ) → encoded_by (with_entries states (take i (entry ∷ es))) ≤ room
  more zero = few
  more (suc i) = rest.room_is i

-- no entry
room-none : (room : ℕ) (states : FinMap key_order State) → encoded_by states ≤ room → (i : ℕ) → encoded_by (with_entries states (take i [])) ≤ room
room-none room states few zero = few
room-none room states few (suc i) = few

module _ (before : FinMap key_order State) (last room pages : ℕ) where
  -- the entries of commits that follow each other
  AreMade-follow : (now : FinMap key_order State) (tally : Tally) (ones : List (Request × Commit)) (es : List Entry) → AllFollow (ledger_by before last room pages) tally ones
      → AllZip IsEntryOf ones es → AreStates before → Came before now tally → encoded_by now ≤ room → AreMade room now (map (λ one. one.1) ones) es
  AreMade-follow now tally [] [] follow all known came few = record { room_is = room-none room now few; blocks = IsPermutation-refl (owned_by now); sound = came.states }
  AreMade-follow now tally [] (e ∷ es) follow all known came few = absurd all
  AreMade-follow now tally (one ∷ ones) [] follow all known came few = absurd all
  AreMade-follow now tally (one ∷ ones) (e ∷ es) follow all known came few =
      let ready = ready-next before last room pages now tally one e follow.0 came all.0 known in
      let next : Came before (with_entry now e) (tally_after tally (Ok one.1.placed)) = Came-next before last room pages now tally one e ready came in
      AreMade-more room now one.1 (map (λ other. other.1) ones) e es few (move-writes before now one.1.number (entries one.0.writes) one.1.placed e.writes ready)
      (AreMade-follow (with_entry now e) (tally_after tally (Ok one.1.placed)) ones es follow.1 all.1 known next (omega (arith, next.bytes, follow.0.room)))

  -- the entries of a group
  pub AreMade-members : (queue : List Request) (es : List Entry) → AllZip IsEntryOf (committed queue (members_of (ledger_by before last room pages) queue)) es → AreWhole queue → AreStates before
      → encoded_by before ≤ room → AreMade room before (commits_of (members_of (ledger_by before last room pages) queue)) es
  AreMade-members queue es all whole known few =
      let ledger : Ledger = ledger_by before last room pages in
      let long : length (members_of ledger queue) ≤ length queue = omega (arith, members-long ledger (no_tally ledger) (map asked_of queue), length-map queue asked_of) in
      subst (λ (commits : List Commit). AreMade room before commits es) (commits-committed queue (members_of ledger queue) long)
      (AreMade-follow before (no_tally ledger) (committed queue (members_of ledger queue)) es (AllFollow-members ledger (no_tally ledger) queue whole) all known
      (record { bytes = omega arith; same = λ q apart. refl; states = known }) few)

module _ (room : ℕ) (before : FinMap key_order State) (commits : List Commit) (es : List Entry) (made : AreMade room before commits es) where
  -- the entries have room
  pub room-made : room ≤ bytes_limit → HasRoom before es
  room-made most i less = omega (arith, made.room_is i, most)

  -- what the states own then is left of what is owned once the blocks of the group are taken
  pub left-made : (old now frees : List Block) → IsPermutation old (owned_by before) → IsPermutation now (taken_blocks commits ++ old) → frees ≡ freed_by commits
      → IsPermutation now (frees ++ owned_by (with_entries before es))
  left-made old now frees owned took frees_are =
      subst (λ (bs : List Block). IsPermutation now (bs ++ owned_by (with_entries before es))) (sym frees_are)
      (IsPermutation-trans now (taken_blocks commits ++ old) (freed_by commits ++ owned_by (with_entries before es)) took
      (IsPermutation-trans (taken_blocks commits ++ old) (taken_blocks commits ++ owned_by before) (freed_by commits ++ owned_by (with_entries before es))
      (IsPermutation-append_right (taken_blocks commits) old (owned_by before) owned)
      (IsPermutation-sym (freed_by commits ++ owned_by (with_entries before es)) (taken_blocks commits ++ owned_by before) made.blocks)))

  -- the states then have room
  pub room-after : encoded_by (with_entries before es) ≤ room
  room-after = subst (λ (all : List Entry). encoded_by (with_entries before all) ≤ room) (take-all es) (made.room_is (length es)) where
    take-all : (xs : List Entry) → take (length xs) xs ≡ xs
    take-all [] = refl
    take-all (x ∷ xs) = ap (λ (ys : List Entry). x ∷ ys) (take-all xs)
