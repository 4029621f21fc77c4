-- The entries of a group that was planned, as the next frame of the log.
use Rattle.std.proofs.Common.{◌≡◌, ℕ, ◌+◌, ◌*◌, ◌≤◌, List, [], ◌∷◌, ◌++◌, length, Option, Some, None, refl, arith}
use Rattle.std.specs.List.{All, AllZip, cons_option}
use Rattle.std.specs.List.Sorted.{IsPermutation}
use Rattle.std.specs.FinMap.{FinMap}
use Rattle.std.proofs.lemmas.List.{length-map}
use Rattle.std.proofs.lemmas.Slice.Zip.{AllZip-long}
use Rattle.frame_codec.specs.Values.{model_entries, model_entry}
use Rattle.frame_codec.specs.declared.entry.Entry.{Entry}
use Rattle.group_plan.specs.Plans.{IsEntryOf, commit_places, committed, committed_member, ledger_by, members_of}
use Rattle.relation.specs.Parts.{encoded_by, owned_by}
use Rattle.store_model.specs.Disk.{page_bytes}
use Rattle.store_model.specs.Frame as model
use Rattle.store_model.specs.Frame.{AreKeysApart, IsEntry, Spells, body_spelling}
use Rattle.store_model.specs.Group.{Commit, Member, commits_of, no_tally, taken_blocks}
use Rattle.store_model.specs.Judgement.{Ledger}
use Rattle.store_model.specs.Key.{key_order}
use Rattle.store_model.specs.Layout.{Layout, data_pages}
use Rattle.store_model.specs.Space.{Apart, Block}
use Rattle.store_model.specs.State.{State}
use Rattle.store_model.proofs.WindowBlockLaws.{HasPlaces-apart}
use Rattle.txn.specs.declared.request.Request.{Request}
use Rattle.vault.specs.Pours.{AreStates, AreWhole, requests_at}
use Rattle.vault.specs.Vaults.{IsNextFrame}
use Rattle.vault.proofs.Apart.{keys-apart}
use Rattle.vault.proofs.Following.{AllFollow-members}
use Rattle.vault.proofs.Frames.{goes-on, numbers-on, places-apart}
use Rattle.vault.proofs.Joins.{requests-whole}
use Rattle.vault.proofs.Leading.{lead-blocks, lead-places}
use Rattle.vault.proofs.Makings.{AreNumbered, AreNumbered-members}
use Rattle.vault.proofs.Rooms.{HasRoomFor-followed}

-- No more requests are committed than are queued.
cons-few : {X : Type 0} (one : Option X) (xs : List X) (n : ℕ) → length xs ≤ n → length (cons_option one xs) ≤ n + 1
cons-few None xs n few = omega (arith, few)
cons-few (Some x) xs n few = omega (arith, few)

committed-few : (queue : List Request) (members : List Member) → length (committed queue members) ≤ length queue
committed-few [] members = omega arith
committed-few (q ∷ queue) [] = omega arith
committed-few (q ∷ queue) (m ∷ members) =
    omega (arith, cons-few (committed_member (q, m)) (committed queue members) (length queue) (committed-few queue members))

module _ (states : FinMap key_order State) (last room pages : ℕ) (known : AreStates states) (queue : List Request) (es : List Entry) (places : List ℕ)
    (all : AllZip IsEntryOf (committed queue (members_of (ledger_by states last room pages) queue)) es)
    (places_are : places ≡ commit_places 0 (members_of (ledger_by states last room pages) queue)) (whole : AreWhole queue) where
  -- They may follow where each of them is an entry that there may be.
  pub IsNextFrame-planned : (layout : Layout) (owned before : List Block) → IsPermutation owned (taken_blocks (commits_of (members_of (ledger_by states last room pages) queue)) ++ before)
      → IsPermutation before (owned_by states) → Apart owned → encoded_by states ≤ room → room ≤ page_bytes * layout.room → length queue ≤ 16 → 1 ≤ length es
      → All (IsEntry (data_pages layout)) (model_entries es)
      → IsNextFrame (record { layout = layout; last = last; states = states }) (body_spelling (model_entries es)) (model_entries es)
  IsNextFrame-planned layout owned before moves before_is apart few most short some each =
      let ledger : Ledger = ledger_by states last room pages in
      let ones : List (Request × Commit) = committed queue (members_of ledger queue) in
      let told : List model.Entry = model_entries es in
      let numbers : AreNumbered last ones = AreNumbered-members ledger (no_tally ledger) queue in
      let follow = AllFollow-members ledger (no_tally ledger) queue whole in
      let keys : AreKeysApart told = keys-apart ledger (no_tally ledger) ones es follow all in
      let spells : Spells (data_pages layout) (body_spelling told) told = record {
        frame = record {
          some = omega (arith, some, length-map es model_entry);
          few = omega (arith, length-map es model_entry, AllZip-long IsEntryOf ones es all, committed-few queue (members_of ledger queue), short);
          each = each;
          numbers = numbers-on last ones es numbers all;
          apart = keys;
        };
        bytes_are = refl;
      } in
      record {
        spells = spells;
        goes_on = goes-on last ones es numbers all some;
        places = HasPlaces-apart layout states (body_spelling told) told spells
            (places-apart states (requests_at queue places) es owned before (taken_blocks (commits_of (members_of ledger queue)))
            (lead-places ledger queue es places all places_are).written (requests-whole queue places whole) (lead-blocks ledger queue es places all places_are whole) moves before_is apart);
        room = HasRoomFor-followed states last room pages known layout (no_tally ledger) ones es follow all (omega (arith, few)) most keys;
      }
