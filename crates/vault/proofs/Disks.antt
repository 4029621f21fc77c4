-- What the commit of a plan's entries makes of the store and does on the disk.
use Rattle.std.proofs.Common.{◌≡◌, ℕ, zero, suc, ◌+◌, ◌≤◌, Bool, true, false, inl, inr, List, [], ◌++◌, length, sym, ◌∙◌, subst, arith}
use Rattle.std.specs.Prelude.{◌==◌, zip}
use Rattle.std.specs.List.{All, AllZip}
use Rattle.std.specs.List.Sorted.{IsPermutation}
use Rattle.std.proofs.lemmas.List.{nil_from_length}
use Rattle.std.proofs.lemmas.Bool.Decides.{eqb_tells}
use Rattle.std.proofs.lemmas.Slice.Zip.{AllZip-long}
use Rattle.std.specs.FinMap.{FinMap}
use Rattle.frame_codec.specs.declared.entry.Entry.{Entry}
use Rattle.group_plan.specs.Plans.{IsEntryOf, commit_places, committed, members_of}
use Rattle.relation.specs.Parts.{owned_by}
use Rattle.store_model.specs.Group.{Commit, commits_of, no_tally, taken_blocks}
use Rattle.store_model.specs.Judgement.{Ledger}
use Rattle.store_model.specs.Key.{key_order}
use Rattle.store_model.specs.Disk.{Image}
use Rattle.store_model.specs.Layout.{Layout, data_page}
use Rattle.store_model.specs.Space.{Apart, Block, owners}
use Rattle.store_model.specs.Standing.{AllStand, SameObjects}
use Rattle.store_model.specs.State.{State}
use Rattle.store_model.specs.Store as model
use Rattle.txn.specs.declared.request.Request.{Request}
use Rattle.vault.specs.Leads.{StoreStands}
use Rattle.vault.specs.Pours.{AreWhole, Poured, made_by, pour_blocks, pours_of_all, requests_at}
use Rattle.relation.specs.Changes.{with_entries}
use Rattle.vault.specs.declared.memory.Memory.{Memory}
use Rattle.vault.proofs.Leading.{lead-blocks, lead-count, requests-are}
use Rattle.vault.proofs.Makings.{AreNumbered, AreNumbered-members, made-last, same-made}
use Rattle.vault.proofs.Survivals.{AllStand-off, stands-made, taken-apart}
use Rattle.vault.proofs.Walks.{ArePlaced-members}

-- What a test for no entries tells: there are none, or there are some.
pub none-counted : (is_none : Bool) (n : ℕ) → is_none ≡ (n == 0) → is_none ≡ true → n ≡ 0
none-counted is_none n is none = elim (eqb_tells n 0) [
  | inl same ↦ same.1
  | inr other ↦ (let both : false ≡ true = sym other.0 ∙ sym is ∙ none in absurd (cc both))
]

pub some-counted : (is_none : Bool) (n : ℕ) → is_none ≡ (n == 0) → is_none ≡ false → 1 ≤ n
some-counted is_none zero is some = let both : true ≡ false = sym is ∙ some in absurd (cc both)
some-counted is_none (suc n) is some = omega arith

-- What is owned is apart, and it is what was taken with what the states owned before.
pub record HasTaken (states : FinMap key_order State) (taken : List Block) (owned before : List Block) : Type 0 where
  pub moves : IsPermutation owned (taken ++ before)
  pub before_is : IsPermutation before (owned_by states)
  pub apart : Apart owned

module _ (ledger : Ledger) (queue : List Request) (es : List Entry) (places : List ℕ) (all : AllZip IsEntryOf (committed queue (members_of ledger queue)) es)
    (places_are : places ≡ commit_places 0 (members_of ledger queue)) (whole : AreWhole queue) where
  -- there are as many entries as committed requests
  ones-count : length (committed queue (members_of ledger queue)) ≡ length es
  ones-count = sym (AllZip-long IsEntryOf (committed queue (members_of ledger queue)) es all)

  -- the program's store is where the committed transactions lead
  pub commit-stands : (mine now : Memory) (store : model.Store) → StoreStands mine store → ledger.last ≡ mine.last → now.relation.states ≡ with_entries mine.relation.states es
      → now.last ≡ mine.last + length es → StoreStands now (made_by store (committed queue (members_of ledger queue)))
  commit-stands mine now store stands last_is states_are last_now =
      let ones : List (Request × Commit) = committed queue (members_of ledger queue) in
      let numbers : AreNumbered store.last ones = subst (λ (n : ℕ). AreNumbered n ones) (last_is ∙ stands.last) (AreNumbered-members ledger (no_tally ledger) queue) in
      record {
        objects = subst (λ (m : FinMap key_order State). SameObjects m (made_by store ones).objects) (sym states_are)
            (same-made ledger.held mine.relation.states store ones es (ArePlaced-members ledger (no_tally ledger) queue whole) all stands.objects);
        last = omega (arith, last_now, stands.last, made-last store ones numbers, ones-count);
      }

  -- where there is no entry, no request is committed
  pub none-committed : length es ≡ 0 → committed queue (members_of ledger queue) ≡ []
  none-committed none = nil_from_length (committed queue (members_of ledger queue)) (ones-count ∙ none)

  pub none-commits : length es ≡ 0 → commits_of (members_of ledger queue) ≡ []
  none-commits none = nil_from_length (commits_of (members_of ledger queue)) (sym (lead-count ledger queue es places all places_are) ∙ none)

  -- and the program's store is where it was
  pub none-stands : (mine : Memory) (store : model.Store) → length es ≡ 0 → StoreStands mine store → StoreStands mine (made_by store (committed queue (members_of ledger queue)))
  none-stands mine store none = subst (λ (ones : List (Request × Commit)). StoreStands mine (made_by store ones)) (sym (none-committed none))

  module _ (layout : Layout) (store : model.Store) (old new : Image) where
    -- The objects stand where the committed transactions lead, where the contents were poured and each page of the data area that they
    -- don't own reads as before.
    pub commit-objects : (from : ℕ) (states : FinMap key_order State) (owned before : List Block) → SameObjects states store.objects
        → HasTaken states (taken_blocks (commits_of (members_of ledger queue))) owned before
        → ((at : ℕ) → owners (pour_blocks (pours_of_all (zip (requests_at queue places) es))) at ≡ 0 → new (data_page layout + at) ≡ old (data_page layout + at))
        → All (Poured new layout) (pours_of_all (zip (requests_at queue places) es)) → AllStand from old layout store.objects
        → AllStand from new layout (made_by store (committed queue (members_of ledger queue))).objects
    commit-objects from states owned before same took off poured stand =
        let taken : List Block = taken_blocks (commits_of (members_of ledger queue)) in
        let still : AllStand from new layout store.objects =
        AllStand-off from old new layout states store.objects taken same
        (taken-apart owned taken before (owned_by states) took.moves took.before_is took.apart)
        (subst (λ (bs : List Block). (at : ℕ) → owners bs at ≡ 0 → new (data_page layout + at) ≡ old (data_page layout + at))
        (lead-blocks ledger queue es places all places_are whole) off) stand in
        stands-made from new layout ledger.held store (committed queue (members_of ledger queue)) es (ArePlaced-members ledger (no_tally ledger) queue whole) all
        (subst (λ (rs : List Request). All (Poured new layout) (pours_of_all (zip rs es))) (requests-are ledger queue es places all places_are) poured) still
