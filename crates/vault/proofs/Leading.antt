-- What a plan says of the entries that are committed.
use Rattle.std.proofs.Common.{◌≡◌, ℕ, ◌+◌, ◌≤◌, List, ◌++◌, length, map, true, false, sym, ◌∙◌, ap, subst, arith}
use Rattle.std.specs.Prelude.{Contains, zip}
use Rattle.std.specs.List.{All, AllZip, sum_by}
use Rattle.std.specs.List.Sorted.{IsPermutation}
use Rattle.std.specs.FinMap.{FinMap}
use Rattle.std.proofs.lemmas.List.{length-map}
use Rattle.std.proofs.lemmas.List.Elements.{Contains-append_left}
use Rattle.std.proofs.lemmas.List.Sorted.{Contains-permutation, IsPermutation-sym}
use Rattle.std.proofs.lemmas.Slice.Zip.{AllZip-long}
use Rattle.frame_codec.specs.Values.{model_entries}
use Rattle.frame_codec.specs.declared.entry.Entry.{Entry}
use Rattle.group_plan.specs.Plans.{DoesLengthen, IsEntryOf, commit_places, committed, members_of, model_reply}
use Rattle.group_plan.specs.declared.plan.Reply.{Reply}
use Rattle.store_model.specs.Cost.{content_pages, entry_bytes, frame_bytes}
use Rattle.store_model.specs.Frame.{body_bytes, body_front}
use Rattle.store_model.specs.Group.{Commit, commits_of, no_tally, reply_of, taken_blocks}
use Rattle.store_model.specs.Judgement.{Ledger}
use Rattle.store_model.specs.Key.{key_order}
use Rattle.store_model.specs.Space.{Apart, AreBlocks, Block, owners}
use Rattle.store_model.specs.State.{State, greatest_number}
use Rattle.store_model.proofs.PlaceLaws.{owners-append, owners-permutation}
use Rattle.txn.specs.Requests.{asked_of}
use Rattle.txn.specs.declared.change.Change.TheVariants as change
use Rattle.txn.specs.declared.request.Request.{Request}
use Rattle.vault.specs.Pours.{AreAt, AreWhole, pour_blocks, pour_pages, pours_of_all, requests_at}
use Rattle.vault.proofs.Members.{AreAt-planned, members-long, requests-committed}
use Rattle.vault.proofs.Sizes.{entries-bytes}
use Rattle.vault.proofs.Walks.{ArePlaced-members, commits-committed, numbers-last, ones-blocks}

-- no request appends, and so none appends too little
pub lengthen-whole : (states : FinMap key_order State) (queue : List Request) → AreWhole queue → All (DoesLengthen states) queue
lengthen-whole states queue whole k d less key extension state put there read =
    let no : true ≡ false = whole k d less key (change.Append extension) put in absurd (cc no)

module _ (ledger : Ledger) (queue : List Request) (es : List Entry) (places : List ℕ) (all : AllZip IsEntryOf (committed queue (members_of ledger queue)) es)
    (places_are : places ≡ commit_places 0 (members_of ledger queue)) where
  long : length (members_of ledger queue) ≤ length queue
  long = omega (arith, members-long ledger (no_tally ledger) (map asked_of queue), length-map queue asked_of)

  pub lead-places : AreAt queue es places
  lead-places = AreAt-planned queue (members_of ledger queue) es places long all places_are

  pub requests-are : requests_at queue places ≡ map (λ one. one.0) (committed queue (members_of ledger queue))
  requests-are = ap (requests_at queue) places_are ∙ requests-committed queue (members_of ledger queue) long

  commits-are : map (λ one. one.1) (committed queue (members_of ledger queue)) ≡ commits_of (members_of ledger queue)
  commits-are = commits-committed queue (members_of ledger queue) long

  -- there are as many entries as commits
  pub lead-count : length es ≡ length (commits_of (members_of ledger queue))
  lead-count =
      AllZip-long IsEntryOf (committed queue (members_of ledger queue)) es all
      ∙ sym (length-map (committed queue (members_of ledger queue)) (λ (one : Request × Commit). one.1)) ∙ ap length commits-are

  pub lead-last : (last : ℕ) → last ≡ ledger.last → last ≤ greatest_number → last + length es ≤ greatest_number
  lead-last last is most =
      omega (arith, numbers-last ledger (no_tally ledger) (map asked_of queue) (omega (arith, is, most)), is, lead-count)

  -- a group has no more replies than its queue has requests
  pub lead-few : (replies : List Reply) → map model_reply replies ≡ map reply_of (members_of ledger queue) → length replies ≤ length queue
  lead-few replies are =
      omega (arith, long, ap length are, length-map replies model_reply, length-map (members_of ledger queue) reply_of)

  module _ (whole : AreWhole queue) where
    -- the body of the frame takes as many bytes as the commits
    pub lead-bytes : body_bytes (model_entries es) ≡ frame_bytes (commits_of (members_of ledger queue))
    lead-bytes =
        ap (λ (n : ℕ). body_front + n)
        (entries-bytes ledger.held (committed queue (members_of ledger queue)) es (ArePlaced-members ledger (no_tally ledger) queue whole) all
        ∙ ap (sum_by entry_bytes) commits-are)

    -- what is poured are the blocks that the group takes, and the pages of its contents
    pub lead-blocks : pour_blocks (pours_of_all (zip (requests_at queue places) es)) ≡ taken_blocks (commits_of (members_of ledger queue))
    lead-blocks =
        ap (λ (rs : List Request). pour_blocks (pours_of_all (zip rs es))) requests-are
        ∙ (ones-blocks ledger.held (committed queue (members_of ledger queue)) es (ArePlaced-members ledger (no_tally ledger) queue whole) all).0
        ∙ ap taken_blocks commits-are

    pub lead-pages : sum_by pour_pages (pours_of_all (zip (requests_at queue places) es)) ≡ sum_by content_pages (commits_of (members_of ledger queue))
    lead-pages =
        ap (λ (rs : List Request). sum_by pour_pages (pours_of_all (zip rs es))) requests-are
        ∙ (ones-blocks ledger.held (committed queue (members_of ledger queue)) es (ArePlaced-members ledger (no_tally ledger) queue whole) all).1
        ∙ ap (sum_by content_pages) commits-are

    module _ (owned before : List Block) (moves : IsPermutation owned (taken_blocks (commits_of (members_of ledger queue)) ++ before)) where
      pub lead-within : (pages n : ℕ) → AreBlocks pages owned → pages ≡ n → AreBlocks n (pour_blocks (pours_of_all (zip (requests_at queue places) es)))
      lead-within pages n blocks is block there =
          let taken : Contains (taken_blocks (commits_of (members_of ledger queue))) block = subst (λ (bs : List Block). Contains bs block) lead-blocks there in
          subst (λ (m : ℕ). AreBlocks m owned) is blocks block
          (Contains-permutation (taken_blocks (commits_of (members_of ledger queue)) ++ before) owned block
          (IsPermutation-sym owned (taken_blocks (commits_of (members_of ledger queue)) ++ before) moves)
          (Contains-append_left (taken_blocks (commits_of (members_of ledger queue))) before block taken))

      pub lead-apart : Apart owned → Apart (pour_blocks (pours_of_all (zip (requests_at queue places) es)))
      lead-apart apart page =
          omega (
            arith,
            apart page,
            ap (λ (bs : List Block). owners bs page) lead-blocks,
            owners-permutation owned (taken_blocks (commits_of (members_of ledger queue)) ++ before) page moves,
            owners-append (taken_blocks (commits_of (members_of ledger queue))) before page,
          )
