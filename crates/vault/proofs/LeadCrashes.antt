-- A crash in a lead leaves the store before it, or that one with some whole transactions of its group.
use Rattle.std.proofs.Common.{◌≡◌, ℕ, ◌-◌, ◌≤◌, ◌⊎◌, IsTrue, List, length, map, zip, None, inl, inr, refl, sym, ap, subst, arith}
use Rattle.std.proofs.lemmas.List.{length-map}
use Rattle.std.proofs.lemmas.Slice.Zip.{AllZip-long}
use Rattle.disk_model.specs.declared.disk.Disk.{Ghosts}
use Rattle.frame_codec.specs.Values.{model_entries, model_entry}
use Rattle.frame_codec.specs.declared.entry.Entry.{Entry}
use Rattle.group_plan.specs.Plans.{IsEntryOf, committed, members_of}
use Rattle.store_model.specs.Disk.{HasPages, Image}
use Rattle.store_model.specs.Frame as model_frame
use Rattle.store_model.specs.Group.{Commit, Member, commits_of, no_tally}
use Rattle.store_model.specs.Images.{LeavesOnly}
use Rattle.store_model.specs.Judgement.{Ledger}
use Rattle.store_model.specs.Layout.{data_pages}
use Rattle.store_model.specs.Reading.{last_number}
use Rattle.store_model.specs.Reading as reading
use Rattle.store_model.specs.Standing.{AllHeld, SameObjects}
use Rattle.store_model.specs.Store as model
use Rattle.store_model.specs.Survival.{ReadsAs, SurvivesStep}
use Rattle.store_model.specs.Windows.{IsBodyPage}
use Rattle.store_model.proofs.ImageLaws.{leaves_more, leaves_none, leaves_only, leaves_stayed, leaves_then, leaves_whole}
use Rattle.store_model.proofs.SurvivalEntryLaws.{AreWrittenBy}
use Rattle.txn.specs.Requests.{asked_of}
use Rattle.txn.specs.declared.request.Request.{Request}
use Rattle.vault.specs.Crashes.{LeadSurvives}
use Rattle.vault.specs.Leads.{MayHaveWritten, StoreStands, ledger_in}
use Rattle.vault.specs.Pours.{AreWhole, IsSecondPage, made_by, pours_of_all, requests_at}
use Rattle.vault.specs.Vaults.{InWindows, IsAtGate, IsAtRest, IsNextFrame, IsVault, found_of}
use Rattle.vault.specs.declared.memory.Memory.{Memory}
use Rattle.vault.proofs.Behind.{last-counted, same-entries}
use Rattle.vault.proofs.Contents.{second-poured_page}
use Rattle.vault.proofs.Crashes.{Turn-survives}
use Rattle.vault.proofs.LeadImages.{first-reads, second-survives}
use Rattle.vault.proofs.Makings.{AreNumbered, AreNumbered-members, made-last, same-made}
use Rattle.vault.proofs.Members.{members-long}
use Rattle.vault.proofs.Offs.{turn-before}
use Rattle.vault.proofs.Survivals.{AllHeld-off}
use Rattle.vault.proofs.Turnings.{turned-wrote}
use Rattle.vault.proofs.Walks.{ArePlaced-members, commits-committed}
use Rattle.vault.proofs.Written.{AreWrittenBy-frame}

-- The windows of a commit, over the disk of a vault that isn't shut, with the store that memory is at.
module _ {D : Type 0} (g : Ghosts D) (before : Memory) (queue : List Request) (places : List ℕ) (es : List Entry) (bytes : List ℕ) (old new : D) (store : model.Store)
    (tells : IsTrue g.tells) (vault : IsVault g old before None) (stands : StoreStands before store) (held : AllHeld (g.story old).reads before.layout store.objects)
    (frame : IsNextFrame (found_of before) bytes (model_entries es)) (windows : InWindows g before bytes (pours_of_all (zip (requests_at queue places) es)) old new)
    (commits : List Commit) (after : model.Store) (some : 1 ≤ length commits) (written : AreWrittenBy after commits (model_entries es))
    (numbered : last_number before.last (model_entries es) ≡ after.last) where
  abbrev Step : Image → Type 0
  Step image = SurvivesStep (g.size old) image before.layout store commits after

  rest : IsAtRest (g.size old) (g.story old) before
  rest = vault.rest tells refl

  -- the disk may have been turned,
  turn-leaves : LeavesOnly Step (g.story old) (g.story windows.first.base)
  turn-leaves = elim windows.first.turned [
    | inl still ↦ leaves_stayed Step (g.story old) (g.story windows.first.base) (still.stayed tells)
    | inr turned ↦
        leaves_more (λ image. ReadsAs (g.size old) image before.layout store.objects store.last) Step (g.story old) (g.story windows.first.base) (λ image reads. inl reads)
        (Turn-survives g old windows.first.base before store tells vault stands held turned)
  ]

  -- and holds what it held,
  base-held : AllHeld (g.story windows.first.base).reads before.layout store.objects
  base-held =
      AllHeld-off (g.story old).reads (g.story windows.first.base).reads before.layout store.objects
      (λ at. ((turned-wrote g old windows.first.base before windows.first.turned).wrote tells).reads _
      (λ page. turn-before before.layout (1 - before.log.half) _ (omega arith) (omega arith) page)) held

  base-whole : HasPages (g.story windows.first.base).reads
  base-whole = (g.story windows.first.base).pages (g.story windows.first.base).time (g.story windows.first.base).reads (g.story windows.first.base).own

  base-at : (half gate : ℕ) → IsAtGate (g.size windows.first.base) (g.story windows.first.base).reads (found_of before) half gate
      → IsAtGate (g.size old) (g.story windows.first.base).reads (found_of before) half gate
  base-at half gate at =
      subst (λ (n : ℕ). IsAtGate n (g.story windows.first.base).reads (found_of before) half gate)
      (turned-wrote g old windows.first.base before windows.first.turned).keeps.size at

  -- the body may have been laid,
  first-leaves : LeavesOnly Step (g.story windows.first.base) (g.story windows.mid)
  first-leaves = elim windows.first.start [
    | inl same ↦
        subst (λ (disk : D). LeavesOnly Step (g.story windows.first.base) (g.story disk)) (sym same) (leaves_none Step (g.story windows.first.base))
    | inr start ↦
        (let at = start tells rest in
        leaves_only Step (IsBodyPage windows.first.half windows.first.gate bytes) (g.story windows.first.base) (g.story windows.mid) at.1
        (windows.first.wrote.wrote tells) (λ image same.
        inl (first-reads (g.size old) (g.story windows.first.base).reads image (found_of before) windows.first.half windows.first.gate bytes (model_entries es) base-whole
        (base-at windows.first.half windows.first.gate at.0) frame windows.first.fits store stands.objects stands.last base-held same)))
  ]

  -- and the contents and the gate written.
  second-leaves : LeavesOnly Step (g.story windows.mid) (g.story new)
  second-leaves = elim windows.second [
    | inl same ↦ subst (λ (disk : D). LeavesOnly Step (g.story windows.mid) (g.story disk)) (sym same) (leaves_none Step (g.story windows.mid))
    | inr both ↦
        (let begins = both.0 tells in
        let half : ℕ = windows.first.half in
        let gate : ℕ = windows.first.gate in
        leaves_whole Step (IsSecondPage before.layout (pours_of_all (zip (requests_at queue places) es)) half gate) (g.story windows.mid) (g.story new) begins.settled
        (both.1.wrote tells) (λ image full same.
        second-survives (g.size old) (g.story windows.first.base).reads image (found_of before) half gate bytes (model_entries es) base-whole
        (base-at half gate (begins.at rest).0) frame windows.first.fits store stands.objects stands.last base-held (g.story windows.mid).reads commits after some written numbered
        full (windows.first.wrote.wrote tells).reads begins.stands
        (λ p other. same p (λ page. other (second-poured_page before.layout half gate (requests_at queue places) es p page)))))
  ]

  pub windows-leave : LeavesOnly Step (g.story old) (g.story new)
  windows-leave =
      leaves_then Step (g.story old) (g.story windows.mid) (g.story new)
      (leaves_then Step (g.story old) (g.story windows.first.base) (g.story windows.mid) turn-leaves first-leaves) second-leaves

-- So a crash in a lead leaves the store before it, or that one with a part of the group, whatever the lead may have written.
pub LeadSurvives-written : {D : Type 0} (g : Ghosts D) (before : Memory) (queue : List Request) (old new : D) → IsTrue g.tells → IsVault g old before None → AreWhole queue
    → (new ≡ old) ⊎ MayHaveWritten g before queue (members_of (ledger_in before) queue) old new → LeadSurvives g before queue old new
LeadSurvives-written {D = D} g before queue old new tells vault whole (inl same) store stands held =
    let members : List Member = members_of (ledger_in before) queue in
    let P : Image → Type 0 = λ image. SurvivesStep (g.size old) image before.layout store (commits_of members) (made_by store (committed queue members)) in
    subst (λ (disk : D). LeavesOnly P (g.story old) (g.story disk)) (sym same) (leaves_none P (g.story old))
LeadSurvives-written g before queue old new tells vault whole (inr may) store stands held =
    let ledger : Ledger = ledger_in before in
    let members : List Member = members_of ledger queue in
    let ones : List (Request × Commit) = committed queue members in
    let es : List Entry = may.entries in
    let told : List model_frame.Entry = model_entries es in
    let after : model.Store = made_by store ones in
    let commits : map (λ (one : Request × Commit). one.1) ones ≡ commits_of members =
    commits-committed queue members (omega (arith, members-long ledger (no_tally ledger) (map asked_of queue), length-map queue asked_of)) in
    let count : length ones ≡ length es = sym (AllZip-long IsEntryOf ones es may.are) in
    let numbers : AreNumbered store.last ones = subst (λ (n : ℕ). AreNumbered n ones) stands.last (AreNumbered-members ledger (no_tally ledger) queue) in
    let placed = ArePlaced-members ledger (no_tally ledger) queue whole in
    let made : SameObjects (reading.with_entries before.relation.states told) after.objects =
    subst (λ states. SameObjects states after.objects) (same-entries before.relation.states es)
    (same-made ledger.held before.relation.states store ones es placed may.are stands.objects) in
    windows-leave g before queue may.places es _ old new store tells vault stands held may.frame may.windows (commits_of members) after
    (omega (arith, may.frame.spells.frame.some, length-map es model_entry, count, length-map ones (λ (one : Request × Commit). one.1), ap length commits))
    (subst (λ (cs : List Commit). AreWrittenBy after cs told) commits
    (AreWrittenBy-frame (data_pages before.layout) after before.relation.states ledger.held ones es may.frame.spells.frame placed may.are made))
    (omega (arith, last-counted before.last told may.frame.goes_on may.frame.spells.frame.numbers, length-map es model_entry, made-last store ones numbers, count, stands.last))
