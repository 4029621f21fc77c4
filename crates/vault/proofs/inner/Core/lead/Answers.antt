use Rattle.std.proofs.Common.{◌≡◌, ℕ, ◌∷◌, ◌+◌, ◌≤◌, List, Some, [], ◌++◌, length, map, rules, zip, inr, refl, sym, ◌∙◌, ap, subst, arith}
use Rattle.std.specs.List.{All, AllZip, sum_by}
use Rattle.std.specs.List.Sorted.{IsPermutation}
use Rattle.std.proofs.lemmas.List.Sorted.{IsPermutation-trans}
use Rattle.std.proofs.lemmas.Slice.Zip.{AllZip-long}
use Rattle.std.specs.FinMap.{FinMap, entries}
use Rattle.disk_model.specs.Disks.{OnlyWrites}
use Rattle.disk_model.proofs.DiskLaws.{OnlyWrites-none}
use Rattle.frame_codec.specs.Values.{model_entries}
use Rattle.frame_codec.specs.declared.entry.Entry.{Entry}
use Rattle.group_plan.specs.Plans.{IsEntryOf, committed, ledger_by, members_of, model_reply}
use Rattle.meta_log.specs.Logs.{Parts as LogParts}
use Rattle.recover.proofs.Puttings.{length-spelled}
use Rattle.relation.specs.Changes.{with_entries}
use Rattle.relation.specs.Parts.{Parts as RelationParts, encoded_by, owned_by}
use Rattle.store_model.specs.Frame.{body_bytes, body_spelling}
use Rattle.store_model.specs.Fits.{DoesFrameFit}
use Rattle.store_model.specs.Group.{Commit, commits_of, no_tally, reply_of, taken_blocks}
use Rattle.store_model.specs.Judgement.{Ledger}
use Rattle.store_model.specs.Key.{key_order}
use Rattle.store_model.specs.Layout.{Layout, data_pages}
use Rattle.store_model.specs.Reading.{Found}
use Rattle.store_model.specs.Space.{AreBlocks, Block}
use Rattle.store_model.specs.Standing.{AllStand, SameObjects}
use Rattle.store_model.specs.State.{State, greatest_number}
use Rattle.store_model.specs.World.{states_bytes}
use Rattle.txn.specs.Txns.{NoAppends}
use Rattle.txn.specs.declared.request.Request.{Request}
use Rattle.vault.specs.Keeps.{HasKept, done_of}
use Rattle.vault.specs.declared.keeping.Keeping.{Keeping}
use Rattle.vault.specs.Leads.{IsLeadPage, Led, StoreStands, ledger_in}
use Rattle.vault.specs.Pours.{AreStates, made_by, pour_blocks, pour_pages, pours_of_all, requests_at}
use Rattle.vault.specs.Vaults.{IsNextFrame, IsVault, found_of}
use Rattle.vault.specs.declared.memory.Memory.{Memory}
use Rattle.vault.proofs.Costings.{Costs-led, Costs-none}
use Rattle.vault.proofs.Ledgers.{bytes-alike}
use Rattle.vault.proofs.Keepings.{HasKept-none, HasKept-some}
use Rattle.vault.proofs.Committing.{AreMade-members, left-made, room-made}
use Rattle.vault.proofs.Disks.{commit-objects, commit-stands, none-commits, none-committed, none-counted, none-stands, some-counted}
use Rattle.vault.proofs.Each.{AreAsked-members, each-is}
use Rattle.vault.proofs.Images.{HasImages-same, lead-tells}
use Rattle.vault.proofs.Joins.{requests-whole}
use Rattle.vault.proofs.Makings.{AreNumbered-members}
use Rattle.vault.proofs.Nexts.{IsNextFrame-planned}
use Rattle.vault.proofs.LeadCrashes.{LeadSurvives-written}
use Rattle.vault.proofs.Leading.{lead-apart, lead-blocks, lead-bytes, lead-count, lead-few, lead-last, lead-pages, lead-places, lead-within, lengthen-whole, requests-are}
use Rattle.vault.proofs.Offs.{InWindows-lead, InWindows-off}
use Rattle.vault.proofs.Restings.{LeadRests-led}
use Rattle.vault.proofs.Fitting.{AreFitted-members}
use Rattle.vault.proofs.Sames.{InWindows-same, IsVault-same, IsVault-spaced, found-store}
use Rattle.vault.proofs.inner.Core.lead.Goals as goal

pub returns-in_err-space-clause-keeps : goal.returns-in_err-space-clause-keeps
returns-in_err-space-clause-keeps g c =
    IsVault-same g.D.Disk c.args.self.now.disk c.args.self.now.memory c.take_space.new.self c.args.self.now.shut c.take_space.ensures.same c.take_space.ensures.held c.requires.vault

pub plan_group-requires-clause-lengthen : goal.plan_group-requires-clause-lengthen
plan_group-requires-clause-lengthen g c = lengthen-whole c.take_space.new.self.relation.states c.args.queue.now c.requires.whole

pub returns-in_err-plan-clause-keeps : goal.returns-in_err-plan-clause-keeps
returns-in_err-plan-clause-keeps g c =
    IsVault-same g.D.Disk c.args.self.now.disk c.args.self.now.memory c.take_space.new.self c.args.self.now.shut c.take_space.ensures.same c.take_space.ensures.held c.requires.vault

pub returns-then-is_empty-clause-keeps : goal.returns-then-is_empty-clause-keeps
returns-then-is_empty-clause-keeps g c =
    let mid : Memory = c.take_space.new.self in
    let es : List Entry = c.in_ok-plan.plan.entries in
    let none : length es ≡ 0 = none-counted c.is_empty.result (length es) c.is_empty.ensures c.if-is_empty.true in
    let owned_before : IsPermutation c.in_ok-space.space.owned (owned_by mid.relation.states) =
    subst (λ (r : RelationParts). IsPermutation c.in_ok-space.space.owned (owned_by r.states)) (sym c.take_space.ensures.same.relation) c.in_ok-space.ensures.owned in
    let pages : c.plan_group.new.space.pages ≡ data_pages c.take_space.new.self.layout =
    c.in_ok-plan.ensures.pages ∙ c.in_ok-space.ensures.pages ∙ ap (λ (l : Layout). data_pages l) (sym c.take_space.ensures.same.layout) in
    let no_commits : commits_of (members_of (ledger_by c.take_space.new.self.relation.states c.take_space.new.self.last c.states_bytes.result c.in_ok-space.space.pages) c.args.queue.now) ≡ [] = none-commits (ledger_by c.take_space.new.self.relation.states c.take_space.new.self.last c.states_bytes.result c.in_ok-space.space.pages) c.args.queue.now c.in_ok-plan.plan.entries c.in_ok-plan.plan.members c.in_ok-plan.ensures.planned.entries c.in_ok-plan.ensures.planned.members_are c.requires.whole none in
    let owned : IsPermutation c.plan_group.new.space.owned (owned_by mid.relation.states) =
    IsPermutation-trans c.plan_group.new.space.owned c.in_ok-space.space.owned (owned_by mid.relation.states)
    (subst (λ (commits : List Commit). IsPermutation c.plan_group.new.space.owned (taken_blocks commits ++ c.in_ok-space.space.owned)) no_commits c.in_ok-plan.ensures.space) owned_before in
    IsVault-spaced g.D.Disk c.args.self.now.disk mid c.args.self.now.shut c.plan_group.new.space
    (IsVault-same g.D.Disk c.args.self.now.disk c.args.self.now.memory mid c.args.self.now.shut c.take_space.ensures.same c.take_space.ensures.held c.requires.vault) owned pages

pub returns-then-is_empty-clause-led : goal.returns-then-is_empty-clause-led
returns-then-is_empty-clause-led g c store stands =
    let same = c.take_space.ensures.same in
    let queue = c.args.queue.now in
    let ledger : Ledger = (ledger_by c.take_space.new.self.relation.states c.take_space.new.self.last c.states_bytes.result c.in_ok-space.space.pages) in
    let ledger_is : ledger ≡ ledger_in c.args.self.now.memory =
    λ i. ledger_by ((same.relation i).states) (same.last i) ((c.states_bytes.ensures.value ∙ ap (λ (l : Layout). states_bytes l) same.layout) i) (c.in_ok-space.ensures.pages i) in
    let mid : Memory = c.take_space.new.self in
    let es : List Entry = c.in_ok-plan.plan.entries in
    let places = c.in_ok-plan.plan.members in
    let planned = c.in_ok-plan.ensures.planned in
    let now : Memory = record { layout = mid.layout; relation = mid.relation; space = Some c.plan_group.new.space; log = mid.log; last = mid.last } in
    let none : length es ≡ 0 = none-counted c.is_empty.result (length es) c.is_empty.ensures c.if-is_empty.true in
    let stands_mid : StoreStands mid store =
    record { objects = subst (λ (r : RelationParts). SameObjects r.states store.objects) (sym same.relation) stands.objects; last = same.last ∙ stands.last } in
    let disk = c.args.self.now.disk in
    let none_made = none-committed ledger queue es places planned.entries planned.members_are c.requires.whole none in
    let commits : List Commit = commits_of (members_of ledger queue) in
    subst (λ (l : Ledger). Led g.D.Disk disk disk c.args.self.now.memory store queue (members_of l queue) c.in_ok-plan.plan.replies now) ledger_is
    (record {
      replies_are = planned.replies;
      stands = none-stands ledger queue es places planned.entries planned.members_are c.requires.whole now store none (record { objects = stands_mid.objects; last = stands_mid.last });
      objects = λ tells from stand.
          subst (λ (ones : List (Request × Commit)). AllStand from (g.D.Disk.story disk).reads c.args.self.now.memory.layout (made_by store ones).objects) (sym none_made) stand;
      wrote = OnlyWrites-none g.D.Disk (IsLeadPage c.args.self.now.memory.layout (taken_blocks commits)) disk;
      costs = λ cost gate.
          Costs-none g.D.Disk disk now store commits cost (none-commits ledger queue es places planned.entries planned.members_are c.requires.whole none)
          (ap (λ (l : LogParts). l.gate) same.log ∙ sym gate);
    })

pub commit-requires-clause-vault : goal.commit-requires-clause-vault
commit-requires-clause-vault g c =
    IsVault-same g.D.Disk c.args.self.now.disk c.args.self.now.memory c.take_space.new.self c.args.self.now.shut c.take_space.ensures.same c.take_space.ensures.held c.requires.vault

pub commit-requires-clause-none : goal.commit-requires-clause-none
commit-requires-clause-none g c = c.take_space.ensures.none

pub commit-requires-clause-places : goal.commit-requires-clause-places
commit-requires-clause-places g c = lead-places (ledger_by c.take_space.new.self.relation.states c.take_space.new.self.last c.states_bytes.result c.in_ok-space.space.pages) c.args.queue.now c.in_ok-plan.plan.entries c.in_ok-plan.plan.members c.in_ok-plan.ensures.planned.entries c.in_ok-plan.ensures.planned.members_are

pub commit-requires-clause-within : goal.commit-requires-clause-within
commit-requires-clause-within g c =
    let pages : c.plan_group.new.space.pages ≡ data_pages c.take_space.new.self.layout =
    c.in_ok-plan.ensures.pages ∙ c.in_ok-space.ensures.pages ∙ ap (λ (l : Layout). data_pages l) (sym c.take_space.ensures.same.layout) in
    lead-within (ledger_by c.take_space.new.self.relation.states c.take_space.new.self.last c.states_bytes.result c.in_ok-space.space.pages) c.args.queue.now c.in_ok-plan.plan.entries c.in_ok-plan.plan.members c.in_ok-plan.ensures.planned.entries c.in_ok-plan.ensures.planned.members_are c.requires.whole c.plan_group.new.space.owned c.in_ok-space.space.owned c.in_ok-plan.ensures.space
    c.plan_group.new.space.pages (data_pages c.take_space.new.self.layout) c.rules.ensures.blocks pages

pub commit-requires-clause-apart : goal.commit-requires-clause-apart
commit-requires-clause-apart g c =
    lead-apart (ledger_by c.take_space.new.self.relation.states c.take_space.new.self.last c.states_bytes.result c.in_ok-space.space.pages) c.args.queue.now c.in_ok-plan.plan.entries c.in_ok-plan.plan.members c.in_ok-plan.ensures.planned.entries c.in_ok-plan.ensures.planned.members_are c.requires.whole c.plan_group.new.space.owned c.in_ok-space.space.owned c.in_ok-plan.ensures.space c.rules.ensures.apart

pub commit-requires-clause-room : goal.commit-requires-clause-room
commit-requires-clause-room g c =
    let mid : Memory = c.take_space.new.self in
    let states = mid.relation.states in
    let es : List Entry = c.in_ok-plan.plan.entries in
    let held = c.take_space.ensures.held in
    let room = c.states_bytes.result in
    let commits : List Commit = commits_of (members_of (ledger_by c.take_space.new.self.relation.states c.take_space.new.self.last c.states_bytes.result c.in_ok-space.space.pages) c.args.queue.now) in
    let known : AreStates states = λ key state there. (held.half.tuples key state there).stands in
    let few : encoded_by states ≤ room = omega (arith, length-spelled (entries states), held.half.room, c.states_bytes.ensures.value) in
    let made = AreMade-members states mid.last room c.in_ok-space.space.pages c.args.queue.now es c.in_ok-plan.ensures.planned.entries c.requires.whole known few in
    room-made room states commits es made (omega (arith, c.states_bytes.ensures.most))

pub returns-in_err-commit-clause-wrote : goal.returns-in_err-commit-clause-wrote
returns-in_err-commit-clause-wrote g c =
    let same = c.take_space.ensures.same in
    let ledger : Ledger = (ledger_by c.take_space.new.self.relation.states c.take_space.new.self.last c.states_bytes.result c.in_ok-space.space.pages) in
    let ledger_is : ledger ≡ ledger_in c.args.self.now.memory =
    λ i. ledger_by ((same.relation i).states) (same.last i) ((c.states_bytes.ensures.value ∙ ap (λ (l : Layout). states_bytes l) same.layout) i) (c.in_ok-space.ensures.pages i) in
    let mid : Memory = c.take_space.new.self in
    let es : List Entry = c.in_ok-plan.plan.entries in
    let pours = pours_of_all (zip (requests_at c.args.queue.now c.in_ok-plan.plan.members) es) in
    inr (record {
      entries = es;
      places = c.in_ok-plan.plan.members;
      are = subst (λ (l : Ledger). AllZip IsEntryOf (committed c.args.queue.now (members_of l c.args.queue.now)) es) ledger_is c.in_ok-plan.ensures.planned.entries;
      at = lead-places ledger c.args.queue.now c.in_ok-plan.plan.entries c.in_ok-plan.plan.members c.in_ok-plan.ensures.planned.entries c.in_ok-plan.ensures.planned.members_are;
      frame = subst (λ (found : Found). IsNextFrame found (body_spelling (model_entries es)) (model_entries es)) (sym (found-store c.args.self.now.memory mid same))
          c.commit.ensures.frame;
      windows = InWindows-same g.D.Disk (body_spelling (model_entries es)) pours c.args.self.now.disk c.commit.new.self.disk mid c.args.self.now.memory same.layout same.log
          (sym (found-store c.args.self.now.memory mid same)) c.commit.ensures.windows;
    })

pub returns-clause-wrote : goal.returns-clause-wrote
returns-clause-wrote g c =
    let same = c.take_space.ensures.same in
    let ledger : Ledger = (ledger_by c.take_space.new.self.relation.states c.take_space.new.self.last c.states_bytes.result c.in_ok-space.space.pages) in
    let ledger_is : ledger ≡ ledger_in c.args.self.now.memory =
    λ i. ledger_by ((same.relation i).states) (same.last i) ((c.states_bytes.ensures.value ∙ ap (λ (l : Layout). states_bytes l) same.layout) i) (c.in_ok-space.ensures.pages i) in
    let mid : Memory = c.take_space.new.self in
    let es : List Entry = c.in_ok-plan.plan.entries in
    let pours = pours_of_all (zip (requests_at c.args.queue.now c.in_ok-plan.plan.members) es) in
    inr (record {
      entries = es;
      places = c.in_ok-plan.plan.members;
      are = subst (λ (l : Ledger). AllZip IsEntryOf (committed c.args.queue.now (members_of l c.args.queue.now)) es) ledger_is c.in_ok-plan.ensures.planned.entries;
      at = lead-places ledger c.args.queue.now c.in_ok-plan.plan.entries c.in_ok-plan.plan.members c.in_ok-plan.ensures.planned.entries c.in_ok-plan.ensures.planned.members_are;
      frame = subst (λ (found : Found). IsNextFrame found (body_spelling (model_entries es)) (model_entries es)) (sym (found-store c.args.self.now.memory mid same))
          c.commit.ensures.frame;
      windows = InWindows-same g.D.Disk (body_spelling (model_entries es)) pours c.args.self.now.disk c.commit.new.self.disk mid c.args.self.now.memory same.layout same.log
          (sym (found-store c.args.self.now.memory mid same)) c.commit.ensures.windows;
    })

pub give_back_all-requires-clause-owned : goal.give_back_all-requires-clause-owned
give_back_all-requires-clause-owned g c =
    let mid : Memory = c.take_space.new.self in
    let states = mid.relation.states in
    let es : List Entry = c.in_ok-plan.plan.entries in
    let held = c.take_space.ensures.held in
    let room = c.states_bytes.result in
    let commits : List Commit = commits_of (members_of (ledger_by c.take_space.new.self.relation.states c.take_space.new.self.last c.states_bytes.result c.in_ok-space.space.pages) c.args.queue.now) in
    let known : AreStates states = λ key state there. (held.half.tuples key state there).stands in
    let few : encoded_by states ≤ room = omega (arith, length-spelled (entries states), held.half.room, c.states_bytes.ensures.value) in
    let made = AreMade-members states mid.last room c.in_ok-space.space.pages c.args.queue.now es c.in_ok-plan.ensures.planned.entries c.requires.whole known few in
    let owned_before : IsPermutation c.in_ok-space.space.owned (owned_by states) =
    subst (λ (r : RelationParts). IsPermutation c.in_ok-space.space.owned (owned_by r.states)) (sym c.take_space.ensures.same.relation) c.in_ok-space.ensures.owned in
    let left = left-made room states commits es made c.in_ok-space.space.owned c.plan_group.new.space.owned c.in_ok-plan.plan.frees owned_before c.in_ok-plan.ensures.space
    c.in_ok-plan.ensures.planned.frees in
    (owned_by (with_entries states es), left)

pub returns-clause-keeps : goal.returns-clause-keeps
returns-clause-keeps g c =
    let mid : Memory = c.take_space.new.self in
    let states = mid.relation.states in
    let es : List Entry = c.in_ok-plan.plan.entries in
    let held = c.take_space.ensures.held in
    let room = c.states_bytes.result in
    let commits : List Commit = commits_of (members_of (ledger_by c.take_space.new.self.relation.states c.take_space.new.self.last c.states_bytes.result c.in_ok-space.space.pages) c.args.queue.now) in
    let known : AreStates states = λ key state there. (held.half.tuples key state there).stands in
    let few : encoded_by states ≤ room = omega (arith, length-spelled (entries states), held.half.room, c.states_bytes.ensures.value) in
    let made = AreMade-members states mid.last room c.in_ok-space.space.pages c.args.queue.now es c.in_ok-plan.ensures.planned.entries c.requires.whole known few in
    let owned_before : IsPermutation c.in_ok-space.space.owned (owned_by states) =
    subst (λ (r : RelationParts). IsPermutation c.in_ok-space.space.owned (owned_by r.states)) (sym c.take_space.ensures.same.relation) c.in_ok-space.ensures.owned in
    let left = left-made room states commits es made c.in_ok-space.space.owned c.plan_group.new.space.owned c.in_ok-plan.plan.frees owned_before c.in_ok-plan.ensures.space
    c.in_ok-plan.ensures.planned.frees in
    let pages : c.plan_group.new.space.pages ≡ data_pages c.take_space.new.self.layout =
    c.in_ok-plan.ensures.pages ∙ c.in_ok-space.ensures.pages ∙ ap (λ (l : Layout). data_pages l) (sym c.take_space.ensures.same.layout) in
    let now : Memory = c.commit.new.self.memory in
    let states_are : now.relation.states ≡ with_entries states es = c.in_ok-commit.ensures.states in
    IsVault-spaced g.D.Disk c.commit.new.self.disk now c.commit.new.self.shut c.give_back_all.new.space c.commit.ensures.keeps
    (subst (λ (m : FinMap key_order State). IsPermutation c.give_back_all.new.space.owned (owned_by m)) (sym states_are)
    (c.give_back_all.ensures.owned (owned_by (with_entries states es)) left))
    (c.give_back_all.ensures.pages ∙ pages ∙ ap (λ (l : Layout). data_pages l) (sym c.commit.ensures.layout))

pub returns-clause-led : goal.returns-clause-led
returns-clause-led g c store stands =
    let same = c.take_space.ensures.same in
    let queue = c.args.queue.now in
    let ledger : Ledger = (ledger_by c.take_space.new.self.relation.states c.take_space.new.self.last c.states_bytes.result c.in_ok-space.space.pages) in
    let ledger_is : ledger ≡ ledger_in c.args.self.now.memory =
    λ i. ledger_by ((same.relation i).states) (same.last i) ((c.states_bytes.ensures.value ∙ ap (λ (l : Layout). states_bytes l) same.layout) i) (c.in_ok-space.ensures.pages i) in
    let before : Memory = c.args.self.now.memory in
    let mid : Memory = c.take_space.new.self in
    let es : List Entry = c.in_ok-plan.plan.entries in
    let places = c.in_ok-plan.plan.members in
    let planned = c.in_ok-plan.ensures.planned in
    let disk = g.D.Disk in
    let old = c.args.self.now.disk in
    let new = c.commit.new.self.disk in
    let made : Memory = c.commit.new.self.memory in
    let now : Memory = record { layout = made.layout; relation = made.relation; space = Some c.give_back_all.new.space; log = made.log; last = made.last } in
    let pours = pours_of_all (zip (requests_at queue places) es) in
    let commits : List Commit = commits_of (members_of ledger queue) in
    let stands_mid : StoreStands mid store =
    record { objects = subst (λ (r : RelationParts). SameObjects r.states store.objects) (sym same.relation) stands.objects; last = same.last ∙ stands.last } in
    let owned_before : IsPermutation c.in_ok-space.space.owned (owned_by mid.relation.states) =
    subst (λ (r : RelationParts). IsPermutation c.in_ok-space.space.owned (owned_by r.states)) (sym c.take_space.ensures.same.relation) c.in_ok-space.ensures.owned in
    let pages : c.plan_group.new.space.pages ≡ data_pages mid.layout =
    c.in_ok-plan.ensures.pages ∙ c.in_ok-space.ensures.pages ∙ ap (λ (l : Layout). data_pages l) (sym same.layout) in
    let within : AreBlocks (data_pages mid.layout) (pour_blocks pours) =
    lead-within ledger queue es places planned.entries planned.members_are c.requires.whole c.plan_group.new.space.owned c.in_ok-space.space.owned c.in_ok-plan.ensures.space
    c.plan_group.new.space.pages (data_pages mid.layout) c.rules.ensures.blocks pages in
    let count : length es ≡ length commits = lead-count ledger queue es places planned.entries planned.members_are in
    let some : 1 ≤ length es = some-counted c.is_empty.result (length es) c.is_empty.ensures c.if-is_empty.false in
    subst (λ (l : Ledger). Led disk old new before store queue (members_of l queue) c.in_ok-plan.plan.replies now) ledger_is
    (record {
      replies_are = planned.replies;
      stands = commit-stands ledger queue es places planned.entries planned.members_are c.requires.whole mid now store stands_mid refl c.in_ok-commit.ensures.states c.in_ok-commit.ensures.last;
      objects = λ tells from stand.
          subst (λ (layout : Layout). AllStand from (disk.story new).reads layout (made_by store (committed queue (members_of ledger queue))).objects) same.layout
          (commit-objects ledger queue es places planned.entries planned.members_are c.requires.whole mid.layout store (disk.story old).reads (disk.story new).reads from mid.relation.states
          c.plan_group.new.space.owned c.in_ok-space.space.owned stands_mid.objects (record { moves = c.in_ok-plan.ensures.space; before_is = owned_before; apart = c.rules.ensures.apart })
          (λ at free. InWindows-off disk mid (body_spelling (model_entries es)) pours old new c.commit.ensures.windows tells at free)
          (c.in_ok-commit.ensures.poured tells)
          (subst (λ (layout : Layout). AllStand from (disk.story old).reads layout store.objects) (sym same.layout) stand));
      wrote =
          subst (λ (layout : Layout). OnlyWrites disk (IsLeadPage layout (taken_blocks commits)) old new) same.layout
          (subst (λ (bs : List Block). OnlyWrites disk (IsLeadPage mid.layout bs) old new) (lead-blocks ledger queue es places planned.entries planned.members_are c.requires.whole)
          (InWindows-lead disk mid (body_spelling (model_entries es)) pours old new c.commit.ensures.windows within));
      costs = λ cost gate.
          Costs-led disk old new now store commits cost mid.log.gate (body_bytes (model_entries es)) (encoded_by mid.relation.states) (sum_by pour_pages pours) (omega (arith, count, some))
          (gate ∙ sym (ap (λ (l : LogParts). l.gate) same.log)) (lead-bytes ledger queue es places planned.entries planned.members_are c.requires.whole)
          (bytes-alike mid.relation.states store.objects stands_mid.objects) (lead-pages ledger queue es places planned.entries planned.members_are c.requires.whole)
          c.in_ok-commit.ensures.gate (λ tells. c.in_ok-commit.ensures.calls tells);
    })

pub commit-requires-clause-frame : goal.commit-requires-clause-frame
commit-requires-clause-frame g c =
    let mid : Memory = c.take_space.new.self in
    let states = mid.relation.states in
    let es : List Entry = c.in_ok-plan.plan.entries in
    let held = c.take_space.ensures.held in
    let room = c.states_bytes.result in
    let queue = c.args.queue.now in
    let places = c.in_ok-plan.plan.members in
    let ledger : Ledger = (ledger_by c.take_space.new.self.relation.states c.take_space.new.self.last c.states_bytes.result c.in_ok-space.space.pages) in
    let ones : List (Request × Commit) = committed queue (members_of ledger queue) in
    let known : AreStates states = λ key state there. (held.half.tuples key state there).stands in
    let few : encoded_by states ≤ room = omega (arith, length-spelled (entries states), held.half.room, c.states_bytes.ensures.value) in
    let most : mid.last + length es ≤ greatest_number = lead-last ledger c.args.queue.now c.in_ok-plan.plan.entries c.in_ok-plan.plan.members c.in_ok-plan.ensures.planned.entries c.in_ok-plan.ensures.planned.members_are mid.last refl held.half.most in
    let count : length ones ≡ length es = sym (AllZip-long IsEntryOf ones es c.in_ok-plan.ensures.planned.entries) in
    let are : requests_at queue places ≡ map (λ one. one.0) ones = requests-are ledger c.args.queue.now c.in_ok-plan.plan.entries c.in_ok-plan.plan.members c.in_ok-plan.ensures.planned.entries c.in_ok-plan.ensures.planned.members_are in
    let owned_before : IsPermutation c.in_ok-space.space.owned (owned_by states) =
    subst (λ (r : RelationParts). IsPermutation c.in_ok-space.space.owned (owned_by r.states)) (sym c.take_space.ensures.same.relation) c.in_ok-space.ensures.owned in
    let pages : c.plan_group.new.space.pages ≡ data_pages mid.layout =
    c.in_ok-plan.ensures.pages ∙ c.in_ok-space.ensures.pages ∙ ap (λ (l : Layout). data_pages l) (sym c.take_space.ensures.same.layout) in
    let within : AreBlocks (data_pages mid.layout) (pour_blocks (pours_of_all (zip (requests_at queue places) es))) =
    lead-within ledger c.args.queue.now c.in_ok-plan.plan.entries c.in_ok-plan.plan.members c.in_ok-plan.ensures.planned.entries c.in_ok-plan.ensures.planned.members_are c.requires.whole c.plan_group.new.space.owned c.in_ok-space.space.owned c.in_ok-plan.ensures.space
    c.plan_group.new.space.pages (data_pages mid.layout) c.rules.ensures.blocks pages in
    let each = each-is (data_pages mid.layout) mid.last ones es c.in_ok-plan.ensures.planned.entries (AreAsked-members ledger (no_tally ledger) queue)
    (AreNumbered-members ledger (no_tally ledger) queue) (omega (arith, most, count))
    (subst (λ (rs : List Request). All (λ request. NoAppends request.writes) rs) are (requests-whole queue places c.requires.whole)) c.entries_rules.ensures
    (subst (λ (rs : List Request). AreBlocks (data_pages mid.layout) (pour_blocks (pours_of_all (zip rs es)))) are within) in
    IsNextFrame-planned states mid.last room c.in_ok-space.space.pages known queue es places c.in_ok-plan.ensures.planned.entries c.in_ok-plan.ensures.planned.members_are
    c.requires.whole mid.layout c.plan_group.new.space.owned c.in_ok-space.space.owned c.in_ok-plan.ensures.space owned_before c.rules.ensures.apart few
    (omega (arith, c.states_bytes.ensures.value)) c.requires.few (some-counted c.is_empty.result (length es) c.is_empty.ensures c.if-is_empty.false) each

pub leave-requires : goal.leave-requires
leave-requires g c = omega (arith, c.len.ensures, lead-few (ledger_by c.take_space.new.self.relation.states c.take_space.new.self.last c.states_bytes.result c.in_ok-space.space.pages) c.args.queue.now c.in_ok-plan.plan.entries c.in_ok-plan.plan.members c.in_ok-plan.ensures.planned.entries c.in_ok-plan.ensures.planned.members_are c.in_ok-plan.plan.replies c.in_ok-plan.ensures.planned.replies)

pub returns-then-is_empty-clause-few : goal.returns-then-is_empty-clause-few
returns-then-is_empty-clause-few g c = lead-few (ledger_by c.take_space.new.self.relation.states c.take_space.new.self.last c.states_bytes.result c.in_ok-space.space.pages) c.args.queue.now c.in_ok-plan.plan.entries c.in_ok-plan.plan.members c.in_ok-plan.ensures.planned.entries c.in_ok-plan.ensures.planned.members_are c.in_ok-plan.plan.replies c.in_ok-plan.ensures.planned.replies

pub leave-requires-2 : goal.leave-requires-2
leave-requires-2 g c = omega (arith, c.len-2.ensures, lead-few (ledger_by c.take_space.new.self.relation.states c.take_space.new.self.last c.states_bytes.result c.in_ok-space.space.pages) c.args.queue.now c.in_ok-plan.plan.entries c.in_ok-plan.plan.members c.in_ok-plan.ensures.planned.entries c.in_ok-plan.ensures.planned.members_are c.in_ok-plan.plan.replies c.in_ok-plan.ensures.planned.replies)

pub returns-clause-few : goal.returns-clause-few
returns-clause-few g c = lead-few (ledger_by c.take_space.new.self.relation.states c.take_space.new.self.last c.states_bytes.result c.in_ok-space.space.pages) c.args.queue.now c.in_ok-plan.plan.entries c.in_ok-plan.plan.members c.in_ok-plan.ensures.planned.entries c.in_ok-plan.ensures.planned.members_are c.in_ok-plan.plan.replies c.in_ok-plan.ensures.planned.replies

pub returns-clause-kept : goal.returns-clause-kept
returns-clause-kept g c =
    let same = c.take_space.ensures.same in
    let queue = c.args.queue.now in
    let ledger : Ledger = (ledger_by c.take_space.new.self.relation.states c.take_space.new.self.last c.states_bytes.result c.in_ok-space.space.pages) in
    let ledger_is : ledger ≡ ledger_in c.args.self.now.memory =
    λ i. ledger_by ((same.relation i).states) (same.last i) ((c.states_bytes.ensures.value ∙ ap (λ (l : Layout). states_bytes l) same.layout) i) (c.in_ok-space.ensures.pages i) in
    let es : List Entry = c.in_ok-plan.plan.entries in
    let places = c.in_ok-plan.plan.members in
    let planned = c.in_ok-plan.ensures.planned in
    let ones : List (Request × Commit) = committed queue (members_of ledger queue) in
    let old : Keeping = c.args.self.now.keeping in
    let new : Keeping = c.commit.new.self.keeping in
    let made : Memory = c.commit.new.self.memory in
    let count : length ones ≡ length es = sym (AllZip-long IsEntryOf ones es planned.entries) in
    let some : 1 ≤ length es = some-counted c.is_empty.result (length es) c.is_empty.ensures c.if-is_empty.false in
    subst (λ (l : Ledger). HasKept (committed queue (members_of l queue)) made.last old new) ledger_is
    (HasKept-some ones made.last old new (omega (arith, count, some))
    (record {
      entries = es;
      are = planned.entries;
      history = c.in_ok-commit.ensures.history
          ∙ ap (λ (rs : List Request). old.history ++ map done_of (zip rs es)) (requests-are ledger queue es places planned.entries planned.members_are);
      groups = c.in_ok-commit.ensures.groups ∙ ap (λ (n : ℕ). old.groups ++ n ∷ []) (sym c.in_ok-commit.ensures.last);
      opened = c.commit.ensures.opened;
      failed = c.in_ok-commit.ensures.unfailed;
    }))

pub returns-then-is_empty-clause-replied : goal.returns-then-is_empty-clause-replied
returns-then-is_empty-clause-replied g c =
    let same = c.take_space.ensures.same in
    let ledger_is : (ledger_by c.take_space.new.self.relation.states c.take_space.new.self.last c.states_bytes.result c.in_ok-space.space.pages) ≡ ledger_in c.args.self.now.memory =
    λ i. ledger_by ((same.relation i).states) (same.last i) ((c.states_bytes.ensures.value ∙ ap (λ (l : Layout). states_bytes l) same.layout) i) (c.in_ok-space.ensures.pages i) in
    subst (λ (l : Ledger). map model_reply c.in_ok-plan.plan.replies ≡ map reply_of (members_of l c.args.queue.now)) ledger_is c.in_ok-plan.ensures.planned.replies

pub returns-clause-replied : goal.returns-clause-replied
returns-clause-replied g c =
    let same = c.take_space.ensures.same in
    let ledger_is : (ledger_by c.take_space.new.self.relation.states c.take_space.new.self.last c.states_bytes.result c.in_ok-space.space.pages) ≡ ledger_in c.args.self.now.memory =
    λ i. ledger_by ((same.relation i).states) (same.last i) ((c.states_bytes.ensures.value ∙ ap (λ (l : Layout). states_bytes l) same.layout) i) (c.in_ok-space.ensures.pages i) in
    subst (λ (l : Ledger). map model_reply c.in_ok-plan.plan.replies ≡ map reply_of (members_of l c.args.queue.now)) ledger_is c.in_ok-plan.ensures.planned.replies

pub returns-then-is_empty-clause-idle : goal.returns-then-is_empty-clause-idle
returns-then-is_empty-clause-idle g c none =
    let same = c.take_space.ensures.same in
    record {
      disk = refl;
      layout = same.layout;
      states = ap (λ (r : RelationParts). r.states) same.relation;
      log = same.log;
      last = same.last;
      shut = refl;
    }

pub returns-clause-idle : goal.returns-clause-idle
returns-clause-idle g c none =
    let same = c.take_space.ensures.same in
    let queue = c.args.queue.now in
    let ledger : Ledger = (ledger_by c.take_space.new.self.relation.states c.take_space.new.self.last c.states_bytes.result c.in_ok-space.space.pages) in
    let ledger_is : ledger ≡ ledger_in c.args.self.now.memory =
    λ i. ledger_by ((same.relation i).states) (same.last i) ((c.states_bytes.ensures.value ∙ ap (λ (l : Layout). states_bytes l) same.layout) i) (c.in_ok-space.ensures.pages i) in
    let es : List Entry = c.in_ok-plan.plan.entries in
    let planned = c.in_ok-plan.ensures.planned in
    let count : length es ≡ length (commits_of (members_of ledger queue)) = lead-count ledger queue es c.in_ok-plan.plan.members planned.entries planned.members_are in
    let zero_commits : length (commits_of (members_of ledger queue)) ≡ 0 =
    ap (λ (l : Ledger). length (commits_of (members_of l queue))) ledger_is ∙ ap (λ (commits : List Commit). length commits) none in
    absurd (omega (arith, count, zero_commits, some-counted c.is_empty.result (length es) c.is_empty.ensures c.if-is_empty.false))

pub returns-then-is_empty-clause-kept : goal.returns-then-is_empty-clause-kept
returns-then-is_empty-clause-kept g c =
    let same = c.take_space.ensures.same in
    let queue = c.args.queue.now in
    let ledger : Ledger = (ledger_by c.take_space.new.self.relation.states c.take_space.new.self.last c.states_bytes.result c.in_ok-space.space.pages) in
    let ledger_is : ledger ≡ ledger_in c.args.self.now.memory =
    λ i. ledger_by ((same.relation i).states) (same.last i) ((c.states_bytes.ensures.value ∙ ap (λ (l : Layout). states_bytes l) same.layout) i) (c.in_ok-space.ensures.pages i) in
    let es : List Entry = c.in_ok-plan.plan.entries in
    let planned = c.in_ok-plan.ensures.planned in
    let last : ℕ = c.take_space.new.self.last in
    let keeping : Keeping = c.args.self.now.keeping in
    subst (λ (l : Ledger). HasKept (committed queue (members_of l queue)) last keeping keeping) ledger_is
    (HasKept-none (committed queue (members_of ledger queue)) last keeping
    (none-committed ledger queue es c.in_ok-plan.plan.members planned.entries planned.members_are c.requires.whole
    (none-counted c.is_empty.result (length es) c.is_empty.ensures c.if-is_empty.true)))

pub returns-then-is_empty-clause-rests : goal.returns-then-is_empty-clause-rests
returns-then-is_empty-clause-rests g c tells =
    let mid : Memory = c.take_space.new.self in
    let now : Memory = record { layout = mid.layout; relation = mid.relation; space = Some c.plan_group.new.space; log = mid.log; last = mid.last } in
    LeadRests-led g.D.Disk c.args.self.now.memory now c.args.self.now.shut c.args.queue.now c.in_ok-plan.plan.replies c.args.self.now.disk c.args.self.now.disk tells
    c.requires.vault.held (returns-then-is_empty-clause-keeps g c) (search rules) c.take_space.ensures.same.layout (returns-then-is_empty-clause-led g c)

pub returns-clause-rests : goal.returns-clause-rests
returns-clause-rests g c tells =
    let made : Memory = c.commit.new.self.memory in
    let now : Memory = record { layout = made.layout; relation = made.relation; space = Some c.give_back_all.new.space; log = made.log; last = made.last } in
    LeadRests-led g.D.Disk c.args.self.now.memory now c.commit.new.self.shut c.args.queue.now c.in_ok-plan.plan.replies c.args.self.now.disk c.commit.new.self.disk tells
    c.requires.vault.held (returns-clause-keeps g c) c.in_ok-commit.ensures.ok (c.commit.ensures.layout ∙ c.take_space.ensures.same.layout) (returns-clause-led g c)

pub returns-in_err-commit-clause-survives : goal.returns-in_err-commit-clause-survives
returns-in_err-commit-clause-survives g c tells yet =
    LeadSurvives-written g.D.Disk c.args.self.now.memory c.args.queue.now c.args.self.now.disk c.commit.new.self.disk tells
    (subst (IsVault g.D.Disk c.args.self.now.disk c.args.self.now.memory) yet c.requires.vault) c.requires.whole (returns-in_err-commit-clause-wrote g c)

pub returns-clause-survives : goal.returns-clause-survives
returns-clause-survives g c tells yet =
    LeadSurvives-written g.D.Disk c.args.self.now.memory c.args.queue.now c.args.self.now.disk c.commit.new.self.disk tells
    (subst (IsVault g.D.Disk c.args.self.now.disk c.args.self.now.memory) yet c.requires.vault) c.requires.whole (returns-clause-wrote g c)

pub returns-in_err-commit-clause-images : goal.returns-in_err-commit-clause-images
returns-in_err-commit-clause-images g c tells since images =
    c.in_err-commit.ensures.images tells since (HasImages-same g.D.Disk c.args.self.now c.take_space.new.self since tells c.take_space.ensures.same images) tt

pub returns-clause-images : goal.returns-clause-images
returns-clause-images g c tells since images =
    let old = c.args.self.now in
    let new = c.commit.new.self in
    let vault = subst (IsVault g.D.Disk old.disk old.memory) (search rules) c.requires.vault in
    let later = subst (IsVault g.D.Disk new.disk new.memory) c.in_ok-commit.ensures.ok c.commit.ensures.keeps in
    let told = lead-tells g.D.Disk old.memory new.memory c.args.queue.now old.disk new.disk tells vault later (returns-clause-rests g c tells) images.keeps.told in
    let same = c.take_space.ensures.same in
    let mid : Memory = c.take_space.new.self in
    let es : List Entry = c.in_ok-plan.plan.entries in
    let ledger : Ledger = (ledger_by mid.relation.states mid.last c.states_bytes.result c.in_ok-space.space.pages) in
    let ledger_is : ledger ≡ ledger_in old.memory =
    λ i. ledger_by ((same.relation i).states) (same.last i) ((c.states_bytes.ensures.value ∙ ap (λ (l : Layout). states_bytes l) same.layout) i) (c.in_ok-space.ensures.pages i) in
    let are = subst (λ (l : Ledger). AllZip IsEntryOf (committed c.args.queue.now (members_of l c.args.queue.now)) es) ledger_is c.in_ok-plan.ensures.planned.entries in
    let fits : DoesFrameFit (found_of mid) (model_entries es) =
    subst (λ (f : Found). DoesFrameFit f (model_entries es)) (found-store old.memory mid same)
    (AreFitted-members (ledger_in old.memory) (no_tally (ledger_in old.memory)) c.args.queue.now es c.requires.whole are) in
    let made = c.in_ok-commit.ensures.images tells since (HasImages-same g.D.Disk old mid since tells same images) (told, fits) in
    record { keeps = made.keeps; none = made.none }
