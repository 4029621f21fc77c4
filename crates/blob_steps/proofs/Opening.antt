-- A script over a disk that is formatted or opened first.
use Rattle.std.proofs.Common.{◌≡◌, ◌⊎◌, ℕ, ◌+◌, ◌<◌, ◌≤◌, IsTrue, Bool, List, [], Option, Some, None, inl, inr, refl, sym, ◌∙◌, ap, subst, arith}
use Rattle.std.specs.FinMap.{empty, get, get-empty}
use Rattle.disk_model.specs.Disks.{OnlyWrites}
use Rattle.disk_model.specs.declared.disk.Disk.{Ghosts}
use Rattle.recover.specs.Openings.{BeginsAt, IsMetadata, LeavesFound, LeavesFrom, MayLeaveFound}
use Rattle.recover.specs.Turns.{IsTurnPage, found_by}
use Rattle.blob_script.specs.declared.status.Status.{Status}
use Rattle.blob_script.specs.declared.status.Status.TheVariants as status
use Rattle.store_model.specs.Cost.{Cost, Spent, no_cost, with_format, with_lines}
use Rattle.store_model.specs.Disk.{Calls, Image, Took}
use Rattle.store_model.specs.Half.{picked}
use Rattle.store_model.specs.Images.{Wrote, time_of}
use Rattle.store_model.specs.Key.{key_order}
use Rattle.store_model.specs.Layout.{Layout, data_page}
use Rattle.store_model.specs.Play.{taken_in}
use Rattle.store_model.specs.Reading.{Found, Opened, Reads}
use Rattle.store_model.specs.Report.{Damage}
use Rattle.store_model.specs.Script.{lines_of}
use Rattle.store_model.specs.World.{world_over}
use Rattle.store_model.proofs.SurvivalLaws.{found-one}
use Rattle.store_model.specs.State.{State}
use Rattle.store_model.specs.Store.{Object, Store, empty_store}
use Rattle.store_model.specs.Survival.{BothTold, ReadsAs}
use Rattle.vault.proofs.Crashes.{From-survives, Opening-survives}
use Rattle.store_model.proofs.FurtherLaws.{TakesEach-layout}
use Rattle.store_model.proofs.HalfRefusalLaws.{FindsHalf-one}
use Rattle.store_model.proofs.ImageLaws.{wider, wrote_then}
use Rattle.vault.specs.Leads.{Costs, IsLeadPage}
use Rattle.std.proofs.Common.{Result, Ok, Err}
use Rattle.std.proofs.lemmas.Bool.{cases_lt}
use Rattle.std.specs.Prelude.{IsErrOf}
use Rattle.blob_base.specs.Refusals.{refusal_of}
use Rattle.blob_base.specs.declared.faults.StoreRefusal.{StoreRefusal}
use Rattle.blob_base.specs.declared.faults.StoreRefusal.TheVariants.{BadFrame, BadHalf, BadTuple, OwnedTwice, TooSmall}
use Rattle.blob_report.specs.Reports.{TurnedAway, opening_ending}
use Rattle.disk_model.specs.Disks.{OnlyReads}
use Rattle.io_ends.specs.declared.traits.Source as source_trait
use Rattle.io_ends.specs.declared.traits.Sink as sink_trait
use Rattle.recover.specs.Faults.{FormatCameFrom, IsRead}
use Rattle.recover.specs.declared.fault.RecoverFault.{RecoverFault}
use Rattle.recover.specs.declared.fault.RecoverFault.TheVariants as recover_fault
use Rattle.store_model.specs.Closing.{Refusal}
use Rattle.store_model.specs.Cost.{with_opening}
use Rattle.store_model.specs.Layout.{total_pages}
use Rattle.store_model.specs.Reading.{Refused}
use Rattle.store_model.specs.Standing.{AllHeld}
use Rattle.store_model.proofs.ReadingOneLaws.{Reads-one}
use Rattle.vault.specs.Leads.{IsOpenedAs, StoreStands}
use Rattle.vault.specs.Vaults.{found_of}
use Rattle.vault.specs.declared.vault.Vault.{Vault}
use Rattle.blob_steps.specs.Breaks.{ComesTo, EndsAtBreak, IsBrokenGet}
use Rattle.blob_steps.specs.Known.{FoundKnown, StoreKnown}
use Rattle.blob_steps.specs.Forms.{DidFresh, DidSteps, IsDamageOfState, IsRefusal}
use Rattle.blob_steps.specs.Going.{IsAccepted}
use Rattle.blob_steps.specs.Runs.{Ended, EndedSo, OnPlayed, RunSurvives}
use Rattle.blob_steps.proofs.Surviving.{RunSurvives-begin, RunSurvives-early}
use Rattle.blob_steps.proofs.OnTheWay.{EndedSo-no_disk, EndedSo-no_memory, Ended-no_disk, Ended-no_memory}

-- what holds of a run that was played to an end
pub on-played : {P Q : Type 0} (how : Status) → (P → Q) → OnPlayed how P → OnPlayed how Q
on-played status.Done more holds = more holds
on-played (status.Malformed line) more holds = more holds
on-played (status.NotBuilt line) more holds = more holds
on-played status.ReadFault more holds = tt
on-played status.WriteFault more holds = tt
on-played status.DiskFault more holds = tt
on-played (status.Refused why) more holds = tt
on-played status.OutOfMemory more holds = tt
on-played status.Usage more holds = tt
on-played (status.Damaged key link want got) more holds = tt

-- one cost behind another
pub Spent-then : (first mid last : Cost) (old now new : Calls) → Spent first mid old now → Spent mid last now new → Spent first last old new
Spent-then first mid last old now new one other = record {
  writes = omega (arith, one.writes, other.writes);
  syncs = omega (arith, one.syncs, other.syncs);
}

-- A run behind calls which wrote no page of the data area.
pub Ended-behind : {D : Type 0} (g : Ghosts D) (layout : Layout) (start : Store) (first middle begun : Cost) (since : ℕ) (frugal : Bool) (script old new : Option (List ℕ)) (was mid now : D) (how : Status)
    → (IsTrue g.tells → Wrote (λ (p : ℕ). p < data_page layout) (g.story was) (g.story mid)) → (IsTrue g.tells → Spent first middle (g.calls was) (g.calls mid))
    → Ended g layout start middle begun since frugal script old new mid now how → Ended g layout start first begun since frugal script old new was now how
Ended-behind g layout start first middle begun since frugal script old new was mid now how wrote spent ended = record {
  lines = ended.lines;
  ran = ended.ran;
  grew = ended.grew;
  took = ended.took;
  pages = λ told. on-played how (λ pages. record {
    objects = pages.objects;
    others = wrote_then (IsLeadPage layout (taken_in ended.lines)) (g.story was) (g.story mid) (g.story now)
        (wider (λ (p : ℕ). p < data_page layout) (IsLeadPage layout (taken_in ended.lines)) (g.story was) (g.story mid) (λ p before. inl before) (wrote told))
        pages.others;
  }) (ended.pages told);
  crashes = ended.crashes;
  rests = ended.rests;
  counts = λ told.
      on-played how
      (Spent-then first middle (with_lines start ended.lines begun) (g.calls was) (g.calls mid) (g.calls now) (spent told)) (ended.counts told);
  damage = ended.damage;
  whole = ended.whole;
}

-- The pages that an opening writes stand before the data area.
pub metadata-wrote : {D : Type 0} (g : Ghosts D) (old new : D) (found : Found) → Reads (g.size old) (g.story old).reads (Opened found)
    → OnlyWrites g (IsMetadata (g.size old) (g.story old).reads) old new → IsTrue g.tells
    → Wrote (λ (p : ℕ). p < data_page found.layout) (g.story old) (g.story new)
metadata-wrote g old new found reads wrote told =
    let image : Image = (g.story old).reads in
    wider (IsMetadata (g.size old) image) (λ (p : ℕ). p < data_page found.layout) (g.story old) (g.story new) (λ p page.
    let gives = reads.0 in
    let start = (FindsHalf-one (g.size old) image (picked (image 0)) page.start.layout gives.start.layout page.start.last gives.start.last page.start.states gives.start.states page.finds gives.finds).0 in
    let layout : found.layout ≡ page.start.layout = TakesEach-layout _ gives.start gives.bodies found gives.takes ∙ sym start in
    omega (arith, page.before, ap (λ (l : Layout). data_page l) layout)) (wrote.wrote told)

-- the pages that a format writes stand before the data area
format-before : (layout : Layout) (p : ℕ) → IsTurnPage layout 0 p → p < data_page layout
format-before layout p (inl (inl states)) = omega (arith, states.to)
format-before layout p (inl (inr (inl header))) = omega (arith, header)
format-before layout p (inl (inr (inr gate))) = omega (arith, gate)
format-before layout p (inr selector) = omega (arith, selector)

-- neither a state nor an object is under a key of an empty store
none-told : (image : Image) (first : ℕ) (key : List ℕ) → BothTold ⊥ image first (get (empty {X = State} {R = key_order}) key) (get (empty {X = Object} {R = key_order}) key)
none-told image first key =
    let state : get (empty {X = State} {R = key_order}) key ≡ None = get-empty key_order key in
    let object : get (empty {X = Object} {R = key_order}) key ≡ None = get-empty key_order key in
    subst (λ (o : Option Object). BothTold ⊥ image first (get (empty {X = State} {R = key_order}) key) o) (sym object)
    (subst (λ (s : Option State). BothTold ⊥ image first s None) (sym state) tt)

-- A formatted disk reads as the empty store.
pub ReadsAs-empty : (pages : ℕ) (image : Image) (layout : Layout) → Reads pages image (Opened (found_by layout 0 empty)) → ReadsAs pages image layout empty_store.objects empty_store.last
ReadsAs-empty pages image layout reads = record {
  found = found_by layout 0 empty;
  reads = reads;
  layout_is = refl;
  last_is = refl;
  told = λ key. none-told image (data_page layout) key;
}

-- what a format costs
pub Spent-format : (old new : Calls) → Took 0 3 2 old new → Spent no_cost (with_format no_cost) old new
Spent-format old new took = record { writes = omega (arith, took.writes); syncs = omega (arith, took.syncs) }

-- a status of a script's run is no refusal
accepted-not : (how : Status) (why : StoreRefusal) → IsAccepted how → how ≡ status.Refused why → ⊥
accepted-not how why own is = subst IsAccepted is own

-- What is known of a script's run over a vault that was opened.
pub record RanOpened {S K D : Type 0} (source : source_trait.Ghosts S) (sink : sink_trait.Ghosts K) (g : Ghosts D) (cost : Cost) (source_old : S) (sink_old : K) (disk_old : D)
    (vault : Vault D) (how : Status) (sink_new : K) (disk_new : D) : Type 0 where
  pub found : IsTrue g.tells → Reads (g.size disk_old) (g.story disk_old).reads (Opened (found_of vault.memory))
  pub costs : (store : Store) → StoreStands vault.memory store → Costs g cost (with_opening store cost) disk_old vault.disk vault.memory
  pub stands : IsTrue g.tells → (layout : Layout) (store : Store) → ReadsAs (g.size disk_old) (g.story disk_old).reads layout store.objects store.last
      → IsOpenedAs g layout store vault.disk vault.memory
  pub wrote : OnlyWrites g (IsMetadata (g.size disk_old) (g.story disk_old).reads) disk_old vault.disk
  pub survives : IsTrue g.tells → (found : Found) (since : ℕ) → BeginsAt g disk_old since → Reads (g.size disk_old) (g.story disk_old).reads (Opened found)
      → LeavesFound g disk_old found since vault.disk
  pub ended : (start : Store) (behind : Cost) (since : ℕ) → StoreStands vault.memory start → behind.gate ≡ vault.memory.log.gate
      → (IsTrue g.tells → AllHeld (g.story vault.disk).reads vault.memory.layout start.objects)
      → (IsTrue g.tells → LeavesFrom g (λ image. ReadsAs (g.size vault.disk) image vault.memory.layout start.objects start.last) since vault.disk)
      → Ended g vault.memory.layout start behind behind since (sink.frugal sink_old) (source.left source_old) (sink.taken sink_old) (sink.taken sink_new) vault.disk disk_new how
  pub breaks : IsTrue g.tells → (image : Image) (start : Store) (script : List ℕ) (one : Damage) → StoreKnown vault.memory start
      → ((at : ℕ) → (g.story vault.disk).reads (data_page vault.memory.layout + at) ≡ image (data_page vault.memory.layout + at))
      → source.left source_old ≡ Some script
      → ComesTo vault.memory.layout (IsBrokenGet image (data_page vault.memory.layout) vault.memory.relation.states) one 1 (lines_of script) (world_over start)
      → EndsAtBreak one how
  pub so : EndedSo (source.left source_old) (sink.taken sink_old) (sink.taken sink_new) how
  pub own : IsAccepted how
  pub among : IsDamageOfState how

-- what a crash leaves, of the disk's own size
leaves-sized : {D : Type 0} (g : Ghosts D) (layout : Layout) (store : Store) (since : ℕ) (now : D) (pages : ℕ) → pages ≡ g.size now
    → LeavesFrom g (λ image. ReadsAs pages image layout store.objects store.last) since now
    → LeavesFrom g (λ image. ReadsAs (g.size now) image layout store.objects store.last) since now
leaves-sized g layout store since now pages same leaves =
    subst (λ (n : ℕ). LeavesFrom g (λ image. ReadsAs n image layout store.objects store.last) since now) same leaves

-- A script was run over a vault that was opened.
pub DidSteps-opened : {S K D : Type 0} (source : source_trait.Ghosts S) (sink : sink_trait.Ghosts K) (g : Ghosts D) (cost : Cost) (source_old : S) (sink_old : K) (disk_old : D)
    (vault : Vault D) (how : Status) (source_new : S) (sink_new : K) (disk_new : D) → RanOpened source sink g cost source_old sink_old disk_old vault how sink_new disk_new
    → DidSteps source sink g cost source_old sink_old disk_old how source_new sink_new disk_new
DidSteps-opened source sink g cost source_old sink_old disk_old vault how source_new sink_new disk_new ran = record {
  refused = λ why is. absurd (accepted-not how why ran.own is);
  opened = λ told is. (found_of vault.memory, ran.found told);
  ended = λ told layout start since reads begins.
      let at = ran.stands told layout start reads in
      let costs = ran.costs start at.stands in
      let held : IsTrue g.tells → AllHeld (g.story vault.disk).reads vault.memory.layout start.objects =
      λ yes. subst (λ (l : Layout). AllHeld (g.story vault.disk).reads l start.objects) (sym at.layout_is) at.held in
      let leaves : IsTrue g.tells → LeavesFrom g (λ image. ReadsAs (g.size vault.disk) image vault.memory.layout start.objects start.last) since vault.disk =
      λ yes. subst (λ (l : Layout). LeavesFrom g (λ image. ReadsAs (g.size vault.disk) image l start.objects start.last) since vault.disk) (sym at.layout_is)
      (leaves-sized g layout start since vault.disk (g.size disk_old) (sym ran.wrote.keeps.size)
      (From-survives g disk_old vault.disk layout start since reads (ran.survives told reads.found since begins reads.reads))) in (
        ran.own,
        subst (λ (l : Layout). Ended g l start cost (with_opening start cost) since (sink.frugal sink_old) (source.left source_old) (sink.taken sink_old) (sink.taken sink_new) disk_old disk_new how) at.layout_is
            (Ended-behind g vault.memory.layout start cost (with_opening start cost) (with_opening start cost) since (sink.frugal sink_old) (source.left source_old) (sink.taken sink_old) (sink.taken sink_new) disk_old vault.disk disk_new how
            (metadata-wrote g disk_old vault.disk (found_of vault.memory) (ran.found told) ran.wrote) costs.spent
            (ran.ended start (with_opening start cost) since at.stands (sym costs.gate) held leaves)),
      );
  broken = λ told found reads start known script left_is one comes.
      let image : Image = (g.story disk_old).reads in
      let same : found ≡ found_of vault.memory = found-one (g.size disk_old) image found (found_of vault.memory) reads (ran.found told) in
      let mine : FoundKnown (found_of vault.memory) start = subst (λ (f : Found). FoundKnown f start) same known in
      let wrote = metadata-wrote g disk_old vault.disk (found_of vault.memory) (ran.found told) ran.wrote told in
      ran.breaks told image start script one (record { objects = mine.objects; last = mine.last })
      (λ at. wrote.reads (data_page vault.memory.layout + at) (λ before. omega (arith, before))) left_is
      (subst (λ (f : Found). ComesTo f.layout (IsBrokenGet image (data_page f.layout) f.states) one 1 (lines_of script) (world_over start)) same comes);
  so = λ no. ran.so;
  damage = ran.among;
}

-- a disk that reads as a store isn't refused
never-both : (pages : ℕ) (image : Image) (why : Refusal) (found : Found) → Reads pages image (Refused why) → Reads pages image (Opened found) → ⊥
never-both pages image why found one other = let same : Refused why ≡ Opened found = Reads-one pages image (Refused why) (Opened found) one other in absurd (cc same)

-- what survives of a run over a disk that wasn't opened
crashes-unopened : {D : Type 0} (g : Ghosts D) (layout : Layout) (start : Store) (script : Option (List ℕ)) (since : ℕ) (old now : D) → g.size now ≡ g.size old
    → LeavesFrom g (λ image. ReadsAs (g.size old) image layout start.objects start.last) since now ⊎ (OnlyReads g old now × ((g.story now).time ≤ since))
    → RunSurvives g layout start script [] since now
crashes-unopened g layout start script since old now size (inl leaves) =
    RunSurvives-begin g layout start script since now (λ told. leaves-sized g layout start since now (g.size old) (sym size) leaves)
crashes-unopened g layout start script since old now size (inr early) = RunSurvives-early g layout start script since now (λ told. early.1)

-- A disk wasn't opened.
pub DidSteps-unopened : {S K D : Type 0} (source : source_trait.Ghosts S) (sink : sink_trait.Ghosts K) (g : Ghosts D) (cost : Cost) (from : S) (to : K) (disk_old disk_new : D)
    (fault : RecoverFault) → (IsTrue g.tells → IsRead (g.size disk_old) (g.story disk_old).reads fault)
    → ((why : StoreRefusal) → fault ≡ recover_fault.Refused why → OnlyReads g disk_old disk_new)
    → g.size disk_new ≡ g.size disk_old
    → (IsTrue g.tells → (found : Found) (since : ℕ) → BeginsAt g disk_old since → Reads (g.size disk_old) (g.story disk_old).reads (Opened found)
    → MayLeaveFound g disk_old found since disk_new)
    → DidSteps source sink g cost from to disk_old (opening_ending fault) from to disk_new
DidSteps-unopened source sink g cost from to disk_old disk_new (recover_fault.Refused why) read untouched size survives = record {
  refused = λ other is.
      let same : why ≡ other = cc is in
      subst (λ (w : StoreRefusal). (from ≡ from) × TurnedAway g w to to disk_old disk_new) same
      (refl, record { reads = read; alone = refl; only = untouched why refl });
  opened = λ told is. absurd is;
  ended = λ told layout start since reads begins. absurd (never-both (g.size disk_old) (g.story disk_old).reads (refusal_of why) reads.found (read told) reads.reads);
  broken = λ told found reads start known script left_is one comes. absurd (never-both (g.size disk_old) (g.story disk_old).reads (refusal_of why) found (read told) reads);
  so = λ no. absurd (no tt);
  damage = tt;
}
DidSteps-unopened source sink g cost from to disk_old disk_new recover_fault.Failed read untouched size survives = record {
  refused = λ why is. absurd (cc is);
  opened = λ told is. absurd is;
  ended = λ told layout start since reads begins. (
    tt,
    Ended-no_disk g layout start cost (with_opening start cost) since (sink.frugal to) (source.left from) (sink.taken to) disk_old disk_new
        (crashes-unopened g layout start (source.left from) since disk_old disk_new size
        (Opening-survives g disk_old disk_new layout start since reads (survives told reads.found since begins reads.reads))),
  );
  broken = λ told found reads start known script left_is one comes. tt;
  so = λ no. EndedSo-no_disk (source.left from) (sink.taken to);
  damage = tt;
}
DidSteps-unopened source sink g cost from to disk_old disk_new recover_fault.OutOfMemory read untouched size survives = record {
  refused = λ why is. absurd (cc is);
  opened = λ told is. absurd is;
  ended = λ told layout start since reads begins. (
    tt,
    Ended-no_memory g layout start cost (with_opening start cost) since (sink.frugal to) (source.left from) (sink.taken to) disk_old disk_new
        (crashes-unopened g layout start (source.left from) since disk_old disk_new size
        (Opening-survives g disk_old disk_new layout start since reads (survives told reads.found since begins reads.reads))),
  );
  broken = λ told found reads start known script left_is one comes. tt;
  so = λ no. EndedSo-no_memory (source.left from) (sink.taken to);
  damage = tt;
}

-- why a status is a refusal
refusal-why : (how : Status) → IsRefusal how → (why : StoreRefusal) × (how ≡ status.Refused why)
refusal-why (status.Refused why) is = (why, refl)
refusal-why status.Done is = absurd is
refusal-why (status.Malformed line) is = absurd is
refusal-why (status.NotBuilt line) is = absurd is
refusal-why status.ReadFault is = absurd is
refusal-why status.WriteFault is = absurd is
refusal-why status.DiskFault is = absurd is
refusal-why status.OutOfMemory is = absurd is
refusal-why status.Usage is = absurd is
refusal-why (status.Damaged key link want got) is = absurd is

-- a format that succeeded had pages enough
pub large-enough : (size : ℕ) (layout : Layout) (result : Result (Unit {0}) RecoverFault) → result ≡ Ok tt
    → (size < total_pages layout → IsErrOf result (recover_fault.Refused (TooSmall (total_pages layout) size))) → total_pages layout ≤ size
large-enough size layout result is small = elim (cases_lt size (total_pages layout)) [
  | inl less ↦ (let both : Ok tt ≡ Err (recover_fault.Refused (TooSmall (total_pages layout) size)) = sym is ∙ small less in absurd (cc both))
  | inr enough ↦ enough
]

-- and the fault of one that hadn't
pub small-fault : (size : ℕ) (layout : Layout) (result : Result (Unit {0}) RecoverFault) (fault : RecoverFault) → result ≡ Err fault
    → (size < total_pages layout → IsErrOf result (recover_fault.Refused (TooSmall (total_pages layout) size)))
    → size < total_pages layout → fault ≡ recover_fault.Refused (TooSmall (total_pages layout) size)
small-fault size layout result fault is small less =
    let both : Err fault ≡ Err (recover_fault.Refused (TooSmall (total_pages layout) size)) = sym is ∙ small less in cc both

-- What is known of a script's run over a disk that was formatted.
pub record RanFormatted {S K D : Type 0} (source : source_trait.Ghosts S) (sink : sink_trait.Ghosts K) (g : Ghosts D) (layout : Layout) (source_old : S) (sink_old : K) (disk_old mid : D)
    (how : Status) (source_new : S) (sink_new : K) (disk_new : D) : Type 0 where
  pub large : total_pages layout ≤ g.size disk_old
  pub reads : IsTrue g.tells → Reads (g.size disk_old) (g.story mid).reads (Opened (found_by layout 0 empty))
  pub wrote : OnlyWrites g (IsTurnPage layout 0) disk_old mid
  pub calls : IsTrue g.tells → Took 0 3 2 (g.calls disk_old) (g.calls mid)
  pub did : DidSteps source sink g (with_format no_cost) source_old sink_old mid how source_new sink_new disk_new

-- A script was run over a disk that was formatted.
pub DidFresh-formatted : {S K D : Type 0} (source : source_trait.Ghosts S) (sink : sink_trait.Ghosts K) (g : Ghosts D) (layout : Layout) (source_old : S) (sink_old : K) (disk_old mid : D)
    (how : Status) (source_new : S) (sink_new : K) (disk_new : D) → RanFormatted source sink g layout source_old sink_old disk_old mid how source_new sink_new disk_new
    → DidFresh source sink g layout source_old sink_old disk_old how source_new sink_new disk_new
DidFresh-formatted source sink g layout source_old sink_old disk_old mid how source_new sink_new disk_new ran =
    let reads : IsTrue g.tells → Reads (g.size mid) (g.story mid).reads (Opened (found_by layout 0 empty)) =
    λ told. subst (λ (n : ℕ). Reads n (g.story mid).reads (Opened (found_by layout 0 empty))) (sym ran.wrote.keeps.size) (ran.reads told) in
    record {
      small = λ why is. absurd (omega (arith, is.small, ran.large));
      refused = λ told why is.
          absurd (never-both (g.size mid) (g.story mid).reads (refusal_of why) (found_by layout 0 empty) ((ran.did.refused why is).1.reads told) (reads told));
      away = λ refusal. let why = refusal-why how refusal in let turned = ran.did.refused why.0 why.1 in (turned.0, turned.1.alone);
      ended = λ told enough.
          let since : ℕ = time_of (g.calls disk_old) + 6 in
          let took = ran.calls told in
          let at : since ≡ time_of (g.calls mid) + 1 = omega (arith, took.reads, took.writes, took.syncs) in
          let ended = ran.did.ended told layout empty_store since (ReadsAs-empty (g.size mid) (g.story mid).reads layout (reads told)) (inl at) in inl (
            ended.0,
            Ended-behind g layout empty_store no_cost (with_format no_cost) (with_opening empty_store (with_format no_cost)) since (sink.frugal sink_old) (source.left source_old) (sink.taken sink_old) (sink.taken sink_new) disk_old mid disk_new how
                (λ yes. wider (IsTurnPage layout 0) (λ (p : ℕ). p < data_page layout) (g.story disk_old) (g.story mid) (format-before layout) (ran.wrote.wrote yes))
                (λ yes. Spent-format (g.calls disk_old) (g.calls mid) (ran.calls yes)) ended.1,
          );
      so = ran.did.so;
      damage = ran.did.damage;
    }

-- A disk wasn't formatted.
pub DidFresh-unformatted : {S K D : Type 0} (source : source_trait.Ghosts S) (sink : sink_trait.Ghosts K) (g : Ghosts D) (layout : Layout) (from : S) (to : K) (disk_old disk_new : D)
    (fault : RecoverFault) → (g.size disk_old < total_pages layout → fault ≡ recover_fault.Refused (TooSmall (total_pages layout) (g.size disk_old)))
    → (g.size disk_old < total_pages layout → disk_new ≡ disk_old)
    → FormatCameFrom (total_pages layout) (g.size disk_old) (g.faults disk_old) (g.faults disk_new) (g.frugal disk_old) fault
    → OnlyWrites g (IsTurnPage layout 0) disk_old disk_new
    → DidFresh source sink g layout from to disk_old (opening_ending fault) from to disk_new
DidFresh-unformatted source sink g layout from to disk_old disk_new (recover_fault.Refused (TooSmall need have)) small untouched came wrote = record {
  small = λ why is. (
    ap opening_ending (small is.small) ∙ ap status.Refused (sym is.why_is),
    record { source = refl; sink = refl; disk = untouched is.small },
  );
  refused = λ told why is.
      let same : TooSmall need have ≡ why = cc is in
      record { small = came.2; why_is = sym same ∙ ap (λ (n : ℕ). TooSmall n have) came.0 ∙ ap (λ (n : ℕ). TooSmall (total_pages layout) n) came.1 };
  away = λ refusal. (refl, refl);
  ended = λ told enough. absurd (omega (arith, enough, came.2));
  so = λ no. absurd (no tt);
  damage = tt;
}
DidFresh-unformatted source sink g layout from to disk_old disk_new (recover_fault.Refused (BadHalf half at)) small untouched came wrote = absurd came
DidFresh-unformatted source sink g layout from to disk_old disk_new (recover_fault.Refused (BadTuple half at)) small untouched came wrote = absurd came
DidFresh-unformatted source sink g layout from to disk_old disk_new (recover_fault.Refused (BadFrame half page)) small untouched came wrote = absurd came
DidFresh-unformatted source sink g layout from to disk_old disk_new (recover_fault.Refused (OwnedTwice page)) small untouched came wrote = absurd came
DidFresh-unformatted source sink g layout from to disk_old disk_new recover_fault.Failed small untouched came wrote = record {
  small = λ why is. absurd (cc (small is.small));
  refused = λ told why is. absurd (cc is);
  away = λ refusal. absurd refusal;
  ended = λ told enough. inr (record { why = inl refl; source = refl; sink = refl; wrote = wrote });
  so = λ no. EndedSo-no_disk (source.left from) (sink.taken to);
  damage = tt;
}
DidFresh-unformatted source sink g layout from to disk_old disk_new recover_fault.OutOfMemory small untouched came wrote = record {
  small = λ why is. absurd (cc (small is.small));
  refused = λ told why is. absurd (cc is);
  away = λ refusal. absurd refusal;
  ended = λ told enough. inr (record { why = inr refl; source = refl; sink = refl; wrote = wrote });
  so = λ no. EndedSo-no_memory (source.left from) (sink.taken to);
  damage = tt;
}
