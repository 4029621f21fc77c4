-- A run on the way, and its ends.
use Rattle.std.proofs.Common.{◌≡◌, ℕ, ◌+◌, ◌≤◌, inl, inr, Bool, IsTrue, List, [], ◌∷◌, ◌++◌, length, Option, Some, None, Result, Ok, Err, refl, sym, ◌∙◌, ap, subst, arith, append_assoc}
use Rattle.std.specs.Io.KnownBytes.{Appends, prepend_known}
use Rattle.std.specs.FinMap.{FinMap}
use Rattle.std.specs.Prelude.{MatchResult}
use Rattle.std.proofs.KnownBytes.{Appends-trans, Appends-nil}
use Rattle.std.proofs.lemmas.List.{length-append}
use Rattle.blob_base.specs.Faults.{CameFrom}
use Rattle.blob_report.specs.Ends.{EndsPrinting, TookFront}
use Rattle.blob_base.specs.declared.faults.IoFault.{IoFault}
use Rattle.blob_base.specs.declared.faults.IoFault.TheVariants.{Failed, OutOfMemory}
use Rattle.disk_model.specs.Disks.{Keeps}
use Rattle.disk_model.specs.declared.disk.Disk.{Ghosts}
use Rattle.blob_script.specs.declared.status.Status.{Status}
use Rattle.blob_script.specs.declared.status.Status.TheVariants as status
use Rattle.blob_steps.specs.Faults.{ShowsDamageFault}
use Rattle.blob_steps.specs.Forms.{IsDamageOfState}
use Rattle.blob_steps.specs.Faults.{IsDamageAmong, IsGet, IsUndamagedFault, NamesGet}
use Rattle.blob_steps.specs.declared.fault.StoreFault.{StoreFault}
use Rattle.blob_steps.specs.declared.fault.StoreFault.TheVariants as store_fault
use Rattle.blob_steps.specs.declared.world.World.{World}
use Rattle.blob_steps.specs.declared.line.LineFault.{LineFault}
use Rattle.blob_steps.specs.declared.line.LineFault.TheVariants as fault
use Rattle.blob_steps.specs.Going.{BadLine, BeginsWith, EndsNaming, EndsReading, EndsStep, Going, GoingSo, PlaysOn, StartsOn, TakesLine, playing, reading_ending, step_ending}
use Rattle.blob_steps.specs.Nexts.{IsNeverBuilt, IsUnbuilt}
use Rattle.blob_steps.specs.Lines.{LineTaken, NoLine}
use Rattle.blob_steps.specs.Runs.{Ended, EndedSo, Grew, HasGet, IsUndamaged, MayCut, OnPlayed, OnResting, PagesAre, EndsAs, Ran, RunSurvives, ShowsDamage, TellsGet}
use Rattle.blob_steps.specs.Steps.{CameTo, Did, HaveBegun, StepSurvives, WorldStands, groups_in}
use Rattle.store_model.specs.Cost.{Cost, Spent, with_line, with_lines}
use Rattle.store_model.specs.World as model
use Rattle.store_model.specs.Group.{taken_blocks}
use Rattle.store_model.specs.World.{Outcome}
use Rattle.store_model.specs.Endures.{IsUnderWay}
use Rattle.store_model.specs.Images.{LeavesOnly, Wrote}
use Rattle.store_model.specs.Key.{key_order}
use Rattle.store_model.specs.Layout.{Layout}
use Rattle.store_model.specs.Play.{AtInputEnd, AtMalformed, AtUnbuilt, PlayedLine, play, played_line, step_play, store_behind, taken_in, text_of}
use Rattle.store_model.specs.Script.{Asks, Line, Skipped, Step, line_at, lines_of}
use Rattle.store_model.specs.Space.{Block}
use Rattle.store_model.specs.Standing.{AllHeld, AllStand}
use Rattle.store_model.specs.State.{State}
use Rattle.store_model.specs.Store.{Object, Store}
use Rattle.store_model.specs.Survival.{ReadsAs, RestsAs, Survives, SurvivesAll, groups_of, store_at}
use Rattle.store_model.proofs.ImageLaws.{wider, wrote_none, wrote_then}
use Rattle.store_model.proofs.SurvivalStoryLaws.{SurvivesAll-begin}
use Rattle.recover.specs.Openings.{LeavesFrom}
use Rattle.vault.specs.Leads.{Costs, IsLeadPage}
use Rattle.vault.specs.Vaults.{IsVault}
use Rattle.vault.specs.declared.vault.Vault.{Vault}
use Rattle.blob_steps.proofs.Plays.{EndsOn-here, EndsOn-next, EndsOn-skipped, PlaysOn-all, PlaysOn-front, PlaysOn-next, PlaysOn-skipped, end-bad, end-over, end-unbuilt, ends-alike, playing-bad, playing-unbuilt, store_behind-push, taken_in-push, taken_rest, text_of-push, with_lines-push}
use Rattle.blob_steps.proofs.Surviving.{IsUnderWay-next, IsUnderWay-none, RunSurvives-here, RunSurvives-step, behind-next, survives-next}
use Rattle.blob_steps.proofs.Resting.{AllHeld-stand, AllStand-held, lead-behind, lead-front, rests-at}

-- a fault in reading a line
pub EndsReading-fault : (one : LineFault) (number : ℕ) (left : Option (List ℕ)) (before now : ℕ) (frugal : Bool) → ((cause : IoFault) → one ≡ fault.Source cause → CameFrom cause before now frugal) → EndsReading (reading_ending one) number left before now
EndsReading-fault (fault.Source Failed) number left before now frugal cause = cause Failed refl
EndsReading-fault (fault.Source OutOfMemory) number left before now frugal cause = tt
EndsReading-fault fault.OutOfMemory number left before now frugal cause = tt

-- the damage that a step shows is that of the run
pub ShowsDamage-ending : (one : StoreFault) (objects : FinMap key_order Object) → ShowsDamageFault objects one → ShowsDamage (step_ending one) objects
ShowsDamage-ending store_fault.Failed objects shows = tt
ShowsDamage-ending store_fault.OutOfMemory objects shows = tt
ShowsDamage-ending (store_fault.Damaged key link want got) objects shows = shows

-- and names the key that the step gets
pub EndsNaming-ending : (one : StoreFault) (step : Step) → NamesGet step one → EndsNaming step (step_ending one)
EndsNaming-ending store_fault.Failed step names = tt
EndsNaming-ending store_fault.OutOfMemory step names = tt
EndsNaming-ending (store_fault.Damaged key link want got) step names = names

-- a step that shows no damage ends the run with none
pub undamaged-ending : (one : StoreFault) → IsUndamagedFault one → IsUndamaged (step_ending one)
undamaged-ending store_fault.Failed whole = tt
undamaged-ending store_fault.OutOfMemory whole = tt
undamaged-ending (store_fault.Damaged key link want got) whole = absurd whole

-- and so is that of a state
pub IsDamageOfState-ending : (one : StoreFault) (states : FinMap key_order State) → IsDamageAmong states one → IsDamageOfState (step_ending one)
IsDamageOfState-ending store_fault.Failed states among = tt
IsDamageOfState-ending store_fault.OutOfMemory states among = tt
IsDamageOfState-ending (store_fault.Damaged key link want got) states among = (among.0, among.2)

-- what one more line makes of a disk
PagesAre-next : {D : Type 0} (g : Ghosts D) (layout : Layout) (start : Store) (lines : List PlayedLine) (before : Store) (outcome : Outcome) (was : D) (mine later : World D)
    → IsTrue g.tells → store_behind start lines ≡ before → mine.vault.memory.layout ≡ layout → PagesAre g layout start lines was mine.vault.disk
    → Did g before outcome mine later → PagesAre g layout start (lines ++ played_line outcome ∷ []) was later.vault.disk
PagesAre-next g layout start lines before outcome was mine later told same at pages did =
    let line : PlayedLine = played_line outcome in
    let owned : List Block → ℕ → Type 0 = IsLeadPage layout in
    let all : taken_in (lines ++ line ∷ []) ≡ taken_in lines ++ taken_blocks line.commits = taken_in-push lines line in
    let first : Wrote (owned (taken_in lines ++ taken_blocks line.commits)) (g.story was) (g.story mine.vault.disk) =
    wider (owned (taken_in lines)) (owned (taken_in lines ++ taken_blocks line.commits)) (g.story was) (g.story mine.vault.disk)
    (lead-front layout (taken_in lines) (taken_blocks line.commits)) pages.others in
    let wrote : Wrote (owned (taken_blocks line.commits)) (g.story mine.vault.disk) (g.story later.vault.disk) =
    subst (λ (l : Layout). Wrote (IsLeadPage l (taken_blocks line.commits)) (g.story mine.vault.disk) (g.story later.vault.disk)) at (did.wrote told) in
    let second : Wrote (owned (taken_in lines ++ taken_blocks line.commits)) (g.story mine.vault.disk) (g.story later.vault.disk) =
    wider (owned (taken_blocks line.commits)) (owned (taken_in lines ++ taken_blocks line.commits)) (g.story mine.vault.disk) (g.story later.vault.disk)
    (lead-behind layout (taken_in lines) (taken_blocks line.commits)) wrote in
    let stand : AllStand start.last (g.story mine.vault.disk).reads layout before.objects =
    subst (λ (s : Store). AllStand start.last (g.story mine.vault.disk).reads layout s.objects) same pages.objects in
    let moved : AllStand start.last (g.story later.vault.disk).reads mine.vault.memory.layout line.store.objects =
    did.objects told start.last (subst (λ (l : Layout). AllStand start.last (g.story mine.vault.disk).reads l before.objects) (sym at) stand) in
    record {
      objects = subst (λ (s : Store). AllStand start.last (g.story later.vault.disk).reads layout s.objects) (sym (store_behind-push start lines line))
          (subst (λ (l : Layout). AllStand start.last (g.story later.vault.disk).reads l line.store.objects) at moved);
      others = subst (λ (blocks : List Block). Wrote (owned blocks) (g.story was) (g.story later.vault.disk)) (sym all)
          (wrote_then (owned (taken_in lines ++ taken_blocks line.commits)) (g.story was) (g.story mine.vault.disk) (g.story later.vault.disk) first second);
    }

-- and what it costs
Costs-next : {D : Type 0} (g : Ghosts D) (start : Store) (before begun : Cost) (lines : List PlayedLine) (store : Store) (outcome : Outcome) (was : D) (mine later : World D)
    → store ≡ store_behind start lines → Costs g before (with_lines start lines begun) was mine.vault.disk mine.vault.memory → Did g store outcome mine later
    → Costs g before (with_lines start (lines ++ played_line outcome ∷ []) begun) was later.vault.disk later.vault.memory
Costs-next g start before begun lines store outcome was mine later store_is so_far did =
    let cost : Cost = with_lines start lines begun in
    let more : Costs g cost (with_line (store_behind start lines) outcome.turns outcome.commits cost) mine.vault.disk later.vault.disk later.vault.memory =
    subst (λ (s : Store). Costs g cost (with_line s outcome.turns outcome.commits cost) mine.vault.disk later.vault.disk later.vault.memory) store_is
    (did.costs cost (sym so_far.gate)) in
    subst (λ (c : Cost). Costs g before c was later.vault.disk later.vault.memory) (sym (with_lines-push start lines (played_line outcome) begun)) (record {
      gate = more.gate;
      spent = λ told. record {
        writes = omega (arith, (so_far.spent told).writes, (more.spent told).writes);
        syncs = omega (arith, (so_far.spent told).syncs, (more.spent told).syncs);
      };
    })

-- a run that goes on by a step
module _ {D : Type 0} (g : Ghosts D) (start : Store) (before begun : Cost) (since : ℕ) (mine later : World D) (number : ℕ) (first left rest old taken : Option (List ℕ)) (was : D)
    (step : Step) (text : List ℕ) (going : Going g start before begun since mine number first left old taken was) (takes : TakesLine number left rest (Asks step))
    (same : later.vault.memory.layout ≡ mine.vault.memory.layout) (outcome : Outcome) (played : step_play mine.vault.memory.layout going.world step ≡ Some outcome)
    (came : CameTo g going.world outcome text mine later) (unshut : later.vault.shut ≡ None) (rules : IsVault g later.vault.disk later.vault.memory later.vault.shut)
    (kept : Keeps g mine.vault.disk later.vault.disk)
    (stepped : StepSurvives g step mine later) where
  -- the lines with that of the step
  abbrev lines_with : List PlayedLine
  lines_with = going.lines ++ played_line outcome ∷ []

  pages-later : IsTrue g.tells → PagesAre g mine.vault.memory.layout start lines_with was later.vault.disk
  pages-later told =
      PagesAre-next g mine.vault.memory.layout start going.lines going.world.store outcome was mine later told (sym going.store_is) refl (going.pages told) came.did

  text-now : IsTrue g.tells → text ≡ outcome.text
  text-now told =
      came.text_is told (subst (λ (s : Store). AllHeld (g.story mine.vault.disk).reads mine.vault.memory.layout s.objects) (sym going.store_is)
      (AllStand-held start.last (g.story mine.vault.disk).reads mine.vault.memory.layout (store_behind start going.lines).objects (going.pages told).objects))

  plays-later : PlaysOn later.vault.memory.layout start lines_with (number + 1) outcome.world first rest
  plays-later =
      subst (λ (l : Layout). PlaysOn l start lines_with (number + 1) outcome.world first rest) (sym same)
      (PlaysOn-next mine.vault.memory.layout start going.lines number going.world first left rest step outcome takes played going.plays_on)

  counts-later : Costs g before (with_lines start lines_with begun) was later.vault.disk later.vault.memory
  counts-later = Costs-next g start before begun going.lines going.world.store outcome was mine later going.store_is going.counts came.did

  held-before : IsTrue g.tells → AllHeld (g.story mine.vault.disk).reads mine.vault.memory.layout going.world.store.objects
  held-before told =
      subst (λ (s : Store). AllHeld (g.story mine.vault.disk).reads mine.vault.memory.layout s.objects) (sym going.store_is)
      (AllStand-held start.last (g.story mine.vault.disk).reads mine.vault.memory.layout (store_behind start going.lines).objects (going.pages told).objects)

  -- the disk rests behind the step
  rests-behind : IsTrue g.tells → RestsAs (g.size later.vault.disk) mine.vault.memory.layout outcome.world.store (g.story later.vault.disk)
  rests-behind told =
      let held : AllHeld (g.story later.vault.disk).reads mine.vault.memory.layout outcome.world.store.objects =
      subst (λ (s : Store). AllHeld (g.story later.vault.disk).reads mine.vault.memory.layout s.objects) (store_behind-push start going.lines (played_line outcome))
      (AllStand-held start.last (g.story later.vault.disk).reads mine.vault.memory.layout (store_behind start lines_with).objects (pages-later told).objects) in
      subst (λ (l : Layout). RestsAs (g.size later.vault.disk) l outcome.world.store (g.story later.vault.disk)) same
      (rests-at g later outcome.world.store told rules unshut came.stands.store
      (subst (λ (l : Layout). AllHeld (g.story later.vault.disk).reads l outcome.world.store.objects) (sym same) held))

  rests-later : IsTrue g.tells → RestsAs (g.size later.vault.disk) mine.vault.memory.layout (store_behind start lines_with) (g.story later.vault.disk)
  rests-later told =
      subst (λ (s : Store). RestsAs (g.size later.vault.disk) mine.vault.memory.layout s (g.story later.vault.disk))
      (sym (store_behind-push start going.lines (played_line outcome))) (rests-behind told)

  behind-later : store_at start (groups_of lines_with) (length (groups_of lines_with)) ≡ outcome.world.store
  behind-later = behind-next mine.vault.memory.layout start going.lines going.world step outcome (going.behind ∙ sym going.store_is) played

  survives-later : IsTrue g.tells
      → SurvivesAll (g.size later.vault.disk) mine.vault.memory.layout start (groups_of lines_with) since (length (groups_of lines_with)) (g.story later.vault.disk)
  survives-later told =
      let layout : Layout = mine.vault.memory.layout in
      let size : g.size mine.vault.disk ≡ g.size later.vault.disk = sym kept.size in
      let leaves : LeavesOnly (λ image. Survives (g.size mine.vault.disk) image layout going.world.store (groups_in (step_play layout going.world step)) 0)
      (g.story mine.vault.disk) (g.story later.vault.disk) = stepped told going.world going.stands (held-before told) in
      survives-next (g.size later.vault.disk) layout start going.lines going.world step outcome since (g.story mine.vault.disk) (g.story later.vault.disk)
      (going.behind ∙ sym going.store_is) played
      (subst (λ (pages : ℕ). SurvivesAll pages layout start (groups_of going.lines) since (length (groups_of going.lines)) (g.story mine.vault.disk)) size (going.survives told))
      (subst (λ (pages : ℕ). LeavesOnly (λ image. Survives pages image layout going.world.store (groups_in (step_play layout going.world step)) 0)
      (g.story mine.vault.disk) (g.story later.vault.disk)) size leaves)
      (rests-behind told)

  pub Going-next : (more : Option (List ℕ)) → Appends taken more text → Going g start before begun since later (number + 1) first rest old more was
  Going-next more took =
      let line : PlayedLine = played_line outcome in
      record {
        world = outcome.world;
        stands = came.stands;
        lines = lines_with;
        store_is = sym (store_behind-push start going.lines line);
        grew = (going.grew.0 ++ text, Appends-trans old taken more going.grew.0 text going.grew.1 took);
        took = λ told. subst (Appends old more) (sym (text_of-push going.lines line))
            (Appends-trans old taken more (text_of going.lines) line.text (going.took told) (subst (Appends taken more) (text-now told) took));
        pages = λ told. subst (λ (l : Layout). PagesAre g l start lines_with was later.vault.disk) (sym same) (pages-later told);
        counts = counts-later;
        plays_on = plays-later;
        behind = behind-later ∙ sym (store_behind-push start going.lines line);
        survives = λ told.
            subst (λ (l : Layout). SurvivesAll (g.size later.vault.disk) l start (groups_of lines_with) since (length (groups_of lines_with)) (g.story later.vault.disk)) (sym same)
            (survives-later told);
      }

  -- the sink took a front of what the lines print with that of the step
  TookFront-cut : (more : Option (List ℕ)) → IsTrue g.tells → TookFront taken more text → TookFront old more (text_of lines_with)
  TookFront-cut more told cut =
      let line : PlayedLine = played_line outcome in
      record {
        text = text_of going.lines ++ cut.text;
        took = Appends-trans old taken more (text_of going.lines) cut.text (going.took told) cut.took;
        front = record {
          rest = cut.front.rest;
          whole_is = text_of-push going.lines line
              ∙ ap (λ t. text_of going.lines ++ t) (sym (text-now told) ∙ cut.front.whole_is)
              ∙ sym (append_assoc (text_of going.lines) cut.text cut.front.rest);
        };
      }

  lines-front : (script : List ℕ) → first ≡ Some script → (more : List PlayedLine) × ((play mine.vault.memory.layout start script).lines ≡ lines_with ++ more)
  lines-front script known =
      subst (λ (l : Layout). (more : List PlayedLine) × ((play l start script).lines ≡ lines_with ++ more)) same
      (PlaysOn-front later.vault.memory.layout start lines_with (number + 1) outcome.world first rest plays-later script known)

  -- a run that ends with this status in the printing of the step's answer
  cut-short : (one : Status) (more : Option (List ℕ)) (frugal : Bool) → TookFront taken more text → MayCut one frugal
      → (OnPlayed one (PagesAre g mine.vault.memory.layout start lines_with was later.vault.disk))
      → (IsTrue g.tells → OnResting one (RestsAs (g.size later.vault.disk) mine.vault.memory.layout (store_behind start lines_with) (g.story later.vault.disk)))
      → (OnPlayed one (Spent before (with_lines start lines_with begun) (g.calls was) (g.calls later.vault.disk)))
      → ((script : List ℕ) → first ≡ Some script → Ran one lines_with (play mine.vault.memory.layout start script))
      → ShowsDamage one (store_behind start lines_with).objects → (IsTrue g.tells → IsUndamaged one)
      → Ended g mine.vault.memory.layout start before begun since frugal first old more was later.vault.disk one
  cut-short one more frugal cut may pages rests counts ran damage whole = record {
    lines = lines_with;
    ran = ran;
    grew = (going.grew.0 ++ cut.text, Appends-trans old taken more going.grew.0 cut.text going.grew.1 cut.took);
    took = λ told. inr (may, TookFront-cut more told cut);
    pages = λ told. pages;
    crashes = RunSurvives-here g mine.vault.memory.layout start first lines_with since later.vault.disk lines-front survives-later;
    rests = rests;
    counts = λ told. counts;
    damage = damage;
    whole = whole;
  }

  -- the printing of the step's answer failed
  pub Ended-printing : (one : Status) (more : Option (List ℕ)) (frugal : Bool) (faults_old faults_new : ℕ) → TookFront taken more text
      → EndsPrinting one frugal faults_old faults_new → Ended g mine.vault.memory.layout start before begun since frugal first old more was later.vault.disk one
  Ended-printing status.WriteFault more frugal faults_old faults_new cut ends = cut-short status.WriteFault more frugal cut tt tt rests-later tt lines-front tt (λ told. tt)
  Ended-printing status.OutOfMemory more frugal faults_old faults_new cut ends = cut-short status.OutOfMemory more frugal cut ends tt (λ told. tt) tt lines-front tt (λ told. tt)
  Ended-printing (status.Malformed line) more frugal faults_old faults_new cut ends = absurd ends
  Ended-printing (status.NotBuilt line) more frugal faults_old faults_new cut ends = absurd ends
  Ended-printing status.ReadFault more frugal faults_old faults_new cut ends = absurd ends
  Ended-printing status.Done more frugal faults_old faults_new cut ends = absurd ends
  Ended-printing status.DiskFault more frugal faults_old faults_new cut ends = absurd ends
  Ended-printing (status.Refused why) more frugal faults_old faults_new cut ends = absurd ends
  Ended-printing status.Usage more frugal faults_old faults_new cut ends = absurd ends
  Ended-printing (status.Damaged key link want got) more frugal faults_old faults_new cut ends = absurd ends

-- a run that ends where it is, before or at the end of its script
module _ {D : Type 0} (g : Ghosts D) (start : Store) (before begun : Cost) (since : ℕ) (mine : World D) (number : ℕ) (first left old taken : Option (List ℕ)) (was : D) (unshut : mine.vault.shut ≡ None)
    (rules : IsVault g mine.vault.disk mine.vault.memory mine.vault.shut) (going : Going g start before begun since mine number first left old taken was) where
  abbrev layout_now : Layout
  layout_now = mine.vault.memory.layout

  lines-before : (script : List ℕ) → first ≡ Some script → (rest : List PlayedLine) × ((play layout_now start script).lines ≡ going.lines ++ rest)
  lines-before = PlaysOn-front layout_now start going.lines number going.world first left going.plays_on

  -- the contents are held where the run is
  pub held-now : IsTrue g.tells → AllHeld (g.story mine.vault.disk).reads layout_now going.world.store.objects
  held-now told =
      subst (λ (s : Store). AllHeld (g.story mine.vault.disk).reads layout_now s.objects) (sym going.store_is)
      (AllStand-held start.last (g.story mine.vault.disk).reads layout_now (store_behind start going.lines).objects (going.pages told).objects)

  -- the disk rests where the run is
  rests-now : IsTrue g.tells → RestsAs (g.size mine.vault.disk) layout_now (store_behind start going.lines) (g.story mine.vault.disk)
  rests-now told =
      subst (λ (s : Store). RestsAs (g.size mine.vault.disk) layout_now s (g.story mine.vault.disk)) going.store_is
      (rests-at g mine going.world.store told rules unshut going.stands.store (held-now told))

  -- no step is under way
  crashes-now : RunSurvives g layout_now start first going.lines since mine.vault.disk
  crashes-now = RunSurvives-here g layout_now start first going.lines since mine.vault.disk lines-before going.survives

  -- a step is under way
  crashes-step : (later : World D) (step : Step) (rest : Option (List ℕ)) → TakesLine number left rest (Asks step) → Keeps g mine.vault.disk later.vault.disk
      → StepSurvives g step mine later → RunSurvives g layout_now start first going.lines since later.vault.disk
  crashes-step later step rest takes kept stepped = crashes-of (step_play layout_now going.world step) refl where
    crashes-of : (outcome : Option Outcome) → step_play layout_now going.world step ≡ outcome → RunSurvives g layout_now start first going.lines since later.vault.disk
    crashes-of outcome played =
        RunSurvives-step g layout_now start first going.lines since mine.vault.disk later.vault.disk going.world step outcome played kept.size
        (going.behind ∙ sym going.store_is) (next outcome played) going.survives (λ told. stepped told going.world going.stands (held-now told)) where
          next : (one : Option Outcome) → step_play layout_now going.world step ≡ one → (text : List ℕ) → first ≡ Some text
              → IsUnderWay layout_now start text going.lines (groups_in one)
          next None none text known = let on = lines-before text known in IsUnderWay-none layout_now start text going.lines on.0 on.1
          next (Some one) is text known =
              let line : PlayedLine = played_line one in
              let on = PlaysOn-front layout_now start (going.lines ++ line ∷ []) (number + 1) one.world first rest
              (PlaysOn-next layout_now start going.lines number going.world first left rest step one takes is going.plays_on) text known in
              IsUnderWay-next layout_now start text going.lines on.0 one on.1

  -- a run that ends with a fault where it is
  ended-here : (one : Status) (newer : D) (frugal : Bool) → OnPlayed one (PagesAre g layout_now start going.lines was newer)
      → RunSurvives g layout_now start first going.lines since newer
      → (IsTrue g.tells → OnResting one (RestsAs (g.size newer) layout_now (store_behind start going.lines) (g.story newer)))
      → OnPlayed one (Spent before (with_lines start going.lines begun) (g.calls was) (g.calls newer))
      → ((script : List ℕ) → first ≡ Some script → Ran one going.lines (play layout_now start script))
      → ShowsDamage one (store_behind start going.lines).objects → (IsTrue g.tells → IsUndamaged one)
      → Ended g layout_now start before begun since frugal first old taken was newer one
  ended-here one newer frugal pages crashes rests counts ran damage whole = record {
    lines = going.lines;
    ran = ran;
    grew = going.grew;
    took = λ told. inl (going.took told);
    pages = λ told. pages;
    crashes = crashes;
    rests = rests;
    counts = λ told. counts;
    damage = damage;
    whole = whole;
  }

  pub Ended-over : (frugal : Bool) → NoLine left → Ended g layout_now start before begun since frugal first old taken was mine.vault.disk status.Done
  Ended-over frugal none = record {
    lines = going.lines;
    ran = λ script known.
        let on = going.plays_on script known in
        let empty : lines_of on.0 ≡ [] = subst NoLine on.1 none in
        PlaysOn-all layout_now start going.lines number going.world first left script going.plays_on known (record { lines = []; end = AtInputEnd })
        (ap (playing layout_now number going.world) empty) refl;
    grew = going.grew;
    took = λ told. inl (going.took told);
    pages = going.pages;
    crashes = crashes-now;
    rests = rests-now;
    counts = going.counts.spent;
    damage = tt;
    whole = λ told. tt;
  }

  pub Ended-bad : (frugal : Bool) → BadLine number left → Ended g layout_now start before begun since frugal first old taken was mine.vault.disk (status.Malformed number)
  Ended-bad frugal bad = record {
    lines = going.lines;
    ran = λ script known.
        let on = going.plays_on script known in
        let line : BadLine number (Some on.0) = subst (BadLine number) on.1 bad in
        PlaysOn-all layout_now start going.lines number going.world first left script going.plays_on known (record { lines = []; end = AtMalformed number })
        (ap (playing layout_now number going.world) line.2 ∙ playing-bad layout_now number going.world line.0 line.1 line.3) refl;
    grew = going.grew;
    took = λ told. inl (going.took told);
    pages = going.pages;
    crashes = crashes-now;
    rests = rests-now;
    counts = going.counts.spent;
    damage = tt;
    whole = λ told. tt;
  }

  pub Ended-unbuilt : (frugal : Bool) (step : Step) (rest : Option (List ℕ)) → TakesLine number left rest (Asks step)
      → step_play layout_now going.world step ≡ None → Ended g layout_now start before begun since frugal first old taken was mine.vault.disk (status.NotBuilt number)
  Ended-unbuilt frugal step rest takes none = record {
    lines = going.lines;
    ran = λ script known.
        let on = going.plays_on script known in
        let taken : LineTaken (Some on.0) takes.line rest = subst (λ l. LineTaken l takes.line rest) on.1 takes.taken in
        let behind = taken_rest on.0 takes.line rest taken in
        PlaysOn-all layout_now start going.lines number going.world first left script going.plays_on known (record { lines = []; end = AtUnbuilt number })
        (ap (playing layout_now number going.world) behind.2 ∙ playing-unbuilt layout_now number going.world takes.line (lines_of behind.0) step takes.is none) refl;
    grew = going.grew;
    took = λ told. inl (going.took told);
    pages = going.pages;
    crashes = crashes-now;
    rests = rests-now;
    counts = going.counts.spent;
    damage = tt;
    whole = λ told. tt;
  }

  pub Going-skipped : (later : World D) (rest : Option (List ℕ)) → TakesLine number left rest Skipped → later ≡ mine
      → Going g start before begun since later (number + 1) first rest old taken was
  Going-skipped later rest takes same = subst (λ (m : World D). Going g start before begun since m (number + 1) first rest old taken was) (sym same) (record {
    world = going.world;
    stands = going.stands;
    lines = going.lines;
    store_is = going.store_is;
    grew = going.grew;
    took = going.took;
    pages = going.pages;
    counts = going.counts;
    plays_on = PlaysOn-skipped layout_now start going.lines number going.world first left rest takes going.plays_on;
    behind = going.behind;
    survives = going.survives;
  })

  pub Ended-reading : (one : Status) (frugal : Bool) (faults_old faults_new : ℕ) → EndsReading one number left faults_old faults_new
      → Ended g layout_now start before begun since frugal first old taken was mine.vault.disk one
  Ended-reading (status.Malformed line) frugal faults_old faults_new ends =
      subst (λ (n : ℕ). Ended g layout_now start before begun since frugal first old taken was mine.vault.disk (status.Malformed n)) (sym ends.0) (Ended-bad frugal ends.1)
  Ended-reading (status.NotBuilt line) frugal faults_old faults_new ends = absurd ends
  Ended-reading status.ReadFault frugal faults_old faults_new ends = ended-here status.ReadFault mine.vault.disk frugal tt crashes-now rests-now tt lines-before tt (λ told. tt)
  Ended-reading status.OutOfMemory frugal faults_old faults_new ends = ended-here status.OutOfMemory mine.vault.disk frugal tt crashes-now (λ told. tt) tt lines-before tt (λ told. tt)
  Ended-reading status.Done frugal faults_old faults_new ends = absurd ends
  Ended-reading status.WriteFault frugal faults_old faults_new ends = absurd ends
  Ended-reading status.DiskFault frugal faults_old faults_new ends = absurd ends
  Ended-reading (status.Refused why) frugal faults_old faults_new ends = absurd ends
  Ended-reading status.Usage frugal faults_old faults_new ends = absurd ends
  Ended-reading (status.Damaged key link want got) frugal faults_old faults_new ends = absurd ends

  -- a step had no answer
  pub Ended-step : (one : Status) (later : World D) (frugal : Bool) (faults_old faults_new : ℕ) (step : Step) (rest : Option (List ℕ)) → TakesLine number left rest (Asks step)
      → IsUnbuilt layout_now going.world step number mine.vault later.vault one → EndsStep one faults_old faults_new → ShowsDamage one going.world.store.objects
      → (IsTrue g.tells → IsUndamaged one) → Keeps g mine.vault.disk later.vault.disk → StepSurvives g step mine later
      → Ended g layout_now start before begun since frugal first old taken was later.vault.disk one
  Ended-step status.DiskFault later frugal faults_old faults_new step rest takes unbuilt ends shows undamaged kept stepped =
      ended-here status.DiskFault later.vault.disk frugal tt (crashes-step later step rest takes kept stepped) (λ told. tt) tt lines-before tt (λ told. tt)
  Ended-step status.OutOfMemory later frugal faults_old faults_new step rest takes unbuilt ends shows undamaged kept stepped =
      ended-here status.OutOfMemory later.vault.disk frugal tt (crashes-step later step rest takes kept stepped) (λ told. tt) tt lines-before tt (λ told. tt)
  Ended-step (status.Damaged key link want got) later frugal faults_old faults_new step rest takes unbuilt ends shows undamaged kept stepped =
      ended-here (status.Damaged key link want got) later.vault.disk frugal tt (crashes-step later step rest takes kept stepped) (λ told. absurd (undamaged told)) tt lines-before
      (subst (λ (s : Store). ShowsDamage (status.Damaged key link want got) s.objects) going.store_is shows) undamaged
  Ended-step (status.Malformed line) later frugal faults_old faults_new step rest takes unbuilt ends shows undamaged kept stepped = absurd ends
  Ended-step (status.NotBuilt line) later frugal faults_old faults_new step rest takes unbuilt ends shows undamaged kept stepped =
      subst (λ (n : ℕ). Ended g layout_now start before begun since frugal first old taken was later.vault.disk (status.NotBuilt n)) (sym unbuilt.0)
      (subst (λ (v : Vault D). Ended g layout_now start before begun since frugal first old taken was v.disk (status.NotBuilt number)) (sym unbuilt.2)
      (Ended-unbuilt frugal step rest takes unbuilt.1))
  Ended-step status.ReadFault later frugal faults_old faults_new step rest takes unbuilt ends shows undamaged kept stepped = absurd ends
  Ended-step status.Done later frugal faults_old faults_new step rest takes unbuilt ends shows undamaged kept stepped = absurd ends
  Ended-step status.WriteFault later frugal faults_old faults_new step rest takes unbuilt ends shows undamaged kept stepped = absurd ends
  Ended-step (status.Refused why) later frugal faults_old faults_new step rest takes unbuilt ends shows undamaged kept stepped = absurd ends
  Ended-step status.Usage later frugal faults_old faults_new step rest takes unbuilt ends shows undamaged kept stepped = absurd ends

-- the same of a status that is known
pub EndsReading-ended : (one : Status) (why : LineFault) (number : ℕ) (left : Option (List ℕ)) (before now : ℕ) (frugal : Bool) → one ≡ reading_ending why
    → ((cause : IoFault) → why ≡ fault.Source cause → CameFrom cause before now frugal) → EndsReading one number left before now
EndsReading-ended one why number left before now frugal is cause = subst (λ s. EndsReading s number left before now) (sym is) (EndsReading-fault why number left before now frugal cause)

-- no session has begun more than a greater number
pub HaveBegun-more : {D : Type 0} (mine : World D) (n m : ℕ) → HaveBegun n mine → n ≤ m → HaveBegun m mine
HaveBegun-more mine n m have less = λ number one is. omega (arith, have number one is, less)

-- a run of a world over a vault begins
pub starts-over : {D : Type 0} (g : Ghosts D) (mine : World D) (vault : Vault D) (start : Store) (cost : Cost) (since : ℕ) → mine.vault ≡ vault → WorldStands mine (model.world_over start)
    → cost.gate ≡ vault.memory.log.gate → (IsTrue g.tells → AllHeld (g.story vault.disk).reads vault.memory.layout start.objects)
    → (IsTrue g.tells → LeavesFrom g (λ image. ReadsAs (g.size vault.disk) image vault.memory.layout start.objects start.last) since vault.disk)
    → StartsOn g start cost since mine
starts-over {D = D} g mine vault start cost since same stands gate held leaves = record {
  stands = stands;
  held = λ told. subst (λ (v : Vault D). AllHeld (g.story v.disk).reads v.memory.layout start.objects) (sym same) (held told);
  gate = ap (λ (v : Vault D). v.memory.log.gate) same ∙ sym gate;
  survives = λ told.
      subst (λ (v : Vault D). LeavesFrom g (λ image. ReadsAs (g.size v.disk) image v.memory.layout start.objects start.last) since v.disk) (sym same) (leaves told);
}

-- what holds of the status that a run ended with
pub ended-status : (P : Status → Type 0) (ended : Result (Unit {0}) Status) (how : Status) → MatchResult ended (λ x. how ≡ status.Done) (λ s. how ≡ s)
    → MatchResult ended (λ x. P status.Done) P → P how
ended-status P (Ok x) how is holds = subst P (sym is) holds
ended-status P (Err s) how is holds = subst P (sym is) holds

-- a run that begins
pub Going-first : {D : Type 0} (g : Ghosts D) (mine : World D) (start : Store) (cost : Cost) (since : ℕ) (first taken : Option (List ℕ)) → IsVault g mine.vault.disk mine.vault.memory mine.vault.shut → StartsOn g start cost since mine
    → Going g start cost cost since mine 1 first first taken taken mine.vault.disk
Going-first g mine start cost since first taken rules starts = record {
  world = model.world_over start;
  stands = starts.stands;
  lines = [];
  store_is = refl;
  grew = ([], Appends-nil taken);
  took = λ told. Appends-nil taken;
  pages = λ told. record {
    objects = AllHeld-stand g mine start rules starts.stands.store (starts.held told);
    others = wrote_none (IsLeadPage mine.vault.memory.layout []) (g.story mine.vault.disk);
  };
  counts = record { gate = starts.gate; spent = λ told. record { writes = refl; syncs = refl } };
  plays_on = λ script known. (script, known, refl);
  behind = refl;
  survives = λ told.
      SurvivesAll-begin (g.size mine.vault.disk) mine.vault.memory.layout start since (g.story mine.vault.disk) (starts.survives told).past (starts.survives told).each;
}

-- and whatever the disk tells
pub GoingSo-first : (first taken : Option (List ℕ)) → GoingSo 1 first first taken taken
GoingSo-first first taken = record {
  grew = ([], Appends-nil taken);
  ends_on = λ script known. (script, known, λ layout start world. PlaysAlike layout start world script);
  begins = λ script known. ([], script, known, refl, refl);
} where
  PlaysAlike : (layout : Layout) (start : Store) (world : model.World) (script : List ℕ) → (playing layout 1 world (lines_of script)).end ≡ (play layout start script).end
  PlaysAlike layout start world script = ends-alike 1 (lines_of script) layout layout world (model.world_over start)

-- the sink took more
Grew-more : (old taken more : Option (List ℕ)) (text : List ℕ) → Grew old taken → Appends taken more text → Grew old more
Grew-more old taken more text grew took = (grew.0 ++ text, Appends-trans old taken more grew.0 text grew.1 took)

-- what is left goes on with the next line
BeginsWith-next : (number : ℕ) (first left rest : Option (List ℕ)) (what : Line) → TakesLine number left rest what → BeginsWith number first left
    → BeginsWith (number + 1) first rest
BeginsWith-next number first left rest what takes begins script known =
    let at = begins script known in
    let taken : LineTaken (Some at.1) takes.line rest = subst (λ (l : Option (List ℕ)). LineTaken l takes.line rest) at.2 takes.taken in
    next at.0 at.1 rest at.3 at.4 taken where
      next : (before : List (List ℕ)) (here : List ℕ) (there : Option (List ℕ)) → lines_of script ≡ before ++ lines_of here → number ≡ length before + 1
          → LineTaken (Some here) takes.line there
          → (more : List (List ℕ)) × (after : List ℕ) × (there ≡ Some after) × (lines_of script ≡ more ++ lines_of after) × (number + 1 ≡ length more + 1)
      next before here None is count taken = absurd taken
      next before here (Some after) is count taken = (
        before ++ takes.line ∷ [],
        after,
        refl,
        is ∙ ap (λ (ls : List (List ℕ)). before ++ ls) taken ∙ sym (append_assoc before (takes.line ∷ []) (lines_of after)),
        omega (arith, count, length-append before (takes.line ∷ [])),
      )

-- the line that is next gets a key
HasGet-here : (number : ℕ) (first left rest : Option (List ℕ)) (step : Step) (key : List ℕ) → TakesLine number left rest (Asks step) → IsGet step key
    → BeginsWith number first left → (text : List ℕ) → first ≡ Some text → HasGet text key
HasGet-here number first left rest step key takes named begins text known =
    let at = begins text known in
    let taken : LineTaken (Some at.1) takes.line rest = subst (λ (l : Option (List ℕ)). LineTaken l takes.line rest) at.2 takes.taken in
    here at.1 rest at.3 taken where
      here : (left : List ℕ) (there : Option (List ℕ)) → lines_of text ≡ (begins text known).0 ++ lines_of left → LineTaken (Some left) takes.line there → HasGet text key
      here left None is taken = absurd taken
      here left (Some after) is taken = record {
        before = (begins text known).0;
        line = takes.line;
        rest = lines_of after;
        is = is ∙ ap (λ (ls : List (List ℕ)). (begins text known).0 ++ ls) taken;
        step = step;
        asks = subst (λ (n : ℕ). line_at n takes.line ≡ Asks step) (begins text known).4 takes.is;
        gets = named;
      }

-- whatever the disk tells, a run goes on by a step, past a skipped line, and ends
module _ (number : ℕ) (first left old taken : Option (List ℕ)) (going : GoingSo number first left old taken) where
  pub GoingSo-next : (step : Step) (rest more : Option (List ℕ)) (text : List ℕ) → TakesLine number left rest (Asks step)
      → ((layout : Layout) (world : model.World) → (outcome : Outcome) × (step_play layout world step ≡ Some outcome)) → Appends taken more text
      → GoingSo (number + 1) first rest old more
  GoingSo-next step rest more text takes built took = record {
    grew = Grew-more old taken more text going.grew took;
    ends_on = EndsOn-next number first left rest step takes built going.ends_on;
    begins = BeginsWith-next number first left rest (Asks step) takes going.begins;
  }

  pub GoingSo-skipped : (rest : Option (List ℕ)) → TakesLine number left rest Skipped → GoingSo (number + 1) first rest old taken
  GoingSo-skipped rest takes = record {
    grew = going.grew;
    ends_on = EndsOn-skipped number first left rest takes going.ends_on;
    begins = BeginsWith-next number first left rest Skipped takes going.begins;
  }

  pub EndedSo-over : NoLine left → EndedSo first old taken status.Done
  EndedSo-over none = record {
    grew = going.grew;
    ends = EndsOn-here number first left AtInputEnd going.ends_on (end-over number left none);
    gets = λ text known. tt;
  }

  EndedSo-bad : BadLine number left → EndedSo first old taken (status.Malformed number)
  EndedSo-bad bad = record {
    grew = going.grew;
    ends = EndsOn-here number first left (AtMalformed number) going.ends_on (end-bad number left bad);
    gets = λ text known. tt;
  }

  ended-so : (one : Status) → ((layout : Layout) (start : Store) (text : List ℕ) → first ≡ Some text → EndsAs one (play layout start text).end)
      → ((text : List ℕ) → first ≡ Some text → TellsGet one text) → EndedSo first old taken one
  ended-so one ends gets = record { grew = going.grew; ends = ends; gets = gets }

  pub EndedSo-reading : (one : Status) (before since : ℕ) → EndsReading one number left before since → EndedSo first old taken one
  EndedSo-reading (status.Malformed line) before since ends = subst (λ (n : ℕ). EndedSo first old taken (status.Malformed n)) (sym ends.0) (EndedSo-bad ends.1)
  EndedSo-reading (status.NotBuilt line) before since ends = absurd ends
  EndedSo-reading status.ReadFault before since ends = ended-so status.ReadFault (λ layout start text known. tt) (λ text known. tt)
  EndedSo-reading status.OutOfMemory before since ends = ended-so status.OutOfMemory (λ layout start text known. tt) (λ text known. tt)
  EndedSo-reading status.Done before since ends = absurd ends
  EndedSo-reading status.WriteFault before since ends = absurd ends
  EndedSo-reading status.DiskFault before since ends = absurd ends
  EndedSo-reading (status.Refused why) before since ends = absurd ends
  EndedSo-reading status.Usage before since ends = absurd ends
  EndedSo-reading (status.Damaged key link want got) before since ends = absurd ends

  pub EndedSo-step : (one : Status) (before since : ℕ) (step : Step) (rest : Option (List ℕ)) → TakesLine number left rest (Asks step) → IsNeverBuilt number step one
      → EndsNaming step one → EndsStep one before since → EndedSo first old taken one
  EndedSo-step status.DiskFault before since step rest takes never named ends = ended-so status.DiskFault (λ layout start text known. tt) (λ text known. tt)
  EndedSo-step status.OutOfMemory before since step rest takes never named ends = ended-so status.OutOfMemory (λ layout start text known. tt) (λ text known. tt)
  EndedSo-step (status.Damaged key link want got) before since step rest takes never named ends =
      ended-so (status.Damaged key link want got) (λ layout start text known. tt)
      (λ text known. HasGet-here number first left rest step key takes named going.begins text known)
  EndedSo-step (status.NotBuilt line) before since step rest takes never named ends = subst (λ (n : ℕ). EndedSo first old taken (status.NotBuilt n)) (sym never.0) (record {
    grew = going.grew;
    ends = EndsOn-here number first left (AtUnbuilt number) going.ends_on (end-unbuilt number left rest step takes never.1);
    gets = λ text known. tt;
  })
  EndedSo-step (status.Malformed line) before since step rest takes never named ends = absurd ends
  EndedSo-step status.ReadFault before since step rest takes never named ends = absurd ends
  EndedSo-step status.Done before since step rest takes never named ends = absurd ends
  EndedSo-step status.WriteFault before since step rest takes never named ends = absurd ends
  EndedSo-step (status.Refused why) before since step rest takes never named ends = absurd ends
  EndedSo-step status.Usage before since step rest takes never named ends = absurd ends

  pub EndedSo-printing : (one : Status) (more : Option (List ℕ)) (frugal : Bool) (before since : ℕ) (text : List ℕ) → TookFront taken more text
      → EndsPrinting one frugal before since → EndedSo first old more one
  EndedSo-printing status.WriteFault more frugal before since text cut ends =
      record { grew = Grew-more old taken more cut.text going.grew cut.took; ends = λ layout start script known. tt; gets = λ script known. tt }
  EndedSo-printing status.OutOfMemory more frugal before since text cut ends =
      record { grew = Grew-more old taken more cut.text going.grew cut.took; ends = λ layout start script known. tt; gets = λ script known. tt }
  EndedSo-printing (status.Malformed line) more frugal before since text cut ends = absurd ends
  EndedSo-printing (status.NotBuilt line) more frugal before since text cut ends = absurd ends
  EndedSo-printing status.ReadFault more frugal before since text cut ends = absurd ends
  EndedSo-printing status.Done more frugal before since text cut ends = absurd ends
  EndedSo-printing status.DiskFault more frugal before since text cut ends = absurd ends
  EndedSo-printing (status.Refused why) more frugal before since text cut ends = absurd ends
  EndedSo-printing status.Usage more frugal before since text cut ends = absurd ends
  EndedSo-printing (status.Damaged key link want got) more frugal before since text cut ends = absurd ends

-- a run that ended before its first line
module _ {D : Type 0} (g : Ghosts D) (layout : Layout) (start : Store) (before begun : Cost) (since : ℕ) (frugal : Bool) (script taken : Option (List ℕ)) (was now : D)
    (crashes : RunSurvives g layout start script [] since now) where
  pub Ended-no_memory : Ended g layout start before begun since frugal script taken taken was now status.OutOfMemory
  Ended-no_memory = record {
    lines = [];
    ran = λ text known. ((play layout start text).lines, refl);
    grew = ([], Appends-nil taken);
    took = λ told. inl (Appends-nil taken);
    pages = λ told. tt;
    crashes = crashes;
    rests = λ told. tt;
    counts = λ told. tt;
    damage = tt;
    whole = λ told. tt;
  }

  pub Ended-no_disk : Ended g layout start before begun since frugal script taken taken was now status.DiskFault
  Ended-no_disk = record {
    lines = [];
    ran = λ text known. ((play layout start text).lines, refl);
    grew = ([], Appends-nil taken);
    took = λ told. inl (Appends-nil taken);
    pages = λ told. tt;
    crashes = crashes;
    rests = λ told. tt;
    counts = λ told. tt;
    damage = tt;
    whole = λ told. tt;
  }

pub EndedSo-no_memory : (script taken : Option (List ℕ)) → EndedSo script taken taken status.OutOfMemory
EndedSo-no_memory script taken = record { grew = ([], Appends-nil taken); ends = λ layout start text known. tt; gets = λ text known. tt }

pub EndedSo-no_disk : (script taken : Option (List ℕ)) → EndedSo script taken taken status.DiskFault
EndedSo-no_disk script taken = record { grew = ([], Appends-nil taken); ends = λ layout start text known. tt; gets = λ text known. tt }

-- what a source has left is what a reader without bytes ahead has before it
pub prepend-none : (ahead : List ℕ) (left : Option (List ℕ)) → ahead ≡ [] → left ≡ prepend_known ahead left
prepend-none ahead None none = refl
prepend-none ahead (Some script) none = ap (λ front. Some (front ++ script)) (sym none)
