-- What survives each crash of a run, along its lines and at its end.
use Rattle.std.proofs.Common.{◌≡◌, ℕ, ◌≤◌, IsTrue, List, [], ◌∷◌, ◌++◌, length, fold, Option, Some, None, inl, inr, refl, sym, ◌∙◌, ap, subst, arith, append-nil}
use Rattle.std.proofs.lemmas.List.Elements.{filter_map-append}
use Rattle.disk_model.specs.Disks.{OnlyReads}
use Rattle.disk_model.specs.declared.disk.Disk.{Ghosts}
use Rattle.store_model.specs.Disk.{Image}
use Rattle.store_model.specs.Endures.{IsUnderWay}
use Rattle.store_model.specs.Group.{Commit}
use Rattle.store_model.specs.Images.{LeavesOnly, Stayed, Story}
use Rattle.store_model.specs.Layout.{Layout}
use Rattle.store_model.specs.Play.{PlayedLine, action_play, play, played_line, step_play, transact}
use Rattle.store_model.specs.Script.{Action, Checkpoint, Close, Find, Lead, Ls, Open, Order, Pread, Session, Step, Transact}
use Rattle.store_model.specs.Store.{Store}
use Rattle.store_model.specs.Survival.{Group, ReadsAs, RestsAs, Survives, SurvivesAll, group_of, groups_by, groups_of, store_at}
use Rattle.store_model.specs.Turn as turn
use Rattle.store_model.specs.World as model
use Rattle.store_model.specs.World.{Outcome, checkpointed, lead, lead_queue, with_commit}
use Rattle.store_model.proofs.ImageLaws.{leaves_more}
use Rattle.store_model.proofs.SurvivalStoryLaws.{SurvivesAll-begin, SurvivesAll-done, SurvivesAll-more, SurvivesAll-on, Survives-behind}
use Rattle.recover.specs.Openings.{LeavesFrom}
use Rattle.blob_steps.specs.Runs.{RunSurvives}
use Rattle.blob_steps.specs.Steps.{StepSurvives, groups_in}
use Rattle.blob_steps.specs.declared.world.World.{World}

-- calls that only read leave what was left
pub leaves-stayed : (P : Image → Type 0) (a b : Story) → Stayed a b → LeavesOnly P a b
leaves-stayed P a b stayed = record {
  later = stayed.later;
  leaves = λ t image most left. inl (stayed.leaves t image most left);
  keeps = stayed.keeps;
}

-- a step that only reads survives
pub StepSurvives-reads : {D : Type 0} (g : Ghosts D) (step : Step) (mine later : World D) → OnlyReads g mine.vault.disk later.vault.disk → StepSurvives g step mine later
StepSurvives-reads g step mine later only = λ told world is held.
    leaves-stayed (λ image. Survives (g.size mine.vault.disk) image mine.vault.memory.layout world.store
    (groups_in (step_play mine.vault.memory.layout world step)) 0) (g.story mine.vault.disk) (g.story later.vault.disk) (only.stayed told)

-- A step that commits nothing leaves the store.
action-none : (world : model.World) (number : ℕ) (action : Action) (outcome : Outcome) → action_play world number action ≡ Some outcome → outcome.world.store ≡ world.store
action-none world number (Transact turn.Begin) outcome is = let same : transact world number turn.Begin ≡ outcome = cc is in ap (λ (o : Outcome). o.world.store) (sym same)
action-none world number (Transact (turn.Get key)) outcome is = let same : transact world number (turn.Get key) ≡ outcome = cc is in ap (λ (o : Outcome). o.world.store) (sym same)
action-none world number (Transact (turn.Stat key)) outcome is = let same : transact world number (turn.Stat key) ≡ outcome = cc is in ap (λ (o : Outcome). o.world.store) (sym same)
action-none world number (Transact (turn.Put key content)) outcome is =
    let same : transact world number (turn.Put key content) ≡ outcome = cc is in ap (λ (o : Outcome). o.world.store) (sym same)
action-none world number (Transact (turn.Append key bytes)) outcome is = absurd (cc is)
action-none world number (Transact (turn.Delete key)) outcome is = let same : transact world number (turn.Delete key) ≡ outcome = cc is in ap (λ (o : Outcome). o.world.store) (sym same)
action-none world number (Transact turn.Commit) outcome is = let same : transact world number turn.Commit ≡ outcome = cc is in ap (λ (o : Outcome). o.world.store) (sym same)
action-none world number (Transact turn.Abort) outcome is = let same : transact world number turn.Abort ≡ outcome = cc is in ap (λ (o : Outcome). o.world.store) (sym same)
action-none world number (Find key) outcome is = absurd (cc is)
action-none world number (Order key n) outcome is = absurd (cc is)
action-none world number (Open key) outcome is = absurd (cc is)
action-none world number (Ls key) outcome is = absurd (cc is)
action-none world number (Pread a b c) outcome is = absurd (cc is)
action-none world number (Close n) outcome is = absurd (cc is)

lead-none : (layout : Layout) (world : model.World) (queue : List ℕ) → (lead_queue layout world queue).commits ≡ [] → (lead_queue layout world queue).world.store ≡ world.store
lead-none layout world [] none = refl
lead-none layout world (session ∷ queue) none = ap (λ (commits : List Commit). fold (with_commit world.sessions) world.store commits) none

step-none : (layout : Layout) (world : model.World) (step : Step) (outcome : Outcome) → step_play layout world step ≡ Some outcome → outcome.commits ≡ []
    → outcome.world.store ≡ world.store
step-none layout world Lead outcome is none =
    let same : lead layout world ≡ outcome = cc is in
    ap (λ (o : Outcome). o.world.store) (sym same) ∙ lead-none layout world world.queue (ap (λ (o : Outcome). o.commits) same ∙ none)
step-none layout world Checkpoint outcome is none = let same : checkpointed world ≡ outcome = cc is in ap (λ (o : Outcome). o.world.store) (sym same)
step-none layout world (Session number action) outcome is none = action-none world number action outcome is

-- the groups of some lines, and of others behind them
groups-append : (lines more : List PlayedLine) → groups_of (lines ++ more) ≡ groups_of lines ++ groups_of more
groups-append lines more = filter_map-append (λ (line : PlayedLine). group_of line.commits line.store) lines more

pub groups-push : (lines : List PlayedLine) (outcome : Outcome)
    → groups_of (lines ++ played_line outcome ∷ []) ≡ groups_of lines ++ groups_by outcome.commits outcome.world.store
groups-push lines outcome = groups-append lines (played_line outcome ∷ [])

-- the store behind the groups is that behind the step
behind-push : (start before after : Store) (groups : List Group) (commits : List Commit) → (commits ≡ [] → after ≡ before)
    → store_at start groups (length groups) ≡ before → store_at start (groups ++ groups_by commits after) (length (groups ++ groups_by commits after)) ≡ after
behind-push start before after [] [] none is = is ∙ sym (none refl)
behind-push start before after [] (commit ∷ commits) none is = refl
behind-push start before after (group ∷ groups) commits none is = behind-push group.after before after groups commits none is

-- So it is behind one more line.
pub behind-next : (layout : Layout) (start : Store) (lines : List PlayedLine) (world : model.World) (step : Step) (outcome : Outcome)
    → store_at start (groups_of lines) (length (groups_of lines)) ≡ world.store → step_play layout world step ≡ Some outcome
    → store_at start (groups_of (lines ++ played_line outcome ∷ [])) (length (groups_of (lines ++ played_line outcome ∷ []))) ≡ outcome.world.store
behind-next layout start lines world step outcome is played =
    subst (λ (groups : List Group). store_at start groups (length groups) ≡ outcome.world.store) (sym (groups-push lines outcome))
    (behind-push start world.store outcome.world.store (groups_of lines) outcome.commits (λ none. step-none layout world step outcome played none) is)

groups-more : (groups more : List Group) → length groups ≤ length (groups ++ more)
groups-more [] more = omega arith
groups-more (group ∷ groups) more = omega (arith, groups-more groups more)

-- Behind the groups of a run at most a part of some more was written.
leaves-under : (pages : ℕ) (layout : Layout) (start before : Store) (groups more : List Group) (since : ℕ) (a b : Story)
    → store_at start groups (length groups) ≡ before
    → SurvivesAll pages layout start groups since (length groups) a
    → LeavesOnly (λ image. Survives pages image layout before more 0) a b
    → SurvivesAll pages layout start (groups ++ more) since (length groups) b
leaves-under pages layout start before groups more since a b is survives leaves =
    SurvivesAll-on pages layout start (groups ++ more) since (length groups) a b
    (SurvivesAll-more pages layout start groups more since (length groups) a (groups-more groups more) survives)
    (leaves_more (λ image. Survives pages image layout before more 0) (λ image. Survives pages image layout start (groups ++ more) (length groups)) a b
    (λ image step. Survives-behind pages image layout start before groups more is step) leaves)

-- A line was answered: its group is answered too, since the disk rests behind it.
pub survives-next : (pages : ℕ) (layout : Layout) (start : Store) (lines : List PlayedLine) (world : model.World) (step : Step) (outcome : Outcome) (since : ℕ) (a b : Story)
    → store_at start (groups_of lines) (length (groups_of lines)) ≡ world.store → step_play layout world step ≡ Some outcome
    → SurvivesAll pages layout start (groups_of lines) since (length (groups_of lines)) a
    → LeavesOnly (λ image. Survives pages image layout world.store (groups_in (step_play layout world step)) 0) a b
    → RestsAs pages layout outcome.world.store b
    → SurvivesAll pages layout start (groups_of (lines ++ played_line outcome ∷ [])) since (length (groups_of (lines ++ played_line outcome ∷ []))) b
survives-next pages layout start lines world step outcome since a b is played survives leaves rests =
    let own : LeavesOnly (λ image. Survives pages image layout world.store (groups_by outcome.commits outcome.world.store) 0) a b =
    subst (λ (o : Option Outcome). LeavesOnly (λ image. Survives pages image layout world.store (groups_in o) 0) a b) played leaves in
    subst (λ (groups : List Group). SurvivesAll pages layout start groups since (length groups) b) (sym (groups-push lines outcome))
    (SurvivesAll-done pages layout start outcome.world.store (groups_of lines) outcome.commits since b rests
    (leaves-under pages layout start world.store (groups_of lines) (groups_by outcome.commits outcome.world.store) since a b is survives own))

-- no group is under way, and others may follow
pub IsUnderWay-none : (layout : Layout) (start : Store) (text : List ℕ) (lines more : List PlayedLine)
    → (play layout start text).lines ≡ lines ++ more → IsUnderWay layout start text lines []
IsUnderWay-none layout start text lines more is = record {
  rest = groups_of more;
  is = ap (λ (ls : List PlayedLine). groups_of ls) is ∙ groups-append lines more
      ∙ ap (λ (groups : List Group). groups ++ groups_of more) (sym (append-nil (groups_of lines)));
}

-- A run ends behind lines with no step under way.
pub RunSurvives-here : {D : Type 0} (g : Ghosts D) (layout : Layout) (start : Store) (script : Option (List ℕ)) (lines : List PlayedLine) (since : ℕ) (now : D)
    → ((text : List ℕ) → script ≡ Some text → (rest : List PlayedLine) × ((play layout start text).lines ≡ lines ++ rest))
    → (IsTrue g.tells → SurvivesAll (g.size now) layout start (groups_of lines) since (length (groups_of lines)) (g.story now))
    → RunSurvives g layout start script lines since now
RunSurvives-here g layout start script lines since now front survives = record {
  under_way = [];
  few = omega arith;
  next = λ text known. let on = front text known in IsUnderWay-none layout start text lines on.0 on.1;
  survives = λ told.
      inl (subst (λ (groups : List Group). SurvivesAll (g.size now) layout start groups since (length (groups_of lines)) (g.story now)) (sym (append-nil (groups_of lines)))
      (survives told));
}

-- it ended before its first line, and over a store that each crash since then leaves
pub RunSurvives-begin : {D : Type 0} (g : Ghosts D) (layout : Layout) (start : Store) (script : Option (List ℕ)) (since : ℕ) (now : D)
    → (IsTrue g.tells → LeavesFrom g (λ image. ReadsAs (g.size now) image layout start.objects start.last) since now) → RunSurvives g layout start script [] since now
RunSurvives-begin g layout start script since now leaves =
    RunSurvives-here g layout start script [] since now (λ text known. ((play layout start text).lines, refl)) (λ told.
    SurvivesAll-begin (g.size now) layout start since (g.story now) (leaves told).past (leaves told).each)

-- or before that time
pub RunSurvives-early : {D : Type 0} (g : Ghosts D) (layout : Layout) (start : Store) (script : Option (List ℕ)) (since : ℕ) (now : D)
    → (IsTrue g.tells → (g.story now).time ≤ since) → RunSurvives g layout start script [] since now
RunSurvives-early g layout start script since now early = record {
  under_way = [];
  few = omega arith;
  next = λ text known. record { rest = groups_of (play layout start text).lines; is = refl };
  survives = λ told. inr (refl, early told);
}

-- A step has at most one group.
few-groups : (outcome : Option Outcome) → length (groups_in outcome) ≤ 1
few-groups None = omega arith
few-groups (Some outcome) = few-commits outcome.commits outcome.world.store where
  few-commits : (commits : List Commit) (after : Store) → length (groups_by commits after) ≤ 1
  few-commits [] after = omega arith
  few-commits (commit ∷ commits) after = omega arith

-- A run ends behind lines with a step under way.
pub RunSurvives-step : {D : Type 0} (g : Ghosts D) (layout : Layout) (start : Store) (script : Option (List ℕ)) (lines : List PlayedLine) (since : ℕ) (old now : D)
    (world : model.World) (step : Step) (outcome : Option Outcome) → step_play layout world step ≡ outcome → g.size now ≡ g.size old
    → store_at start (groups_of lines) (length (groups_of lines)) ≡ world.store
    → ((text : List ℕ) → script ≡ Some text → IsUnderWay layout start text lines (groups_in outcome))
    → (IsTrue g.tells → SurvivesAll (g.size old) layout start (groups_of lines) since (length (groups_of lines)) (g.story old))
    → (IsTrue g.tells → LeavesOnly (λ image. Survives (g.size old) image layout world.store (groups_in (step_play layout world step)) 0) (g.story old) (g.story now))
    → RunSurvives g layout start script lines since now
RunSurvives-step g layout start script lines since old now world step outcome played size is next survives leaves = record {
  under_way = groups_in outcome;
  few = few-groups outcome;
  next = next;
  survives = λ told.
      let own : LeavesOnly (λ image. Survives (g.size old) image layout world.store (groups_in outcome) 0) (g.story old) (g.story now) =
      subst (λ (o : Option Outcome). LeavesOnly (λ image. Survives (g.size old) image layout world.store (groups_in o) 0) (g.story old) (g.story now)) played (leaves told) in
      inl (subst (λ (pages : ℕ). SurvivesAll pages layout start (groups_of lines ++ groups_in outcome) since (length (groups_of lines)) (g.story now)) (sym size)
      (leaves-under (g.size old) layout start world.store (groups_of lines) (groups_in outcome) since (g.story old) (g.story now) is (survives told) own));
}

-- the group of the next line is under way
pub IsUnderWay-next : (layout : Layout) (start : Store) (text : List ℕ) (lines more : List PlayedLine) (outcome : Outcome)
    → (play layout start text).lines ≡ (lines ++ played_line outcome ∷ []) ++ more → IsUnderWay layout start text lines (groups_in (Some outcome))
IsUnderWay-next layout start text lines more outcome is =
    record {
      rest = groups_of more;
      is = ap (λ (ls : List PlayedLine). groups_of ls) is ∙ groups-append (lines ++ played_line outcome ∷ []) more
          ∙ ap (λ (groups : List Group). groups ++ groups_of more) (groups-push lines outcome);
    }
