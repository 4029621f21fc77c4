-- What a crash leaves in the midst of a vault's lead, and behind it.
use Rattle.std.specs.Prelude.{ℕ, ◌-◌, List}
use Rattle.disk_model.specs.declared.disk.Disk.{Ghosts}
use Rattle.group_plan.specs.Plans.{committed, members_of}
use Rattle.recover.specs.Turns.{ReadsThrough}
use Rattle.store_model.specs.Disk.{Image}
use Rattle.store_model.specs.Group.{Member, commits_of}
use Rattle.store_model.specs.Images.{LeavesOnly}
use Rattle.store_model.specs.Layout.{Layout}
use Rattle.store_model.specs.Standing.{AllHeld}
use Rattle.store_model.specs.Store as model
use Rattle.store_model.specs.Survival.{RestsAs, SurvivesStep}
use Rattle.txn.specs.declared.request.Request.{Request}
use Rattle.vault.specs.Leads.{StoreStands, ledger_in}
use Rattle.vault.specs.Pours.{made_by}
use Rattle.vault.specs.Vaults.{found_of}
use Rattle.vault.specs.declared.memory.Memory.{Memory}

-- At whatever moment of a turn the disk stopped, it reads as the store in memory, its contents whole or not, and no page has changed but
-- those of a turn to the other half.
abbrev pub TurnLeaves : {D : Type 0} → Ghosts D → Memory → D → D → Type 0
TurnLeaves g before old new =
    LeavesOnly (ReadsThrough (g.size old) (found_of before) (1 - before.log.half) (g.story old).reads) (g.story old) (g.story new)

-- A disk reads as a store, or as that one with some whole transactions of the group of these members: those of which all the states verify.
abbrev pub SurvivesLead : ℕ → Image → Layout → model.Store → List Request → List Member → Type 0
SurvivesLead pages image layout store queue members =
    SurvivesStep pages image layout store (commits_of members) (made_by store (committed queue members))

-- At whatever moment of a lead of this queue the disk stopped, and however the lead ended, a crash leaves the store that it had, or that one
-- with some whole transactions of the group. Of these alone a content may be another one, by chance.
abbrev pub LeadSurvives : {D : Type 0} → Ghosts D → Memory → List Request → D → D → Type 0
LeadSurvives g before queue old new =
    (store : model.Store) → StoreStands before store → AllHeld (g.story old).reads before.layout store.objects
    → LeavesOnly (λ image. SurvivesLead (g.size old) image before.layout store queue (members_of (ledger_in before) queue)) (g.story old) (g.story new)

-- Where it ended well, the disk rests at the store behind the group.
abbrev pub LeadRests : {D : Type 0} → Ghosts D → Memory → List Request → D → D → Type 0
LeadRests g before queue old new =
    (store : model.Store) → StoreStands before store → AllHeld (g.story old).reads before.layout store.objects
    → RestsAs (g.size new) before.layout (made_by store (committed queue (members_of (ledger_in before) queue))) (g.story new)
