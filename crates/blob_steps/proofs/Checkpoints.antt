-- A checkpoint, over the program's world.
use Rattle.std.proofs.Common.{◌≡◌, ℕ, ◌+◌, ◌%◌, ◌≤◌, IsTrue, List, None, length, take, [], inl, sym, ◌∙◌, ap, subst, arith}
use Rattle.std.specs.FinMap.{FinMap}
use Rattle.disk_model.specs.Disks.{OnlyWrites}
use Rattle.disk_model.specs.declared.disk.Disk.{Ghosts}
use Rattle.disk_model.proofs.DiskLaws.{OnlyWrites-wider}
use Rattle.recover.specs.Turns.{IsTurnPage}
use Rattle.relation.specs.declared.relation.Relation.{Relation}
use Rattle.store_model.specs.Answer as answer
use Rattle.store_model.specs.Answer.{answer_text}
use Rattle.store_model.specs.Cost.{Cost, with_turn}
use Rattle.store_model.specs.Disk.{Image, page_bytes}
use Rattle.store_model.specs.Holds.{HoldsAt}
use Rattle.store_model.specs.Key.{key_order}
use Rattle.store_model.specs.Layout.{Layout, data_page}
use Rattle.store_model.specs.Script as script
use Rattle.store_model.specs.Standing.{AllStand, SameObjects}
use Rattle.store_model.specs.Store.{Object, Placement}
use Rattle.store_model.specs.Survival.{ReadsAs, Survives}
use Rattle.store_model.specs.World as model
use Rattle.store_model.specs.World.{checkpointed}
use Rattle.store_model.proofs.ImageLaws.{leaves_more}
use Rattle.vault.specs.Crashes.{TurnLeaves}
use Rattle.vault.specs.Leads.{Costs, IsLeadPage}
use Rattle.vault.specs.Vaults.{IsVault, SameHeld}
use Rattle.vault.proofs.Crashes.{Through-survives}
use Rattle.vault.proofs.Offs.{turn-before, turn-page}
use Rattle.vault.specs.declared.vault.Vault.{Vault}
use Rattle.blob_steps.specs.Known.{AllKnown}
use Rattle.blob_steps.specs.Steps.{CameTo, Follows, StepSurvives, WorldKnown, WorldStands}
use Rattle.blob_steps.specs.declared.world.World.{World}

-- a content is held where each page of the data area reads as before
held-same : (old new : Image) (first : ℕ) (place : Placement) (content : List ℕ) → ((at : ℕ) → new (first + at) ≡ old (first + at)) → HoldsAt old first place content
    → HoldsAt new first place content
held-same old new first place content same held = record {
  full = λ page less. let one = held.full page less in (one.0, one.1, same one.0 ∙ one.2);
  tailed = held.tailed;
  tail = λ page is. ap (take (length content % page_bytes)) (same page) ∙ held.tail page is;
}

-- so objects stand there
pub AllStand-same : (from : ℕ) (old new : Image) (layout : Layout) (objects : FinMap key_order Object)
    → ((at : ℕ) → new (data_page layout + at) ≡ old (data_page layout + at)) → AllStand from old layout objects → AllStand from new layout objects
AllStand-same from old new layout objects same stand key object there =
    let one = stand key object there in
    record {
      held = held-same old new (data_page layout) object.place object.content same one.held;
      filled = λ later page is. same page ∙ one.filled later page is;
    }

-- a vault that was turned is where a checkpoint leads
pub came-turned : {D : Type 0} (g : Ghosts D) (mine : World D) (vault : Vault D) (world : model.World) (text : List ℕ) (half : ℕ) → half ≤ 1 → WorldStands mine world
    → SameHeld mine.vault.memory vault.memory → OnlyWrites g (IsTurnPage mine.vault.memory.layout half) mine.vault.disk vault.disk
    → ((cost : Cost) → cost.gate ≡ mine.vault.memory.log.gate → Costs g cost (with_turn world.store cost) mine.vault.disk vault.disk vault.memory)
    → text ≡ answer_text answer.Checkpointed
    → CameTo g world (checkpointed world) text mine (record { vault = vault; sessions = mine.sessions; queue = mine.queue })
came-turned g mine vault world text half two is same wrote costs text_is =
    let layout : Layout = mine.vault.memory.layout in
    record {
      stands = record {
        store = record {
          objects = subst (λ (r : Relation). SameObjects r.states world.store.objects) (sym same.relation) is.store.objects;
          last = same.last ∙ is.store.last;
        };
        sessions = is.sessions;
        queue = is.queue;
        requests = is.requests;
      };
      did = record {
        objects = λ told from stand.
            AllStand-same from (g.story mine.vault.disk).reads (g.story vault.disk).reads layout world.store.objects
            (λ at. (wrote.wrote told).reads (data_page layout + at) (λ page. turn-before layout half (data_page layout + at) two (omega arith) page)) stand;
        wrote = (OnlyWrites-wider g (IsTurnPage layout half) (IsLeadPage layout []) mine.vault.disk vault.disk
            (λ p page. turn-page layout [] half p two page) wrote).wrote;
        costs = costs;
      };
      text_is = λ told stand. text_is;
    }

-- so is the known world
pub follows-turned : {D : Type 0} (g : Ghosts D) (mine : World D) (vault : Vault D) (world : model.World) (half : ℕ) → half ≤ 1 → WorldKnown mine world
    → SameHeld mine.vault.memory vault.memory → OnlyWrites g (IsTurnPage mine.vault.memory.layout half) mine.vault.disk vault.disk
    → Follows g world mine (record { vault = vault; sessions = mine.sessions; queue = mine.queue })
follows-turned g mine vault world half two is same wrote =
    let layout : Layout = mine.vault.memory.layout in
    record {
      known = record {
        store = record {
          objects = subst (λ (r : Relation). AllKnown r.states world.store.objects) (sym same.relation) is.store.objects;
          last = same.last ∙ is.store.last;
        };
        sessions = is.sessions;
        queue = is.queue;
        requests = is.requests;
      };
      states = ap (λ (r : Relation). r.states) same.relation;
      pages = λ told at. (wrote.wrote told).reads (data_page layout + at) (λ page. turn-before layout half (data_page layout + at) two (omega arith) page);
    }

-- A checkpoint survives as the vault says it of its turn.
pub survives-turned : {D : Type 0} (g : Ghosts D) (mine later : World D) → IsVault g mine.vault.disk mine.vault.memory mine.vault.shut → mine.vault.shut ≡ None
    → (IsTrue g.tells → TurnLeaves g mine.vault.memory mine.vault.disk later.vault.disk) → StepSurvives g script.Checkpoint mine later
survives-turned g mine later rules unshut leaves = λ told world is held.
    let layout : Layout = mine.vault.memory.layout in
    leaves_more (λ image. ReadsAs (g.size mine.vault.disk) image layout world.store.objects world.store.last)
    (λ image. Survives (g.size mine.vault.disk) image layout world.store [] 0) (g.story mine.vault.disk) (g.story later.vault.disk) (λ image reading. inl reading)
    (Through-survives g mine.vault.disk later.vault.disk mine.vault.memory world.store told
    (subst (λ shut. IsVault g mine.vault.disk mine.vault.memory shut) unshut rules) is.store held (leaves told))
