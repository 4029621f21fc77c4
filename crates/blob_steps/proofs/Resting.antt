-- A vault's disk at rest, and the contents that it holds.
use Rattle.std.proofs.Common.{◌≡◌, ℕ, IsTrue, List, ◌++◌, Option, Some, None, inl, inr, refl, subst, arith}
use Rattle.std.specs.FinMap.{FinMap, get}
use Rattle.disk_model.specs.declared.disk.Disk.{Ghosts}
use Rattle.store_model.specs.Disk.{Image}
use Rattle.store_model.specs.Key.{key_order}
use Rattle.store_model.specs.Layout.{Layout}
use Rattle.store_model.specs.Space.{Block}
use Rattle.store_model.specs.Standing.{AllHeld, AllStand, BothStand, StandsFor}
use Rattle.store_model.specs.State.{State}
use Rattle.store_model.specs.Store.{Object, Store}
use Rattle.store_model.specs.Survival.{ReadsAs, RestsAs}
use Rattle.store_model.proofs.SurvivalHeldLaws.{ReadsAs-standing}
use Rattle.vault.specs.Leads.{IsLeadPage, StoreStands}
use Rattle.vault.specs.Vaults.{IsVault, found_of}
use Rattle.blob_steps.specs.declared.world.World.{World}
use Rattle.blob_steps.proofs.OwnedPages.{page-behind, page-front}

-- objects that stand are held
pub AllStand-held : (from : ℕ) (image : Image) (layout : Layout) (objects : FinMap key_order Object) → AllStand from image layout objects → AllHeld image layout objects
AllStand-held from image layout objects stand key object is = (stand key object is).held

-- the state of an object
state-there : (state : Option State) (object : Option Object) (one : Object) → BothStand state object → object ≡ Some one → (s : State) × (state ≡ Some s) × StandsFor s one
state-there None None one both is = absurd (cc is)
state-there None (Some object) one both is = absurd both
state-there (Some state) None one both is = absurd both
state-there (Some state) (Some object) one both is = let same : object ≡ one = cc is in (state, refl, subst (StandsFor state) same both)

-- objects that are held stand, where none has a number above the last one
pub AllHeld-stand : {D : Type 0} (g : Ghosts D) (mine : World D) (store : Store) → IsVault g mine.vault.disk mine.vault.memory mine.vault.shut → StoreStands mine.vault.memory store
    → AllHeld (g.story mine.vault.disk).reads mine.vault.memory.layout store.objects
    → AllStand store.last (g.story mine.vault.disk).reads mine.vault.memory.layout store.objects
AllHeld-stand g mine store kept stands held key object is = record {
  held = held key object is;
  filled = λ above.
      let state = state-there (get mine.vault.memory.relation.states key) (get store.objects key) object (stands.objects key) is in
      absurd (omega (arith, above, state.2.number, stands.last, kept.held.half.born key state.0 state.1));
}

-- The disk of a vault rests at the store that memory is at, where it holds its contents.
pub rests-at : {D : Type 0} (g : Ghosts D) (mine : World D) (store : Store) → IsTrue g.tells → IsVault g mine.vault.disk mine.vault.memory mine.vault.shut → mine.vault.shut ≡ None
    → StoreStands mine.vault.memory store
    → AllHeld (g.story mine.vault.disk).reads mine.vault.memory.layout store.objects
    → RestsAs (g.size mine.vault.disk) mine.vault.memory.layout store (g.story mine.vault.disk)
rests-at g mine store told kept unshut stands held =
    let rest = kept.rest told unshut in
    record {
      reads = subst (λ (last : ℕ). ReadsAs (g.size mine.vault.disk) (g.story mine.vault.disk).reads mine.vault.memory.layout store.objects last) stands.last
          (ReadsAs-standing (g.size mine.vault.disk) (g.story mine.vault.disk).reads (found_of mine.vault.memory) store.objects (rest.at.gives, rest.at.apart)
          stands.objects held);
      settled = rest.settled;
    }

-- a page that leads may write, with other blocks behind theirs or in front
pub lead-front : (layout : Layout) (blocks more : List Block) (p : ℕ) → IsLeadPage layout blocks p → IsLeadPage layout (blocks ++ more) p
lead-front layout blocks more p (inl before) = inl before
lead-front layout blocks more p (inr owned) = inr (page-front layout blocks more p owned)

pub lead-behind : (layout : Layout) (more blocks : List Block) (p : ℕ) → IsLeadPage layout blocks p → IsLeadPage layout (more ++ blocks) p
lead-behind layout more blocks p (inl before) = inl before
lead-behind layout more blocks p (inr owned) = inr (page-behind layout more blocks p owned)
