-- A crash in a turn or in an opening leaves the store that there was.
use Rattle.std.proofs.Common.{◌≡◌, ℕ, ◌-◌, ◌≤◌, ◌⊎◌, IsTrue, Option, Some, None, inl, inr, refl, sym, subst, arith}
use Rattle.std.specs.FinMap.{FinMap, get}
use Rattle.disk_model.specs.Disks.{OnlyReads}
use Rattle.disk_model.specs.declared.disk.Disk.{Ghosts}
use Rattle.recover.specs.Openings.{LeavesFound, LeavesFrom, MayLeaveFound}
use Rattle.recover.specs.Turns.{InTurn, ReadsThrough}
use Rattle.recover.proofs.Survivals.{Turn-leaves}
use Rattle.store_model.specs.Disk.{Image}
use Rattle.store_model.specs.Half.{picked}
use Rattle.store_model.specs.Images.{LeavesOnly}
use Rattle.store_model.specs.Key.{key_order}
use Rattle.store_model.specs.Layout.{Layout, data_page}
use Rattle.store_model.specs.Reading.{Found}
use Rattle.store_model.specs.Standing.{AllHeld}
use Rattle.store_model.specs.State.{State}
use Rattle.store_model.specs.Store as model
use Rattle.store_model.specs.Store.{Object}
use Rattle.store_model.specs.Survival.{BothTold, ReadsAs}
use Rattle.store_model.proofs.ImageLaws.{leaves_more}
use Rattle.store_model.proofs.OffLaws.{picked-half, poured-data}
use Rattle.store_model.proofs.SurvivalLaws.{found-one}
use Rattle.store_model.proofs.WindowHeldLaws.{Holds-agree}
use Rattle.vault.specs.Crashes.{TurnLeaves}
use Rattle.vault.specs.Leads.{StoreStands}
use Rattle.vault.specs.Vaults.{IsVault, found_of}
use Rattle.vault.specs.declared.memory.Memory.{Memory}
use Rattle.vault.proofs.Offs.{turn-before}
use Rattle.vault.proofs.Readings.{ReadsAs-vault}

-- What is told of a key is told where the data area is the same.
told-same : (layout : Layout) (before image : Image) (state : Option State) (object : Option Object) → ((p : ℕ) → data_page layout ≤ p → image p ≡ before p)
    → BothTold ⊥ before (data_page layout) state object → BothTold ⊥ image (data_page layout) state object
told-same layout before image None None same told = tt
told-same layout before image (Some state) (Some object) same told = record {
  stands = told.stands;
  holds = λ free. Holds-agree layout before image state object.content (λ p poured. same p (poured-data layout state 0 p poured)) (told.holds free);
}
told-same layout before image None (Some object) same told = absurd told
told-same layout before image (Some state) None same told = absurd told

-- An image that a turn leaves reads as the store that the disk read as.
pub ReadsAs-through : (pages : ℕ) (before image : Image) (layout : Layout) (objects : FinMap key_order Object) (last half : ℕ) (found : Found) → half ≤ 1
    → (told : ReadsAs pages before layout objects last) → found ≡ told.found → ReadsThrough pages found half before image → ReadsAs pages image layout objects last
ReadsAs-through pages before image layout objects last half found two told same through =
    let mine : ReadsThrough pages told.found half before image = subst (λ (f : Found). ReadsThrough pages f half before image) same through in
    record {
      found = told.found;
      reads = mine.reads;
      layout_is = told.layout_is;
      last_is = told.last_is;
      told = λ key.
          told-same layout before image (get told.found.states key) (get objects key)
          (λ p past. mine.same p (λ page. turn-before told.found.layout half p two (subst (λ (l : Layout). data_page l ≤ p) (sym told.layout_is) past) page))
          (told.told key);
    }

-- A crash in a turn leaves the store of the vault, whole or not;
pub Turn-through : {D : Type 0} (g : Ghosts D) (old new : D) (mine : Memory) → IsTrue g.tells → IsVault g old mine None
    → InTurn g mine.layout (1 - mine.log.half) mine.last mine.relation.states old new → TurnLeaves g mine old new
Turn-through g old new mine tells vault turned =
    let rest = vault.rest tells refl in
    let two : picked ((g.story old).reads 0) ≤ 1 = picked-half ((g.story old).reads 0) in
    Turn-leaves g mine.layout (1 - mine.log.half) mine.last mine.relation.states old new tells turned rest.settled (rest.at.gives, rest.at.apart)
    (omega (arith, rest.at.half_is, two)) (omega arith) vault.fits

-- and so with all its contents, where they are there.
pub Through-survives : {D : Type 0} (g : Ghosts D) (old new : D) (mine : Memory) (store : model.Store) → IsTrue g.tells → IsVault g old mine None → StoreStands mine store
    → AllHeld (g.story old).reads mine.layout store.objects → TurnLeaves g mine old new
    → LeavesOnly (λ image. ReadsAs (g.size old) image mine.layout store.objects store.last) (g.story old) (g.story new)
Through-survives g old new mine store tells vault stands held leaves =
    let rest = vault.rest tells refl in
    let before : Image = (g.story old).reads in
    let half : ℕ = 1 - mine.log.half in
    let told = ReadsAs-vault g old mine store rest stands held in
    let same : found_of mine ≡ told.found = found-one (g.size old) before (found_of mine) told.found (rest.at.gives, rest.at.apart) told.reads in
    leaves_more (ReadsThrough (g.size old) (found_of mine) half before) (λ image. ReadsAs (g.size old) image mine.layout store.objects store.last) (g.story old) (g.story new)
    (λ image through. ReadsAs-through (g.size old) before image mine.layout store.objects store.last half (found_of mine) (omega arith) told same through)
    leaves

pub Turn-survives : {D : Type 0} (g : Ghosts D) (old new : D) (mine : Memory) (store : model.Store) → IsTrue g.tells → IsVault g old mine None → StoreStands mine store
    → AllHeld (g.story old).reads mine.layout store.objects → InTurn g mine.layout (1 - mine.log.half) mine.last mine.relation.states old new
    → LeavesOnly (λ image. ReadsAs (g.size old) image mine.layout store.objects store.last) (g.story old) (g.story new)
Turn-survives g old new mine store tells vault stands held turned =
    Through-survives g old new mine store tells vault stands held (Turn-through g old new mine tells vault turned)

-- A crash in an opening leaves the store that the disk read as, with its contents.
pub From-survives : {D : Type 0} (g : Ghosts D) (old new : D) (layout : Layout) (store : model.Store) (since : ℕ)
    (told : ReadsAs (g.size old) (g.story old).reads layout store.objects store.last) → LeavesFound g old told.found since new
    → LeavesFrom g (λ image. ReadsAs (g.size old) image layout store.objects store.last) since new
From-survives g old new layout store since told from = record {
  past = from.past;
  each = λ image left.
      ReadsAs-through (g.size old) (g.story old).reads image layout store.objects store.last (1 - picked ((g.story old).reads 0)) told.found (omega arith) told refl
      (from.each image left);
}

pub Opening-survives : {D : Type 0} (g : Ghosts D) (old new : D) (layout : Layout) (store : model.Store) (since : ℕ)
    (told : ReadsAs (g.size old) (g.story old).reads layout store.objects store.last) → MayLeaveFound g old told.found since new
    → LeavesFrom g (λ image. ReadsAs (g.size old) image layout store.objects store.last) since new ⊎ (OnlyReads g old new × ((g.story new).time ≤ since))
Opening-survives g old new layout store since told (inr unsynced) = inr unsynced
Opening-survives g old new layout store since told (inl from) = inl (From-survives g old new layout store since told from)
