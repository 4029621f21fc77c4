-- What a disk that reads as a store says of a vault over it, and a vault of its disk.
use Rattle.std.proofs.Common.{◌≡◌, ℕ, ◌+◌, List, Option, Some, None, IsTrue, sym, ◌∙◌, ap, subst, arith}
use Rattle.std.specs.FinMap.{get}
use Rattle.disk_model.specs.Disks.{OnlyReads, OnlyWrites}
use Rattle.disk_model.specs.declared.disk.Disk.{Ghosts}
use Rattle.recover.specs.Openings.{IsMetadata}
use Rattle.store_model.specs.Disk.{Image}
use Rattle.store_model.specs.Half.{picked}
use Rattle.store_model.specs.Holds.{HoldsAt}
use Rattle.store_model.specs.Layout.{Layout, data_page, data_pages}
use Rattle.store_model.specs.Reading.{Found, Opened, Reads}
use Rattle.store_model.specs.Holds.{place_of}
use Rattle.store_model.specs.Space.{AreBlocks, blocks_of}
use Rattle.store_model.specs.Standing.{AllHeld, BothStand}
use Rattle.store_model.specs.State.{State}
use Rattle.store_model.specs.Store as model
use Rattle.store_model.specs.Store.{Object, Placement}
use Rattle.store_model.specs.Survival.{BothTold, ReadsAs}
use Rattle.store_model.proofs.FurtherLaws.{TakesEach-layout}
use Rattle.store_model.proofs.HalfRefusalLaws.{FindsHalf-one}
use Rattle.store_model.proofs.ImageLaws.{stays_settled}
use Rattle.store_model.proofs.ReadingOneLaws.{Gives-one}
use Rattle.store_model.proofs.SurvivalHeldLaws.{ReadsAs-standing}
use Rattle.store_model.proofs.TupleBlockLaws.{IsTuple-blocks}
use Rattle.vault.specs.Leads.{IsOpenedAs, StoreStands}
use Rattle.vault.specs.Vaults.{IsAtGate, IsAtRest, IsHeld, IsVault, found_of}
use Rattle.vault.specs.declared.fault.Cause.{Cause}
use Rattle.vault.specs.declared.memory.Memory.{Memory}
use Rattle.vault.proofs.Survivals.{AllHeld-off}

-- what is told of a key says that its state stands for its object,
told-stands : (image : Image) (first : ℕ) (state : Option State) (object : Option Object) → BothTold ⊥ image first state object → BothStand state object
told-stands image first None None told = tt
told-stands image first (Some state) (Some object) told = told.stands
told-stands image first None (Some object) told = absurd told
told-stands image first (Some state) None told = absurd told

-- and that the object's content is held.
told-held : (image : Image) (first : ℕ) (state : Option State) (object : Option Object) (one : Object) → BothTold ⊥ image first state object → object ≡ Some one
    → HoldsAt image first one.place one.content
told-held image first None None one told is = absurd (cc is)
told-held image first (Some state) (Some object) one told is =
    let same : object ≡ one = cc is in
    subst (λ (o : Object). HoldsAt image first o.place o.content) same
    (subst (λ (p : Placement). HoldsAt image first p object.content) told.stands.place (told.holds (λ free. free)).at)
told-held image first None (Some object) one told is = absurd told
told-held image first (Some state) None one told is = absurd told

-- The pages of the data area are as before where those were written that stand before it.
data-off : {D : Type 0} (g : Ghosts D) (old new : D) (found : Found) → Reads (g.size old) (g.story old).reads (Opened found)
    → OnlyWrites g (IsMetadata (g.size old) (g.story old).reads) old new → IsTrue g.tells
    → (at : ℕ) → (g.story new).reads (data_page found.layout + at) ≡ (g.story old).reads (data_page found.layout + at)
data-off g old new found reads wrote tells at =
    let image : Image = (g.story old).reads in
    (wrote.wrote tells).reads (data_page found.layout + at) (λ page.
    let gives = reads.0 in
    let start = (FindsHalf-one (g.size old) image (picked (image 0)) page.start.layout gives.start.layout page.start.last gives.start.last page.start.states gives.start.states page.finds gives.finds).0 in
    let layout : found.layout ≡ page.start.layout = TakesEach-layout _ gives.start gives.bodies found gives.takes ∙ sym start in
    omega (arith, page.before, ap (λ (l : Layout). data_page l) layout))

-- A vault over a disk that read as a store is at that store.
pub IsOpenedAs-read : {D : Type 0} (g : Ghosts D) (old new : D) (mine : Memory) (layout : Layout) (store : model.Store) → IsTrue g.tells
    → Reads (g.size old) (g.story old).reads (Opened (found_of mine)) → OnlyWrites g (IsMetadata (g.size old) (g.story old).reads) old new
    → ReadsAs (g.size old) (g.story old).reads layout store.objects store.last → IsOpenedAs g layout store new mine
IsOpenedAs-read g old new mine layout store tells reads wrote told =
    let image : Image = (g.story old).reads in
    let same : found_of mine ≡ told.found = Gives-one (g.size old) image (found_of mine) told.found reads.0 told.reads.0 in
    let layout_is : mine.layout ≡ layout = ap (λ (f : Found). f.layout) same ∙ told.layout_is in
    record {
      layout_is = layout_is;
      stands = record {
        objects = λ key.
            subst (λ (f : Found). BothStand (get f.states key) (get store.objects key)) (sym same)
            (told-stands image (data_page layout) (get told.found.states key) (get store.objects key) (told.told key));
        last = ap (λ (f : Found). f.last) same ∙ told.last_is;
      };
      held = AllHeld-off image (g.story new).reads layout store.objects
          (λ at. subst (λ (l : Layout). (g.story new).reads (data_page l + at) ≡ image (data_page l + at)) layout_is (data-off g old new (found_of mine) reads wrote tells at))
          (λ key object there. told-held image (data_page layout) (get told.found.states key) (get store.objects key) object (told.told key) there);
    }

-- The disk of a vault that isn't shut reads as its store.
pub ReadsAs-vault : {D : Type 0} (g : Ghosts D) (disk : D) (mine : Memory) (store : model.Store) → IsAtRest (g.size disk) (g.story disk) mine → StoreStands mine store
    → AllHeld (g.story disk).reads mine.layout store.objects → ReadsAs (g.size disk) (g.story disk).reads mine.layout store.objects store.last
ReadsAs-vault g disk mine store rest stands held =
    subst (λ (n : ℕ). ReadsAs (g.size disk) (g.story disk).reads mine.layout store.objects n) stands.last
    (ReadsAs-standing (g.size disk) (g.story disk).reads (found_of mine) store.objects (rest.at.gives, rest.at.apart) stands.objects held)

-- The blocks of a state in memory lie in the data area.
pub held-blocks : (mine : Memory) (key : List ℕ) (state : State) → IsHeld mine → get mine.relation.states key ≡ Some state → AreBlocks (data_pages mine.layout) (blocks_of (place_of state))
held-blocks mine key state held there = IsTuple-blocks (data_pages mine.layout) key state (held.half.tuples key state there)

-- A vault stays one where its disk is only read.
pub IsVault-read : {D : Type 0} (g : Ghosts D) (old new : D) (mine : Memory) (shut : Option Cause) → OnlyReads g old new → IsVault g old mine shut → IsVault g new mine shut
IsVault-read g old new mine shut reads vault = record {
  held = vault.held;
  fits = omega (arith, vault.fits, reads.keeps.size);
  none = vault.none;
  rest = λ tells yet.
      let rest = vault.rest tells yet in
      let stayed = reads.stayed tells in
      let at = rest.at in
      record {
        at =
            subst (λ (n : ℕ). IsAtGate n (g.story new).reads (found_of mine) mine.log.half mine.log.gate) (sym reads.keeps.size)
            (subst (λ (image : Image). IsAtGate (g.size old) image (found_of mine) mine.log.half mine.log.gate) (sym stayed.reads) at);
        settled = stays_settled (g.story old) (g.story new) rest.settled stayed;
      };
}
