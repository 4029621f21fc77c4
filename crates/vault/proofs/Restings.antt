-- A lead that ended well leaves the disk at rest, with the store behind its group.
use Rattle.std.proofs.Common.{◌≡◌, IsTrue, List, Option, None, sym, subst, arith}
use Rattle.std.specs.FinMap.{get}
use Rattle.disk_model.specs.declared.disk.Disk.{Ghosts}
use Rattle.group_plan.specs.Plans.{committed, members_of}
use Rattle.group_plan.specs.declared.plan.Reply.{Reply}
use Rattle.store_model.specs.Disk.{Image}
use Rattle.store_model.specs.Layout.{Layout}
use Rattle.store_model.specs.Standing.{AllHeld, AllStand}
use Rattle.store_model.specs.Store as model
use Rattle.store_model.specs.Survival.{ReadsAs}
use Rattle.txn.specs.declared.request.Request.{Request}
use Rattle.vault.specs.Crashes.{LeadRests}
use Rattle.vault.specs.Leads.{Led, StoreStands, ledger_in}
use Rattle.vault.specs.Pours.{made_by}
use Rattle.vault.specs.Vaults.{IsHeld, IsVault}
use Rattle.vault.specs.declared.fault.Cause.{Cause}
use Rattle.vault.specs.declared.memory.Memory.{Memory}
use Rattle.vault.proofs.Objects.{state-of}
use Rattle.vault.proofs.Readings.{ReadsAs-vault}

-- Objects that are held stand, where zeros are asked behind none but those that are written later.
pub AllHeld-stand : (mine : Memory) (image : Image) (store : model.Store) → IsHeld mine → StoreStands mine store → AllHeld image mine.layout store.objects
    → AllStand mine.last image mine.layout store.objects
AllHeld-stand mine image store sound stands held key object is = record {
  held = held key object is;
  filled = λ above.
      let state = state-of (get mine.relation.states key) (get store.objects key) object (stands.objects key) is in
      absurd (omega (arith, above, state.2.number, sound.half.born key state.0 state.1));
}

-- The disk rests at the store behind the group, where the vault is at it and isn't shut.
pub LeadRests-led : {D : Type 0} (g : Ghosts D) (before now : Memory) (shut : Option Cause) (queue : List Request) (replies : List Reply) (old new : D) → IsTrue g.tells
    → IsHeld before → IsVault g new now shut → shut ≡ None → now.layout ≡ before.layout
    → ((store : model.Store) → StoreStands before store → Led g old new before store queue (members_of (ledger_in before) queue) replies now)
    → LeadRests g before queue old new
LeadRests-led g before now shut queue replies old new tells sound vault yet layout led store stands held =
    let one = led store stands in
    let after : model.Store = made_by store (committed queue (members_of (ledger_in before) queue)) in
    let rest = vault.rest tells yet in
    let stand : AllStand before.last (g.story new).reads before.layout after.objects =
    one.objects tells before.last (AllHeld-stand before (g.story old).reads store sound stands held) in
    record {
      reads =
          subst (λ (l : Layout). ReadsAs (g.size new) (g.story new).reads l after.objects after.last) layout
          (ReadsAs-vault g new now after rest one.stands
          (subst (λ (l : Layout). AllHeld (g.story new).reads l after.objects) (sym layout) (λ key object is. (stand key object is).held)));
      settled = rest.settled;
    }
