-- What a lead does to a vault, in the words of the definitions.
use Rattle.std.specs.Prelude.{ℕ, ◌≡◌, ◌<◌, ◌⊎◌, IsTrue, List, map, zip}
use Rattle.std.specs.List.{AllZip}
use Rattle.disk_model.specs.Disks.{OnlyWrites}
use Rattle.disk_model.specs.declared.disk.Disk.{Ghosts}
use Rattle.frame_codec.specs.Values.{model_entries}
use Rattle.frame_codec.specs.declared.entry.Entry.{Entry}
use Rattle.group_plan.specs.Plans.{IsEntryOf, committed, ledger_by, model_reply}
use Rattle.group_plan.specs.declared.plan.Reply.{Reply}
use Rattle.store_model.specs.Cost.{Cost, Spent, with_lead}
use Rattle.store_model.specs.Frame.{body_spelling}
use Rattle.store_model.specs.Group.{Member, commits_of, reply_of, taken_blocks}
use Rattle.store_model.specs.Judgement.{Ledger}
use Rattle.store_model.specs.Layout.{Layout, data_page, data_pages}
use Rattle.store_model.specs.Space.{Block, IsOwnedPage}
use Rattle.store_model.specs.Standing.{AllHeld, AllStand, SameObjects}
use Rattle.store_model.specs.Store as model
use Rattle.store_model.specs.World.{states_bytes}
use Rattle.txn.specs.declared.request.Request.{Request}
use Rattle.vault.specs.Pours.{AreAt, made_by, pours_of_all, requests_at}
use Rattle.vault.specs.Vaults.{InWindows, IsNextFrame, found_of}
use Rattle.vault.specs.declared.memory.Memory.{Memory}

-- Memory is at this store.
pub record StoreStands (mine : Memory) (store : model.Store) : Type 0 where
  pub objects : SameObjects mine.relation.states store.objects
  pub last : mine.last ≡ store.last

-- what a group is judged by in a vault
abbrev pub ledger_in : Memory → Ledger
ledger_in mine = ledger_by mine.relation.states mine.last (states_bytes mine.layout) (data_pages mine.layout)

-- a page that a lead may write: one before the data area, or one of the blocks that its transactions take
abbrev pub IsLeadPage : Layout → List Block → ℕ → Type 0
IsLeadPage layout taken p = (p < data_page layout) ⊎ IsOwnedPage layout taken p

-- A disk and the log in memory went from one cost to another.
pub record Costs {D : Type 0} (g : Ghosts D) (before after : Cost) (old new : D) (now : Memory) : Type 0 where
  pub gate : now.log.gate ≡ after.gate
  pub spent : IsTrue g.tells → Spent before after (g.calls old) (g.calls new)

-- A queue over this store was led: the members of its group had these replies, memory is where their committed transactions lead, and
-- so is the disk: where the objects stood before, those stand that the transactions lead to; no page of the data area has changed but
-- those of the blocks that they took; and the lead cost just what they cost.
pub record Led {D : Type 0} (g : Ghosts D) (old new : D) (before : Memory) (store : model.Store) (queue : List Request) (members : List Member) (replies : List Reply)
    (mine : Memory) : Type 0 where
  pub replies_are : map model_reply replies ≡ map reply_of members
  pub stands : StoreStands mine (made_by store (committed queue members))
  pub objects : IsTrue g.tells → (from : ℕ) → AllStand from (g.story old).reads before.layout store.objects
      → AllStand from (g.story new).reads before.layout (made_by store (committed queue members)).objects
  pub wrote : OnlyWrites g (IsLeadPage before.layout (taken_blocks (commits_of members))) old new
  pub costs : (cost : Cost) → cost.gate ≡ before.log.gate → Costs g cost (with_lead store (commits_of members) cost) old new mine

-- What a lead may have written, at whatever moment it ended: the frame of the group's entries, which may follow the store as its next one,
-- and the contents of its requests.
pub record MayHaveWritten {D : Type 0} (g : Ghosts D) (before : Memory) (queue : List Request) (members : List Member) (old new : D) : Type 0 where
  pub entries : List Entry
  pub places : List ℕ
  pub are : AllZip IsEntryOf (committed queue members) entries
  pub at : AreAt queue entries places
  pub frame : IsNextFrame (found_of before) (body_spelling (model_entries entries)) (model_entries entries)
  pub windows : InWindows g before (body_spelling (model_entries entries)) (pours_of_all (zip (requests_at queue places) entries)) old new

-- A store of this layout was opened: memory is at it, and the disk holds its contents.
pub record IsOpenedAs {D : Type 0} (g : Ghosts D) (layout : Layout) (store : model.Store) (disk : D) (mine : Memory) : Type 0 where
  pub layout_is : mine.layout ≡ layout
  pub stands : StoreStands mine store
  pub held : AllHeld (g.story disk).reads layout store.objects
