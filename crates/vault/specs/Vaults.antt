-- What a vault has in memory and on its disk, in the words of the definitions.
use Rattle.std.specs.Prelude.{ℕ, ◌≡◌, ◌+◌, ◌-◌, ◌<◌, ◌≤◌, ◌⊎◌, nat_lt, if◌then◌else◌, IfSome, IsTrue, List, length, Option, None, option_map}
use Rattle.std.specs.FinMap.{FinMap, get}
use Rattle.std.specs.List.Sorted.{IsPermutation}
use Rattle.disk_model.specs.Disks.{OnlyReads, OnlyWrites}
use Rattle.disk_model.specs.declared.disk.Disk.{Ghosts}
use Rattle.recover.specs.Turns.{InTurn}
use Rattle.meta_log.specs.Logs.{Parts}
use Rattle.relation.specs.Parts.{owned_by}
use Rattle.store_model.specs.Dependence.{LosesNone}
use Rattle.store_model.specs.Disk.{Image, zero_page}
use Rattle.store_model.specs.Frame.{Entry, Spells}
use Rattle.store_model.specs.Half.{IsHalf, picked}
use Rattle.store_model.specs.Images.{Settled, Story}
use Rattle.store_model.specs.Key.{key_order}
use Rattle.store_model.specs.Layout.{Layout, data_pages, total_pages}
use Rattle.store_model.specs.Log.{at_log, body_page, body_pages}
use Rattle.store_model.specs.Reading.{Found, Gives, GoesOn, blocks_of_states, with_frame}
use Rattle.store_model.specs.Space.{Apart}
use Rattle.store_model.specs.State.{State}
use Rattle.store_model.specs.Windows.{HasPlaces, HasRoomFor, IsBodyPage}
use Rattle.vault.specs.Pours.{IsSecondPage, Pour}
use Rattle.vault.specs.declared.fault.Cause.{Cause}
use Rattle.vault.specs.declared.memory.Memory.{Memory}

-- the store that is held in memory
abbrev pub found_of : Memory → Found
found_of mine = record { layout = mine.layout; last = mine.last; states = mine.relation.states }

-- the number under which a key has its state, or none
abbrev pub number_at : FinMap key_order State → List ℕ → Option ℕ
number_at states key = option_map (λ state. state.born) (get states key)

-- The states are those that a half of the layout may have, written by entries up to the last one; no page is owned twice; the log is
-- that of a half of the same layout; and where a space is held, its blocks are those that the states own.
pub record IsHeld (mine : Memory) : Type 0 where
  pub half : IsHalf mine.layout mine.last mine.relation.states
  pub apart : Apart (blocks_of_states mine.relation.states)
  pub log : mine.log.layout ≡ mine.layout
  pub owned : IfSome mine.space (λ space. IsPermutation space.owned (owned_by mine.relation.states))
  pub pages : IfSome mine.space (λ space. space.pages ≡ data_pages mine.layout)

-- And no body lies behind the log's gate.
pub record IsSound (mine : Memory) : Type 0 where
  pub held : IsHeld mine
  pub none : mine.log.next ≡ mine.log.gate

-- The store is the same, and so is the log.
pub record SameStore (old new : Memory) : Type 0 where
  pub layout : new.layout ≡ old.layout
  pub relation : new.relation ≡ old.relation
  pub log : new.log ≡ old.log
  pub last : new.last ≡ old.last

-- The store is the same, and so is the space. The log may have moved.
pub record SameHeld (old new : Memory) : Type 0 where
  pub layout : new.layout ≡ old.layout
  pub relation : new.relation ≡ old.relation
  pub space : new.space ≡ old.space
  pub last : new.last ≡ old.last

-- A disk of so many pages reads as this store, and the next frame goes behind this gate of this half: the half is the picked one,
-- the gate is the first closed one, and the last frame has lost no entry.
pub record IsAtGate (pages : ℕ) (image : Image) (found : Found) (half gate : ℕ) : Type 0 where
  pub gives : Gives pages image found
  pub gate_is : gives.gate ≡ gate
  pub half_is : picked (image 0) ≡ half
  pub lossless : LosesNone image gives.start.layout gives.bodies
  pub apart : Apart (blocks_of_states found.states)

-- So it does of the store in memory, and of the log's gate.
abbrev pub AtGate : ℕ → Image → Memory → Type 0
AtGate pages image mine = IsAtGate pages image (found_of mine) mine.log.half mine.log.gate

-- So it reads, and a crash leaves just that.
pub record IsAtRest (pages : ℕ) (story : Story) (mine : Memory) : Type 0 where
  pub at : AtGate pages story.reads mine
  pub settled : Settled story

-- What a vault keeps over its calls. While it isn't shut, no body lies behind the gate, and a disk that tells its pages is at rest.
pub record IsVault {D : Type 0} (g : Ghosts D) (disk : D) (mine : Memory) (shut : Option Cause) : Type 0 where
  pub held : IsHeld mine
  pub fits : total_pages mine.layout ≤ g.size disk
  pub none : shut ≡ None → mine.log.next ≡ mine.log.gate
  pub rest : IsTrue g.tells → shut ≡ None → IsAtRest (g.size disk) (g.story disk) mine

-- the log of the other half, without bodies
abbrev pub turned_log : Layout → ℕ → Parts
turned_log layout half = record { layout = layout; half = 1 - half; gate = 0; next = 0 }

-- how many pages are written where a log with `left` pages is turned before `need` are written, over states of so many bytes; and
-- how many syncs there are
abbrev pub turn_pages : ℕ → ℕ → ℕ → ℕ
turn_pages left need bytes = if nat_lt left need then body_pages bytes + 3 else 0

abbrev pub turn_syncs : ℕ → ℕ → ℕ
turn_syncs left need = if nat_lt left need then 2 else 0

-- where the gate is then
abbrev pub turned_gate : ℕ → ℕ → ℕ
turned_gate gate need = if nat_lt (511 - gate) need then 0 else gate

-- A body stands behind a gate of a half's log, page by page, and the next gate is closed.
pub record StandsBehind (image : Image) (half gate : ℕ) (bytes : List ℕ) : Type 0 where
  pub pages : (i : ℕ) → i < body_pages (length bytes) → image (at_log half (gate + 1 + i)) ≡ body_page bytes i
  pub closed : image (at_log half (gate + 1 + body_pages (length bytes))) ≡ zero_page

-- Where the log had no room the disk was turned, or a part of the turn was written; where it had, nothing was.
abbrev pub MayHaveTurned : {D : Type 0} → Ghosts D → Memory → D → D → Type 0
MayHaveTurned g before old base = OnlyReads g old base ⊎ InTurn g before.layout (1 - before.log.half) before.last before.relation.states old base

-- A body was laid: where the log had no room for it the disk was turned; then it was at rest, with the gate where memory has it now;
-- and from there on the body's pages were written, and the next gate, and these are settled.
pub record HasLaid {D : Type 0} (g : Ghosts D) (before now : Memory) (bytes : List ℕ) (old base new : D) : Type 0 where
  pub turned : MayHaveTurned g before old base
  pub rest : IsTrue g.tells → IsAtRest (g.size old) (g.story old) before → IsAtRest (g.size base) (g.story base) now
  pub wrote : OnlyWrites g (IsBodyPage now.log.half now.log.gate bytes) base new
  pub settled : IsTrue g.tells → Settled (g.story new)
  pub stands : IsTrue g.tells → StandsBehind (g.story new).reads now.log.half now.log.gate bytes

-- The first window of a commit, or a part of it: the disk may have been turned, or a part of the turn written. Where any page of the
-- body was, or the next gate, the disk was at rest before, with the store that memory had, at the gate behind which they stand.
pub record InFirst {D : Type 0} (g : Ghosts D) (before : Memory) (bytes : List ℕ) (old new : D) : Type 0 where
  pub half : ℕ
  pub gate : ℕ
  pub two : half < 2
  pub fits : gate + 1 + body_pages (length bytes) ≤ 511
  pub base : D
  pub turned : MayHaveTurned g before old base
  pub start : (new ≡ base) ⊎ (IsTrue g.tells → IsAtRest (g.size old) (g.story old) before
      → IsAtGate (g.size base) (g.story base).reads (found_of before) half gate × Settled (g.story base))
  pub wrote : OnlyWrites g (IsBodyPage half gate bytes) base new

-- The second window of a commit begins: the disk was at rest with the store that memory had, at this gate of this half, before the body
-- was written; and the body stands behind that gate, with the next gate closed, and a crash leaves just that.
pub record BeginsSecond {D : Type 0} (g : Ghosts D) (before : Memory) (bytes : List ℕ) (half gate : ℕ) (old base mid : D) : Type 0 where
  pub at : IsAtRest (g.size old) (g.story old) before
      → IsAtGate (g.size base) (g.story base).reads (found_of before) half gate × Settled (g.story base)
  pub settled : Settled (g.story mid)
  pub stands : StandsBehind (g.story mid).reads half gate bytes

-- These entries may follow a store as its next frame, with these bytes as their body: their numbers go on, the states that they set have
-- new places, and a half has room for the states, whichever of the entries are kept.
pub record IsNextFrame (found : Found) (bytes : List ℕ) (entries : List Entry) : Type 0 where
  pub spells : Spells (data_pages found.layout) bytes entries
  pub goes_on : GoesOn found.last entries
  pub places : HasPlaces found.layout found.states entries
  pub room : HasRoomFor found.layout found.states entries

-- The disk reads as the store in memory behind these entries, at the log's gate, and a crash leaves just that.
pub record IsCommitted (pages : ℕ) (story : Story) (mine : Memory) (entries : List Entry) : Type 0 where
  pub at : IsAtGate pages story.reads (with_frame (found_of mine) entries entries) mine.log.half mine.log.gate
  pub settled : Settled story

-- What a commit may have written, at whatever moment it ended: in the first window the pages of a turn and then those of a body; and
-- where that window was closed by a sync, and the body stands, in the second the pages of contents and the gate.
pub record InWindows {D : Type 0} (g : Ghosts D) (before : Memory) (bytes : List ℕ) (pours : List Pour) (old new : D) : Type 0 where
  pub mid : D
  pub first : InFirst g before bytes old mid
  pub second : (new ≡ mid) ⊎ ((IsTrue g.tells → BeginsSecond g before bytes first.half first.gate old first.base mid)
      × OnlyWrites g (IsSecondPage before.layout pours first.half first.gate) mid new)

-- Nothing was written, and the store is as before, and so is the log; and the vault is shut where it was.
pub record IsUnmade {D : Type 0} (old new : D) (before now : Memory) (was is : Option Cause) : Type 0 where
  pub disk : new ≡ old
  pub layout : now.layout ≡ before.layout
  pub states : now.relation.states ≡ before.relation.states
  pub log : now.log ≡ before.log
  pub last : now.last ≡ before.last
  pub shut : is ≡ was
