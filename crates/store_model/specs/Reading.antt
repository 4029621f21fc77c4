-- The reading of a disk: the store that its pages tell, or why there is none.
use Rattle.std.specs.Prelude.{ℕ, ⊤, ◌≡◌, ◌+◌, ◌*◌, ◌<◌, ◌≤◌, ◌⊎◌, List, [], ◌∷◌, length, fold, Some}
use Rattle.std.specs.List.{All, flat_map}
use Rattle.std.specs.FinMap.{FinMap, entries, get, insert, remove}
use Rattle.store_model.specs.Closing.{Refusal}
use Rattle.store_model.specs.Closing as why
use Rattle.store_model.specs.Disk.{Image, page_bytes}
use Rattle.store_model.specs.Frame.{Entry, Set, Spells, Write}
use Rattle.store_model.specs.Frame as frame
use Rattle.store_model.specs.Half.{picked, tuples_spelling}
use Rattle.store_model.specs.HalfRefusals.{FindsHalf, RefusesHalf}
use Rattle.store_model.specs.HalfRefusals as half_refusal
use Rattle.store_model.specs.Holds.{Holds, place_of}
use Rattle.store_model.specs.Key.{key_order}
use Rattle.store_model.specs.Layout.{Layout, data_page, data_pages}
use Rattle.store_model.specs.LogReading.{HasBodies, LacksBody, StoredBody}
use Rattle.store_model.specs.Space.{Apart, Block, IsLeastOwnedTwice, blocks_of}
use Rattle.store_model.specs.State.{State, prefix_of}
use Rattle.store_model.specs.Verify.{Verifies}

-- what a disk tells of a store: its layout, the number of its last entry, and the states under their keys
pub record Found : Type 0 where
  pub layout : Layout
  pub last : ℕ
  pub states : FinMap key_order State

-- a store, or why there is none
pub data Reading : Type 0 where
  Refused : Refusal → Reading
  Opened : Found → Reading

-- the least number of pages that a store takes
abbrev pub least_pages : ℕ
least_pages = 2053

-- the states where an entry's writes have changed them
abbrev pub with_write : FinMap key_order State → Write → FinMap key_order State
with_write states (Set key state) = insert states key state
with_write states (frame.Del key) = remove states key

abbrev pub with_entry : FinMap key_order State → Entry → FinMap key_order State
with_entry states entry = fold with_write states entry.writes

-- the states where these entries have changed them, in their order
abbrev pub with_entries : FinMap key_order State → List Entry → FinMap key_order State
with_entries states entries = fold with_entry states entries

-- the number of the last of these entries, and this one where there is none
abbrev pub last_number : ℕ → List Entry → ℕ
last_number last [] = last
last_number last (entry ∷ entries) = last_number entry.number entries

-- the number of the first of these entries is one more than this one
abbrev pub GoesOn : ℕ → List Entry → Type 0
GoesOn last [] = ⊥
GoesOn last (entry ∷ entries) = entry.number ≡ last + 1

-- the state that a write sets verifies, where it sets one
abbrev pub DoesWriteVerify : Image → Layout → Write → Type 0
DoesWriteVerify image layout (Set key state) = Verifies image (data_page layout) state
DoesWriteVerify image layout (frame.Del key) = ⊤

-- all the states that an entry sets verify
abbrev pub DoesVerify : Image → Layout → Entry → Type 0
DoesVerify image layout entry = All (DoesWriteVerify image layout) entry.writes

-- which of the last entries are kept: those of which all the states verify
abbrev pub AreKept : Image → Layout → List Entry → List Entry → Type 0
AreKept image layout [] kept = kept ≡ []
AreKept image layout (entry ∷ entries) kept =
    (DoesVerify image layout entry × ((rest : List Entry) × (kept ≡ entry ∷ rest) × AreKept image layout entries rest))
    ⊎ ((DoesVerify image layout entry → ⊥) × AreKept image layout entries kept)

-- all of them are
abbrev pub AreAllKept : List Entry → List Entry → Type 0
AreAllKept entries kept = kept ≡ entries

-- what is found behind a frame of some entries, of which some are kept
abbrev pub with_frame : Found → List Entry → List Entry → Found
with_frame before told kept = record {
  layout = before.layout;
  last = last_number before.last told;
  states = with_entries before.states kept;
}

-- A body is taken: it tells entries that go on behind the last one, and with those of them that are kept the states have room.
pub record Takes (Kept : List Entry → List Entry → Type 0) (before : Found) (body : StoredBody) (after : Found) : Type 0 where
  pub entries_told : List Entry
  pub spells : Spells (data_pages before.layout) body.bytes entries_told
  pub goes_on : GoesOn before.last entries_told
  pub entries_kept : List Entry
  pub kept : Kept entries_told entries_kept
  pub after_is : after ≡ with_frame before entries_told entries_kept
  pub room : length (tuples_spelling after.states) ≤ page_bytes * after.layout.room

-- what is kept of the entries of a body, where these bodies stand behind it in the log: of the last one those that verify
abbrev pub KeptIn : Image → Layout → List StoredBody → List Entry → List Entry → Type 0
KeptIn image layout [] = AreKept image layout
KeptIn image layout (body ∷ bodies) = AreAllKept

-- Bodies are taken in their order. What is kept of each goes by those behind it.
abbrev pub TakesEach : (List StoredBody → List Entry → List Entry → Type 0) → Found → List StoredBody → Found → Type 0
TakesEach Kept before [] after = after ≡ before
TakesEach Kept before (body ∷ bodies) after = (next : Found) × Takes (Kept bodies) before body next × TakesEach Kept next bodies after

-- nothing can be taken of a body
abbrev pub IsBadFrame : (List Entry → List Entry → Type 0) → Found → StoredBody → Type 0
IsBadFrame Kept before body = (after : Found) → Takes Kept before body after → ⊥

-- The first bad frame among these is the one behind the gate at this page; the bodies before it are taken.
abbrev pub IsFirstBad : (List StoredBody → List Entry → List Entry → Type 0) → Found → List StoredBody → ℕ → Type 0
IsFirstBad Kept before [] page = ⊥
IsFirstBad Kept before (body ∷ bodies) page =
    (IsBadFrame (Kept bodies) before body × (page ≡ body.page))
    ⊎ ((next : Found) × Takes (Kept bodies) before body next × IsFirstBad Kept next bodies page)

-- The log of a half is refused at the gate of this page: its frame is the first that is bad, or the gate is open and no body stands
-- behind it.
abbrev pub RefusesLog : Image → ℕ → Found → ℕ → Type 0
RefusesLog image half before page =
    ((bodies : List StoredBody) × ((gate : ℕ) × (HasBodies image half bodies gate × IsFirstBad (KeptIn image before.layout) before bodies page)))
    ⊎ ((bodies : List StoredBody) × ((gate : ℕ) × (LacksBody image half bodies gate
    × (IsFirstBad (λ _. AreAllKept) before bodies page ⊎ (((after : Found) × TakesEach (λ _. AreAllKept) before bodies after) × (page ≡ gate))))))

-- the blocks that states own, in the order of their keys
abbrev pub blocks_of_states : FinMap key_order State → List Block
blocks_of_states states = flat_map (λ entry. blocks_of (place_of entry.1)) (entries states)

-- The log's bodies are taken behind the picked half's states, which gives this.
pub record Gives (pages : ℕ) (image : Image) (found : Found) : Type 0 where
  pub start : Found
  pub finds : FindsHalf pages image (picked (image 0)) start.layout start.last start.states
  pub bodies : List StoredBody
  pub gate : ℕ
  pub log : HasBodies image (picked (image 0)) bodies gate
  pub takes : TakesEach (KeptIn image start.layout) start bodies found

-- The picked half is refused for this, and pages are enough for some store.
abbrev pub RefusesPicked : ℕ → Image → ℕ → half_refusal.HalfRefusal → Type 0
RefusesPicked pages image half refusal = (least_pages ≤ pages) × (half ≡ picked (image 0)) × RefusesHalf pages image half refusal

-- A disk of so many pages is no store, for this: the first that applies, in the order of the picked half, the log's frames, and the
-- pages that are owned twice.
abbrev pub IsRefused : ℕ → Image → Refusal → Type 0
IsRefused pages image (why.TooSmall need have) =
    ((pages < least_pages) × (need ≡ least_pages) × (have ≡ pages))
    ⊎ RefusesPicked pages image (picked (image 0)) (half_refusal.TooSmall need have)
IsRefused pages image (why.BadHalf half at) = RefusesPicked pages image half (half_refusal.BadHalf at)
IsRefused pages image (why.BadTuple half at) = RefusesPicked pages image half (half_refusal.BadTuple at)
IsRefused pages image (why.BadFrame half page) =
    (half ≡ picked (image 0))
    × ((start : Found) × (FindsHalf pages image half start.layout start.last start.states × RefusesLog image half start page))
IsRefused pages image (why.OwnedTwice page) = (found : Found) × (Gives pages image found × IsLeastOwnedTwice (blocks_of_states found.states) page)

-- The reading of a disk of so many pages.
abbrev pub Reads : ℕ → Image → Reading → Type 0
Reads pages image (Refused refusal) = IsRefused pages image refusal
Reads pages image (Opened found) = Gives pages image found × Apart (blocks_of_states found.states)

-- A disk reads as a whole store: each of its states verifies, and has the first bytes of its content as its prefix.
pub record IsWhole (pages : ℕ) (image : Image) (found : Found) : Type 0 where
  pub reads : Reads pages image (Opened found)
  pub verifies : (key : List ℕ) (state : State) → get found.states key ≡ Some state → Verifies image (data_page found.layout) state
  pub prefix : (key : List ℕ) (state : State) (content : List ℕ) → get found.states key ≡ Some state
      → Holds image (data_page found.layout) state content → state.prefix ≡ prefix_of content
