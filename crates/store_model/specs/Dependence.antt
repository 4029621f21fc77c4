-- What the reading of a store looks at, and what two images have alike where they read as the same store.
use Rattle.std.specs.Prelude.{ℕ, ◌+◌, ◌-◌, ◌<◌, ◌≡◌, ◌⊎◌, false, IsTrue, List, [], ◌∷◌, length, Contains}
use Rattle.store_model.specs.Disk.{Image}
use Rattle.store_model.specs.Frame.{Entry, Set, Spells}
use Rattle.store_model.specs.Half.{picked, tuples_spelling}
use Rattle.store_model.specs.Holds.{IsPoured}
use Rattle.store_model.specs.Images.{Within}
use Rattle.store_model.specs.Layout.{Layout, data_page, data_pages, header_page, states_page}
use Rattle.store_model.specs.Log.{IsLogPage, at_log, body_pages, log_pages}
use Rattle.store_model.specs.LogReading.{IsBodyAt, StoredBody, gate_is_open, next_gate}
use Rattle.store_model.specs.Reading.{AreKept, Found, Gives, Takes}
use Rattle.store_model.specs.Space.{Block, owners}
use Rattle.store_model.specs.State.{State}

-- a page of a half that its reading looks at, where its states' tuples take so many bytes: its header, or one of those that the
-- tuples lie on
abbrev pub IsHalfPage : Layout → ℕ → ℕ → ℕ → Type 0
IsHalfPage layout bytes half p = (p ≡ header_page half) ⊎ Within (states_page layout half) (body_pages bytes) p

-- a page that has bytes of the content of a state which one of these entries sets
pub record IsContentPage (layout : Layout) (entries : List Entry) (p : ℕ) : Type 0 where
  pub entry : Entry
  pub among : Contains entries entry
  pub key : List ℕ
  pub state : State
  pub sets : Contains entry.writes (Set key state)
  pub poured : IsPoured layout state 0 p

-- these are the entries of the last of these bodies, and none where there is no body
abbrev pub LastEntries : Layout → List StoredBody → List Entry → Type 0
LastEntries layout [] entries = entries ≡ []
LastEntries layout (body ∷ []) entries = Spells (data_pages layout) body.bytes entries
LastEntries layout (body ∷ next ∷ bodies) entries = LastEntries layout (next ∷ bodies) entries

-- the last frame lost no entry: the states that its entries set verify
abbrev pub LosesNone : Image → Layout → List StoredBody → Type 0
LosesNone image layout bodies = (entries : List Entry) → LastEntries layout bodies entries → AreKept image layout entries entries

-- Two images agree on the selector, on the picked half's header and tuples, and on its log before its first closed gate.
pub record AgreesToGate (pages : ℕ) (image other : Image) (found : Found) (gives : Gives pages image found) : Type 0 where
  pub selector : other 0 ≡ image 0
  pub half : (p : ℕ) → IsHalfPage gives.start.layout (length (tuples_spelling gives.start.states)) (picked (image 0)) p → other p ≡ image p
  pub log : (i : ℕ) → i < gives.gate → other (at_log (picked (image 0)) i) ≡ image (at_log (picked (image 0)) i)

-- They agree on all that the reading of a store looks at: that gate is closed in the other image too, and the contents of the
-- states that the last frame sets are the same.
pub record Agrees (pages : ℕ) (image other : Image) (found : Found) (gives : Gives pages image found) : Type 0 where
  pub before : AgreesToGate pages image other found gives
  pub closed : gate_is_open other (picked (image 0)) gives.gate ≡ false
  pub contents : (entries : List Entry) (p : ℕ) → LastEntries gives.start.layout gives.bodies entries → IsContentPage gives.start.layout entries p → other p ≡ image p

-- a page that the reading of a store looks at
abbrev pub IsLookedAt : (pages : ℕ) (image : Image) (found : Found) → Gives pages image found → ℕ → Type 0
IsLookedAt pages image found gives p =
    (p ≡ 0)
    ⊎ IsHalfPage gives.start.layout (length (tuples_spelling gives.start.states)) (picked (image 0)) p
    ⊎ IsLogPage (picked (image 0)) 0 (gives.gate + 1) p
    ⊎ ((entries : List Entry) × (LastEntries gives.start.layout gives.bodies entries × IsContentPage gives.start.layout entries p))

-- a page of the log area of the picked half, behind its first closed gate
abbrev pub IsBehindGate : (pages : ℕ) (image : Image) (found : Found) → Gives pages image found → ℕ → Type 0
IsBehindGate pages image found gives p = IsLogPage (picked (image 0)) (gives.gate + 1) (log_pages - 1 - gives.gate) p

-- a page of the half that isn't this one: its header, or one of its log area or of its states' pages
abbrev pub IsOtherHalfPage : Layout → ℕ → ℕ → Type 0
IsOtherHalfPage layout half p =
    (p ≡ header_page (1 - half)) ⊎ IsLogPage (1 - half) 0 log_pages p ⊎ Within (states_page layout (1 - half)) layout.room p

-- page p of a disk is one of the data area, or behind it, that none of these blocks owns
pub record IsFreePage (layout : Layout) (blocks : List Block) (p : ℕ) : Type 0 where
  pub at : ℕ
  pub is : p ≡ data_page layout + at
  pub free : owners blocks at ≡ 0

-- That gate is open in the other image, and behind it stands one more body, which is taken: the frame before it lost no entry, of
-- its own those are kept whose states verify on the other image, and the next gate is closed.
pub record HasFurther (pages : ℕ) (image other : Image) (found : Found) (gives : Gives pages image found) (bytes : List ℕ) (after : Found) : Type 0 where
  pub before : AgreesToGate pages image other found gives
  pub lossless : LosesNone image gives.start.layout gives.bodies
  pub opened : IsTrue (gate_is_open other (picked (image 0)) gives.gate)
  pub body : IsBodyAt other (picked (image 0)) gives.gate bytes
  pub closed : gate_is_open other (picked (image 0)) (next_gate gives.gate (length bytes)) ≡ false
  pub takes : Takes (AreKept other found.layout) found (record { page = gives.gate; bytes = bytes }) after
