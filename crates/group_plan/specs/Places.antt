-- The places that a request's changes take in a space, in the words of the definitions.
use Rattle.std.specs.Prelude.{ℕ, ◌≡◌, ◌≤◌, List, [], ◌++◌, length, map, zip, Option, Some, None, Ok, Err}
use Rattle.std.specs.List.{AllZip, flat_map, sum_by}
use Rattle.std.specs.FinMap.{FinMap, get}
use Rattle.extent_alloc.specs.Parts.{Parts}
use Rattle.frame_codec.specs.declared.entry.Write.{Write}
use Rattle.frame_codec.specs.declared.entry.Write.TheVariants as write
use Rattle.store_model.specs.Holds.{place_of}
use Rattle.store_model.specs.Judgement.{NoSpace}
use Rattle.store_model.specs.Key.{key_order}
use Rattle.store_model.specs.Places.{extent_count, place_with}
use Rattle.store_model.specs.Placing as model_placing
use Rattle.store_model.specs.Placing.{Holding, Need, bytes_after, bytes_before, freed_blocks, new_blocks, new_place, place_all, tiers_behind, tiers_of}
use Rattle.store_model.specs.State.{AreAligned, Draft, HasTail, IsState, Places, State, heads_of}
use Rattle.store_model.specs.Store.{Placement}
use Rattle.txn.specs.Requests.{need_of}
use Rattle.txn.specs.declared.change.Change.{Change}
use Rattle.txn.specs.declared.change.Change.TheVariants as change
use Rattle.group_plan.specs.Frees.{left_by}
use Rattle.group_plan.specs.Plans.{DoesWrite, IsWritten, model_reply}
use Rattle.group_plan.specs.Takings.{HasMoved, Moves, Takes}
use Rattle.group_plan.specs.Touches.{write_keys}
use Rattle.group_plan.specs.declared.judging.Refusal.{Refusal}
use Rattle.group_plan.specs.declared.judging.Refusal.TheVariants as refusal
use Rattle.group_plan.specs.declared.placing.Placed.{Placed}
use Rattle.group_plan.specs.declared.takings.Takings.{Takings}

-- A place was taken for a content of this size of which extents with these heads stand already.
pub record TakesPlace (size : ℕ) (kept : List ℕ) (place : Placement) (old new : Parts) (before after : Takings) : Type 0 where
  pub more : List ℕ
  pub takes : Takes (tiers_behind (length kept) size) more old new before after
  pub place_is : place ≡ place_with size (kept ++ more)
  pub count : length place.heads ≡ extent_count size
  pub aligned : AreAligned place.heads
  pub tail : HasTail size place.tail

-- a write sets a state of this draft at this place
abbrev pub SetsDraft : List ℕ → Draft → ℕ → Placement → Write → Type 0
SetsDraft key draft number place (write.Set at state) = (at ≡ key) × IsState state.value × Places draft place.heads place.tail number state.value
SetsDraft key draft number place (write.Del at) = ⊥

-- A place was taken for the content of this draft, of which extents with these heads stand already, and its state is written.
pub record PlacesDraft (key : List ℕ) (draft : Draft) (kept : List ℕ) (number : ℕ) (old new : Parts) (before after : Takings) (one : Write) : Type 0 where
  pub more : List ℕ
  pub takes : Takes (tiers_behind (length kept) draft.size) more old new before after
  pub sets : SetsDraft key draft number (place_with draft.size (kept ++ more)) one

-- the heads of a state's extents, where there is a state
abbrev pub old_heads : Option State → List ℕ
old_heads None = []
old_heads (Some state) = heads_of state.extents

-- an append makes the content longer that is there
abbrev pub Lengthens : Option State → Change → Type 0
Lengthens (Some state) (change.Append extension) = state.size ≤ extension.draft.value.size
Lengthens (Some state) (change.Put content) = Unit {0}
Lengthens (Some state) change.Del = Unit {0}
Lengthens None one = Unit {0}

-- each append among changes does
abbrev pub AllLengthen : FinMap key_order State → FinMap key_order Change → Type 0
AllLengthen states changes = (key : List ℕ) (one : Change) → get changes key ≡ Some one → Lengthens (get states key) one

-- A place was taken for a change of a key with this object, and it is written.
pub record PlacesChange (number : ℕ) (key : List ℕ) (one : Change) (held : Option Holding) (old new : Parts) (before after : Takings) (written : Write) : Type 0 where
  pub heads : List ℕ
  pub takes : Takes (tiers_of (need_of one) held) heads old new before after
  pub does : DoesWrite key one number (new_place (record { key = key; need = need_of one; old = held; heads = heads })) written

-- the place of the state that a write sets
abbrev pub place_of_write : Write → Option Placement
place_of_write (write.Set key state) = Some (place_of state.value)
place_of_write (write.Del key) = None

-- what changes need of the space
abbrev pub needs_of : List (List ℕ × Change) → List (List ℕ × Need)
needs_of changes = map (λ one. (one.0, need_of one.1)) changes

-- Changes have their places, and are written in an entry of this number.
pub record HasPlaced (held : List ℕ → Option Holding) (number : ℕ) (changes : List (List ℕ × Change)) (old new : Parts) (before after : Takings) (done : Placed) : Type 0 where
  pub placed : List model_placing.Placed
  pub found : place_all old.pages held (needs_of changes) old.owned ≡ Ok placed
  pub written : AllZip (IsWritten number) (zip changes placed) done.writes
  pub moves : Moves (flat_map new_blocks placed) old new before after
  pub added : done.added ≡ sum_by bytes_after placed
  pub replaced : done.replaced ≡ sum_by bytes_before placed
  pub few : done.added ≤ 75472
  pub keys : write_keys done.writes ≡ map (λ one. one.key) placed
  pub freed : flat_map freed_blocks placed ≡ left_by held changes

-- why changes have no places
abbrev pub IsPlaceRefusal : (List ℕ → Option Holding) → List (List ℕ × Change) → Parts → Parts → Takings → Takings → Refusal → Type 0
IsPlaceRefusal held changes old new before after (refusal.Refused reply) =
    (none : List ℕ × ℕ) × (place_all old.pages held (needs_of changes) old.owned ≡ Err none) × (model_reply reply ≡ Err (NoSpace none.0 none.1)) × HasMoved old new before after
IsPlaceRefusal held changes old new before after refusal.OutOfMemory = HasMoved old new before after
