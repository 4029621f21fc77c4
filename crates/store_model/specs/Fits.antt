-- The places of the entries of frames, by states alone: each is the least that is free beside the blocks that are owned then.
use Rattle.std.specs.Prelude.{ℕ, ◌≡◌, ◌⊎◌, ◌++◌, ⊤, List, [], ◌∷◌, Option, Some, None, Ok, option_map}
use Rattle.std.specs.List.{AllZip, flat_map}
use Rattle.std.specs.FinMap.{FinMap, get}
use Rattle.store_model.specs.Frame.{Del, Entry, Set, Write}
use Rattle.store_model.specs.Holds.{place_of}
use Rattle.store_model.specs.Key.{key_order}
use Rattle.store_model.specs.Layout.{data_pages}
use Rattle.store_model.specs.Placing.{Holding, Longer, Need, Nothing, Placed, Whole, new_blocks, new_place, place_all}
use Rattle.store_model.specs.Reading.{Found, blocks_of_states, with_frame}
use Rattle.store_model.specs.Space.{Block}
use Rattle.store_model.specs.State.{State}

-- what a state says of its object besides the content
abbrev pub holding_of : State → Holding
holding_of state = record { size = state.size; number = state.born; place = place_of state }

-- what the states say of each key's object
abbrev pub holdings_by : FinMap key_order State → List ℕ → Option Holding
holdings_by states key = option_map holding_of (get states key)

-- what a write needs of the space: a place of its own, or one behind what stands, or nothing
abbrev pub IsNeedOf : Write → List ℕ × Need → Type 0
IsNeedOf (Set key state) need = (need.0 ≡ key) × ((need.1 ≡ Whole state.size) ⊎ (need.1 ≡ Longer state.size))
IsNeedOf (Del key) need = (need.0 ≡ key) × (need.1 ≡ Nothing)

-- a write has the place that its change was given
abbrev pub IsPlacedAt : Placed → Write → Type 0
IsPlacedAt placed (Set key state) = new_place placed ≡ Some (place_of state)
IsPlacedAt placed (Del key) = new_place placed ≡ None

-- The new places of an entry are those that fit beside the owned blocks, one after the other; it takes these.
pub record IsFitted (pages : ℕ) (held : List ℕ → Option Holding) (owned : List Block) (entry : Entry) (taken : List Block) : Type 0 where
  pub needs : List (List ℕ × Need)
  pub are : AllZip IsNeedOf entry.writes needs
  pub placed : List Placed
  pub fit : place_all pages held needs owned ≡ Ok placed
  pub places : AllZip IsPlacedAt placed entry.writes
  pub taken_is : taken ≡ flat_map new_blocks placed

-- so are those of a frame's entries, each beside what those before it took
abbrev pub AreFitted : ℕ → (List ℕ → Option Holding) → List Block → List Entry → Type 0
AreFitted pages held owned [] = ⊤
AreFitted pages held owned (entry ∷ entries) = (taken : List Block) × IsFitted pages held owned entry taken × AreFitted pages held (taken ++ owned) entries

-- the entries of a frame fit behind a store
abbrev pub DoesFrameFit : Found → List Entry → Type 0
DoesFrameFit found entries = AreFitted (data_pages found.layout) (holdings_by found.states) (blocks_of_states found.states) entries

-- so do those of each frame behind the frames before it
abbrev pub DoFit : Found → List (List Entry) → Type 0
DoFit opened [] = ⊤
DoFit opened (entries ∷ frames) = DoesFrameFit opened entries × DoFit (with_frame opened entries entries) frames
