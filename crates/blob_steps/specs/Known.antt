-- Stores of whose objects all is known but their contents: those that a disk has whose contents may be damaged.
use Rattle.std.specs.Prelude.{◌≡◌, ℕ, ⊤, List, length, Option, Some, None}
use Rattle.std.specs.FinMap.{FinMap, get}
use Rattle.store_model.specs.Holds.{place_of}
use Rattle.store_model.specs.Key.{key_order}
use Rattle.store_model.specs.Reading.{Found}
use Rattle.store_model.specs.State.{IsState, State}
use Rattle.store_model.specs.Store.{Object, Store}
use Rattle.vault.specs.declared.memory.Memory.{Memory}

-- A state is that of an object but for the content: it has the object's number, its place, and its content's length.
pub record IsStateOf (state : State) (object : Object) : Type 0 where
  pub sound : IsState state
  pub number : state.born ≡ object.number
  pub place : place_of state ≡ object.place
  pub size : state.size ≡ length object.content

-- so both are there, or neither is
abbrev pub BothKnown : Option State → Option Object → Type 0
BothKnown None None = ⊤
BothKnown (Some state) (Some object) = IsStateOf state object
BothKnown None (Some object) = ⊥
BothKnown (Some state) None = ⊥

-- the state under each key is that of the object there
abbrev pub AllKnown : FinMap key_order State → FinMap key_order Object → Type 0
AllKnown states objects = (key : List ℕ) → BothKnown (get states key) (get objects key)

-- Memory has the states of this store's objects, and its last number.
pub record StoreKnown (mine : Memory) (store : Store) : Type 0 where
  pub objects : AllKnown mine.relation.states store.objects
  pub last : mine.last ≡ store.last

-- So has a store that a disk reads as.
pub record FoundKnown (found : Found) (store : Store) : Type 0 where
  pub objects : AllKnown found.states store.objects
  pub last : found.last ≡ store.last
