-- States that stand for objects: what a state says of an object, and what the pages of a disk say of it.
use Rattle.std.specs.Prelude.{ℕ, ◌≡◌, ◌+◌, ◌<◌, ⊤, List, Option, Some, None}
use Rattle.std.specs.FinMap.{FinMap, get}
use Rattle.store_model.specs.Disk.{Image, page_of}
use Rattle.store_model.specs.Holds.{HoldsAt, place_of, rest_of}
use Rattle.store_model.specs.Key.{key_order}
use Rattle.store_model.specs.Layout.{Layout, data_page}
use Rattle.store_model.specs.State.{IsState, State, Tells}
use Rattle.store_model.specs.Store.{Object}
use Rattle.store_model.specs.Verify.{IsDamage}

-- A state stands for an object: it has the object's number and place, and it tells the object's content.
pub record StandsFor (state : State) (object : Object) : Type 0 where
  pub sound : IsState state
  pub number : state.born ≡ object.number
  pub place : place_of state ≡ object.place
  pub tells : Tells state object.content

-- both are there and one stands for the other, or neither is
abbrev pub BothStand : Option State → Option Object → Type 0
BothStand None None = ⊤
BothStand (Some state) (Some object) = StandsFor state object
BothStand None (Some object) = ⊥
BothStand (Some state) None = ⊥

-- the state under each key stands for the object there
abbrev pub SameObjects : FinMap key_order State → FinMap key_order Object → Type 0
SameObjects states objects = (key : List ℕ) → BothStand (get states key) (get objects key)

-- the content of each object is held at its place, in the data area of a disk of this layout
abbrev pub AllHeld : Image → Layout → FinMap key_order Object → Type 0
AllHeld image layout objects =
    (key : List ℕ) (object : Object) → get objects key ≡ Some object → HoldsAt image (data_page layout) object.place object.content

-- An object's content is held in the data area that begins at page `first`; and where its number is greater than `from`, zeros stand behind
-- it on the tail page.
pub record StandsFrom (from : ℕ) (image : Image) (first : ℕ) (object : Object) : Type 0 where
  pub held : HoldsAt image first object.place object.content
  pub filled : from < object.number → (page : ℕ) → object.place.tail ≡ Some page → image (first + page) ≡ page_of (rest_of object.content)

-- so does each object in the data area of a disk of this layout
abbrev pub AllStand : ℕ → Image → Layout → FinMap key_order Object → Type 0
AllStand from image layout objects =
    (key : List ℕ) (object : Object) → get objects key ≡ Some object → StandsFrom from image (data_page layout) object

-- A key has an object, and bytes of its size over which this link of its state is the first that fails, with these two values.
pub record IsDamaged (objects : FinMap key_order Object) (key : List ℕ) (link : ℕ) (want got : List ℕ) : Type 0 where
  pub object : Object
  pub there : get objects key ≡ Some object
  pub state : State
  pub stands : StandsFor state object
  pub damage : IsDamage state link want got
