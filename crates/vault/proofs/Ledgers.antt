-- The states take as many bytes, and own the same blocks, as the objects do whose places they have.
use Rattle.std.proofs.Common.{◌≡◌, ℕ, suc, List, [], ◌∷◌, ◌++◌, length, map, Option, Some, None, refl, sym, ◌∙◌, ap, subst, arith}
use Rattle.std.proofs.lemmas.List.Sums.{sum_by-cons}
use Rattle.std.specs.Prelude.{⊤, option_map, slice_get}
use Rattle.std.specs.List.{flat_map, sum_by}
use Rattle.std.specs.FinMap.{FinMap, entries, entries_sorted, get, get-entries}
use Rattle.relation.specs.Parts.{encoded_by, owned_by}
use Rattle.store_model.specs.Holds.{place_of}
use Rattle.store_model.specs.Key.{key_order}
use Rattle.store_model.specs.Placing.{object_bytes}
use Rattle.store_model.specs.Space.{blocks_of}
use Rattle.store_model.specs.Standing.{BothStand, SameObjects}
use Rattle.store_model.specs.State.{IsState, State}
use Rattle.store_model.specs.Store.{Object, Placement}
use Rattle.store_model.specs.Tuple.{spelling}
use Rattle.store_model.specs.World.{owned_blocks, stored_bytes}
use Rattle.store_model.proofs.EntryLaws.{entries-alike}
use Rattle.store_model.proofs.SortedLaws.{find-at}
use Rattle.store_model.proofs.StoredLaws.{length-stored}

-- A state is one that there is, and has the object's place.
pub record IsPlacedAs (state : State) (object : Object) : Type 0 where
  pub sound : IsState state
  pub place : place_of state ≡ object.place

-- so both are there, or neither is
abbrev pub BothPlaced : Option State → Option Object → Type 0
BothPlaced None None = ⊤
BothPlaced (Some state) (Some object) = IsPlacedAs state object
BothPlaced None (Some object) = ⊥
BothPlaced (Some state) None = ⊥

-- and so is the state under each key
abbrev pub SamePlaces : FinMap key_order State → FinMap key_order Object → Type 0
SamePlaces states objects = (key : List ℕ) → BothPlaced (get states key) (get objects key)

-- a state that stands for an object has its place
BothPlaced-stand : (state : Option State) (object : Option Object) → BothStand state object → BothPlaced state object
BothPlaced-stand None None stands = tt
BothPlaced-stand (Some state) (Some object) stands = record { sound = stands.sound; place = stands.place }
BothPlaced-stand None (Some object) stands = stands
BothPlaced-stand (Some state) None stands = stands

SamePlaces-stand : (states : FinMap key_order State) (objects : FinMap key_order Object) → SameObjects states objects → SamePlaces states objects
SamePlaces-stand states objects stand key = BothPlaced-stand (get states key) (get objects key) (stand key)

-- a state's place is its object's
place-alike : (state : Option State) (object : Option Object) → BothPlaced state object
    → option_map place_of state ≡ option_map (λ (o : Object). o.place) object
place-alike None None placed = refl
place-alike (Some state) (Some object) placed = ap Some placed.place
place-alike None (Some object) placed = absurd placed
place-alike (Some state) None placed = absurd placed

-- keys with the places of their states, or of their objects
abbrev pub state_places : List (List ℕ × State) → List (List ℕ × Placement)
state_places es = map (λ e. (e.0, place_of e.1)) es

abbrev pub object_places : List (List ℕ × Object) → List (List ℕ × Placement)
object_places es = map (λ e. (e.0, e.1.place)) es

places-alike : (states : FinMap key_order State) (objects : FinMap key_order Object)
    → SamePlaces states objects → state_places (entries states) ≡ object_places (entries objects)
places-alike states objects same =
    entries-alike place_of (λ (o : Object). o.place) states objects
    (λ key. place-alike (get states key) (get objects key) (same key))

state_blocks : (es : List (List ℕ × State))
    → flat_map (λ e. blocks_of e.1) (state_places es) ≡ flat_map (λ e. blocks_of (place_of e.1)) es
state_blocks [] = refl
state_blocks (e ∷ es) = ap (λ xs. blocks_of (place_of e.1) ++ xs) (state_blocks es)

object_blocks : (es : List (List ℕ × Object))
    → flat_map (λ e. blocks_of e.1) (object_places es) ≡ flat_map (λ e. blocks_of e.1.place) es
object_blocks [] = refl
object_blocks (e ∷ es) = ap (λ xs. blocks_of e.1.place ++ xs) (object_blocks es)

-- The states own the blocks that the objects do.
pub owned-placed : (states : FinMap key_order State) (objects : FinMap key_order Object) → SamePlaces states objects → owned_by states ≡ owned_blocks objects
owned-placed states objects same =
    sym (state_blocks (entries states))
    ∙ ap (λ (es : List (List ℕ × Placement)). flat_map (λ e. blocks_of e.1) es) (places-alike states objects same)
    ∙ object_blocks (entries objects)

-- each state is one that there is
sound-state : (state : Option State) (object : Option Object) (one : State) → BothPlaced state object → state ≡ Some one → IsState one
sound-state None None one placed is = absurd (cc is)
sound-state (Some state) (Some object) one placed is =
    let same : state ≡ one = cc is in subst IsState same placed.sound
sound-state None (Some object) one placed is = absurd placed
sound-state (Some state) None one placed is = absurd placed

sound-entry : (states : FinMap key_order State) (objects : FinMap key_order Object) (j : ℕ) (one : List ℕ × State) → SamePlaces states objects
    → slice_get (entries states) j ≡ Some one → IsState one.1
sound-entry states objects j one same is =
    sound-state (get states one.0) (get objects one.0) one.1 (same one.0)
    (get-entries states one.0 ∙ find-at (entries states) j one.0 one (entries_sorted states) is refl)

state_sums : (es : List (List ℕ × State)) → ((j : ℕ) (one : List ℕ × State) → slice_get es j ≡ Some one → IsState one.1)
    → sum_by (λ e. object_bytes e.0 e.1) (state_places es) ≡ sum_by (λ e. length (spelling e.0 e.1)) es
state_sums [] sound = refl
state_sums (e ∷ es) sound =
    omega (
      arith,
      sum_by-cons (λ (x : List ℕ × Placement). object_bytes x.0 x.1) (e.0, place_of e.1) (state_places es),
      sum_by-cons (λ (x : List ℕ × State). length (spelling x.0 x.1)) e es,
      length-stored e.0 e.1 (sound 0 e refl),
      state_sums es (λ j one is. sound (suc j) one is),
    )

object_sums : (es : List (List ℕ × Object))
    → sum_by (λ e. object_bytes e.0 e.1) (object_places es) ≡ sum_by (λ e. object_bytes e.0 e.1.place) es
object_sums [] = refl
object_sums (e ∷ es) =
    omega (
      arith,
      sum_by-cons (λ (x : List ℕ × Placement). object_bytes x.0 x.1) (e.0, e.1.place) (object_places es),
      sum_by-cons (λ (x : List ℕ × Object). object_bytes x.0 x.1.place) e es,
      object_sums es,
    )

-- The states take as many bytes as the objects.
pub bytes-placed : (states : FinMap key_order State) (objects : FinMap key_order Object) → SamePlaces states objects → encoded_by states ≡ stored_bytes objects
bytes-placed states objects same =
    sym (state_sums (entries states) (λ j one is. sound-entry states objects j one same is))
    ∙ ap (λ (es : List (List ℕ × Placement)). sum_by (λ e. object_bytes e.0 e.1) es) (places-alike states objects same)
    ∙ object_sums (entries objects)

-- So do those that stand for them.
pub bytes-alike : (states : FinMap key_order State) (objects : FinMap key_order Object) → SameObjects states objects → encoded_by states ≡ stored_bytes objects
bytes-alike states objects stand = bytes-placed states objects (SamePlaces-stand states objects stand)
