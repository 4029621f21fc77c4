-- What is held while a log is read, in the words of the definitions.
use Rattle.std.specs.Prelude.{ℕ, ◌*◌, ◌≡◌, ◌≤◌, ◌⊎◌, Bool, true, false, List, [], ◌++◌, Some}
use Rattle.std.specs.List.{All}
use Rattle.std.specs.FinMap.{FinMap, get}
use Rattle.frame_codec.specs.Values.{model_entry}
use Rattle.frame_codec.specs.declared.entry.Entry.{Entry}
use Rattle.recover.specs.declared.frames.Held.{Held}
use Rattle.relation.specs.Changes.{with_entry}
use Rattle.store_model.specs.Disk.{Image}
use Rattle.store_model.specs.Drops.{AreDropped, AreDroppedLast}
use Rattle.store_model.specs.Frame as model
use Rattle.store_model.specs.Frame.{IsWrite}
use Rattle.store_model.specs.Half.{IsHalf}
use Rattle.store_model.specs.Key.{key_order}
use Rattle.store_model.specs.Layout.{Layout}
use Rattle.store_model.specs.LogReading.{StoredBody}
use Rattle.store_model.specs.Reading.{AreAllKept, AreKept, DoesVerify, Found, KeptIn}
use Rattle.store_model.specs.State.{State}
use Rattle.store_model.specs.Tuple.{IsTuple}

-- what is held
abbrev pub held_of : Held → Found
held_of held = record { layout = held.layout; last = held.last; states = held.relation.states }

-- it is what a half may have
abbrev pub IsSound : Held → Type 0
IsSound held = IsHalf held.layout held.last held.relation.states

-- each state is one of so many data pages, with a number up to this one
abbrev pub AreStored : ℕ → ℕ → FinMap key_order State → Type 0
AreStored pages last states = (key : List ℕ) (state : State) → get states key ≡ Some state → IsTuple pages key state × (state.born ≤ last)

-- an entry of a number up to this one, with writes of so many data pages
pub record IsUpTo (pages last : ℕ) (entry : model.Entry) : Type 0 where
  pub number : entry.number ≤ last
  pub writes : All (IsWrite pages entry.number) entry.writes

-- what is kept of the entries of a frame: of the last one those that verify
abbrev pub KeptBy : Bool → Image → Layout → List model.Entry → List model.Entry → Type 0
KeptBy true image layout = AreKept image layout
KeptBy false image layout = AreAllKept

-- The states behind an entry: its writes are made, or it is dropped, as one of the last frame of which not all states verify.
abbrev pub IsMade : Image → Layout → Bool → Entry → FinMap key_order State → FinMap key_order State → Type 0
IsMade image layout is_last entry old new =
    ((is_last ≡ true → DoesVerify image layout (model_entry entry)) × (new ≡ with_entry old entry))
    ⊎ ((is_last ≡ true) × (DoesVerify image layout (model_entry entry) → ⊥) × (new ≡ old))

-- how many bytes an entry adds at most
abbrev pub greatest_growth : ℕ
greatest_growth = 16 * 4717

-- what is kept of the entries of a body with these behind it, before a closed gate or before an open one without a body
abbrev pub KeptBehind : Bool → Image → Layout → List StoredBody → List model.Entry → List model.Entry → Type 0
KeptBehind true image layout bodies = KeptIn image layout bodies
KeptBehind false image layout bodies = AreAllKept

-- the numbers of what is dropped of the entries of a frame: of the last one those that don't verify, and of any other none
abbrev pub DroppedBy : Bool → Image → Layout → List model.Entry → List ℕ → Type 0
DroppedBy true image layout = AreDropped image layout
DroppedBy false image layout = λ entries numbers. numbers ≡ []

-- those of what is dropped of bodies: of the last one before a closed gate, and of none before an open one without a body
abbrev pub DroppedBehind : Bool → Image → Layout → List StoredBody → List ℕ → Type 0
DroppedBehind true image layout = AreDroppedLast image layout
DroppedBehind false image layout = λ bodies numbers. numbers ≡ []

-- The numbers of what is dropped of these are told behind those that were told before.
abbrev pub Adds : {X : Type 0} → (List X → List ℕ → Type 0) → List X → List ℕ → List ℕ → Type 0
Adds Dropped these old new = (numbers : List ℕ) × Dropped these numbers × (new ≡ old ++ numbers)
