-- Objects in the order of their keys.
use Rattle.std.specs.Prelude.{ℕ, ◌<◌, ◌≤◌, ◌≡◌, List, map, slice_get, Some}
use Rattle.std.proofs.Math.Dec.{T}
use Rattle.std.specs.FinMap.Entries.{is_sorted}
use Rattle.std.specs.declared.cmp.Ordering.TheVariants.{Less, Greater}
use Rattle.store_model.specs.Key.{key_order}
use Rattle.store_model.specs.State.{State}
use Rattle.relation.specs.declared.entries.Entry.{Entry}

-- an entry as its key and state
abbrev pub entry_of : Entry → List ℕ × State
entry_of entry = (entry.key, entry.state.value)

abbrev pub entries_of : List Entry → List (List ℕ × State)
entries_of entries = map entry_of entries

-- the keys strictly rise
abbrev pub are_sorted : List (List ℕ × State) → Type 0
are_sorted entries = T (is_sorted key_order entries)

-- the key stands at this index
abbrev pub IsAt : List (List ℕ × State) → List ℕ → ℕ → Type 0
IsAt entries key i = (state : State) × (slice_get entries i ≡ Some (key, state))

-- the entries before this index have lesser keys
abbrev pub AllBefore : List (List ℕ × State) → ℕ → List ℕ → Type 0
AllBefore entries i key = (k : ℕ) (one : List ℕ × State) → k < i → slice_get entries k ≡ Some one → key_order one.0 key ≡ Less

-- and those from it on greater ones
abbrev pub AllBehind : List (List ℕ × State) → ℕ → List ℕ → Type 0
AllBehind entries i key = (k : ℕ) (one : List ℕ × State) → i ≤ k → slice_get entries k ≡ Some one → key_order one.0 key ≡ Greater
