-- Where a key stands among entries in the order of their keys.
use Rattle.std.specs.Prelude.{ℕ, ◌<◌, ◌≤◌, ◌≡◌, List, length, slice_get, Some}
use Rattle.std.proofs.Math.Dec.{T}
use Rattle.std.specs.FinMap.Entries.{is_sorted}
use Rattle.std.specs.declared.cmp.Ordering.TheVariants.{Less, Greater}
use Rattle.store_model.specs.Key.{key_order}

-- the keys strictly rise
abbrev pub are_sorted : {V : Type 0} → List (List ℕ × V) → Type 0
are_sorted entries = T (is_sorted key_order entries)

-- the key stands at this index
abbrev pub IsAt : {V : Type 0} → List (List ℕ × V) → List ℕ → ℕ → Type 0
IsAt {V} entries key i = (value : V) × (slice_get entries i ≡ Some (key, value))

-- the entries before this index have lesser keys
abbrev pub AllBefore : {V : Type 0} → List (List ℕ × V) → List ℕ → ℕ → Type 0
AllBefore {V} entries key i = (k : ℕ) (one : List ℕ × V) → k < i → slice_get entries k ≡ Some one → key_order one.0 key ≡ Less

-- and those from it on greater ones
abbrev pub AllBehind : {V : Type 0} → List (List ℕ × V) → List ℕ → ℕ → Type 0
AllBehind {V} entries key i = (k : ℕ) (one : List ℕ × V) → i ≤ k → slice_get entries k ≡ Some one → key_order one.0 key ≡ Greater

-- the key isn't there, and would stand at this index
pub record WouldStand {V : Type 0} (entries : List (List ℕ × V)) (key : List ℕ) (i : ℕ) : Type 0 where
  pub within : i ≤ length entries
  pub before : AllBefore entries key i
  pub behind : AllBehind entries key i
