-- A half that is being written, as contracts see it.
use Rattle.std.specs.Prelude.{ℕ, ◌≡◌, ◌+◌, ◌-◌, ◌/◌, ◌<◌, List, length}
use Rattle.std.specs.List.{flat_map}
use Rattle.store_model.specs.Disk.{Image, page_bytes}
use Rattle.store_model.specs.Log.{body_page}
use Rattle.store_model.specs.State.{State}
use Rattle.store_model.specs.Tuple.{spelling}

-- how many pages become full where `more` bytes follow the first `taken`
abbrev pub filled_pages : ℕ → ℕ → ℕ
filled_pages taken more = (taken + more) / page_bytes - taken / page_bytes

-- So many bytes were taken, and those behind the full pages stand at the front of this page, filled with zeros.
pub record Ends (bytes : List ℕ) (taken : ℕ) (page : List ℕ) : Type 0 where
  pub taken_is : length bytes ≡ taken
  pub page_is : page ≡ body_page bytes (taken / page_bytes)

-- the first pages of these bytes stand from page `first` on
abbrev pub Stand : ℕ → ℕ → List ℕ → Image → Type 0
Stand first count bytes image = (i : ℕ) → i < count → image (first + i) ≡ body_page bytes i

-- the tuples of keys and states, one behind the other
abbrev pub spelled : List (List ℕ × State) → List ℕ
spelled tuples = flat_map (λ (tuple : List ℕ × State). spelling tuple.0 tuple.1) tuples
