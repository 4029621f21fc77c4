-- What a request has read of the keys that it appends to.
use Rattle.std.specs.Prelude.{ℕ, ◌≡◌, Bool, true, false, IsTrue, List, Option, Some, None}
use Rattle.std.specs.FinMap.{FinMap, get}
use Rattle.store_model.specs.Key.{key_order}
use Rattle.txn.specs.declared.change.Change.{Change}
use Rattle.txn.specs.declared.change.Change.TheVariants.{Append}
use Rattle.txn.specs.declared.change.Extension.{Extension}

-- whether a key was read, and had a number
abbrev pub was_there : Option (Option ℕ) → Bool
was_there None = false
was_there (Some None) = false
was_there (Some (Some number)) = true

-- each key that is appended to was read, and had a number
abbrev pub AppendsRead : FinMap key_order (Option ℕ) → FinMap key_order Change → Type 0
AppendsRead reads changes = (key : List ℕ) (extension : Extension) → get changes key ≡ Some (Append extension) → IsTrue (was_there (get reads key))
