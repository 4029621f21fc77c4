-- What the forms print that format a store, show it and check it.
use Rattle.std.specs.Prelude.{ℕ, ◌≡◌, ◌⊎◌, List, [], ◌∷◌, ◌++◌, Some, codes, decimal, length}
use Rattle.std.specs.List.{flat_map}
use Rattle.std.specs.FinMap.{entries, len}
use Rattle.hex.specs.Hex.{encode_lower}
use Rattle.store_model.specs.Answer.{line_end}
use Rattle.store_model.specs.Closing.{closing_text}
use Rattle.store_model.specs.Closing as why
use Rattle.store_model.specs.Disk.{Image}
use Rattle.store_model.specs.Layout.{Layout, data_page, total_pages}
use Rattle.store_model.specs.Reading.{Found}
use Rattle.store_model.specs.State.{State}
use Rattle.store_model.specs.Verify.{FailsFirst, Verifies, computed}

-- what a format prints: how many pages the layout takes
abbrev pub format_text : Layout → List ℕ
format_text layout = codes "formatted " ++ decimal (total_pages layout) ++ line_end

-- the line of a key with its state: its size, its digest and its number
abbrev pub state_line : List ℕ × State → List ℕ
state_line entry =
    entry.0 ++ codes " " ++ decimal entry.1.size ++ codes " " ++ encode_lower entry.1.digest ++ codes " " ++ decimal entry.1.born ++ line_end

-- what a show prints: the states in the order of their keys, and the last number
abbrev pub show_text : Found → List ℕ
show_text found = flat_map state_line (entries found.states) ++ codes "last " ++ decimal found.last ++ line_end

-- the key of a state that doesn't verify, the first link that fails, and the value that is kept of it and that its pages give
pub record Damage : Type 0 where
  pub key : List ℕ
  pub link : ℕ
  pub want : List ℕ
  pub got : List ℕ

abbrev pub damage_line : Damage → List ℕ
damage_line damage = closing_text (Some (why.Damaged damage.key damage.link damage.want damage.got))

-- The states that don't verify, in the order of their keys, each with its first link that fails.
abbrev pub AreDamages : Image → ℕ → List (List ℕ × State) → List Damage → Type 0
AreDamages image first [] damages = damages ≡ []
AreDamages image first (entry ∷ entries) damages =
    (Verifies image first entry.1 × AreDamages image first entries damages)
    ⊎ ((one : Damage) × ((rest : List Damage) × (damages ≡ one ∷ rest) × (one.key ≡ entry.0)
    × FailsFirst (computed image first entry.1) entry.1 one.link one.want one.got × AreDamages image first entries rest))

-- what a check prints: a line for each of these, and how many states there are and how many are damaged
abbrev pub check_text : Found → List Damage → List ℕ
check_text found damages =
    flat_map damage_line damages
    ++ codes "checked " ++ decimal (len found.states) ++ codes " damaged " ++ decimal (length damages) ++ line_end

-- a store's damages
abbrev pub HasDamages : Image → Found → List Damage → Type 0
HasDamages image found damages = AreDamages image (data_page found.layout) (entries found.states) damages
