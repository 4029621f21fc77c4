-- The words of a command line.
use Rattle.std.specs.Prelude.{◌≡◌, ◌≢◌, List, [], ◌∷◌, ℕ, codes, decimal}
use Rattle.store_model.specs.Layout.{Layout, IsLayout}

-- What a command line asks for: to format a store of this layout; to do so and run a script on it; to run a script on a store that there
-- is; to show one, or to check it.
pub data Form : Type 0 where
  Format : Layout → Form
  Fresh : Layout → Form
  Steps : Form
  Show : Form
  Check : Form

-- a verb and a file, which is any word that isn't empty
pub record IsOfFile (verb : List ℕ) (words rest : List (List ℕ)) : Type 0 where
  pub file : List ℕ
  pub named : file ≢ []
  pub words_are : words ≡ verb ∷ file ∷ rest

-- these, with UNITS and ROOM
pub record IsOfLayout (verb : List ℕ) (words : List (List ℕ)) (layout : Layout) : Type 0 where
  pub file : IsOfFile verb words (decimal layout.units ∷ decimal layout.room ∷ [])
  pub within : IsLayout layout

-- the words are this form
abbrev pub IsForm : List (List ℕ) → Form → Type 0
IsForm words (Format layout) = IsOfLayout (codes "format") words layout
IsForm words (Fresh layout) = IsOfLayout (codes "fresh") words layout
IsForm words Steps = IsOfFile (codes "steps") words []
IsForm words Show = IsOfFile (codes "show") words []
IsForm words Check = IsOfFile (codes "check") words []

-- the words are no form
abbrev pub IsNoForm : List (List ℕ) → Type 0
IsNoForm words = (form : Form) → IsForm words form → ⊥
