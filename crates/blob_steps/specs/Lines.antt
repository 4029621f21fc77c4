-- What taking a line off a script does to what is left of it, where that is known.
use Rattle.std.specs.Prelude.{ℕ, Bool, ◌==◌, ◌<◌, ◌≡◌, List, [], ◌∷◌, length, Option, Some, None, ⊤}
use Rattle.store_model.specs.Script.{lines_of, most_line_bytes}

-- the byte that ends a line
abbrev pub is_line_end : ℕ → Bool
is_line_end byte = byte == 10

-- the script's first line was taken, and the others are left
abbrev pub LineTaken : Option (List ℕ) → List ℕ → Option (List ℕ) → Type 0
LineTaken None line new = ⊤
LineTaken (Some script) line None = ⊥
LineTaken (Some script) line (Some rest) = lines_of script ≡ line ∷ lines_of rest

-- no line is left
abbrev pub NoLine : Option (List ℕ) → Type 0
NoLine None = ⊤
NoLine (Some script) = lines_of script ≡ []

-- the script's first line has more bytes than a line may have
abbrev pub LongLine : Option (List ℕ) → Type 0
LongLine None = ⊤
LongLine (Some script) = (line : List ℕ) × (rest : List (List ℕ)) × (lines_of script ≡ line ∷ rest) × (most_line_bytes < length line)
