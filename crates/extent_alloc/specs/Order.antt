-- Blocks in the order of their heads, none of which meets the next.
use Rattle.std.specs.Prelude.{ℕ, ◌≤◌, List, [], ◌∷◌, Contains}
use Rattle.store_model.specs.Space.{Block, end_of}

-- each block ends at or before this page
abbrev pub AllBelow : ℕ → List Block → Type 0
AllBelow page blocks = (block : Block) → Contains blocks block → end_of block ≤ page

-- each block begins at or behind this page
abbrev pub AllFrom : ℕ → List Block → Type 0
AllFrom page blocks = (block : Block) → Contains blocks block → page ≤ block.0

-- each block ends before the later ones begin
abbrev pub InOrder : List Block → Type 0
InOrder [] = Unit {0}
InOrder (block ∷ blocks) = AllFrom (end_of block) blocks × InOrder blocks

-- the heads don't fall
abbrev pub AreSorted : List Block → Type 0
AreSorted [] = Unit {0}
AreSorted (block ∷ blocks) = AllFrom block.0 blocks × AreSorted blocks
