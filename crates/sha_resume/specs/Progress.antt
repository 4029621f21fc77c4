-- What a contract sees of a chain.
use Rattle.std.specs.Prelude.{ℕ, List}

-- the state after a message's first blocks, as eight words, and how many blocks they are
pub record Progress : Type 0 where
  pub mark : List ℕ
  pub count : ℕ
