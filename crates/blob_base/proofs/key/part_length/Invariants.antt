use Rattle.std.proofs.Common.{◌≡◌, ℕ, ◌+◌, ◌-◌, ◌<◌, ◌≤◌, true, List, length, get_or}
use Rattle.store_model.specs.Key.{is_key_character}
use Rattle.blob_base.proofs.key.part_length.Given as goal

-- the characters so far
pub record Counted (text : List ℕ) («from» most count : ℕ) : Type 0 where
  pub within : «from» + count ≤ length text
  pub few : count ≤ most
  pub each : (k : ℕ) → k < count → is_key_character (get_or text («from» + k) 0) ≡ true

abbrev pub invariant-loop-count : goal.invariant-loop-count
invariant-loop-count l = Counted l.text l.from l.most l.count

abbrev pub decreases-loop-count : goal.decreases-loop-count
decreases-loop-count l = l.most - l.count
