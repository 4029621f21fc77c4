use Rattle.std.proofs.Common.{◌≡◌, ◌-◌, ◌<◌, ◌≤◌, ℕ, length, get_or}
use Rattle.extent_alloc.proofs.blocks.index_of.Given as goal

-- The block stands at some index from here on.
abbrev pub invariant-searched : goal.invariant-searched
invariant-searched l = (k : ℕ) × (l.at ≤ k) × (k < length l.fn.blocks) × (get_or l.fn.blocks k (l.fn.head, l.fn.tier) ≡ (l.fn.head, l.fn.tier))

abbrev pub decreases-searched : goal.decreases-searched
decreases-searched l = length l.fn.blocks - l.at
