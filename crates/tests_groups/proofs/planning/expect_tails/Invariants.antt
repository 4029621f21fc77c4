use Rattle.std.proofs.Common.{ℕ, ◌<◌, slice_index_or}
use Rattle.store_model.specs.Space.{Block, IsBlock}
use Rattle.tests_groups.proofs.planning.expect_tails.Given as goal

-- the blocks so far
abbrev pub invariant-checked : goal.invariant-checked
invariant-checked g l = (k : ℕ) (d : Block) → k < l.i → IsBlock l.pages (slice_index_or l.blocks k d)
