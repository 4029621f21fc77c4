use Rattle.std.proofs.Common.{◌≡◌, ℕ, ◌<◌, length, slice_index}
use Rattle.store_model.specs.BlockFunction.{block_word}
use Rattle.sha_resume.proofs.block.first_window.Given as goal

abbrev pub invariant-words : goal.invariant-words
invariant-words l =
    (length l.window ≡ 16) × ((k : ℕ) → k < l.i → slice_index l.window k ≡ block_word l.block k)
