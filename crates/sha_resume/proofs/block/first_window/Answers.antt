use Rattle.std.proofs.Common.{rules, ◌≡◌, ◌∙◌, sym, slice_index, arith, below_more, get_or-set_other, get_or-set_same}
use Rattle.std.specs.Prelude.{slice_set}
use Rattle.store_model.specs.BlockFunction.{block_word}
use Rattle.sha_resume.proofs.Schedule.{IsWindow-first, block_word-bytes}
use Rattle.sha_resume.proofs.block.first_window.Goals as goal

pub words-preserved : goal.words-preserved
words-preserved c =
    let i = c.words.i in
    let word = c.from_be_bytes.result in (
      search rules,
      below_more (λ k. slice_index (slice_set c.words.window i word) k ≡ block_word c.args.block.now k) i
          (λ k low. get_or-set_other c.words.window i k word 0 (omega arith) ∙ c.words.invariant.1 k low)
          (get_or-set_same c.words.window i word 0 (omega arith) ∙ c.from_be_bytes.ensures
          ∙ sym (block_word-bytes c.args.block.now i)),
    )

pub returns : goal.returns
returns c =
    IsWindow-first c.args.block.now c.words.window c.words.invariant.0 (λ k low. c.words.invariant.1 k (omega arith))
