use Rattle.std.proofs.Common.{ℕ, List, ◌++◌, drop, replicate, ap, ◌∙◌}
use Rattle.store_model.proofs.StateLaws.{prefix_of-laid}
use Rattle.blob_state.proofs.draft.prefix.Goals as goal

pub returns : goal.returns
returns c =
    ap (λ (xs : List ℕ). xs ++ drop c.min-length.result (replicate 32 0)) c.copy_from_slice.ensures.after
    ∙ prefix_of-laid c.args.content.now c.min-length.result c.min-length.ensures
