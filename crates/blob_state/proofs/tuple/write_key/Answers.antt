use Rattle.std.proofs.Common.{ℕ, List, ◌∷◌, length, ap, ◌∙◌, arith}
use Rattle.std.proofs.lemmas.List.{length-set}
use Rattle.blob_state.proofs.Written.{laid-key}
use Rattle.blob_state.proofs.tuple.write_key.Goals as goal

pub returns : goal.returns
returns c =
    laid-key c.args.out.now c.copy_from_slice.new.self (length c.args.text.now) _ (omega (arith, c.requires.room))
    (omega (arith, length-set c.args.out.now 0 (length c.args.text.now)))
    ∙ ap (λ (xs : List ℕ). length c.args.text.now ∷ xs) c.copy_from_slice.ensures.after
