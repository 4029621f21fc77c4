use Rattle.std.proofs.Common.{ℕ, ◌-◌, List, ◌++◌, length, refl, ap, ◌∙◌, arith, w32}
use Rattle.std.specs.Int.{to_be_bytes}
use Rattle.store_model.specs.Hash.{bytes_of_state}
use Rattle.blob_state.proofs.Written.{laid-two}
use Rattle.blob_state.proofs.tuple.write_extent.Goals as goal

pub returns : goal.returns
unfolding bytes_of_state
returns c =
    let buffer : List ℕ = c.write_u32.new.buf in
    let head : List ℕ = to_be_bytes w32 c.args.extent.now.head in
    laid-two c.args.out.now head buffer c.write_u32_into.new.dst 4 (length buffer - 4) c.write_u32.ensures refl (omega arith)
    ∙ ap (λ (xs : List ℕ). head ++ xs) c.write_u32_into.ensures
