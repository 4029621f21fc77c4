use Rattle.std.proofs.Common.{ℕ, ◌-◌, List, ◌++◌, length, take, drop, refl, ap, ◌∙◌, arith, w32, w64}
use Rattle.std.specs.Int.{to_be_bytes}
use Rattle.store_model.specs.Tuple.{fields_spelling}
use Rattle.blob_state.proofs.Written.{laid-fields}
use Rattle.blob_state.proofs.tuple.write_fields.Goals as goal

pub returns : goal.returns
returns c =
    let fields = c.state.inside in
    let buffer : List ℕ = c.write_u32.new.buf in
    let size : List ℕ = to_be_bytes w32 fields.size in
    let born : List ℕ = to_be_bytes w64 fields.born in
    let digest : List ℕ = c.copy_from_slice.new.self in
    let prefix : List ℕ = c.copy_from_slice-2.new.self in
    laid-fields c.args.out.now (take (length buffer - 4) (drop 4 buffer)) size born digest prefix buffer c.write_u64.new.buf _ _
    c.write_u32.ensures c.write_u64.ensures refl refl (ap length c.copy_from_slice.ensures.after ∙ c.state.invariant.digest) (omega arith) (omega arith)
    ∙ ap (λ (xs : List ℕ). size ++ born ++ xs ++ prefix) c.copy_from_slice.ensures.after
    ∙ ap (λ (xs : List ℕ). size ++ born ++ fields.digest.bytes ++ xs) c.copy_from_slice-2.ensures.after
    ∙ ap fields_spelling c.state.view_is
