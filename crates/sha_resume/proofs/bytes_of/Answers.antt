use Rattle.std.proofs.Common.{rules, ◌≡◌, ◌∙◌, sym, ap, arith, w32}
use Rattle.std.proofs.lemmas.List.{take_all}
use Rattle.std.proofs.lemmas.Slice.{overwrites}
use Rattle.std.specs.Int.{to_be_bytes}
use Rattle.std.specs.List.{flat_map}
use Rattle.store_model.specs.Hash.{bytes_of_state}
use Rattle.sha_resume.proofs.Ends.{flat_map-next}
use Rattle.sha_resume.proofs.bytes_of.Goals as goal

pub words-preserved : goal.words-preserved
words-preserved c = (
  search (rules, overwrites),
  flat_map-next c.words.bytes c.args.state.now _ c.words.i _ c.words.invariant.0 (omega arith) (omega arith) c.words.invariant.1
      (c.copy_from_slice.ensures.after ∙ c.to_be_bytes.ensures),
)

pub returns : goal.returns
unfolding bytes_of_state
returns c =
    let done : c.words.i ≡ 8 = omega arith in
    let written = rw done at c.words.invariant.1 in
    sym (take_all 32 c.words.bytes (omega arith)) ∙ written
    ∙ ap (flat_map (to_be_bytes w32)) (take_all 8 c.args.state.now (omega arith))
