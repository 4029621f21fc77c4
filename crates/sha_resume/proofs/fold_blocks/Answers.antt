use Rattle.std.proofs.Common.{◌≡◌, ℕ, ◌+◌, ◌-◌, ◌*◌, ◌/◌, List, ◌∙◌, sym, ap, length, refl, arith, take, drop}
use Rattle.std.specs.Prelude.{fold}
use Rattle.store_model.specs.BlockFunction.{compress}
use Rattle.store_model.specs.Hash.{blocks, state_after}
use Rattle.sha_resume.proofs.Ends.{fold-blocks_next}
use Rattle.sha_resume.proofs.fold_blocks.Goals as goal

pub folded-init : goal.folded-init
unfolding blocks
folded-init c = refl

pub folded-preserved : goal.folded-preserved
folded-preserved c =
    let width : 64 * c.folded.i + 64 - 64 * c.folded.i ≡ 64 = omega arith in
    let rest : List ℕ = drop (64 * c.folded.i) c.args.bytes.now in
    c.compress.ensures ∙ ap (λ (k : ℕ). compress c.folded.state (take k rest)) width
    ∙ ap (λ (s : List ℕ). compress s (take 64 rest)) c.folded.invariant
    ∙ sym (fold-blocks_next c.args.state.now c.args.bytes.now c.folded.i)

pub returns : goal.returns
unfolding state_after
returns c =
    let count : length c.args.bytes.now / 64 ≡ c.folded.i = omega (arith, c.folded.auto.i-end) in
    ap (λ (n : ℕ). fold compress c.args.state.now (blocks n c.args.bytes.now)) count ∙ sym c.folded.invariant
