use Rattle.std.proofs.Common.{◌≡◌, ◌*◌, ◌∙◌, ap, arith}
use Rattle.store_model.specs.BlockFunction.{compress, sums}
use Rattle.sha_resume.proofs.block.compress.Goals as goal

pub turns-init : goal.turns-init
turns-init c = record {
  ring = c.first_window-window.ensures;
  reached = c.early_rounds-registers.ensures c.args.block.now c.first_window-window.ensures;
}

pub turns-preserved : goal.turns-preserved
turns-preserved c = c.late_rounds-next.ensures c.args.block.now c.args.state.now c.turns.invariant

pub returns : goal.returns
unfolding compress
returns c =
    let done : 16 * c.turns.turn ≡ 64 = omega (arith, c.turns.auto.turn-end (omega arith)) in
    c.sums.ensures ∙ ap (sums c.args.state.now) (rw done at c.turns.invariant.reached)
