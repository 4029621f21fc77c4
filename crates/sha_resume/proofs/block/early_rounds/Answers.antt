use Rattle.std.proofs.Common.{refl}
use Rattle.store_model.specs.BlockFunction.{rounds}
use Rattle.sha_resume.proofs.block.early_rounds.Goals as goal

pub returns : goal.returns
unfolding rounds
returns c = λ b held.
    let after_4 = c.four_early_rounds-registers.ensures b c.args.state held refl in
    let after_8 = c.four_early_rounds-registers-2.ensures b c.args.state held after_4 in
    let after_12 = c.four_early_rounds-registers-3.ensures b c.args.state held after_8 in
    c.four_early_rounds.ensures b c.args.state held after_12
