use Rattle.std.proofs.Common.{[], ◌∙◌, sym, arith}
use Rattle.store_model.specs.Hash.{blocks, state_after}
use Rattle.sha_resume.proofs.Agreement.{sha256-agrees}
use Rattle.sha_resume.proofs.digest.Goals as goal

pub returns-clause-value : goal.returns-clause-value
unfolding state_after blocks
returns-clause-value c = c.finish.ensures.whole [] (omega (arith, c.new.ensures.count)) (sym c.new.ensures.mark)

pub returns-clause-agrees : goal.returns-clause-agrees
returns-clause-agrees c = returns-clause-value c ∙ sha256-agrees c.args.message.now c.requires
