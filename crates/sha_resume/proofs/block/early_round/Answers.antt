use Rattle.sha_resume.proofs.Schedule.{early-next}
use Rattle.sha_resume.proofs.block.early_round.Goals as goal

pub returns : goal.returns
returns c = λ b h held reached.
    early-next b h c.args.window.now c.args.registers _ c.args.t c.requires held reached c.one_round.ensures
