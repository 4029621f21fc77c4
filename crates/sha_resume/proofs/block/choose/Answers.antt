use Rattle.std.proofs.Common.{arith}
use Rattle.sha_resume.proofs.Words.{choose-ch}
use Rattle.sha_resume.proofs.block.choose.Goals as goal

pub returns : goal.returns
returns c = choose-ch c.args.x c.args.y c.args.z (omega arith) (omega arith) (omega arith)
