use Rattle.std.proofs.Common.{arith}
use Rattle.sha_resume.proofs.Words.{majority-maj}
use Rattle.sha_resume.proofs.block.majority.Goals as goal

pub returns : goal.returns
returns c = majority-maj c.args.x c.args.y c.args.z (omega arith) (omega arith) (omega arith)
