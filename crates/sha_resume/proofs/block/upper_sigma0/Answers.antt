use Rattle.std.proofs.Common.{arith, refl}
use Rattle.sha_resume.proofs.Words.{turned-xor_twice}
use Rattle.sha_resume.proofs.block.upper_sigma0.Goals as goal

pub returns : goal.returns
returns c = rw (c.rotate_right-3.ensures, c.rotate_right-2.ensures, c.rotate_right.ensures)
    (turned-xor_twice c.args.x 2 11 9 13 22 refl refl (omega arith) (omega arith))
