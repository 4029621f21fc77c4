use Rattle.std.proofs.Common.{ℕ, ◌/◌, ◌^◌, bit_xor, ap, arith, refl}
use Rattle.sha_resume.proofs.Words.{turned-xor}
use Rattle.sha_resume.proofs.block.lower_sigma0.Goals as goal

pub returns : goal.returns
returns c = rw (c.rotate_right-2.ensures, c.rotate_right.ensures)
    (ap (λ (y : ℕ). bit_xor y (c.args.x / 2 ^ 3)) (turned-xor c.args.x 7 11 18 refl (omega arith) (omega arith)))
