use Rattle.std.proofs.Common.{ℕ, ◌+◌, ◌*◌, arith}
use Rattle.sha_resume.proofs.Schedule.{IsRoundsAt-same, late-next}
use Rattle.sha_resume.proofs.block.late_round.Goals as goal

pub returns : goal.returns
returns c = λ b h held.
    let t : ℕ = 16 * c.args.turn + c.args.place in
    let turned = c.turn_window-word.ensures in
    IsRoundsAt-same b h _ _ (t + 1) _ (omega arith)
    (late-next b h c.args.window.now _ c.args.registers _ t c.args.place _ (omega arith) (omega arith) (omega arith)
    held turned.word turned.ring c.one_round.ensures)
