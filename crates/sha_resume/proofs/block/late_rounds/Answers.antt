use Rattle.std.proofs.Common.{arith}
use Rattle.sha_resume.proofs.Schedule.{IsRoundsAt-same}
use Rattle.sha_resume.proofs.block.late_rounds.Goals as goal

pub returns : goal.returns
returns c = λ b h held.
    let at_4 = c.four_late_rounds-registers.ensures b h (IsRoundsAt-same b h _ _ _ _ (omega arith) held) in
    let at_8 = c.four_late_rounds-registers-2.ensures b h at_4 in
    let at_12 = c.four_late_rounds-registers-3.ensures b h at_8 in
    IsRoundsAt-same b h _ _ _ _ (omega arith) (c.four_late_rounds.ensures b h at_12)
