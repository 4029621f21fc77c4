use Rattle.std.proofs.Common.{◌*◌}
use Rattle.sha_resume.specs.Ring.{IsRoundsAt}
use Rattle.sha_resume.proofs.block.compress.Given as goal

abbrev pub invariant-turns : goal.invariant-turns
invariant-turns l = IsRoundsAt l.block l.state l.window l.registers (16 * l.turn)
