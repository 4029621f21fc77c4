-- The number behind that of the last entry.
use Rattle.std.proofs.Common.{◌∙◌, sym, arith}
use Rattle.frame_codec.proofs.Followings.{may_number-last, number-before}
use Rattle.frame_codec.proofs.fields.may_number.Goals as goal

pub returns-else-count-eq0 : goal.returns-else-count-eq0
returns-else-count-eq0 c =
    number-before c.get.result.now.number c.args.number c.requires
    ∙ sym (may_number-last c.args.entries.now c.get.result.now _ c.args.number (omega arith) c.get.ensures)
