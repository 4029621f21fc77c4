use Rattle.std.proofs.Common.{◌+◌, ◌-◌, ◌%◌, length, arith}
use Rattle.check_point.proofs.Appendings.{page-put}
use Rattle.check_point.proofs.pages.fill.Goals as goal

pub returns : goal.returns
returns c before ends =
    page-put before c.args.piece.now c.copy_from_slice.new.self c.args.page.now c.args.taken (c.args.taken % 4096 + length c.args.piece.now - c.args.taken % 4096)
    ends c.told-page c.requires (omega arith) c.copy_from_slice.ensures.after
