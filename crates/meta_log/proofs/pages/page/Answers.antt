use Rattle.meta_log.proofs.Writings.{page-is}
use Rattle.std.proofs.Common.{◌∙◌}
use Rattle.meta_log.proofs.pages.page.Goals as goal

pub returns : goal.returns
returns c =
    c.filled.ensures
    ∙ page-is c.args.number c.min-start.result c.min.result c.args.body.now c.split_at.result.1.now c.split_at-2.result.0.now
    c.min-start.ensures c.split_at.ensures.back c.min.ensures c.split_at-2.ensures.front
