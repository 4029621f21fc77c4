-- What the extents before one hold, by its tier.
use Rattle.std.proofs.Common.{arith}
use Rattle.store_model.proofs.ShapeLaws.{held_by-tier}
use Rattle.tier_table.proofs.held_before.Goals as goal

pub returns : goal.returns
returns c =
    rw (c.tier_pages.ensures, c.tier-tier.ensures) (omega (arith, held_by-tier c.args.i))
