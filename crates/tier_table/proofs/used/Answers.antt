-- An extent that a size uses is one of the 127.
use Rattle.std.proofs.Common.{arith}
use Rattle.store_model.proofs.ShapeLaws.{lt-held_by, held_by-all}
use Rattle.tier_table.proofs.used.Goals as goal

pub tier-requires : goal.tier-requires
tier-requires c = lt-held_by c.args.i 127 (omega (arith, held_by-all, c.requires.within))

pub held_before-requires : goal.held_before-requires
held_before-requires c = lt-held_by c.args.i 127 (omega (arith, held_by-all, c.requires.within))
