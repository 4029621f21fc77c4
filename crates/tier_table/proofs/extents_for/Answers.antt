-- One more extent than those before the last full page's.
use Rattle.std.proofs.Common.{arith}
use Rattle.store_model.proofs.ShapeLaws.{held_by-LiesAt, held_by-mono}
use Rattle.tier_table.proofs.extents_for.Goals as goal

pub returns-clause-held : goal.returns-clause-held
returns-clause-held c = omega (arith, held_by-LiesAt _ _ _ c.place.ensures.place)

pub returns-clause-least : goal.returns-clause-least
returns-clause-least c n below =
    omega (arith, held_by-mono n c.place.result.extent (omega arith), c.place.ensures.place.at)
