use Rattle.extent_alloc.proofs.Rounding.{rounded-least}
use Rattle.extent_alloc.proofs.blocks.round_up.Goals as goal

pub returns-clause-least : goal.returns-clause-least
returns-clause-least c m multiple le = rounded-least c.args.x c.args.step m c.requires.step.0 multiple le
