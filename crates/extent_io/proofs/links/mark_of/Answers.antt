use Rattle.std.proofs.Common.{[]}
use Rattle.extent_io.proofs.Stands.{mark-there}
use Rattle.extent_io.proofs.links.mark_of.Goals as goal

pub returns : goal.returns
returns c = mark-there c.args.state.now c.extents.result.now c.args.i (record { head = 0; mark = record { words = [] } }) c.extents.ensures.value c.requires
