use Rattle.std.proofs.Common.{arith}
use Rattle.extent_io.proofs.Stands.{length-extents, most-extents}
use Rattle.extent_io.proofs.links.last_link.Goals as goal

pub overflow_cast-result : goal.overflow_cast-result
overflow_cast-result c =
    omega (arith, length-extents c.args.state.now c.extents.result.now c.extents.ensures.value, most-extents c.args.state.now c.rules.ensures)

pub returns-clause-most : goal.returns-clause-most
returns-clause-most c =
    omega (arith, length-extents c.args.state.now c.extents.result.now c.extents.ensures.value, most-extents c.args.state.now c.rules.ensures)
