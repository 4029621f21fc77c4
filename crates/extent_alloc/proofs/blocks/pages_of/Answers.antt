use Rattle.std.proofs.Common.{arith}
use Rattle.std.proofs.Math.Pow.{pow_mono}
use Rattle.extent_alloc.proofs.blocks.pages_of.Goals as goal

pub returns-clause-most : goal.returns-clause-most
returns-clause-most c = omega (arith, pow_mono c.requires)
