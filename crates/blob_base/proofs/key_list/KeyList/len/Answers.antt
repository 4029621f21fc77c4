use Rattle.std.proofs.Common.{ap, arith}
use Rattle.std.specs.FinMap.{len}
use Rattle.blob_base.proofs.KeyLists.{len-sorted}
use Rattle.blob_base.proofs.key_list.KeyList.len.Goals as goal

pub returns : goal.returns
returns g c = omega (arith, c.len.ensures, len-sorted c.self.inside.entries.items c.self.invariant, ap len c.self.view_is)
