use Rattle.std.proofs.Common.{get_or, refl}
use Rattle.relation.proofs.Blocks.{entries-next}
use Rattle.relation.proofs.relation.blocks_by.Goals as goal

pub listed-preserved : goal.listed-preserved
listed-preserved c =
    entries-next c.args.entries.now c.listed.i c.index-entries-i.result (get_or c.args.entries.now c.listed.i c.index-entries-i.result) c.listed.owned c.add_owned.new.owned _ c.listed-test.true refl c.listed.invariant
    c.in_ok-add_owned.ensures c.deref.ensures
