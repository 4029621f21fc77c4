use Rattle.store_model.specs.Layout.{data_pages}
use Rattle.std.proofs.Common.{subst, sym}
use Rattle.recover.specs.Frames.{AreStored}
use Rattle.recover.proofs.Storing.{stored-writes}
use Rattle.recover.proofs.frames.Held.take_entry.Goals as goal

pub returns-clause-stored : goal.returns-clause-stored
returns-clause-stored g c =
    subst (AreStored (data_pages c.args.self.now.layout) c.args.self.now.last) (sym c.apply.ensures.states)
    (stored-writes (data_pages c.args.self.now.layout) c.args.self.now.last c.args.entry.number c.reserve.new.self.states c.args.entry.writes c.requires.writes.number c.requires.writes.writes
    (subst (AreStored (data_pages c.args.self.now.layout) c.args.self.now.last) (sym c.reserve.ensures.states) c.requires.stored))
