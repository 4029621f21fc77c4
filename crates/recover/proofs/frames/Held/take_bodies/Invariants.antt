use Rattle.std.proofs.Common.{◌≡◌, drop}
use Rattle.std.specs.Prelude.{IsTrue}
use Rattle.disk_model.specs.Disks.{OnlyReads}
use Rattle.meta_log.specs.Reads.{stored}
use Rattle.store_model.specs.Cost.{Reads}
use Rattle.recover.specs.Frames.{DroppedBehind, IsSound, KeptBehind, held_of}
use Rattle.recover.proofs.Droppings.{Telling}
use Rattle.recover.proofs.Followings.{Following}
use Rattle.recover.proofs.frames.Held.take_bodies.Given as goal

abbrev pub invariant-taken : goal.invariant-taken
invariant-taken g l =
    let disk = g.D.Disk in
    Following disk.tells (KeptBehind l.is_closed (disk.story l.fn.disk).reads l.fn.self.layout) (held_of l.fn.self) (held_of l.self) (stored l.bodies) (stored (drop l.i l.bodies))
    × IsSound l.self × (l.self.layout ≡ l.fn.self.layout) × OnlyReads disk l.fn.disk l.disk
    × (IsTrue disk.tells → Telling (DroppedBehind l.is_closed (disk.story l.fn.disk).reads l.fn.self.layout) l.fn.self.dropped l.self.dropped (stored l.bodies) (stored (drop l.i l.bodies)))
    × (IsTrue disk.tells → Reads (disk.calls l.fn.disk) (disk.calls l.disk))
