use Rattle.std.proofs.Common.{◌≡◌, length}
use Rattle.std.specs.Prelude.{IsTrue}
use Rattle.frame_codec.specs.Values.{model_entries}
use Rattle.store_model.specs.Cost.{Reads}
use Rattle.recover.specs.Frames.{DroppedBy}
use Rattle.recover.proofs.Droppings.{Telling}
use Rattle.recover.proofs.Takings.{Taking}
use Rattle.recover.proofs.frames.Held.take_entries.Given as goal

abbrev pub invariant-taken : goal.invariant-taken
invariant-taken g l =
    let disk = g.D.Disk in
    Taking disk l.fn.self.layout l.fn.self.last l.is_last l.fn.self.relation.states l.self.relation.states l.fn.entries l.entries l.fn.disk l.disk
    × (l.self.layout ≡ l.fn.self.layout) × (l.self.last ≡ l.fn.self.last)
    × (IsTrue disk.tells → Telling (DroppedBy l.is_last (disk.story l.fn.disk).reads l.fn.self.layout) l.fn.self.dropped l.self.dropped (model_entries l.fn.entries) (model_entries l.entries))
    × (IsTrue disk.tells → Reads (disk.calls l.fn.disk) (disk.calls l.disk))

abbrev pub decreases-taken : goal.decreases-taken
decreases-taken g l = length l.entries
