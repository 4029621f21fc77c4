use Rattle.std.proofs.Common.{Vec, Global, ap, refl}
use Rattle.disk_model.specs.declared.call.Written.{Written}
use Rattle.store_model.specs.Disk.{with_sync}
use Rattle.disk_model.proofs.Replays.{made-take, unmade-take, calls-sync, time-calls, stayed-take}
use Rattle.disk_model.proofs.memory.MemDiskDisk.sync.Goals as goal

pub returns-clause-images : goal.returns-clause-images
returns-clause-images c =
    stayed-take c.take.result c.args.self.now.start.items c.take.new.self.start.items c.args.self.now.calls.items c.take.new.self.calls.items
    _ (ap (λ (start : Vec Written Global). start.items) c.take.ensures.start) c.take.ensures.made c.take.ensures.unmade refl

pub returns-clause-counted : goal.returns-clause-counted
returns-clause-counted c = record {
  made = λ told. made-take c.take.result c.args.self.now.calls.items c.take.new.self.calls.items _ with_sync (calls-sync c.args.self.now.calls.items _) c.take.ensures.made;
  time = λ told. time-calls _;
  raised = c.take.ensures.raised;
  unmade = λ told. unmade-take c.take.result c.args.self.now.start.items c.take.new.self.start.items c.args.self.now.calls.items c.take.new.self.calls.items
      (ap (λ (start : Vec Written Global). start.items) c.take.ensures.start) c.take.ensures.unmade;
}
