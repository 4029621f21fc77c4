use Rattle.std.proofs.Common.{rules, Vec, Global, ap}
use Rattle.disk_model.specs.declared.call.Written.{Written}
use Rattle.store_model.specs.Disk.{with_write}
use Rattle.disk_model.proofs.Replays.{made-take, unmade-take, calls-write, time-calls, wrote-take, torn-take}
use Rattle.disk_model.proofs.memory.MemDiskDisk.write.Goals as goal

pub returns-clause-images : goal.returns-clause-images
returns-clause-images c =
    wrote-take c.take.result c.args.self.now.start.items c.take.new.self.start.items c.args.self.now.calls.items c.take.new.self.calls.items
    _ (ap (λ (start : Vec Written Global). start.items) c.take.ensures.start) c.take.ensures.made c.take.ensures.unmade

pub returns-clause-torn : goal.returns-clause-torn
returns-clause-torn c =
    torn-take c.take.result c.args.self.now.start.items c.take.new.self.start.items c.args.self.now.calls.items c.take.new.self.calls.items
    _ (ap (λ (start : Vec Written Global). start.items) c.take.ensures.start) c.take.ensures.made

pub returns-in_default-clause-counted : goal.returns-in_default-clause-counted
returns-in_default-clause-counted c = record {
  made = search rules;
  time = λ told. time-calls _;
  raised = search rules;
  unmade = search rules;
}

pub returns-clause-counted : goal.returns-clause-counted
returns-clause-counted c = record {
  made = λ told. made-take c.take.result c.args.self.now.calls.items c.take.new.self.calls.items _ with_write (calls-write c.args.self.now.calls.items _) c.take.ensures.made;
  time = λ told. time-calls _;
  raised = c.take.ensures.raised;
  unmade = λ told. unmade-take c.take.result c.args.self.now.start.items c.take.new.self.start.items c.args.self.now.calls.items c.take.new.self.calls.items
      (ap (λ (start : Vec Written Global). start.items) c.take.ensures.start) c.take.ensures.unmade;
}
