use Rattle.std.proofs.Common.{Vec, Global, ap, refl}
use Rattle.disk_model.specs.declared.call.Call.TheVariants.{Read}
use Rattle.disk_model.specs.declared.call.Written.{Written}
use Rattle.store_model.specs.Disk.{with_read}
use Rattle.disk_model.proofs.Replays.{calls-read, made-take, stayed-take, still-take, time-calls, unmade-take}
use Rattle.disk_model.proofs.memory.MemDiskDisk.read.Goals as goal

pub returns-then-is_ok-clause-images : goal.returns-then-is_ok-clause-images
returns-then-is_ok-clause-images c =
    stayed-take c.take-answer.result c.args.self.now.start.items c.take-answer.new.self.start.items c.args.self.now.calls.items c.take-answer.new.self.calls.items
    Read (ap (λ (start : Vec Written Global). start.items) c.take-answer.ensures.start) c.take-answer.ensures.made c.take-answer.ensures.unmade refl

pub returns-then-is_ok-clause-still : goal.returns-then-is_ok-clause-still
returns-then-is_ok-clause-still c =
    still-take c.take-answer.result c.args.self.now.start.items c.take-answer.new.self.start.items c.args.self.now.calls.items c.take-answer.new.self.calls.items
    (ap (λ (start : Vec Written Global). start.items) c.take-answer.ensures.start) c.take-answer.ensures.made

pub returns-then-is_ok-clause-counted : goal.returns-then-is_ok-clause-counted
returns-then-is_ok-clause-counted c = record {
  made = λ told. made-take c.take-answer.result c.args.self.now.calls.items c.take-answer.new.self.calls.items Read with_read (calls-read c.args.self.now.calls.items) c.take-answer.ensures.made;
  time = λ told. time-calls c.take-answer.new.self.calls.items;
  raised = c.take-answer.ensures.raised;
  unmade = λ told. unmade-take c.take-answer.result c.args.self.now.start.items c.take-answer.new.self.start.items c.args.self.now.calls.items c.take-answer.new.self.calls.items
      (ap (λ (start : Vec Written Global). start.items) c.take-answer.ensures.start) c.take-answer.ensures.unmade;
}

pub returns-else-is_ok-clause-images : goal.returns-else-is_ok-clause-images
returns-else-is_ok-clause-images c =
    stayed-take c.take-answer.result c.args.self.now.start.items c.take-answer.new.self.start.items c.args.self.now.calls.items c.take-answer.new.self.calls.items
    Read (ap (λ (start : Vec Written Global). start.items) c.take-answer.ensures.start) c.take-answer.ensures.made c.take-answer.ensures.unmade refl

pub returns-else-is_ok-clause-still : goal.returns-else-is_ok-clause-still
returns-else-is_ok-clause-still c =
    still-take c.take-answer.result c.args.self.now.start.items c.take-answer.new.self.start.items c.args.self.now.calls.items c.take-answer.new.self.calls.items
    (ap (λ (start : Vec Written Global). start.items) c.take-answer.ensures.start) c.take-answer.ensures.made

pub returns-else-is_ok-clause-counted : goal.returns-else-is_ok-clause-counted
returns-else-is_ok-clause-counted c = record {
  made = λ told. made-take c.take-answer.result c.args.self.now.calls.items c.take-answer.new.self.calls.items Read with_read (calls-read c.args.self.now.calls.items) c.take-answer.ensures.made;
  time = λ told. time-calls c.take-answer.new.self.calls.items;
  raised = c.take-answer.ensures.raised;
  unmade = λ told. unmade-take c.take-answer.result c.args.self.now.start.items c.take-answer.new.self.start.items c.args.self.now.calls.items c.take-answer.new.self.calls.items
      (ap (λ (start : Vec Written Global). start.items) c.take-answer.ensures.start) c.take-answer.ensures.unmade;
}
