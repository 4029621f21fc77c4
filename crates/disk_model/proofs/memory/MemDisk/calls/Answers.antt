use Rattle.disk_model.proofs.Replays.{time-calls}
use Rattle.disk_model.proofs.memory.MemDisk.calls.Goals as goal

pub returns-clause-time : goal.returns-clause-time
returns-clause-time c = let time = time-calls c.args.self.now.calls.items in cc
