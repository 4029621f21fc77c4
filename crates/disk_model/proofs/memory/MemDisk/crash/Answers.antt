use Rattle.std.proofs.Common.{List, ◌∙◌, ap}
use Rattle.disk_model.specs.declared.call.Call.{Call}
use Rattle.disk_model.specs.Calls.{image_of, settled, replay_calls}
use Rattle.disk_model.proofs.Replays.{HasPages-image_of, HasPages-replay_calls, left-crash}
use Rattle.disk_model.proofs.memory.MemDisk.crash.Goals as goal

pub returns-clause-left : goal.returns-clause-left
returns-clause-left c =
    let begun = settled (image_of c.in_ok-start.start.items) in
    left-crash c.args.self.now.start.items c.args.self.now.calls.items c.args.moment c.args.picks.now
    (replay_calls begun c.new-2.result.items).reads c.requires.past c.requires.pending
    (HasPages-replay_calls begun c.new-2.result.items (HasPages-image_of c.in_ok-start.start.items))
    (ap (λ (calls : List Call). (replay_calls begun calls).reads) c.new-2.ensures.items ∙ c.in_ok-start.ensures)
