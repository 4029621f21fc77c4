use Rattle.blob_steps.proofs.Leading.{sessions-next}
use Rattle.blob_steps.proofs.world.waiting.Goals as goal

pub taken-preserved : goal.taken-preserved
taken-preserved c =
    sessions-next c.args.queue.now c.taken.i c.get.result.now c.taken.numbers c.push.new.self c.get.ensures c.taken.invariant c.in_ok-push.ensures.ok
