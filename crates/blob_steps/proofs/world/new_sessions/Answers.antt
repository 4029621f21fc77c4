use Rattle.blob_steps.proofs.Queues.{AreNew-push}
use Rattle.blob_steps.proofs.world.new_sessions.Goals as goal

pub made-preserved : goal.made-preserved
made-preserved c =
    AreNew-push c.made.sessions.items c.push.new.self.items c.new.result c.made.counter c.in_ok-push.ensures.items c.made.invariant.0 c.made.invariant.1 c.new.ensures.begun c.new.ensures.stands
