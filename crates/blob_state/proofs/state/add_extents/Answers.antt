use Rattle.blob_state.proofs.Owning.{extents-next}
use Rattle.blob_state.proofs.state.add_extents.Goals as goal

pub added-preserved : goal.added-preserved
added-preserved c =
    extents-next c.args.extents.now c.added.i _ c.tier.result c.args.owned.now c.added.owned c.push.new.self c.added-test.true c.added.invariant c.tier.ensures c.in_ok-push.ensures.ok
