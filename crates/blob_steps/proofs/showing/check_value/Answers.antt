use Rattle.std.proofs.Common.{refl}
use Rattle.std.specs.FinMap.{get}
use Rattle.blob_steps.proofs.Values.{fails-same}
use Rattle.blob_steps.proofs.showing.check_value.Goals as goal

pub returns-in-Damaged-clause-damaged : goal.returns-in-Damaged-clause-damaged
returns-in-Damaged-clause-damaged g c = λ state there. (
  c.copy.ensures,
  fails-same (get c.args.vault.now.memory.relation.states c.args.key.now) c.in-Some.state.now state c.deref.result.now c.args.content.items
      c.in-Damaged.link c.in-Damaged.want c.in-Damaged.got c.in-Some.ensures there c.deref.ensures.value
      (c.in-Damaged.ensures.damaged c.in-Damaged.link c.in-Damaged.want c.in-Damaged.got refl),
)
