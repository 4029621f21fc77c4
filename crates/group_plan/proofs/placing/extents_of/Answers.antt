use Rattle.std.proofs.Common.{List, sym, subst}
use Rattle.store_model.specs.State.{AreAligned, Extent, heads_of}
use Rattle.group_plan.proofs.placing.extents_of.Goals as goal

pub returns-in-Some-clause-aligned : goal.returns-in-Some-clause-aligned
returns-in-Some-clause-aligned c = subst (λ (es : List Extent). AreAligned (heads_of es)) (sym c.extents.ensures.value) c.rules.ensures.heads
