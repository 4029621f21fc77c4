use Rattle.std.proofs.Common.{◌∙◌, ap, length, sym, subst}
use Rattle.store_model.specs.State.{AreAligned}
use Rattle.store_model.specs.Store.{Placement}
use Rattle.group_plan.proofs.Placements.{count-draft}
use Rattle.group_plan.proofs.placing.place_draft.Goals as goal

pub place-requires-clause-count : goal.place-requires-clause-count
place-requires-clause-count c =
    ap (λ (p : Placement). length p.heads) c.place.view_is ∙ c.in_ok-place.ensures.takes.count ∙ count-draft c.args.draft.now c.rules.ensures

pub place-requires-clause-aligned : goal.place-requires-clause-aligned
place-requires-clause-aligned c = subst (λ (p : Placement). AreAligned p.heads) (sym c.place.view_is) c.in_ok-place.ensures.takes.aligned
