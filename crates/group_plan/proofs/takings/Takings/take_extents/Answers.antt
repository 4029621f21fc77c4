use Rattle.std.proofs.Common.{[], ◌∷◌, ◌≡◌, ◌%◌, ◌+◌, List, ℕ, sym, subst}
use Rattle.std.proofs.lemmas.Result.{err_from_is_err_and}
use Rattle.store_model.specs.Shape.{pages_of_tier}
use Rattle.group_plan.specs.Takings.{IsTakeFault, Takes, TakesExtents}
use Rattle.group_plan.proofs.Blocks.{TakesExtents-fails, TakesExtents-next, TakesExtents-none}
use Rattle.group_plan.proofs.takings.Takings.take_extents.Goals as goal

pub taken-init : goal.taken-init
taken-init c =
    subst (λ (n : ℕ). TakesExtents n c.args.heads.now.items c.args.heads.now.items c.args.space.now c.args.space.now c.args.self.now c.args.self.now) (sym c.len-i.ensures.value)
    (TakesExtents-none c.args.heads.now.items c.args.space.now c.args.self.now c.requires.aligned c.requires.listed)

pub returns-in_err-take-clause-fault : goal.returns-in_err-take-clause-fault
returns-in_err-take-clause-fault c =
    let p = err_from_is_err_and c.from_residual.result c.from_residual.ensures.1 in
    rw (p.1, p.2)
    (TakesExtents-fails c.taken.i c.args.extents c.args.heads.now.items c.taken.heads.items c.args.space.now c.taken.space c.take.new.space c.args.self.now c.taken.self c.take.new.self c.in_err-take.field-0.0 c.taken-test.true c.taken.invariant
    (subst (λ (tier : ℕ). IsTakeFault (tier ∷ []) c.taken.space c.take.new.space c.taken.self c.take.new.self c.in_err-take.field-0.0) c.tier.ensures c.in_err-take.ensures.fault))

pub taken-preserved : goal.taken-preserved
taken-preserved c =
    subst (λ (heads : List ℕ). TakesExtents (c.taken.i + 1) c.args.heads.now.items heads c.args.space.now c.take.new.space c.args.self.now c.take.new.self) (sym c.push.ensures.items)
    (TakesExtents-next c.taken.i c.in_ok-take.field-0 c.args.heads.now.items c.taken.heads.items c.args.space.now c.taken.space c.take.new.space c.args.self.now c.taken.self c.take.new.self c.taken.invariant
    (subst (λ (tier : ℕ). Takes (tier ∷ []) (c.in_ok-take.field-0 ∷ []) c.taken.space c.take.new.space c.taken.self c.take.new.self) c.tier.ensures c.in_ok-take.ensures.takes)
    (subst (λ (tier : ℕ). c.in_ok-take.field-0 % pages_of_tier tier ≡ 0) c.tier.ensures c.in_ok-take.ensures.aligned))
