use Rattle.std.proofs.Common.{◌≡◌, ◌%◌, ◌==◌, not, drop, ◌∙◌, ap, length, List, ℕ, subst, arith}
use Rattle.std.proofs.lemmas.List.{length-map}
use Rattle.std.proofs.lemmas.Result.{err_from_is_err_and}
use Rattle.blob_state.specs.Values.{extent_of, extents_of}
use Rattle.blob_state.specs.declared.values.Extent.{Extent as Kept}
use Rattle.store_model.specs.Places.{extent_tiers}
use Rattle.store_model.specs.State.{Extent, heads_of}
use Rattle.store_model.specs.Placing.{tiers_behind}
use Rattle.store_model.specs.Store.{Placement}
use Rattle.group_plan.specs.Places.{TakesPlace}
use Rattle.group_plan.specs.Takings.{IsTakeFault}
use Rattle.group_plan.proofs.Placements.{IsTakeFault-extents, IsTakeFault-tail, TakesPlace-taken, most-marks}
use Rattle.group_plan.proofs.placing.take_place.Goals as goal

pub heads_of-heads-requires : goal.heads_of-heads-requires
heads_of-heads-requires c = omega (arith, c.requires.kept, most-marks c.args.draft.now c.rules.ensures)

pub overflow_cast-marks : goal.overflow_cast-marks
overflow_cast-marks c = omega (arith, c.marks.ensures.count, most-marks c.args.draft.now c.rules.ensures)

pub take_extents-requires-clause-most : goal.take_extents-requires-clause-most
take_extents-requires-clause-most c = omega (arith, c.marks.ensures.count, most-marks c.args.draft.now c.rules.ensures)

-- the heads that are kept, as many as the extents
kept-length : (kept : List Kept) (heads : List ℕ) → heads ≡ heads_of (extents_of kept) → length heads ≡ length kept
kept-length kept heads is = ap length is ∙ length-map (extents_of kept) (λ (e : Extent). e.head) ∙ length-map kept extent_of

pub take_extents-requires-clause-kept : goal.take_extents-requires-clause-kept
take_extents-requires-clause-kept c = omega (arith, c.requires.kept, c.marks.ensures.count, kept-length c.args.kept.now c.heads_of-heads.result.items c.heads_of-heads.ensures)

pub returns-in_err-take_extents-clause-fault : goal.returns-in_err-take_extents-clause-fault
returns-in_err-take_extents-clause-fault c =
    let p = err_from_is_err_and c.from_residual.result c.from_residual.ensures.1 in
    rw (p.1, p.2)
    (IsTakeFault-extents c.args.draft.now (length c.args.kept.now) (length c.marks.result.now) c.args.space.now c.take_extents.new.space c.args.takings.now c.take_extents.new.self c.in_err-take_extents.field-0.0 c.rules.ensures c.marks.ensures.count
    (subst (λ (k : ℕ). IsTakeFault (drop k (extent_tiers (length c.marks.result.now))) c.args.space.now c.take_extents.new.space c.args.takings.now c.take_extents.new.self c.in_err-take_extents.field-0.0)
    (kept-length c.args.kept.now c.heads_of-heads.result.items c.heads_of-heads.ensures) c.in_err-take_extents.ensures.fault))

pub returns-in_err-tail-clause-fault : goal.returns-in_err-tail-clause-fault
returns-in_err-tail-clause-fault c =
    let p = err_from_is_err_and c.from_residual-in_err-tail.result c.from_residual-in_err-tail.ensures.1 in
    let kept = c.heads_of-heads.result.items in
    rw (p.1, p.2)
    (subst (λ (k : ℕ). IsTakeFault (tiers_behind k c.args.draft.now.size) c.args.space.now c.take_tail.new.space c.args.takings.now c.take_tail.new.self c.in_err-tail.field-0.0)
    (kept-length c.args.kept.now kept c.heads_of-heads.ensures)
    (IsTakeFault-tail c.args.draft.now kept c.take_extents.new.heads.items (not (c.size.result % 4096 == 0)) (length c.marks.result.now) c.args.space.now c.take_extents.new.space c.take_tail.new.space
    c.args.takings.now c.take_extents.new.self c.take_tail.new.self c.in_err-tail.field-0.0 c.rules.ensures c.marks.ensures.count (ap (λ (n : ℕ). not (n % 4096 == 0)) c.size.ensures)
    c.in_ok-take_extents.ensures.takes c.in_err-tail.ensures.fault))

pub returns-clause-takes : goal.returns-clause-takes
returns-clause-takes c =
    let kept = c.heads_of-heads.result.items in
    let place : Placement = record { heads = c.take_extents.new.heads.items; tail = c.in_ok-tail.tail } in
    subst (λ (hs : List ℕ). TakesPlace c.args.draft.now.size hs place c.args.space.now c.take_tail.new.space c.args.takings.now c.take_tail.new.self) c.heads_of-heads.ensures
    (TakesPlace-taken c.args.draft.now kept c.take_extents.new.heads.items c.in_ok-tail.tail (not (c.size.result % 4096 == 0)) (length c.marks.result.now) c.args.space.now c.take_extents.new.space c.take_tail.new.space
    c.args.takings.now c.take_extents.new.self c.take_tail.new.self c.rules.ensures c.marks.ensures.count (ap (λ (n : ℕ). not (n % 4096 == 0)) c.size.ensures)
    c.in_ok-take_extents.ensures.takes c.in_ok-tail.ensures.takes c.in_ok-tail.ensures.there)
