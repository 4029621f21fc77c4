use Rattle.std.proofs.Common.{[], ap, length, ℕ, subst, arith, refl}
use Rattle.std.specs.Prelude.{option_copied, option_map}
use Rattle.std.proofs.lemmas.List.{length-map}
use Rattle.blob_state.specs.Values.{extent_of, extents_of}
use Rattle.store_model.specs.Placing.{tiers_behind}
use Rattle.store_model.specs.State.{Draft, Extent, IsDraft, heads_of}
use Rattle.group_plan.specs.Places.{PlacesDraft}
use Rattle.group_plan.specs.Plans.{holding_of}
use Rattle.group_plan.specs.Takings.{IsTakeFault}
use Rattle.group_plan.specs.declared.takings.TakeFault.{TakeFault}
use Rattle.group_plan.proofs.Blocks.{Moves-none, Takes-none}
use Rattle.group_plan.proofs.Placements.{IsTakeFault-append, PlacesChange-append, PlacesChange-put, kept-fewer}
use Rattle.group_plan.proofs.Walks.{IfErr-then, IfOk-then}
use Rattle.group_plan.proofs.placing.place_change.Goals as goal

pub returns-in-Put-clause-placed : goal.returns-in-Put-clause-placed
returns-in-Put-clause-placed c = rw c.in-Put.is
    (IfOk-then c.place_draft.result
    (PlacesDraft c.args.key.now c.draft.result.now [] c.args.number c.args.space.now c.place_draft.new.space c.args.takings.now c.place_draft.new.takings) _
    (λ one placed. PlacesChange-put c.args.key.now c.in-Put.drafted c.draft.result.now c.args.number (option_map holding_of (option_copied c.args.old)) c.args.space.now c.place_draft.new.space c.args.takings.now c.place_draft.new.takings one c.draft.ensures.draft placed)
    c.place_draft.ensures.placed)

pub returns-in-Put-clause-fault : goal.returns-in-Put-clause-fault
returns-in-Put-clause-fault c = rw c.in-Put.is
    (IfErr-then c.place_draft.result
    (λ (why : TakeFault). IsTakeFault (tiers_behind 0 c.draft.result.now.size) c.args.space.now c.place_draft.new.space c.args.takings.now c.place_draft.new.takings why) _
    (λ why fails. subst (λ (size : ℕ). IsTakeFault (tiers_behind 0 size) c.args.space.now c.place_draft.new.space c.args.takings.now c.place_draft.new.takings why) c.draft.ensures.draft.size fails)
    c.place_draft.ensures.fault)

pub place_draft-requires-in-Append-clause-kept : goal.place_draft-requires-in-Append-clause-kept
place_draft-requires-in-Append-clause-kept c =
    let kept = c.extents_of-kept.result.now in
    let longer = rw c.in-Append.is at c.requires.lengthens in
    omega (
      arith,
      length-map (extents_of kept) (λ (e : Extent). e.head),
      length-map kept extent_of,
      ap length c.extents_of-kept.ensures.heads,
      ap (λ (d : Draft). length d.marks) c.deref-in-Append.ensures,
      kept-fewer (option_copied c.args.old) c.in-Append.extension c.extents_of-kept.ensures.sound (subst IsDraft c.deref.ensures c.rules.ensures) longer,
    )

pub returns-in-Append-clause-placed : goal.returns-in-Append-clause-placed
returns-in-Append-clause-placed c = rw c.in-Append.is
    (IfOk-then c.place_draft-in-Append.result
    (PlacesDraft c.args.key.now c.deref-in-Append.result.now (heads_of (extents_of c.extents_of-kept.result.now)) c.args.number c.args.space.now c.place_draft-in-Append.new.space c.args.takings.now c.place_draft-in-Append.new.takings) _
    (λ one placed. PlacesChange-append c.args.key.now c.in-Append.extension c.args.number (option_copied c.args.old) (heads_of (extents_of c.extents_of-kept.result.now)) c.args.space.now c.place_draft-in-Append.new.space c.args.takings.now c.place_draft-in-Append.new.takings one
    c.extents_of-kept.ensures.heads
    (subst (λ (d : Draft). PlacesDraft c.args.key.now d (heads_of (extents_of c.extents_of-kept.result.now)) c.args.number c.args.space.now c.place_draft-in-Append.new.space c.args.takings.now c.place_draft-in-Append.new.takings one) c.deref-in-Append.ensures placed))
    c.place_draft-in-Append.ensures.placed)

pub returns-in-Append-clause-fault : goal.returns-in-Append-clause-fault
returns-in-Append-clause-fault c = rw c.in-Append.is
    (IfErr-then c.place_draft-in-Append.result
    (λ (why : TakeFault). IsTakeFault (tiers_behind (length c.extents_of-kept.result.now) c.deref-in-Append.result.now.size) c.args.space.now c.place_draft-in-Append.new.space c.args.takings.now c.place_draft-in-Append.new.takings why) _
    (λ why fails. IsTakeFault-append c.in-Append.extension (option_copied c.args.old) (length c.extents_of-kept.result.now) c.args.space.now c.place_draft-in-Append.new.space c.args.takings.now c.place_draft-in-Append.new.takings why
    (omega (arith, length-map (extents_of c.extents_of-kept.result.now) (λ (e : Extent). e.head), length-map c.extents_of-kept.result.now extent_of, ap length c.extents_of-kept.ensures.heads))
    (subst (λ (d : Draft). IsTakeFault (tiers_behind (length c.extents_of-kept.result.now) d.size) c.args.space.now c.place_draft-in-Append.new.space c.args.takings.now c.place_draft-in-Append.new.takings why) c.deref-in-Append.ensures fails))
    c.place_draft-in-Append.ensures.fault)

pub returns-in-Del-clause-placed : goal.returns-in-Del-clause-placed
returns-in-Del-clause-placed c = rw c.in-Del.is (record {
  heads = [];
  takes = Takes-none c.args.space.now c.args.space.now c.args.takings.now c.args.takings.now (Moves-none c.args.space.now c.args.space.now c.args.takings.now c.args.takings.now refl refl refl refl c.requires.listed (omega arith));
  does = c.copy.ensures;
})
