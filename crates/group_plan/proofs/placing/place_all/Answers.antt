use Rattle.std.proofs.Common.{◌≤◌, ◌++◌, ◌∷◌, [], ◌+◌, ◌∙◌, ap, length, List, Option, sym, subst, arith}
use Rattle.std.specs.Prelude.{option_copied, option_map}
use Rattle.std.specs.FinMap as map
use Rattle.std.specs.FinMap.{len-entries}
use Rattle.std.proofs.lemmas.Result.{err_from_is_err_and}
use Rattle.frame_codec.specs.declared.entry.Write.{Write}
use Rattle.store_model.specs.Placing.{tiers_of}
use Rattle.store_model.specs.State.{State}
use Rattle.txn.specs.Requests.{need_of}
use Rattle.group_plan.specs.Places.{Lengthens}
use Rattle.group_plan.specs.Plans.{holding_of, holdings_by}
use Rattle.group_plan.specs.Takings.{IsTakeFault}
use Rattle.group_plan.specs.declared.takings.TakeFault.TheVariants as take_fault
use Rattle.group_plan.proofs.Requesting.{PlacedSoFar, PlacedSoFar-over, do_rise-keys, get-at, map_keys, moved-behind, place_all-all, place_all-freed, place_all-keys, place_all-none}
use Rattle.group_plan.proofs.Walks.{take-end}
use Rattle.group_plan.proofs.placing.place_all.Goals as goal

pub place_change-requires-clause-lengthens : goal.place_change-requires-clause-lengthens
place_change-requires-clause-lengthens c =
    subst (λ (o : Option State). Lengthens o c.nth.result.1.now) (sym c.get-old.ensures)
    (c.requires.lengthen c.nth.result.0.now c.nth.result.1.now (get-at c.args.changes.now c.placed.i c.nth.result.0.now c.nth.result.1.now c.nth.ensures))

pub returns-in-Err-NoSpace-clause-refusal : goal.returns-in-Err-NoSpace-clause-refusal
returns-in-Err-NoSpace-clause-refusal c =
    let fails = rw c.in-Err-NoSpace.field-0-is at c.in-Err-NoSpace.ensures.fault in
    let none = place_all-none (holdings_by c.args.relation.now.states) c.args.number (map.entries c.args.changes.now) c.placed.i c.placed.placed.writes c.placed.placed.added c.placed.placed.replaced
    c.nth.result.0.now c.nth.result.1.now c.in-Err-NoSpace.tier c.args.space.now c.placed.space c.place_change.new.space c.args.takings.now c.placed.takings c.place_change.new.takings c.placed.invariant c.nth.ensures
    (subst (λ (o : Option State). IsTakeFault (tiers_of (need_of c.nth.result.1.now) (option_map holding_of o)) c.placed.space c.place_change.new.space c.placed.takings c.place_change.new.takings (take_fault.NoSpace c.in-Err-NoSpace.tier))
    c.get-old.ensures fails) in
    ((c.nth.result.0.now, c.in-Err-NoSpace.tier), none.0, cc (c.copy-key.ensures, c.in-Err-NoSpace.tier-is), none.1)

pub returns-in-Err-OutOfMemory-clause-refusal : goal.returns-in-Err-OutOfMemory-clause-refusal
returns-in-Err-OutOfMemory-clause-refusal c =
    let fails = rw c.in-Err-OutOfMemory.field-0-is at c.in-Err-OutOfMemory.ensures.fault in
    moved-behind (holdings_by c.args.relation.now.states) c.args.number (map.entries c.args.changes.now) c.placed.i c.placed.placed.writes c.placed.placed.added c.placed.placed.replaced
    c.args.space.now c.placed.space c.place_change.new.space c.args.takings.now c.placed.takings c.place_change.new.takings c.placed.invariant fails

pub push-requires-clause-rise : goal.push-requires-clause-rise
push-requires-clause-rise c = do_rise-keys c.args.changes.now (c.placed.i + 1) (c.placed.placed.writes ++ c.in-Ok.write ∷ [])
    (PlacedSoFar-over c.args.relation.now.states c.args.number c.args.changes.now c.placed.i c.placed.placed.writes c.placed.placed.added c.placed.placed.replaced c.written_bytes.result c.replaced_bytes.result
    c.nth.result.0.now c.nth.result.1.now (option_copied c.get-old.result) c.in-Ok.write c.args.space.now c.placed.space c.place_change.new.space c.args.takings.now c.placed.takings c.place_change.new.takings
    c.placed.invariant c.nth.ensures c.get-old.ensures c.in-Ok.ensures.placed c.written_bytes.ensures.value c.written_bytes.ensures.most c.replaced_bytes.ensures.value c.replaced_bytes.ensures.most).keys

pub returns-in_err-push-clause-refusal : goal.returns-in_err-push-clause-refusal
returns-in_err-push-clause-refusal c =
    let p = err_from_is_err_and c.from_residual.result c.from_residual.ensures.1 in
    let so_far =
    PlacedSoFar-over c.args.relation.now.states c.args.number c.args.changes.now c.placed.i c.placed.placed.writes c.placed.placed.added c.placed.placed.replaced c.written_bytes.result c.replaced_bytes.result
    c.nth.result.0.now c.nth.result.1.now (option_copied c.get-old.result) c.in-Ok.write c.args.space.now c.placed.space c.place_change.new.space c.args.takings.now c.placed.takings c.place_change.new.takings
    c.placed.invariant c.nth.ensures c.get-old.ensures c.in-Ok.ensures.placed c.written_bytes.ensures.value c.written_bytes.ensures.most c.replaced_bytes.ensures.value c.replaced_bytes.ensures.most in
    rw (p.1, p.2) (_, so_far.moves)

pub placed-preserved : goal.placed-preserved
placed-preserved c =
    subst (λ (writes : List Write). PlacedSoFar (holdings_by c.args.relation.now.states) c.args.number (map.entries c.args.changes.now) (c.placed.i + 1) writes
    (c.placed.placed.added + c.written_bytes.result) (c.placed.placed.replaced + c.replaced_bytes.result) c.args.space.now c.place_change.new.space c.args.takings.now c.place_change.new.takings)
    (sym c.in_ok-push.ensures.ok)
    (PlacedSoFar-over c.args.relation.now.states c.args.number c.args.changes.now c.placed.i c.placed.placed.writes c.placed.placed.added c.placed.placed.replaced c.written_bytes.result c.replaced_bytes.result
    c.nth.result.0.now c.nth.result.1.now (option_copied c.get-old.result) c.in-Ok.write c.args.space.now c.placed.space c.place_change.new.space c.args.takings.now c.placed.takings c.place_change.new.takings
    c.placed.invariant c.nth.ensures c.get-old.ensures c.in-Ok.ensures.placed c.written_bytes.ensures.value c.written_bytes.ensures.most c.replaced_bytes.ensures.value c.replaced_bytes.ensures.most)

pub returns-clause-placed : goal.returns-clause-placed
returns-clause-placed c =
    let so_far = c.placed.invariant in
    let all = map.entries c.args.changes.now in
    let done_all : length all ≤ c.placed.i = omega (arith, c.len-i-end.ensures, len-entries c.args.changes.now, c.placed-test.false) in
    let done = place_all-all (holdings_by c.args.relation.now.states) c.args.number all c.placed.i c.placed.placed.writes c.placed.placed.added c.placed.placed.replaced
    c.args.space.now c.placed.space c.args.takings.now c.placed.takings so_far done_all in
    record {
      placed = so_far.placed;
      found = done.0;
      written = done.1;
      moves = so_far.moves;
      added = so_far.added_is;
      replaced = so_far.replaced_is;
      keys = so_far.keys ∙ ap (map_keys) (take-end all c.placed.i done_all) ∙ sym (place_all-keys c.args.space.now.pages (holdings_by c.args.relation.now.states) all c.args.space.now.owned so_far.placed done.0);
      freed = place_all-freed c.args.space.now.pages (holdings_by c.args.relation.now.states) all c.args.space.now.owned so_far.placed done.0;
      few = omega (arith, so_far.few, c.placed.auto.i-end, c.len-i-end.ensures, c.requires.few);
    }
