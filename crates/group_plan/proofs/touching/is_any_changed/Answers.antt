use Rattle.std.proofs.Common.{ℕ, List, sym, ◌∙◌, arith}
use Rattle.std.specs.FinMap as fin
use Rattle.std.specs.FinMap.{len-entries}
use Rattle.store_model.specs.Group.{is_among}
use Rattle.group_plan.specs.Touches.{entry_keys}
use Rattle.group_plan.proofs.Walks.{any-end, any-found, any-next}
use Rattle.group_plan.proofs.touching.is_any_changed.Goals as goal

pub returns-then-is_changed : goal.returns-then-is_changed
returns-then-is_changed g c =
    sym (c.looked.invariant
    ∙ any-found (λ (one : List ℕ × g.row.V.Denot). is_among one.0 (entry_keys c.args.entries.now)) (fin.entries c.args.list.now) c.looked.i (c.nth.result.0.now, c.nth.result.1.now) c.nth.ensures (sym c.is_changed.ensures ∙ c.if-is_changed.true))

pub looked-preserved : goal.looked-preserved
looked-preserved g c =
    c.looked.invariant
    ∙ any-next (λ (one : List ℕ × g.row.V.Denot). is_among one.0 (entry_keys c.args.entries.now)) (fin.entries c.args.list.now) c.looked.i (c.nth.result.0.now, c.nth.result.1.now) c.nth.ensures (sym c.is_changed.ensures ∙ c.if-is_changed.false)

pub returns : goal.returns
returns g c =
    sym (c.looked.invariant
    ∙ any-end (λ (one : List ℕ × g.row.V.Denot). is_among one.0 (entry_keys c.args.entries.now)) (fin.entries c.args.list.now) c.looked.i (omega (arith, c.len-i-end.ensures, len-entries c.args.list.now, c.looked-test.false)))
