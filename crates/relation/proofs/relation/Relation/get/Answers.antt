use Rattle.std.proofs.Common.{Some, sym, ◌∙◌, ap}
use Rattle.std.specs.FinMap.{get}
use Rattle.store_model.specs.State.{State}
use Rattle.relation.specs.Parts.{Parts}
use Rattle.relation.proofs.Relations.{found-state, missing-state}
use Rattle.relation.proofs.relation.Relation.get.Goals as goal

pub returns-in-Ok : goal.returns-in-Ok
returns-in-Ok c =
    ap (λ (s : State). Some s) c.deref-in-Ok.ensures
    ∙ sym (found-state c.self.inside.entries.items c.deref.result.now c.in-Ok.at c.args.key.now c.index.result.now c.index.result.now c.deref.ensures.value c.self.invariant.sorted c.in-Ok.ensures.found c.index.ensures)
    ∙ ap (λ (p : Parts). get p.states c.args.key.now) c.self.view_is

pub returns-in-Err : goal.returns-in-Err
returns-in-Err c =
    let found = c.in-Err.ensures.found in
    sym (missing-state c.self.inside.entries.items c.deref.result.now c.in-Err.field-0 c.args.key.now c.deref.ensures.value c.self.invariant.sorted found.1 found.2)
    ∙ ap (λ (p : Parts). get p.states c.args.key.now) c.self.view_is
