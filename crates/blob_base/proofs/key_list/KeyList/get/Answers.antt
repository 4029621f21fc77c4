use Rattle.std.proofs.Common.{subst, sym, ◌∙◌, ap}
use Rattle.std.specs.FinMap.{get}
use Rattle.std.proofs.lemmas.Option.{slice_get_within}
use Rattle.blob_base.specs.Sorted.{IsAt, WouldStand}
use Rattle.blob_base.proofs.KeyLists.{element, get-found, get-missing}
use Rattle.blob_base.proofs.key_list.KeyList.get.Goals as goal

pub returns-in-Ok : goal.returns-in-Ok
returns-in-Ok g c =
    let es = c.self.inside.entries.items in
    let at = subst (λ l. IsAt l c.args.key.now c.in-Ok.at) c.deref.ensures.value c.in-Ok.ensures in
    let is = element es c.in-Ok.at c.index.result.now c.index.result.now (slice_get_within es c.in-Ok.at _ at.1) c.index.ensures in
    sym (get-found es c.args.key.now c.in-Ok.at c.index.result.now c.self.invariant at is) ∙ ap (λ m. get m c.args.key.now) c.self.view_is

pub returns-in-Err : goal.returns-in-Err
returns-in-Err g c =
    let es = c.self.inside.entries.items in
    let would = subst (λ l. WouldStand l c.args.key.now c.in-Err.field-0) c.deref.ensures.value c.in-Err.ensures in
    sym (get-missing es c.args.key.now c.in-Err.field-0 c.self.invariant would) ∙ ap (λ m. get m c.args.key.now) c.self.view_is
