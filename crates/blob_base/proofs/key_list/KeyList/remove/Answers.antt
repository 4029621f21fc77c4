use Rattle.std.proofs.Common.{subst, sym, ◌∙◌, ap}
use Rattle.std.specs.FinMap.{get, remove}
use Rattle.std.proofs.lemmas.Option.{slice_get_within}
use Rattle.blob_base.specs.Sorted.{IsAt, WouldStand}
use Rattle.blob_base.proofs.KeyLists.{element, get-found, get-missing, remove-missing, remove-without, sorted-without}
use Rattle.blob_base.proofs.key_list.KeyList.remove.Goals as goal

pub invariant_of-self : goal.invariant_of-self
invariant_of-self g c =
    let es = c.self.inside.entries.items in
    let at = subst (λ l. IsAt l c.args.key.now c.in-Ok.at) c.deref.ensures.value c.in-Ok.ensures in
    sorted-without es _ c.args.key.now c.in-Ok.at c.self.invariant at c.remove.ensures.items

pub returns-in-Ok-clause-value : goal.returns-in-Ok-clause-value
returns-in-Ok-clause-value g c =
    let es = c.self.inside.entries.items in
    let at = subst (λ l. IsAt l c.args.key.now c.in-Ok.at) c.deref.ensures.value c.in-Ok.ensures in
    let is = element es c.in-Ok.at c.remove.result c.remove.result (slice_get_within es c.in-Ok.at _ at.1) c.remove.ensures.value in
    sym (get-found es c.args.key.now c.in-Ok.at c.remove.result c.self.invariant at is) ∙ ap (λ m. get m c.args.key.now) c.self.view_is

pub returns-in-Ok-clause-map : goal.returns-in-Ok-clause-map
returns-in-Ok-clause-map g c =
    let es = c.self.inside.entries.items in
    let at = subst (λ l. IsAt l c.args.key.now c.in-Ok.at) c.deref.ensures.value c.in-Ok.ensures in
    remove-without es _ c.args.key.now c.in-Ok.at c.self.invariant at c.remove.ensures.items ∙ ap (λ m. remove m c.args.key.now) c.self.view_is

pub returns-in-Err-clause-value : goal.returns-in-Err-clause-value
returns-in-Err-clause-value g c =
    let es = c.self.inside.entries.items in
    let would = subst (λ l. WouldStand l c.args.key.now c.in-Err.field-0) c.deref.ensures.value c.in-Err.ensures in
    sym (get-missing es c.args.key.now c.in-Err.field-0 c.self.invariant would) ∙ ap (λ m. get m c.args.key.now) c.self.view_is

pub returns-in-Err-clause-map : goal.returns-in-Err-clause-map
returns-in-Err-clause-map g c =
    let es = c.self.inside.entries.items in
    let would = subst (λ l. WouldStand l c.args.key.now c.in-Err.field-0) c.deref.ensures.value c.in-Err.ensures in
    remove-missing c.args.self.now c.args.key.now (ap (λ m. get m c.args.key.now) (sym c.self.view_is) ∙ get-missing es c.args.key.now c.in-Err.field-0 c.self.invariant would)
