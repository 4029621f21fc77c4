use Rattle.std.proofs.Common.{subst, ◌∙◌, ap}
use Rattle.std.specs.FinMap.{insert}
use Rattle.std.proofs.lemmas.Option.{slice_get_within}
use Rattle.blob_base.specs.Sorted.{IsAt, WouldStand}
use Rattle.blob_base.proofs.KeyLists.{element, insert-put, put-found, put-missing, sorted-put}
use Rattle.blob_base.proofs.key_list.KeyList.insert.Goals as goal

pub invariant_of-self : goal.invariant_of-self
invariant_of-self g c =
    let es = c.self.inside.entries.items in
    let at = subst (λ l. IsAt l c.args.key c.in-Ok.at) c.deref.ensures.value c.in-Ok.ensures in
    let is = element es c.in-Ok.at c.index_mut.result.now c.index_mut.result.now (slice_get_within es c.in-Ok.at _ at.1) c.index_mut.ensures.value in
    sorted-put es _ c.args.key c.args.value c.self.invariant (put-found es c.args.key c.in-Ok.at c.index_mut.result.now c.args.value c.self.invariant at is)

pub invariant_of-self-in-Continue-1 : goal.invariant_of-self-in-Continue-1
invariant_of-self-in-Continue-1 g c =
    let es = c.self.inside.entries.items in
    let would = subst (λ l. WouldStand l c.args.key c.in-Err.at) c.deref.ensures.value c.in-Err.ensures in
    sorted-put es _ c.args.key c.args.value c.self.invariant (put-missing es _ c.args.key c.in-Err.at c.args.value would c.in_ok-insert-in-Err.ensures.items)

pub returns-in-Ok-clause-ok : goal.returns-in-Ok-clause-ok
returns-in-Ok-clause-ok g c =
    let es = c.self.inside.entries.items in
    let at = subst (λ l. IsAt l c.args.key c.in-Ok.at) c.deref.ensures.value c.in-Ok.ensures in
    let is = element es c.in-Ok.at c.index_mut.result.now c.index_mut.result.now (slice_get_within es c.in-Ok.at _ at.1) c.index_mut.ensures.value in
    insert-put es _ c.args.key c.args.value c.self.invariant (put-found es c.args.key c.in-Ok.at c.index_mut.result.now c.args.value c.self.invariant at is)
    ∙ ap (λ m. insert m c.args.key c.args.value) c.self.view_is

pub returns-in_ok-insert-in-Err-clause-ok : goal.returns-in_ok-insert-in-Err-clause-ok
returns-in_ok-insert-in-Err-clause-ok g c =
    let es = c.self.inside.entries.items in
    let would = subst (λ l. WouldStand l c.args.key c.in-Err.at) c.deref.ensures.value c.in-Err.ensures in
    insert-put es _ c.args.key c.args.value c.self.invariant (put-missing es _ c.args.key c.in-Err.at c.args.value would c.in_ok-insert-in-Err.ensures.items)
    ∙ ap (λ m. insert m c.args.key c.args.value) c.self.view_is
