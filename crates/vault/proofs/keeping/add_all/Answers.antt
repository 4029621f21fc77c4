use Rattle.std.proofs.Common.{◌≡◌, ◌∙◌, ◌∷◌, ◌++◌, ◌≤◌, [], List, Some, length, map, take, ap, append_assoc, arith}
use Rattle.std.specs.Prelude.{slice_get, zip}
use Rattle.std.proofs.lemmas.List.{take_all}
use Rattle.frame_codec.specs.declared.entry.Entry.{Entry}
use Rattle.txn.specs.declared.request.Request.{Request}
use Rattle.vault.specs.Keeps.{done_of}
use Rattle.vault.specs.Pours.{requests_at}
use Rattle.vault.specs.declared.done.Done.{Done}
use Rattle.vault.proofs.Keepings.{map-more}
use Rattle.vault.proofs.Pourings.{length-zip-right, request-at, slice_get-zip}
use Rattle.vault.proofs.keeping.add_all.Goals as goal

pub added-preserved : goal.added-preserved
added-preserved c =
    let requests : List Request = requests_at c.args.queue.now c.args.members.now in
    let ones : List (Request × Entry) = zip requests c.args.entries.now in
    let one : Request × Entry = (c.get-request.result.now, c.get-in-added.result.now) in
    let there : slice_get ones c.added.i ≡ Some one =
    slice_get-zip requests c.args.entries.now c.added.i c.get-request.result.now c.get-in-added.result.now
    (request-at c.args.queue.now c.args.members.now c.added.i c.get.result.now c.get-request.result.now c.requires.there c.get.ensures c.get-request.ensures) c.get-in-added.ensures in
    c.in_ok-push.ensures.ok ∙ ap (λ (xs : List Done). xs ++ c.in_ok-one.one ∷ []) c.added.invariant
    ∙ ap (λ (d : Done). (c.args.history.now ++ map done_of (take c.added.i ones)) ++ d ∷ []) c.in_ok-one.ensures
    ∙ append_assoc c.args.history.now (map done_of (take c.added.i ones)) (done_of one ∷ [])
    ∙ ap (λ (xs : List Done). c.args.history.now ++ xs) (map-more done_of ones c.added.i one there)

pub returns-clause-added : goal.returns-clause-added
returns-clause-added c =
    let requests : List Request = requests_at c.args.queue.now c.args.members.now in
    let ones : List (Request × Entry) = zip requests c.args.entries.now in
    let all : length ones ≤ c.added.i = omega (arith, c.added-test.false, c.len-i-end.ensures, length-zip-right requests c.args.entries.now) in
    c.added.invariant ∙ ap (λ (xs : List (Request × Entry)). c.args.history.now ++ map done_of xs) (take_all c.added.i ones all)
