-- A request without appends behind others that make contents longer.
use Rattle.std.proofs.Common.{◌≡◌, List, [], ◌∷◌, ◌++◌, sym, subst}
use Rattle.std.specs.List.{All}
use Rattle.std.specs.FinMap.{FinMap}
use Rattle.std.proofs.lemmas.List.Elements.{All-append, All-cons, All-nil}
use Rattle.store_model.specs.Key.{key_order}
use Rattle.store_model.specs.State.{State}
use Rattle.txn.specs.Txns.{NoAppends}
use Rattle.txn.specs.declared.change.Change.TheVariants.{Append}
use Rattle.txn.specs.declared.request.Request.{Request}
use Rattle.group_plan.specs.Plans.{DoesLengthen}
use Rattle.tests_groups.proofs.planning.add.Goals as goal

lengthens : (states : FinMap key_order State) (request : Request) → NoAppends request.writes → DoesLengthen states request
lengthens states request none key extension state is held read = absurd (cc (none key (Append extension) is))

pub returns : goal.returns
returns g c =
    let queue : List Request = c.args.queue.now in
    let one : Request = c.seal.result in
    let pushed : c.push.new.self ≡ queue ++ one ∷ [] = rw c.expect.ensures at c.push.ensures.ok in
    let states : FinMap key_order State = c.args.relation.now.states in
    subst (All (DoesLengthen states)) (sym pushed)
    (All-append (DoesLengthen states) queue (one ∷ []) c.requires
    (All-cons (DoesLengthen states) one [] (lengthens states one c.seal.ensures.appends) (All-nil (DoesLengthen states))))
