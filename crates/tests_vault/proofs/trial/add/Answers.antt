-- A request without appends behind others.
use Rattle.std.proofs.Common.{◌≡◌, List, [], ◌∷◌, ◌++◌, sym, subst}
use Rattle.std.proofs.lemmas.List.Elements.{All-push}
use Rattle.txn.specs.Txns.{NoAppends}
use Rattle.txn.specs.declared.request.Request.{Request}
use Rattle.vault.specs.Pours.{AreWhole}
use Rattle.tests_vault.proofs.trial.add.Goals as goal

pub returns : goal.returns
returns g c =
    let queue : List Request = c.args.queue.now in
    let one : Request = c.seal.result in
    let pushed : c.push.new.self ≡ queue ++ one ∷ [] = rw c.expect.ensures at c.push.ensures.ok in
    subst AreWhole (sym pushed) (All-push (λ (request : Request). NoAppends request.writes) queue one c.requires c.seal.ensures.appends)
