-- A request without appends in a queue of its own.
use Rattle.std.proofs.Common.{◌≡◌, [], ◌∷◌, ◌++◌, arith, sym, subst}
use Rattle.std.proofs.lemmas.List.Elements.{All-push}
use Rattle.txn.specs.Txns.{NoAppends}
use Rattle.txn.specs.declared.request.Request.{Request}
use Rattle.vault.specs.Pours.{AreWhole}
use Rattle.tests_lock.proofs.shared.led.Goals as goal

pub lead-requires-clause-whole : goal.lead-requires-clause-whole
lead-requires-clause-whole g c =
    let pushed : c.push.new.self ≡ c.new-queue.result ++ c.seal.result ∷ [] = c.in_ok-push.ensures.ok in
    let queued : c.new-queue.result ≡ [] = c.new-queue.ensures in
    subst AreWhole (sym pushed)
    (All-push (λ (request : Request). NoAppends request.writes) c.new-queue.result c.seal.result (rw queued (λ k d less. absurd (omega (arith, less)))) c.seal.ensures.appends)
