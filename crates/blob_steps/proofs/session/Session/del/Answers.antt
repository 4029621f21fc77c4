use Rattle.std.proofs.Common.{Bool, sym, ◌∙◌, ap}
use Rattle.std.specs.FinMap.{get}
use Rattle.txn.specs.Txns.{transaction_by, value_by}
use Rattle.blob_steps.proofs.Reading.{delete-turns, some-map}
use Rattle.blob_steps.proofs.session.Session.del.Goals as goal

pub returns-in-Ok-clause-turn : goal.returns-in-Ok-clause-turn
returns-in-Ok-clause-turn c = λ store theirs number last number_is stands.
    let done = c.in-Ok.ensures in
    delete-turns c.args.self.now c.in-Open.txn c.del.new.self store theirs number c.args.key.now _ c.args.front
    (record { opened = c.in-Open.is; last = last; number_is = number_is; stands = stands; session = done.session; nth = done.nth })
    c.rules.ensures.appends done.may
    (λ is. done.there (ap (λ (b : Bool). value_by (get (transaction_by c.in-Open.txn).changes c.args.key.now) b) (sym (some-map _ c.args.now)) ∙ is)) done.changed
