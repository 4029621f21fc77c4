-- Requests in the words of the definitions.
use Rattle.std.specs.Prelude.{drop, length, map}
use Rattle.std.specs.FinMap.{entries}
use Rattle.store_model.specs.Judgement.{Asked}
use Rattle.store_model.specs.Maps.{map_values}
use Rattle.store_model.specs.Placing.{Need, Whole, Longer, Nothing}
use Rattle.store_model.specs.Transaction.{Transaction}
use Rattle.store_model.specs.Transaction as model
use Rattle.txn.specs.declared.change.Change.{Change}
use Rattle.txn.specs.declared.change.Change.TheVariants as change
use Rattle.txn.specs.declared.request.Request.{Request}

-- the change of a transaction
abbrev pub model_change : Change → model.Change
model_change (change.Put content) = model.Put content
model_change (change.Append extension) = model.More (drop extension.moved extension.rest)
model_change change.Del = model.Gone

-- what a change needs of the space
abbrev pub need_of : Change → Need
need_of (change.Put content) = Whole (length content)
need_of (change.Append extension) = Longer extension.draft.value.size
need_of change.Del = Nothing

-- a request as the transaction that asks
abbrev pub transaction_of : Request → Transaction
transaction_of request = record { seen = request.seen; reads = request.reads; changes = map_values model_change request.writes }

-- a request as its group judges it
abbrev pub asked_of : Request → Asked
asked_of request = record {
  session = request.session;
  nth = request.nth;
  seen = request.seen;
  reads = entries request.reads;
  needs = map (λ one. (one.0, need_of one.1)) (entries request.writes);
}
