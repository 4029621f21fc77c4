use Rattle.std.proofs.Common.{◌≡◌, not, count_by, take}
use Rattle.std.specs.FinMap.{contains_key, entries}
use Rattle.txn.proofs.txn.Txn.count_unread.Given as goal

abbrev pub invariant-counted : goal.invariant-counted
invariant-counted l = l.count ≡ count_by (λ e. not (contains_key l.self-inside.reads e.0)) (take l.i (entries l.self-inside.changes))
