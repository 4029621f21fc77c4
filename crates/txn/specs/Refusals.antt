-- Why a call of a transaction is refused, and what it leaves.
use Rattle.std.specs.Prelude.{ℕ, ◌+◌, ◌<◌, ◌≡◌, ⊤, true, false, List, Option}
use Rattle.store_model.specs.Shape.{greatest_size}
use Rattle.store_model.specs.Transaction.{Transaction}
use Rattle.store_model.specs.Turn.{is_one_too_many, is_stale, most_keys, with_read}
use Rattle.txn.specs.Txns.{Absent, MayRead, Value}
use Rattle.txn.specs.declared.refusal.TxnRefusal.{TxnRefusal}
use Rattle.txn.specs.declared.refusal.TxnRefusal.TheVariants as refusal

-- why a key isn't read whose number now is this one
abbrev pub IsReadRefusal : Transaction → List ℕ → Option ℕ → TxnRefusal → Type 0
IsReadRefusal old key now (refusal.TooMany keys) = (is_one_too_many old key ≡ true) × (keys ≡ most_keys + 1)
IsReadRefusal old key now (refusal.Stale number) = (is_one_too_many old key ≡ false) × (is_stale now old key ≡ true) × (number ≡ now)
IsReadRefusal old key now refusal.Absent = ⊥
IsReadRefusal old key now (refusal.TooLong size) = ⊥
IsReadRefusal old key now refusal.OutOfMemory = ⊤

-- why a content of this size isn't put
abbrev pub IsPutRefusal : Transaction → List ℕ → ℕ → TxnRefusal → Type 0
IsPutRefusal old key bytes (refusal.TooMany keys) = (is_one_too_many old key ≡ true) × (keys ≡ most_keys + 1)
IsPutRefusal old key bytes (refusal.TooLong size) = (is_one_too_many old key ≡ false) × (greatest_size < bytes) × (size ≡ bytes)
IsPutRefusal old key bytes (refusal.Stale number) = ⊥
IsPutRefusal old key bytes refusal.Absent = ⊥
IsPutRefusal old key bytes refusal.OutOfMemory = ⊤

-- want of memory doesn't refuse
abbrev pub IsCause : TxnRefusal → Type 0
IsCause refusal.OutOfMemory = ⊥
IsCause _ = ⊤

-- Why a key isn't deleted whose value is this one, and the transaction after it: where nothing is there, the read is recorded.
abbrev pub IsDeleteRefusal : Transaction → List ℕ → Option ℕ → Value → ℕ → Transaction → TxnRefusal → Type 0
IsDeleteRefusal old key now value last new (refusal.TooMany keys) = IsReadRefusal old key now (refusal.TooMany keys) × (new ≡ old)
IsDeleteRefusal old key now value last new (refusal.Stale number) = IsReadRefusal old key now (refusal.Stale number) × (new ≡ old)
IsDeleteRefusal old key now value last new refusal.Absent = MayRead old key now × (value ≡ Absent) × (new ≡ with_read last now old key)
IsDeleteRefusal old key now value last new (refusal.TooLong size) = ⊥
IsDeleteRefusal old key now value last new refusal.OutOfMemory = new ≡ old
