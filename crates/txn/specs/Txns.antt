-- Transactions on the way, in the words of the definitions.
use Rattle.std.specs.Prelude.{ℕ, ◌<◌, ◌≤◌, ◌≡◌, Bool, true, false, List, [], length, Option, Some, None}
use Rattle.std.specs.Prelude.{refl}
use Rattle.std.specs.Coded.{Coded, code_by, coded×, coded_list, coded_option, coded_ℕ}
use Rattle.std.specs.FinMap.{FinMap, code, get}
use Rattle.store_model.specs.Hash.{sha256}
use Rattle.store_model.specs.Key.{key_order}
use Rattle.store_model.specs.Maps.{map_values}
use Rattle.store_model.specs.Transaction.{Transaction, touched_count}
use Rattle.store_model.specs.Transaction as model
use Rattle.store_model.specs.Turn.{is_one_too_many, is_stale, most_keys}
use Rattle.txn.specs.Requests.{model_change}
use Rattle.txn.specs.contracts.change.Change.{the_row}
use Rattle.txn.specs.declared.change.Change.{Change}
use Rattle.txn.specs.declared.change.Change.TheVariants as change

-- a transaction on the way, as contracts see it
pub record Parts : Type 0 where
  pub session : ℕ
  pub nth : ℕ
  pub seen : ℕ
  pub reads : FinMap key_order (Option ℕ)
  pub changes : FinMap key_order Change

-- a code of these values, by which proofs tell them apart
abbrev pub parts_code : Coded Parts
parts_code =
    code_by ((ℕ × ℕ) × (ℕ × (FinMap key_order (Option ℕ) × FinMap key_order Change)))
    (coded× (coded× coded_ℕ coded_ℕ) (coded× coded_ℕ (coded× (code (coded_list coded_ℕ) (coded_option coded_ℕ)) (code (coded_list coded_ℕ) the_row.coded))))
    (λ p. ((p.session, p.nth), (p.seen, (p.reads, p.changes))))
    (λ q. record { session = q.0.0; nth = q.0.1; seen = q.1.0; reads = q.1.1.0; changes = q.1.1.1 })
    (λ _. refl)

-- the transaction that it is
abbrev pub transaction_by : Parts → Transaction
transaction_by parts = record { seen = parts.seen; reads = parts.reads; changes = map_values model_change parts.changes }

-- whether a change is an append
abbrev pub is_append : Change → Bool
is_append (change.Put content) = false
is_append (change.Append extension) = true
is_append change.Del = false

-- no change is an append, since none is made yet
abbrev pub NoAppends : FinMap key_order Change → Type 0
NoAppends changes = (key : List ℕ) (one : Change) → get changes key ≡ Some one → is_append one ≡ false

-- what is true of each transaction on the way
pub record IsTxn (parts : Parts) : Type 0 where
  pub session : parts.session < 16
  pub numbered : 1 ≤ parts.nth
  pub few : touched_count (transaction_by parts) ≤ most_keys
  pub appends : NoAppends parts.changes

-- a key that may be read with this number now: it isn't one too many, nor stale
pub record MayRead (old : Transaction) (key : List ℕ) (now : Option ℕ) : Type 0 where
  pub room : is_one_too_many old key ≡ false
  pub fresh : is_stale now old key ≡ false

-- The value of a key, by the transaction's change of it, where it has one, and by whether the store has it: nothing, own bytes alone,
-- the store's content, or that with own bytes behind it.
pub data Value : Type 0 where
  Absent : Value
  Own : Value
  Stored : Value
  Extended : Value

abbrev pub value_by : Option model.Change → Bool → Value
value_by None false = Absent
value_by None true = Stored
value_by (Some (model.Put content)) there = Own
value_by (Some (model.More bytes)) there = Extended
value_by (Some model.Gone) there = Absent

-- own bytes of a key under this change
abbrev pub own_bytes : Option model.Change → List ℕ
own_bytes (Some (model.Put content)) = content
own_bytes (Some (model.More bytes)) = bytes
own_bytes (Some model.Gone) = []
own_bytes None = []

-- the size and the digest of what a key has under this change: of a content that is put (no append is made yet)
abbrev pub print_by : Option model.Change → Option (ℕ × List ℕ)
print_by (Some (model.Put content)) = Some (length content, sha256 content)
print_by (Some (model.More bytes)) = None
print_by (Some model.Gone) = None
print_by None = None
