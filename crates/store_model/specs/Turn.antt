-- One turn of a session: the answer to an action over the store, and the session after it.
use Rattle.std.specs.Prelude.{ℕ, ◌+◌, Bool, true, false, not, ◌&&◌, nat_le, nat_lt, ◌==◌, max, List, ◌++◌, length, Option, Some, None, if◌then◌else◌}
use Rattle.std.specs.FinMap.{get, insert}
use Rattle.store_model.specs.Hash.{sha256}
use Rattle.store_model.specs.Shape.{greatest_size}
use Rattle.store_model.specs.Store.{Store, number_at, content_at}
use Rattle.store_model.specs.Transaction as tr
use Rattle.store_model.specs.Transaction.{Transaction, Change, new_transaction, is_touched, touched_count, changed}
use Rattle.store_model.specs.Answer as answer
use Rattle.store_model.specs.Answer.{AnswerLine}

-- what a session has under way: no transaction, an open one, or one whose request is queued
pub data Stage : Type 0 where
  Free : Stage
  Open : Transaction → Stage
  Waiting : Transaction → Stage

-- A session: how many transactions it has begun, and what it has under way.
pub record Session : Type 0 where
  pub begun : ℕ
  pub stage : Stage

-- a session that has begun nothing
abbrev pub new_session : Session
new_session = record { begun = 0; stage = Free }

-- what a session's line asks of its transaction
pub data Action : Type 0 where
  Begin : Action
  Get : List ℕ → Action
  Stat : List ℕ → Action
  Put : List ℕ → List ℕ → Action
  Append : List ℕ → List ℕ → Action
  Delete : List ℕ → Action
  Commit : Action
  Abort : Action

-- an answer, and what the session has under way after it
pub record Turned : Type 0 where
  pub line : AnswerLine
  pub stage : Stage

-- how many keys a transaction may touch
abbrev pub most_keys : ℕ
most_keys = 16

-- the key is untouched, and would be one too many
abbrev pub is_one_too_many : Transaction → List ℕ → Bool
is_one_too_many transaction key = not (is_touched transaction key) && nat_le most_keys (touched_count transaction)

-- whether two numbers, either of them perhaps missing, are the same
abbrev pub same_number : Option ℕ → Option ℕ → Bool
same_number None None = true
same_number (Some m) (Some n) = m == n
same_number None (Some n) = false
same_number (Some m) None = false

-- whether the number read, where there is one, isn't the number now
abbrev pub has_moved : Option (Option ℕ) → Option ℕ → Bool
has_moved None now = false
has_moved (Some seen) now = not (same_number seen now)

-- whether a change makes all of what its key is then: a put or a delete, and not more bytes behind the store's
abbrev pub is_whole : Option Change → Bool
is_whole None = false
is_whole (Some (tr.Put content)) = true
is_whole (Some (tr.More bytes)) = false
is_whole (Some tr.Gone) = true

-- Where the key's number now is this one: the key was read with another, and is neither put nor deleted.
abbrev pub is_stale : Option ℕ → Transaction → List ℕ → Bool
is_stale now transaction key = not (is_whole (get transaction.changes key)) && has_moved (get transaction.reads key) now

-- the content under a change, where there is one, of a key with this one in the store
abbrev pub changed_content : Option Change → Option (List ℕ) → Option (List ℕ)
changed_content None stored = stored
changed_content (Some change) stored = changed change stored

-- the transaction's value of a key
abbrev pub value_of : Store → Transaction → List ℕ → Option (List ℕ)
value_of store transaction key = changed_content (get transaction.changes key) (content_at store key)

-- The transaction that was told of the last number, with this number of an untouched key recorded as read; a recorded read is
-- never changed.
abbrev pub with_read : ℕ → Option ℕ → Transaction → List ℕ → Transaction
with_read last now transaction key = record {
  seen = max transaction.seen last;
  reads = if is_touched transaction key then transaction.reads else insert transaction.reads key now;
  changes = transaction.changes;
}

-- the transaction with a change of a key in place of the one that it had
abbrev pub with_changed : Transaction → List ℕ → Change → Transaction
with_changed transaction key change = record { seen = transaction.seen; reads = transaction.reads; changes = insert transaction.changes key change }

-- the answer to a key that would be one too many
abbrev pub too_many : Transaction → Turned
too_many transaction = record { line = answer.TooMany (most_keys + 1); stage = Open transaction }

-- A turn that reads a key. It is refused where the key would be one too many, or where its number in the store has moved; else
-- it is recorded, and goes on with the value of the key and the transaction after the read.
abbrev pub reading_turn : Store → Transaction → List ℕ → (Option (List ℕ) → Transaction → Turned) → Turned
reading_turn store transaction key next =
    if is_one_too_many transaction key then too_many transaction
    else if is_stale (number_at store key) transaction key then record { line = answer.Stale (number_at store key); stage = Open transaction }
    else next (value_of store transaction key) (with_read store.last (number_at store key) transaction key)

-- a content as an answer
abbrev pub shown : Option (List ℕ) → AnswerLine
shown (Some content) = answer.Value content
shown None = answer.Absent

-- a content's size and digest as an answer
abbrev pub measured : Option (List ℕ) → AnswerLine
measured (Some content) = answer.Stat (length content) (sha256 content)
measured None = answer.Absent

-- a look at a key, which shows this of its value
abbrev pub look_turn : (Option (List ℕ) → AnswerLine) → Store → Transaction → List ℕ → Turned
look_turn show store transaction key = reading_turn store transaction key (λ value after. record { line = show value; stage = Open after })

-- a put of a key
abbrev pub put_turn : Transaction → List ℕ → List ℕ → Turned
put_turn transaction key content =
    if is_one_too_many transaction key then too_many transaction
    else if nat_lt greatest_size (length content) then record { line = answer.TooLong (length content); stage = Open transaction }
    else record { line = answer.Put; stage = Open (with_changed transaction key (tr.Put content)) }

-- the delete of a key that has this value
abbrev pub delete_found : List ℕ → Option (List ℕ) → Transaction → Turned
delete_found key None after = record { line = answer.Absent; stage = Open after }
delete_found key (Some content) after = record { line = answer.Deleted; stage = Open (with_changed after key tr.Gone) }

-- a delete of a key
abbrev pub delete_turn : Store → Transaction → List ℕ → Turned
delete_turn store transaction key = reading_turn store transaction key (delete_found key)

-- a change of a key with these bytes behind it
abbrev pub with_more : List ℕ → Option Change → Change
with_more bytes (Some (tr.Put content)) = tr.Put (content ++ bytes)
with_more bytes (Some (tr.More before)) = tr.More (before ++ bytes)
with_more bytes (Some tr.Gone) = tr.Gone
with_more bytes None = tr.More bytes

-- an append to a key that has this value
abbrev pub append_found : List ℕ → List ℕ → Option (List ℕ) → Transaction → Turned
append_found key bytes None after = record { line = answer.Absent; stage = Open after }
append_found key bytes (Some content) after =
    if nat_lt greatest_size (length content + length bytes) then record { line = answer.TooLong (length content + length bytes); stage = Open after }
    else record { line = answer.Appended; stage = Open (with_changed after key (with_more bytes (get after.changes key))) }

-- an append to a key
abbrev pub append_turn : Store → Transaction → List ℕ → List ℕ → Turned
append_turn store transaction key bytes = reading_turn store transaction key (append_found key bytes)

-- an action in an open transaction
abbrev pub open_turn : Store → Transaction → Action → Turned
open_turn store transaction Begin = record { line = answer.Already; stage = Open transaction }
open_turn store transaction (Get key) = look_turn shown store transaction key
open_turn store transaction (Stat key) = look_turn measured store transaction key
open_turn store transaction (Put key content) = put_turn transaction key content
open_turn store transaction (Append key bytes) = append_turn store transaction key bytes
open_turn store transaction (Delete key) = delete_turn store transaction key
open_turn store transaction Commit = record { line = answer.Queued; stage = Waiting transaction }
open_turn store transaction Abort = record { line = answer.Aborted; stage = Free }

-- an action without a transaction
abbrev pub free_turn : Store → Action → Turned
free_turn store Begin = record { line = answer.Begun; stage = Open (new_transaction store.last) }
free_turn store _ = record { line = answer.NoTransaction; stage = Free }

-- the answer to an action, and what the session has under way after it
abbrev pub stage_turn : Store → Stage → Action → Turned
stage_turn store Free action = free_turn store action
stage_turn store (Open transaction) action = open_turn store transaction action
stage_turn store (Waiting transaction) action = record { line = answer.Busy; stage = Waiting transaction }

-- how many transactions were begun after an action: a begin where there is none is one more
abbrev pub begun_after : Action → Stage → ℕ → ℕ
begun_after Begin Free begun = begun + 1
begun_after Begin (Open transaction) begun = begun
begun_after Begin (Waiting transaction) begun = begun
begun_after _ stage begun = begun

-- the session after an action that was answered so
abbrev pub session_after : Session → Action → Turned → Session
session_after session action turned = record { begun = begun_after action session.stage session.begun; stage = turned.stage }

-- the answer to an action of a session
abbrev pub turn : Store → Session → Action → Turned
turn store session action = stage_turn store session.stage action
