-- Transactions: what one has read and changed, and what its commit makes of a store.
use Rattle.std.specs.Prelude.{ℕ, ◌+◌, Bool, not, ◌||◌, List, ◌++◌, Option, Some, None, count_by, fold, zip}
use Rattle.std.specs.FinMap.{FinMap, empty, get, insert, remove, contains_key, keys, len}
use Rattle.store_model.specs.Key.{key_order}
use Rattle.store_model.specs.Store.{Store, Object, Placement, content_of_object}

-- A change of one key: its content becomes this one, it has these bytes more, or the key goes.
pub data Change : Type 0 where
  Put : List ℕ → Change
  More : List ℕ → Change
  Gone : Change

-- The greatest number of an entry that it was told of; the numbers that were read (none where nothing was there), and the
-- changes, each by key.
pub record Transaction : Type 0 where
  pub seen : ℕ
  pub reads : FinMap key_order (Option ℕ)
  pub changes : FinMap key_order Change

-- nothing read and nothing changed, over a store whose last number is this one
abbrev pub new_transaction : ℕ → Transaction
new_transaction last = record { seen = last; reads = empty; changes = empty }

-- whether it has read or changed this key
abbrev pub is_touched : Transaction → List ℕ → Bool
is_touched transaction key = contains_key transaction.reads key || contains_key transaction.changes key

-- how many keys it has read or changed
abbrev pub touched_count : Transaction → ℕ
touched_count transaction = len transaction.reads + count_by (λ key. not (contains_key transaction.reads key)) (keys transaction.changes)

-- the content that a change makes of what is there
abbrev pub changed : Change → Option (List ℕ) → Option (List ℕ)
changed (Put content) old = Some content
changed (More bytes) (Some content) = Some (content ++ bytes)
changed (More bytes) None = None
changed Gone old = None

-- the object of a number that a content has at a place, where both are there
abbrev pub object_at : ℕ → Option (List ℕ) → Option Placement → Option Object
object_at number (Some content) (Some place) = Some (record { content = content; number = number; place = place })
object_at number (Some content) None = None
object_at number None place = None

-- the objects with this one under a key, or with none there
abbrev pub with_object : FinMap key_order Object → List ℕ → Option Object → FinMap key_order Object
with_object objects key (Some object) = insert objects key object
with_object objects key None = remove objects key

-- the objects after one change, with the number of its entry, and the place that the key's object then has
abbrev pub with_change : ℕ → FinMap key_order Object → (List ℕ × Change) × Option Placement → FinMap key_order Object
with_change number objects change =
    with_object objects change.0.0 (object_at number (changed change.0.1 (content_of_object (get objects change.0.0))) change.1)

-- The store after changes of different keys, all at once, under the entry's number. Each has the place that its key's object
-- then has, and none where the key goes.
abbrev pub apply : Store → ℕ → List (List ℕ × Change) → List (Option Placement) → Store
apply store number changes places = record { objects = fold (with_change number) store.objects (zip changes places); last = number }
