-- The store: a finite map from keys to objects, with a last number.
use Rattle.std.specs.Prelude.{ℕ, List, Option, option_map}
use Rattle.std.specs.FinMap.{FinMap, empty, get}
use Rattle.store_model.specs.Key.{key_order}

-- Where a content lies: the heads of its extents, and its tail page where it has one. Pages are counted from the data
-- area's first.
pub record Placement : Type 0 where
  pub heads : List ℕ
  pub tail : Option ℕ

-- what a key names: a content, the number of the entry that wrote it, and where it lies
pub record Object : Type 0 where
  pub content : List ℕ
  pub number : ℕ
  pub place : Placement

-- the objects by their keys, and the number of the last entry
pub record Store : Type 0 where
  pub objects : FinMap key_order Object
  pub last : ℕ

-- the store that a format leaves
abbrev pub empty_store : Store
empty_store = record { objects = empty; last = 0 }

-- the number of a key, or none
abbrev pub number_at : Store → List ℕ → Option ℕ
number_at store key = option_map (λ object. object.number) (get store.objects key)

-- the content of an object, where there is one
abbrev pub content_of_object : Option Object → Option (List ℕ)
content_of_object object = option_map (λ object. object.content) object

-- the content of a key, or none
abbrev pub content_at : Store → List ℕ → Option (List ℕ)
content_at store key = content_of_object (get store.objects key)
