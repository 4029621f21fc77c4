-- What is read of a half's tuples, and why they are refused.
use Rattle.std.specs.Prelude.{ℕ, ◌+◌, ◌<◌, ◌≡◌, List, length, drop, map}
use Rattle.store_model.specs.HalfRefusals.{AreTuples, rules_behind, tuples_bytes}
use Rattle.store_model.specs.State.{State}
use Rattle.store_model.specs.TupleFields.{IsBadTuple}
use Rattle.check_point.specs.declared.tuples.Keyed.{Keyed}
use Rattle.check_point.specs.declared.tuples.TuplesFault.{TuplesFault}
use Rattle.check_point.specs.declared.tuples.TuplesFault.TheVariants as fault

-- tuples that were read, as definitions see them
abbrev pub model_tuple : Keyed → List ℕ × State
model_tuple tuple = (tuple.key, tuple.state.value)

abbrev pub model_tuples : List Keyed → List (List ℕ × State)
model_tuples tuples = map model_tuple tuples

-- a tuple is refused behind those that are good, at this offset
pub record IsRefusedAt (pages last count : ℕ) (stored : List ℕ) (at : ℕ) : Type 0 where
  pub tuples : List (List ℕ × State)
  pub are : AreTuples pages last stored tuples
  pub few : length tuples < count
  pub place : ℕ
  pub bad : IsBadTuple (rules_behind tuples last) pages (drop (length (tuples_bytes tuples)) stored) place
  pub at_is : at ≡ length (tuples_bytes tuples) + place

-- so many tuples end before the bytes do
pub record DoEndEarly (pages last count : ℕ) (stored : List ℕ) : Type 0 where
  pub tuples : List (List ℕ × State)
  pub are : AreTuples pages last stored tuples
  pub all : length tuples ≡ count
  pub early : length (tuples_bytes tuples) < length stored

abbrev pub IsRefusal : ℕ → ℕ → ℕ → List ℕ → TuplesFault → Type 0
IsRefusal pages last count stored fault.EndEarly = DoEndEarly pages last count stored
IsRefusal pages last count stored (fault.BadTuple at) = IsRefusedAt pages last count stored at
IsRefusal pages last count stored fault.OutOfMemory = Unit {0}
