-- The search for a key among entries in the order of their keys.
use Rattle.std.proofs.Common.{◌≡◌, ℕ, zero, suc, ◌+◌, ◌-◌, ◌/◌, ◌<◌, ◌≤◌, List, [], ◌∷◌, length, get_or, Some, refl, sym, ◌∙◌, ap, arith, inl, inr}
use Rattle.std.specs.Prelude.{slice_get}
use Rattle.std.proofs.lemmas.Bool.{cases_lt}
use Rattle.std.proofs.lemmas.Option.{slice_get_within}
use Rattle.std.specs.declared.cmp.Ordering.TheVariants.{Less, Equal, Greater}
use Rattle.store_model.specs.Key.{key_order}
use Rattle.store_model.specs.State.{State}
use Rattle.std.proofs.lemmas.List.{length-map}
use Rattle.relation.specs.Entries.{AllBefore, AllBehind, IsAt, are_sorted, entries_of, entry_of}
use Rattle.relation.specs.declared.entries.Entry.{Entry}
use Rattle.store_model.proofs.SortedLaws.{greater-less, less-greater, keys_total, keys_exact, sorted-at}

-- the keys before `low` are lesser, and those from `high` on greater
pub record Searching (entries : List (List ℕ × State)) (key : List ℕ) (low high : ℕ) : Type 0 where
  pub within : low ≤ high
  pub most : high ≤ length entries
  pub before : AllBefore entries low key
  pub behind : AllBehind entries high key

pub Searching-start : (entries : List (List ℕ × State)) (key : List ℕ) → Searching entries key 0 (length entries)
Searching-start entries key = record {
  within = omega arith;
  most = omega arith;
  before = λ k one less is. absurd (omega (arith, less));
  behind = λ k one le is. absurd (omega (arith, le, slice_get_within entries k one is));
}

-- above a lesser key
pub Searching-above : (entries : List (List ℕ × State)) (key : List ℕ) (low high middle : ℕ) (one : List ℕ × State) → are_sorted entries → middle < high → slice_get entries middle ≡ Some one
    → key_order one.0 key ≡ Less → Searching entries key low high → Searching entries key (middle + 1) high
Searching-above entries key low high middle one sorted within is less searching = record {
  within = omega (arith, within);
  most = searching.most;
  before = λ k other below there. elim (cases_lt k middle) [
    | inl earlier ↦ keys_total.trans other.0 one.0 key (sorted-at entries k middle other one sorted earlier there is) less
    | inr le ↦ let same : k ≡ middle = omega (arith, below, le) in
        let here : Some one ≡ Some other = sym is ∙ ap (slice_get entries) (sym same) ∙ there in
        let equal : one ≡ other = cc in ap (λ (e : List ℕ × State). key_order e.0 key) (sym equal) ∙ less
  ];
  behind = searching.behind;
}

-- below a greater one
pub Searching-below : (entries : List (List ℕ × State)) (key : List ℕ) (low high middle : ℕ) (one : List ℕ × State) → are_sorted entries → low ≤ middle → middle < high → slice_get entries middle ≡ Some one
    → key_order one.0 key ≡ Greater → Searching entries key low high → Searching entries key low middle
Searching-below entries key low high middle one sorted from within is greater searching = record {
  within = from;
  most = omega (arith, within, searching.most);
  before = searching.before;
  behind = λ k other le there. elim (cases_lt middle k) [
    | inl later ↦ greater-less key other.0 (keys_total.trans key one.0 other.0 (less-greater one.0 key greater) (sorted-at entries middle k one other sorted later is there))
    | inr most ↦ let same : k ≡ middle = omega (arith, le, most) in
        let here : Some one ≡ Some other = sym is ∙ ap (slice_get entries) (sym same) ∙ there in
        let equal : one ≡ other = cc in ap (λ (e : List ℕ × State). key_order e.0 key) (sym equal) ∙ greater
  ];
}

-- an entry at its index, as its key and state
pub slice_get-entries : (entries : List Entry) (i : ℕ) (d : Entry) → i < length entries → slice_get (entries_of entries) i ≡ Some (entry_of (get_or entries i d))
slice_get-entries [] i d less = absurd (omega arith)
slice_get-entries (e ∷ entries) zero d less = refl
slice_get-entries (e ∷ entries) (suc i) d less = slice_get-entries entries i d (omega arith)

pub length-entries : (entries : List Entry) → length (entries_of entries) ≡ length entries
length-entries entries = length-map entries entry_of

-- half way between two indices
pub middle-below : (low high : ℕ) → low < high → low + (high - low) / 2 < high
middle-below low high less = omega (arith, less)

-- a key that is there
pub IsAt-tied : (entries : List (List ℕ × State)) (key : List ℕ) (i : ℕ) (one : List ℕ × State) → slice_get entries i ≡ Some one → key_order one.0 key ≡ Equal → IsAt entries key i
IsAt-tied entries key i one is tied = (one.1, is ∙ ap (λ (k : List ℕ). Some (k, one.1)) (keys_exact one.0 key tied))
