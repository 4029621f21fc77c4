-- The states of a half, as it tells them.
use Rattle.std.proofs.Common.{◌≡◌, ℕ, ◌*◌, ◌≤◌, List, length, sym, ap, ◌∙◌, arith}
use Rattle.std.specs.List.{All}
use Rattle.std.specs.FinMap.{entries, entries-from_sorted, from_sorted, get-from_sorted}
use Rattle.store_model.specs.Disk.{page_bytes}
use Rattle.store_model.specs.Half.{IsHalf}
use Rattle.store_model.specs.HalfRefusals.{DoTuplesRise, tuples_bytes}
use Rattle.store_model.specs.Key.{key_order}
use Rattle.store_model.specs.Layout.{IsLayout, Layout, data_pages}
use Rattle.store_model.specs.State.{State, greatest_number}
use Rattle.store_model.specs.Tuple.{IsTuple}
use Rattle.store_model.proofs.HalfReadingLaws.{found-all}
use Rattle.store_model.proofs.TupleListLaws.{rise-sorted}

-- tuples whose keys rise are the entries of their map
pub entries-read : (tuples : List (List ℕ × State)) → DoTuplesRise tuples → entries (from_sorted {R = key_order} tuples) ≡ tuples
entries-read tuples rise = entries-from_sorted key_order tuples (rise-sorted tuples rise)

-- tuples that fit a layout are those of a half
pub half-read : (layout : Layout) (last : ℕ) (tuples : List (List ℕ × State)) → IsLayout layout → last ≤ greatest_number
    → All (λ (one : List ℕ × State). IsTuple (data_pages layout) one.0 one.1) tuples → All (λ (one : List ℕ × State). one.1.born ≤ last) tuples → DoTuplesRise tuples
    → length (tuples_bytes tuples) ≤ page_bytes * layout.room → IsHalf layout last (from_sorted {R = key_order} tuples)
half-read layout last tuples sound most each born rise room = record {
  sound = sound;
  most = most;
  tuples = λ key state is. found-all (λ (one : List ℕ × State). IsTuple (data_pages layout) one.0 one.1) tuples key state each
      (sym (get-from_sorted key_order tuples key (rise-sorted tuples rise)) ∙ is);
  born = λ key state is. found-all (λ (one : List ℕ × State). one.1.born ≤ last) tuples key state born
      (sym (get-from_sorted key_order tuples key (rise-sorted tuples rise)) ∙ is);
  room = omega (arith, ap (λ (es : List (List ℕ × State)). length (tuples_bytes es)) (entries-read tuples rise), room);
}
