-- How many extents a content has, as a number and as a fact.
use Rattle.std.proofs.Common.{◌≡◌, ℕ, ◌/◌, ◌<◌, ◌≤◌, Bool, true, false, ◌∙◌, ap, arith, length}
use Rattle.std.specs.Prelude.{nat_le}
use Rattle.std.specs.List.{range_with_len}
use Rattle.std.proofs.lemmas.Bool.Decides.{nat_tests}
use Rattle.std.proofs.lemmas.List.FromFn.{get_or-range_with_len, length-range_with_len}
use Rattle.std.proofs.lemmas.List.Sums.{position_or_len_is}
use Rattle.store_model.specs.Disk.{page_bytes}
use Rattle.store_model.specs.Places.{extent_count}
use Rattle.store_model.specs.Shape.{greatest_size, held_by}
use Rattle.store_model.specs.State.{HasExtents}
use Rattle.store_model.proofs.ShapeLaws.{extents-HasShape, held_by-all}

within : {m n : ℕ} → m ≤ n → nat_le m n ≡ true
within {m = m} {n = n} le = grind (arith, nat_tests)

past : {m n : ℕ} → n < m → nat_le m n ≡ false
past {m = m} {n = n} less = grind (arith, nat_tests)

-- A content has as many extents as its shape says.
pub extent_count-HasExtents : (size n : ℕ) → size ≤ greatest_size → HasExtents size n → extent_count size ≡ n
extent_count-HasExtents size n most has =
    let test : ℕ → Bool = λ k. nat_le (size / page_bytes) (held_by k) in
    let all : n ≤ 127 = extents-HasShape size 127 _ has (omega (arith, held_by-all, most)) in
    let count : length (range_with_len 0 127) ≡ 127 = length-range_with_len 0 127 in
    position_or_len_is test (range_with_len 0 127) n 0 (omega (arith, all, count))
    (λ k less. ap test (get_or-range_with_len 0 127 k 0 (omega (arith, less, all)) ∙ (omega arith)) ∙ past (has.least k less))
    (λ less. ap test (get_or-range_with_len 0 127 n 0 (omega (arith, less, count)) ∙ (omega arith)) ∙ within has.held)
