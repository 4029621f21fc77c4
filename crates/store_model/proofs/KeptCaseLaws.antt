-- Whether states verify is decided, and so is which of the last entries are kept.
use Rattle.std.proofs.Common.{◌≡◌, ℕ, zero, suc, ◌+◌, ◌<◌, ◌⊎◌, inl, inr, List, [], ◌∷◌, length, refl, arith}
use Rattle.std.specs.Prelude.{bytes_eq}
use Rattle.std.specs.List.{All}
use Rattle.std.proofs.lemmas.Bool.{both_ways, cases_Bool, cases_lt}
use Rattle.std.proofs.lemmas.List.Elements.{All-cons, All-head, All-nil, All-tail}
use Rattle.std.proofs.lemmas.Slice.Eq.{bytes_eq-Decides}
use Rattle.store_model.specs.Disk.{Image}
use Rattle.store_model.specs.Frame.{Del, Entry, Set, Write}
use Rattle.store_model.specs.Layout.{Layout, data_page}
use Rattle.store_model.specs.LogReading.{StoredBody}
use Rattle.store_model.specs.Reading.{AreKept, DoesWriteVerify, KeptIn}
use Rattle.store_model.specs.State.{State}
use Rattle.store_model.specs.Verify.{Verifies, computed, kept}

-- a fact holds or it doesn't
abbrev IsDecided : Type 0 → Type 0
IsDecided P = P ⊎ (P → ⊥)

-- two lists of numbers are the same or they aren't
same-decided : (xs ys : List ℕ) → IsDecided (xs ≡ ys)
same-decided xs ys =
    elim (cases_Bool (bytes_eq xs ys)) [
      | inl same ↦ inl ((bytes_eq-Decides xs ys).0 same)
      | inr other ↦ inr (λ same. both_ways (bytes_eq xs ys) other ((bytes_eq-Decides xs ys).1 same))
    ]

-- the first links hold or they don't
links-decided : (value : ℕ → List ℕ) (state : State) (n : ℕ) → IsDecided ((i : ℕ) → i < n → value i ≡ kept state i)
links-decided value state zero = inl (λ i below. absurd (omega (arith, below)))
links-decided value state (suc n) =
    elim (links-decided value state n) [
      | inr fails ↦ inr (λ all. fails (λ i below. all i (omega (arith, below))))
      | inl before ↦ elim (same-decided (value n) (kept state n)) [
        | inr differ ↦ inr (λ all. differ (all n (omega arith)))
        | inl last ↦ inl (λ i below. elim (cases_lt i n) [
          | inl earlier ↦ before i earlier
          | inr here ↦ let same : i ≡ n = omega (arith, below, here) in rw same last
        ])
      ]
    ]

-- A state verifies or it doesn't.
pub Verifies-decided : (image : Image) (first : ℕ) (state : State) → Verifies image first state ⊎ (Verifies image first state → ⊥)
Verifies-decided image first state =
    elim (links-decided (computed image first state) state (length state.extents + 1)) [
      | inl all ↦ inl (λ i within. all i (omega (arith, within)))
      | inr fails ↦ inr (λ verifies. fails (λ i below. verifies i (omega (arith, below))))
    ]

write-decided : (image : Image) (layout : Layout) (one : Write) → IsDecided (DoesWriteVerify image layout one)
write-decided image layout (Set key state) = Verifies-decided image (data_page layout) state
write-decided image layout (Del key) = inl tt

writes-decided : (image : Image) (layout : Layout) (writes : List Write) → IsDecided (All (DoesWriteVerify image layout) writes)
writes-decided image layout [] = inl (All-nil (DoesWriteVerify image layout))
writes-decided image layout (one ∷ writes) =
    elim (write-decided image layout one) [
      | inr fails ↦ inr (λ all. fails (All-head (DoesWriteVerify image layout) one writes all))
      | inl first ↦ elim (writes-decided image layout writes) [
        | inr fails ↦ inr (λ all. fails (All-tail (DoesWriteVerify image layout) one writes all))
        | inl rest ↦ inl (All-cons (DoesWriteVerify image layout) one writes first rest)
      ]
    ]

-- Some of the last entries are kept.
pub AreKept-some : (image : Image) (layout : Layout) (entries : List Entry) → (rest : List Entry) × AreKept image layout entries rest
AreKept-some image layout [] = ([], refl)
AreKept-some image layout (entry ∷ entries) =
    let behind = AreKept-some image layout entries in
    elim (writes-decided image layout entry.writes) [
      | inl verifies ↦ (entry ∷ behind.0, inl (verifies, (behind.0, refl, behind.1)))
      | inr fails ↦ (behind.0, inr (fails, behind.1))
    ]

-- some of the entries of a body are kept, whatever stands behind it
pub KeptIn-some : (image : Image) (layout : Layout) (bodies : List StoredBody) (entries : List Entry) → (rest : List Entry) × KeptIn image layout bodies entries rest
KeptIn-some image layout [] entries = AreKept-some image layout entries
KeptIn-some image layout (body ∷ bodies) entries = (entries, refl)
