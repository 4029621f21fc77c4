-- The numbers of a frame's entries.
use Rattle.std.proofs.Common.{◌≡◌, ℕ, zero, suc, ◌+◌, ◌≤◌, List, [], ◌∷◌, length, refl, sym, ap, ◌∙◌, arith, Some}
use Rattle.std.specs.List.{All}
use Rattle.std.specs.Prelude.{slice_get}
use Rattle.frame_codec.specs.Values.{model_entries}
use Rattle.frame_codec.specs.declared.entry.Entry.{Entry}
use Rattle.store_model.specs.Frame.{DoNumbersGoOn}
use Rattle.store_model.specs.Frame as model
use Rattle.store_model.specs.Reading.{GoesOn, last_number}

-- where the first entry's number is the next one, they go on
pub GoesOn-first : (last : ℕ) (entries : List Entry) (first : Entry) → slice_get entries 0 ≡ Some first → first.number ≡ last + 1 → GoesOn last (model_entries entries)
GoesOn-first last [] first there next = absurd (cc there)
GoesOn-first last (e ∷ entries) first there next = let same : e ≡ first = cc in ap (λ (one : Entry). one.number) same ∙ next

pub GoesOn-next : (last : ℕ) (entries : List Entry) (first : Entry) → slice_get entries 0 ≡ Some first → GoesOn last (model_entries entries) → first.number ≡ last + 1
GoesOn-next last [] first there goes = absurd (cc there)
GoesOn-next last (e ∷ entries) first there goes = let same : e ≡ first = cc in ap (λ (one : Entry). one.number) (sym same) ∙ goes

-- the number of the last one
pub last_number-at : (last : ℕ) (entries : List Entry) (end : Entry) (i : ℕ) → i + 1 ≡ length entries → slice_get entries i ≡ Some end
    → last_number last (model_entries entries) ≡ end.number
last_number-at last [] end i long there = absurd (omega (arith, long))
last_number-at last (e ∷ []) end zero long there = let same : e ≡ end = cc in ap (λ (one : Entry). one.number) same
last_number-at last (e ∷ []) end (suc i) long there = absurd (omega (arith, long))
last_number-at last (e ∷ f ∷ entries) end zero long there = absurd (omega (arith, long))
last_number-at last (e ∷ f ∷ entries) end (suc i) long there = last_number-at e.number (f ∷ entries) end i (omega (arith, long)) there

-- so do those behind the first
numbers-behind : (first : model.Entry) (entries : List model.Entry) → DoNumbersGoOn (first ∷ entries) → DoNumbersGoOn entries
numbers-behind first entries goes i one other at behind =
    let same : suc i + 1 ≡ suc (i + 1) = omega arith in
    goes (suc i) one other at (ap (slice_get (first ∷ entries)) same ∙ behind)

-- numbers that go on end with a number that none of them exceeds
numbers-rise : (first : model.Entry) (entries : List model.Entry) → DoNumbersGoOn (first ∷ entries) → first.number ≤ last_number first.number entries
numbers-rise first [] goes = omega arith
numbers-rise first (e ∷ entries) goes =
    omega (arith, goes 0 first e refl refl, numbers-rise e entries (numbers-behind first (e ∷ entries) goes))

pub all-below : (last : ℕ) (entries : List model.Entry) → DoNumbersGoOn entries → All (λ one. one.number ≤ last_number last entries) entries
all-below last [] goes k d less = absurd (omega (arith, less))
all-below last (e ∷ []) goes zero d less = omega arith
all-below last (e ∷ []) goes (suc k) d less = absurd (omega (arith, less))
all-below last (e ∷ f ∷ entries) goes zero d less = numbers-rise e (f ∷ entries) goes
all-below last (e ∷ f ∷ entries) goes (suc k) d less =
    all-below e.number (f ∷ entries) (numbers-behind e (f ∷ entries) goes) k d (omega (arith, less))

-- and that is above the one before
pub last-above : (last : ℕ) (entries : List model.Entry) → GoesOn last entries → DoNumbersGoOn entries → last ≤ last_number last entries
last-above last [] goes on = absurd goes
last-above last (e ∷ entries) goes on = omega (arith, goes, numbers-rise e entries on)
