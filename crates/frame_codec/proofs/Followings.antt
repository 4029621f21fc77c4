-- What may follow entries and writes is judged by the last of them.
use Rattle.std.proofs.Common.{◌≡◌, ℕ, zero, suc, ◌+◌, ◌-◌, ◌≤◌, ◌==◌, List, [], ◌∷◌, length, map, Some, refl, ap, ◌∙◌, arith}
use Rattle.std.specs.Prelude.{slice_get}
use Rattle.std.proofs.lemmas.Bool.Decides.{nat_tests}
use Rattle.std.specs.Ordering.{is_lt}
use Rattle.store_model.specs.BodyRefusals.{may_number, may_rise}
use Rattle.store_model.specs.Key.{key_order}
use Rattle.frame_codec.specs.declared.entry.Entry.{Entry}
use Rattle.frame_codec.specs.declared.entry.Write.{Write}
use Rattle.frame_codec.specs.declared.entry.Write.TheVariants as write
use Rattle.store_model.specs.Frame as model
use Rattle.frame_codec.specs.Values.{model_entries, model_write}
use Rattle.frame_codec.specs.Writes.{key_of_write}

-- the number of the entry behind the last one
pub may_number-last : (entries : List Entry) (last : Entry) (i number : ℕ) → i + 1 ≡ length entries → slice_get entries i ≡ Some last
    → may_number (model_entries entries) number ≡ (number == last.number + 1)
may_number-last [] last i number end is = absurd (omega (arith, end))
may_number-last (one ∷ []) last zero number end is = let same : one ≡ last = cc in ap (λ (e : Entry). number == e.number + 1) same
may_number-last (one ∷ []) last (suc i) number end is = absurd (omega (arith, end))
may_number-last (one ∷ other ∷ entries) last zero number end is = absurd (omega (arith, end))
may_number-last (one ∷ other ∷ entries) last (suc i) number end is = may_number-last (other ∷ entries) last i number (omega (arith, end)) is

-- the number one less
pub number-before : (last number : ℕ) → 1 ≤ number → (last == number - 1) ≡ (number == last + 1)
number-before last number least = grind (arith, nat_tests)

-- the key of a write, in the words of the definitions
pub model_key : (one : Write) → model.key_of_write (model_write one) ≡ key_of_write one
model_key (write.Set key state) = refl
model_key (write.Del key) = refl

-- a key behind that of the last write
pub may_rise-last : (writes : List Write) (last : Write) (i : ℕ) (key : List ℕ) → i + 1 ≡ length writes → slice_get writes i ≡ Some last
    → may_rise (map model_write writes) key ≡ is_lt (key_order (key_of_write last) key)
may_rise-last [] last i key end is = absurd (omega (arith, end))
may_rise-last (one ∷ []) last zero key end is =
    let same : one ≡ last = cc in
    ap (λ (k : List ℕ). is_lt (key_order k key)) (model_key one) ∙ ap (λ (w : Write). is_lt (key_order (key_of_write w) key)) same
may_rise-last (one ∷ []) last (suc i) key end is = absurd (omega (arith, end))
may_rise-last (one ∷ other ∷ writes) last zero key end is = absurd (omega (arith, end))
may_rise-last (one ∷ other ∷ writes) last (suc i) key end is = may_rise-last (other ∷ writes) last i key (omega (arith, end)) is
