-- Laws of what may follow: the number of the next entry, the key of the next write, and both put behind those that are there.
use Rattle.std.proofs.Common.{◌≡◌, ℕ, zero, suc, ◌+◌, ◌==◌, Bool, true, false, not, inl, inr, List, [], ◌∷◌, ◌++◌, length, Some, refl, sym, ap, ◌∙◌, arith}
use Rattle.std.specs.Prelude.{slice_get, IsTrue}
use Rattle.std.specs.List.{All}
use Rattle.std.specs.Ordering.{is_lt}
use Rattle.std.specs.declared.cmp.Ordering.{Ordering}
use Rattle.std.specs.declared.cmp.Ordering.TheVariants.{Less, Equal, Greater}
use Rattle.std.proofs.lemmas.Bool.{and_parts, eqb-true}
use Rattle.std.proofs.lemmas.List.Elements.{All-append, All-cons}
use Rattle.std.proofs.lemmas.Option.{slice_get_within}
use Rattle.store_model.specs.BodyRefusals.{AreFirstWrites, keys_in, may_number, may_rise, may_stand, stands_in}
use Rattle.store_model.specs.Frame.{DoKeysRise, DoNumbersGoOn, Entry, IsWrite, Write, key_of_write}
use Rattle.store_model.specs.Key.{key_order}
use Rattle.store_model.proofs.StateLaws.{slice_get-last}

-- the number of the entry behind the last one
pub may_number-last : (entries : List Entry) (last : Entry) (i number : ℕ) → i + 1 ≡ length entries → slice_get entries i ≡ Some last
    → may_number entries number ≡ (number == last.number + 1)
may_number-last [] last i number end is = absurd (omega (arith, end))
may_number-last (one ∷ []) last zero number end is = let same : one ≡ last = cc in ap (λ (e : Entry). number == e.number + 1) same
may_number-last (one ∷ []) last (suc i) number end is = absurd (omega (arith, end))
may_number-last (one ∷ other ∷ entries) last zero number end is = absurd (omega (arith, end))
may_number-last (one ∷ other ∷ entries) last (suc i) number end is = may_number-last (other ∷ entries) last i number (omega (arith, end)) is

-- a key behind that of the last write
pub may_rise-last : (writes : List Write) (last : Write) (i : ℕ) (key : List ℕ) → i + 1 ≡ length writes → slice_get writes i ≡ Some last
    → may_rise writes key ≡ is_lt (key_order (key_of_write last) key)
may_rise-last [] last i key end is = absurd (omega (arith, end))
may_rise-last (one ∷ []) last zero key end is = let same : one ≡ last = cc in ap (λ (w : Write). is_lt (key_order (key_of_write w) key)) same
may_rise-last (one ∷ []) last (suc i) key end is = absurd (omega (arith, end))
may_rise-last (one ∷ other ∷ writes) last zero key end is = absurd (omega (arith, end))
may_rise-last (one ∷ other ∷ writes) last (suc i) key end is = may_rise-last (other ∷ writes) last i key (omega (arith, end)) is

-- an order that is less
pub is_lt-Less : (o : Ordering) → is_lt o ≡ true → o ≡ Less
is_lt-Less Less is = refl
is_lt-Less Equal is = absurd (cc is)
is_lt-Less Greater is = absurd (cc is)

-- one more write, whose key may rise
pub DoKeysRise-next : (writes : List Write) (one : Write) → DoKeysRise writes → IsTrue (may_rise writes (key_of_write one)) → DoKeysRise (writes ++ one ∷ [])
DoKeysRise-next writes one rise may i a b is next =
    elim (slice_get-last writes one b (i + 1) next) [
      | inl earlier ↦ (
          elim (slice_get-last writes one a i is) [
            | inl before ↦ rise i a b before earlier
            | inr last ↦ absurd (omega (arith, last.0, slice_get_within writes (i + 1) b earlier))
          ]
          )
      | inr last ↦ (
          elim (slice_get-last writes one a i is) [
            | inl before ↦ (
                let less : is_lt (key_order (key_of_write a) (key_of_write one)) ≡ true = sym (may_rise-last writes a i (key_of_write one) last.0 before) ∙ may in
                ap (λ (w : Write). key_order (key_of_write a) (key_of_write w)) (sym last.1) ∙ is_lt-Less (key_order (key_of_write a) (key_of_write one)) less
                )
            | inr here ↦ absurd (omega (arith, last.0, here.0))
          ]
          )
    ]

-- one more entry, whose number may follow
pub DoNumbersGoOn-next : (entries : List Entry) (one : Entry) → DoNumbersGoOn entries → IsTrue (may_number entries one.number) → DoNumbersGoOn (entries ++ one ∷ [])
DoNumbersGoOn-next entries one go may i a b is next =
    elim (slice_get-last entries one b (i + 1) next) [
      | inl earlier ↦ (
          elim (slice_get-last entries one a i is) [
            | inl before ↦ go i a b before earlier
            | inr last ↦ absurd (omega (arith, last.0, slice_get_within entries (i + 1) b earlier))
          ]
          )
      | inr last ↦ (
          elim (slice_get-last entries one a i is) [
            | inl before ↦ (
                let equal : (one.number == a.number + 1) ≡ true = sym (may_number-last entries a i one.number last.0 before) ∙ may in
                ap (λ (e : Entry). e.number) (sym last.1) ∙ eqb-true one.number (a.number + 1) equal
                )
            | inr here ↦ absurd (omega (arith, last.0, here.0))
          ]
          )
    ]

not-true : (b : Bool) → not b ≡ true → b ≡ false
not-true true is = absurd (cc is)
not-true false is = refl

-- one more write, whose key may stand
pub AreFirstWrites-next : (pages : ℕ) (entries : List Entry) (number : ℕ) (writes : List Write) (one : Write) → AreFirstWrites pages entries number writes
    → IsWrite pages number one → IsTrue (may_stand entries writes (key_of_write one)) → AreFirstWrites pages entries number (writes ++ one ∷ [])
AreFirstWrites-next pages entries number writes one are is may =
    let both = and_parts _ _ may in
    let apart : stands_in (keys_in entries) (key_of_write one) ≡ false = not-true (stands_in (keys_in entries) (key_of_write one)) both.1 in
    record {
      each = All-append (IsWrite pages number) writes (one ∷ []) are.each (All-cons (IsWrite pages number) one [] is (none (IsWrite pages number)));
      rise = DoKeysRise-next writes one are.rise both.0;
      apart = All-append (λ (w : Write). stands_in (keys_in entries) (key_of_write w) ≡ false) writes (one ∷ []) are.apart
          (All-cons (λ (w : Write). stands_in (keys_in entries) (key_of_write w) ≡ false) one [] apart (none (λ (w : Write). stands_in (keys_in entries) (key_of_write w) ≡ false)));
    } where
      none : (P : Write → Type 0) → All P []
      none P i d within = absurd (omega (arith, within))
