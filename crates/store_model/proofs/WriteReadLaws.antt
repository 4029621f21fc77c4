-- Bytes have so many writes at their front, or one that is refused behind fewer; and an entry, or one that is refused.
use Rattle.std.proofs.Common.{◌≡◌, ℕ, zero, suc, ◌+◌, ◌^◌, ◌<◌, ◌≤◌, ◌⊎◌, inl, inr, true, false, List, [], ◌∷◌, ◌++◌, length, take, drop, refl, sym, ap, subst, ◌∙◌, append_assoc, arith, length-append}
use Rattle.std.specs.Prelude.{IsTrue, nat_le, slice_index}
use Rattle.std.specs.Int.{w64, from_be_bytes}
use Rattle.std.specs.List.{All, flat_map}
use Rattle.std.proofs.lemmas.Bool.{and_parts, cases_lt, leb-true}
use Rattle.std.proofs.lemmas.Grind.{flat_map-append}
use Rattle.std.proofs.lemmas.List.{append-nil}
use Rattle.store_model.specs.BodyRefusals.{AreFirstWrites, IsBadEntry, IsBadWrite, entry_fields, keys_in, kind_fields, may_number, may_stand, stands_in, told_kind, told_number, told_writes, write_rules}
use Rattle.store_model.specs.Field.{AreGood}
use Rattle.store_model.specs.Frame.{Del, Entry, IsEntry, IsWrite, Set, Write, entry_spelling, key_of_write, write_spelling}
use Rattle.store_model.specs.State.{greatest_number}
use Rattle.store_model.specs.Tuple.{key_spelling, spelling}
use Rattle.store_model.specs.TupleFields.{is_within}
use Rattle.store_model.proofs.ByteLaws.{AreBytes-behind, AreBytes-drop, AreBytes-take, eight-low}
use Rattle.store_model.proofs.EntryReadLaws.{IsEntry-told, front-stands, told-byte}
use Rattle.store_model.proofs.FieldCaseLaws.{AreGood-or_broken}
use Rattle.store_model.proofs.FieldLaws.{AreBytes}
use Rattle.store_model.proofs.FollowLaws.{AreFirstWrites-next}
use Rattle.store_model.proofs.TupleReadLaws.{HasKey-or_broken, HasTuple-or_bad}
use Rattle.store_model.proofs.WriteLaws.{Del-stands, Set-stands}

-- A write at the front of bytes that may stand behind these.
record HasWrite (pages number : ℕ) (before : List Entry) (writes : List Write) (stored : List ℕ) : Type 0 where
  one : Write
  is : IsWrite pages number one
  may : IsTrue (may_stand before writes (key_of_write one))
  rest : List ℕ
  stored_is : stored ≡ write_spelling one ++ rest

-- a write, or where it is bad
abbrev WriteCase : ℕ → ℕ → List Entry → List Write → List ℕ → Type 0
WriteCase pages number before writes stored =
    HasWrite pages number before writes stored ⊎ ((at : ℕ) × IsBadWrite (write_rules before writes number) pages stored at)

-- a write with a state
set-case : (pages number : ℕ) (before : List Entry) (writes : List Write) (stored : List ℕ) → AreBytes stored → 1 ≤ number → number ≤ greatest_number
    → 1 ≤ length stored → told_kind stored ≡ 1 → WriteCase pages number before writes stored
set-case pages number before writes stored bytes low high some kind =
    elim (HasTuple-or_bad (write_rules before writes number) pages (drop 1 stored) (AreBytes-drop stored 1 bytes) low high) [
      | inl tuple ↦ inl (record {
        one = Set tuple.key tuple.state;
        is = (tuple.front.tuple, omega (arith, tuple.keeps.from_least, tuple.keeps.to_most));
        may = tuple.keeps.key_may;
        rest = drop (1 + length (spelling tuple.key tuple.state)) stored;
        stored_is = Set-stands pages stored tuple.key tuple.state some kind tuple.front;
      })
      | inr bad ↦ inr (1 + bad.0, inr (inl (kind, (bad.0, bad.1, refl))))
    ]

-- a write without one
del-case : (pages number : ℕ) (before : List Entry) (writes : List Write) (stored : List ℕ) → 1 ≤ length stored → told_kind stored ≡ 2
    → WriteCase pages number before writes stored
del-case pages number before writes stored some kind =
    elim (HasKey-or_broken (may_stand before writes) (drop 1 stored)) [
      | inl key ↦ inl (record {
        one = Del key.key;
        is = key.front.named;
        may = key.may;
        rest = drop (1 + length (key_spelling key.key)) stored;
        stored_is = Del-stands stored key.key some kind key.front;
      })
      | inr bad ↦ inr (1 + bad.0, inr (inr (kind, (bad.0, bad.1, refl))))
    ]

HasWrite-or_bad : (pages number : ℕ) (before : List Entry) (writes : List Write) (stored : List ℕ) → AreBytes stored → 1 ≤ number → number ≤ greatest_number
    → WriteCase pages number before writes stored
HasWrite-or_bad pages number before writes stored bytes low high =
    elim (AreGood-or_broken stored kind_fields) [
      | inr first ↦ inr (first.0, inl first.1)
      | inl good ↦ (
          let some : 1 ≤ length stored = omega (arith, good.0.whole) in
          let kept : is_within 1 2 (told_kind stored) ≡ true = ap (is_within 1 2) (sym (told-byte stored 0 good.0.whole)) ∙ good.0.kept in
          let both = and_parts (nat_le 1 (told_kind stored)) (nat_le (told_kind stored) 2) kept in
          elim (cases_lt 1 (told_kind stored)) [
            | inl more ↦ del-case pages number before writes stored some (omega (arith, more, leb-true (told_kind stored) 2 both.1))
            | inr less ↦ set-case pages number before writes stored bytes low high some (omega (arith, less, leb-true 1 (told_kind stored) both.0))
          ]
          )
    ]

-- So many writes at the front of bytes.
record HasWrites (pages number : ℕ) (before : List Entry) (count : ℕ) (stored : List ℕ) : Type 0 where
  writes : List Write
  are : AreFirstWrites pages before number writes
  many : length writes ≡ count
  rest : List ℕ
  stored_is : stored ≡ flat_map write_spelling writes ++ rest

-- One that is refused behind fewer.
record HasBadWrite (pages number : ℕ) (before : List Entry) (count : ℕ) (stored : List ℕ) : Type 0 where
  writes : List Write
  are : AreFirstWrites pages before number writes
  few : length writes < count
  rest : List ℕ
  stored_is : stored ≡ flat_map write_spelling writes ++ rest
  place : ℕ
  bad : IsBadWrite (write_rules before writes number) pages rest place

-- one more spelled behind others
pub spelled-next : {X : Type 0} (spell : X → List ℕ) (xs : List X) (x : X) (stored rest more : List ℕ) → stored ≡ flat_map spell xs ++ rest
    → rest ≡ spell x ++ more → stored ≡ flat_map spell (xs ++ x ∷ []) ++ more
spelled-next spell xs x stored rest more is next =
    let same : flat_map spell (xs ++ x ∷ []) ≡ flat_map spell xs ++ spell x =
    flat_map-append spell xs (x ∷ []) ∙ ap (λ (ys : List ℕ). flat_map spell xs ++ ys) (append-nil (spell x)) in
    is ∙ ap (λ (ys : List ℕ). flat_map spell xs ++ ys) next ∙ sym (append_assoc (flat_map spell xs) (spell x) more)
    ∙ ap (λ (ys : List ℕ). ys ++ more) (sym same)

no-writes : (pages number : ℕ) (before : List Entry) → AreFirstWrites pages before number []
no-writes pages number before =
    record {
      each = λ i d below. absurd (omega (arith, below));
      rise = λ i one other is next. absurd (cc is);
      apart = λ i d below. absurd (omega (arith, below));
    }

next-write : (pages number : ℕ) (before : List Entry) (count : ℕ) (stored : List ℕ) → AreBytes stored → 1 ≤ number → number ≤ greatest_number
    → HasWrites pages number before count stored → HasWrites pages number before (suc count) stored ⊎ HasBadWrite pages number before (suc count) stored
next-write pages number before count stored bytes low high some =
    let behind : AreBytes some.rest = AreBytes-behind (flat_map write_spelling some.writes) some.rest (subst AreBytes some.stored_is bytes) in
    elim (HasWrite-or_bad pages number before some.writes some.rest behind low high) [
      | inl next ↦ inl (record {
        writes = some.writes ++ next.one ∷ [];
        are = AreFirstWrites-next pages before number some.writes next.one some.are next.is next.may;
        many = omega (arith, length-append some.writes (next.one ∷ []), some.many);
        rest = next.rest;
        stored_is = spelled-next write_spelling some.writes next.one stored some.rest next.rest some.stored_is next.stored_is;
      })
      | inr bad ↦ inr (record {
        writes = some.writes;
        are = some.are;
        few = omega (arith, some.many);
        rest = some.rest;
        stored_is = some.stored_is;
        place = bad.0;
        bad = bad.1;
      })
    ]

HasWrites-or_bad : (pages number : ℕ) (before : List Entry) (count : ℕ) (stored : List ℕ) → AreBytes stored → 1 ≤ number → number ≤ greatest_number
    → HasWrites pages number before count stored ⊎ HasBadWrite pages number before count stored
HasWrites-or_bad pages number before zero stored bytes low high =
    inl (record { writes = []; are = no-writes pages number before; many = refl; rest = stored; stored_is = refl })
HasWrites-or_bad pages number before (suc count) stored bytes low high =
    elim (HasWrites-or_bad pages number before count stored bytes low high) [
      | inl some ↦ next-write pages number before count stored bytes low high some
      | inr bad ↦ inr (record {
        writes = bad.writes;
        are = bad.are;
        few = omega (arith, bad.few);
        rest = bad.rest;
        stored_is = bad.stored_is;
        place = bad.place;
        bad = bad.bad;
      })
    ]

-- An entry at the front of bytes that may stand behind these.
pub record HasEntry (pages : ℕ) (before : List Entry) (stored : List ℕ) : Type 0 where
  pub one : Entry
  pub is : IsEntry pages one
  pub may : IsTrue (may_number before one.number)
  pub apart : All (λ write. stands_in (keys_in before) (key_of_write write) ≡ false) one.writes
  pub rest : List ℕ
  pub stored_is : stored ≡ entry_spelling one ++ rest

-- the entry that good fields and writes behind them tell
entry-told : (pages : ℕ) (before : List Entry) (stored : List ℕ) → AreBytes stored → AreGood stored (entry_fields before)
    → HasWrites pages (told_number stored) before (told_writes stored) (drop 18 stored) → HasEntry pages before stored
entry-told pages before stored bytes good some =
    let nth : ℕ = from_be_bytes w64 (take 8 (drop 9 stored)) in
    let one : Entry = record { number = told_number stored; session = slice_index stored 8; nth = nth; writes = some.writes } in
    let low : nth < 2 ^ 64 = eight-low (take 8 (drop 9 stored)) (AreBytes-take (drop 9 stored) 8 (AreBytes-drop stored 9 bytes)) in
    let told = IsEntry-told pages before stored one good refl refl refl low some.many some.are in
    record {
      one = one;
      is = told.0;
      may = told.1;
      apart = some.are.apart;
      rest = some.rest;
      stored_is = front-stands stored some.rest one bytes (omega (arith, good.1.1.1.0.whole)) refl refl refl some.many some.stored_is;
    }

-- An entry stands at the front that may, or it is refused.
pub HasEntry-or_bad : (pages : ℕ) (before : List Entry) (stored : List ℕ) → AreBytes stored
    → HasEntry pages before stored ⊎ ((at : ℕ) × IsBadEntry pages before stored at)
HasEntry-or_bad pages before stored bytes =
    elim (AreGood-or_broken stored (entry_fields before)) [
      | inr first ↦ inr (first.0, inl first.1)
      | inl good ↦ (
          let number : ℕ = told_number stored in
          let within = and_parts (nat_le 1 number) (nat_le number greatest_number) (and_parts (is_within 1 greatest_number number) (may_number before number) good.0.kept).0 in
          elim (HasWrites-or_bad pages number before (told_writes stored) (drop 18 stored) (AreBytes-drop stored 18 bytes) (leb-true 1 number within.0)
          (leb-true number greatest_number within.1)) [
            | inl some ↦ inl (entry-told pages before stored bytes good some)
            | inr bad ↦ inr (
              18 + length (flat_map write_spelling bad.writes) + bad.place,
              inr (
                good,
                record {
                  writes = bad.writes;
                  are = bad.are;
                  rest = bad.rest;
                  stored_is = bad.stored_is;
                  few = bad.few;
                  place = bad.place;
                  bad = bad.bad;
                  at_is = refl;
                },
              ),
            )
          ]
          )
    ]
