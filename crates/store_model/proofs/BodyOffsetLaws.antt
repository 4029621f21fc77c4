-- Laws of offsets in a body: what is no body is named by one offset.
use Rattle.std.proofs.Common.{◌≡◌, ℕ, ◌+◌, ◌^◌, ◌<◌, ◌≤◌, true, false, inl, inr, List, [], ◌∷◌, ◌++◌, length, drop, refl, sym, ap, subst, ◌∙◌, arith}
use Rattle.std.specs.Prelude.{IsTrue}
use Rattle.std.specs.List.{flat_map}
use Rattle.std.proofs.lemmas.Bool.{cases_lt}
use Rattle.store_model.specs.BodyRefusals.{AreFirstEntries, HasMoreBytes, IsBadBody, IsBadEntry, IsBadWrite, IsRefusedEntry, IsRefusedWrite, entry_fields, front_fields, keys_in, kind_fields, may_stand, stands_in, told_kind, told_number}
use Rattle.store_model.specs.Field.{IsFirstBroken}
use Rattle.store_model.specs.Frame.{Entry, IsEntry, IsWrite, Write, body_front, entries_spelling, key_of_write, write_spelling}
use Rattle.store_model.specs.TupleFields.{Rules, is_within, ruled_key_fields, told_key}
use Rattle.store_model.proofs.BodyLaws.{apart-from, may_number-from}
use Rattle.store_model.proofs.FieldLaws.{AreGood-none_broken}
use Rattle.store_model.proofs.FrameLaws.{entries-same, writes-same}
use Rattle.store_model.proofs.FrontLaws.{entries-front, writes-front}
use Rattle.store_model.proofs.OffsetLaws.{IsBadTuple-one, IsFirstBroken-one}
use Rattle.store_model.proofs.RefusalLaws.{All-middle, IsEntry-not_bad, IsWrite-not_bad, kind-good, may_stand-from}

-- a kind that is told as 1 or 2 isn't broken
kind-not : (stored : List ℕ) (kind at : ℕ) → told_kind stored ≡ kind → is_within 1 2 kind ≡ true → IsFirstBroken stored kind_fields at → ⊥
kind-not [] kind at told within first = zero-not kind told within where
  zero-not : (n : ℕ) → 0 ≡ n → is_within 1 2 n ≡ true → ⊥
  zero-not n is within = cc (rw (← is) at within)
kind-not (byte ∷ stored) kind at told within first = kind-good byte stored at (rw (← told) at within) first

-- a write that is refused is named by one offset
IsBadWrite-one : (rules : Rules) (pages : ℕ) (stored : List ℕ) (at other : ℕ) → IsBadWrite rules pages stored at → IsBadWrite rules pages stored other → at ≡ other
IsBadWrite-one rules pages stored at other (inl mine) (inl theirs) = IsFirstBroken-one stored kind_fields at other mine theirs
IsBadWrite-one rules pages stored at other (inl mine) (inr (inl (told, bad))) = absurd (kind-not stored 1 at told refl mine)
IsBadWrite-one rules pages stored at other (inl mine) (inr (inr (told, bad))) = absurd (kind-not stored 2 at told refl mine)
IsBadWrite-one rules pages stored at other (inr (inl (told, bad))) (inl theirs) = absurd (kind-not stored 1 other told refl theirs)
IsBadWrite-one rules pages stored at other (inr (inr (told, bad))) (inl theirs) = absurd (kind-not stored 2 other told refl theirs)
IsBadWrite-one rules pages stored at other (inr (inl (told, bad))) (inr (inr (also, worse))) = absurd (omega (arith, told, also))
IsBadWrite-one rules pages stored at other (inr (inr (told, bad))) (inr (inl (also, worse))) = absurd (omega (arith, told, also))
IsBadWrite-one rules pages stored at other (inr (inl (told, (place, bad, at_is)))) (inr (inl (also, (spot, worse, other_is)))) =
    omega (arith, at_is, other_is, IsBadTuple-one rules pages (drop 1 stored) place spot bad worse)
IsBadWrite-one rules pages stored at other (inr (inr (told, (place, bad, at_is)))) (inr (inr (also, (spot, worse, other_is)))) =
    omega (arith, at_is, other_is, IsFirstBroken-one (drop 1 stored) (ruled_key_fields rules.key (told_key (drop 1 stored))) place spot bad worse)

-- no write is refused before the last of those that are good
refused-last : (pages : ℕ) (before : List Entry) (stored : List ℕ) (at other : ℕ) → pages ≤ 2 ^ 32 → (mine : IsRefusedWrite pages before stored at)
    → (theirs : IsRefusedWrite pages before stored other) → length mine.writes < length theirs.writes → ⊥
refused-last pages before stored at other most mine theirs less =
    let number : ℕ = told_number stored in
    let next = writes-front pages number number theirs.writes mine.writes theirs.rest mine.rest most theirs.are.each mine.are.each less
    (sym theirs.stored_is ∙ mine.stored_is) in
    let here : IsWrite pages number next.one = All-middle (IsWrite pages number) mine.writes next.one next.behind (rw next.writes_are at theirs.are.each) in
    let free : stands_in (keys_in before) (key_of_write next.one) ≡ false =
    All-middle (λ (write : Write). stands_in (keys_in before) (key_of_write write) ≡ false) mine.writes next.one next.behind (rw next.writes_are at theirs.are.apart) in
    let may : IsTrue (may_stand before mine.writes (key_of_write next.one)) =
    may_stand-from before mine.writes next.one next.behind (rw next.writes_are at theirs.are.rise) free in
    IsWrite-not_bad pages number before mine.writes next.one mine.rest next.more mine.place most here may next.rest_is mine.bad

-- behind as many good writes it's the same one
refused-same : (pages : ℕ) (before : List Entry) (stored : List ℕ) (at other : ℕ) → pages ≤ 2 ^ 32 → (mine : IsRefusedWrite pages before stored at)
    → (theirs : IsRefusedWrite pages before stored other) → length mine.writes ≡ length theirs.writes → at ≡ other
refused-same pages before stored at other most mine theirs equal =
    let number : ℕ = told_number stored in
    let same = writes-same pages number number mine.writes theirs.writes mine.rest theirs.rest most equal mine.are.each theirs.are.each
    (sym mine.stored_is ∙ theirs.stored_is) in
    let bad : IsBadWrite (record { key = may_stand before mine.writes; least = number; most = number }) pages mine.rest theirs.place =
    subst (λ (ws : List Write). IsBadWrite (record { key = may_stand before ws; least = number; most = number }) pages mine.rest theirs.place) (sym same.0)
    (subst (λ (xs : List ℕ). IsBadWrite (record { key = may_stand before theirs.writes; least = number; most = number }) pages xs theirs.place) (sym same.1) theirs.bad) in
    let place : mine.place ≡ theirs.place = IsBadWrite-one _ pages mine.rest mine.place theirs.place mine.bad bad in
    omega (arith, mine.at_is, theirs.at_is, place, ap (λ (ws : List Write). length (flat_map write_spelling ws)) same.0)

-- a write of an entry that is refused is named by one offset
IsRefusedWrite-one : (pages : ℕ) (before : List Entry) (stored : List ℕ) (at other : ℕ) → pages ≤ 2 ^ 32 → IsRefusedWrite pages before stored at
    → IsRefusedWrite pages before stored other → at ≡ other
IsRefusedWrite-one pages before stored at other most mine theirs =
    elim (cases_lt (length mine.writes) (length theirs.writes)) [
      | inl less ↦ absurd (refused-last pages before stored at other most mine theirs less)
      | inr past ↦ (
          elim (cases_lt (length theirs.writes) (length mine.writes)) [
            | inl more ↦ absurd (refused-last pages before stored other at most theirs mine more)
            | inr equal ↦ refused-same pages before stored at other most mine theirs (omega (arith, past, equal))
          ]
          )
    ]

IsBadEntry-one : (pages : ℕ) (before : List Entry) (stored : List ℕ) (at other : ℕ) → pages ≤ 2 ^ 32 → IsBadEntry pages before stored at
    → IsBadEntry pages before stored other → at ≡ other
IsBadEntry-one pages before stored at other most (inl mine) (inl theirs) = IsFirstBroken-one stored (entry_fields before) at other mine theirs
IsBadEntry-one pages before stored at other most (inl mine) (inr (good, theirs)) = absurd (AreGood-none_broken stored (entry_fields before) at good mine)
IsBadEntry-one pages before stored at other most (inr (good, mine)) (inl theirs) = absurd (AreGood-none_broken stored (entry_fields before) other good theirs)
IsBadEntry-one pages before stored at other most (inr (good, mine)) (inr (also, theirs)) = IsRefusedWrite-one pages before stored at other most mine theirs

-- no entry is refused before the last of those that are good
entry-last : (pages : ℕ) (stored : List ℕ) (at : ℕ) → pages ≤ 2 ^ 32 → (mine : IsRefusedEntry pages stored at) → (entries : List Entry) (rest : List ℕ)
    → AreFirstEntries pages entries → drop body_front stored ≡ entries_spelling entries ++ rest → length mine.entries < length entries → ⊥
entry-last pages stored at most mine entries rest are stored_is less =
    let next = entries-front pages entries mine.entries rest mine.rest most are.each mine.are.each less (sym stored_is ∙ mine.stored_is) in
    let here : IsEntry pages next.one = All-middle (IsEntry pages) mine.entries next.one next.behind (rw next.entries_are at are.each) in
    IsEntry-not_bad pages mine.entries next.one mine.rest next.more mine.place most here
    (may_number-from mine.entries next.one next.behind (rw next.entries_are at are.numbers))
    (apart-from mine.entries next.one next.behind (rw next.entries_are at are.apart)) next.rest_is mine.bad

entry-same-offset : (pages : ℕ) (stored : List ℕ) (at other : ℕ) → pages ≤ 2 ^ 32 → (mine : IsRefusedEntry pages stored at)
    → (theirs : IsRefusedEntry pages stored other) → length mine.entries ≡ length theirs.entries → at ≡ other
entry-same-offset pages stored at other most mine theirs equal =
    let same = entries-same pages mine.entries theirs.entries mine.rest theirs.rest most equal mine.are.each theirs.are.each (sym mine.stored_is ∙ theirs.stored_is) in
    let bad : IsBadEntry pages mine.entries mine.rest theirs.place =
    subst (λ (es : List Entry). IsBadEntry pages es mine.rest theirs.place) (sym same.0)
    (subst (λ (xs : List ℕ). IsBadEntry pages theirs.entries xs theirs.place) (sym same.1) theirs.bad) in
    let place : mine.place ≡ theirs.place = IsBadEntry-one pages mine.entries mine.rest mine.place theirs.place most mine.bad bad in
    omega (arith, mine.at_is, theirs.at_is, place, ap (λ (es : List Entry). length (entries_spelling es)) same.0)

IsRefusedEntry-one : (pages : ℕ) (stored : List ℕ) (at other : ℕ) → pages ≤ 2 ^ 32 → IsRefusedEntry pages stored at → IsRefusedEntry pages stored other → at ≡ other
IsRefusedEntry-one pages stored at other most mine theirs =
    elim (cases_lt (length mine.entries) (length theirs.entries)) [
      | inl less ↦ absurd (entry-last pages stored at most mine theirs.entries theirs.rest theirs.are theirs.stored_is less)
      | inr past ↦ (
          elim (cases_lt (length theirs.entries) (length mine.entries)) [
            | inl more ↦ absurd (entry-last pages stored other most theirs mine.entries mine.rest mine.are mine.stored_is more)
            | inr equal ↦ entry-same-offset pages stored at other most mine theirs (omega (arith, past, equal))
          ]
          )
    ]

-- an entry is refused, or bytes stand behind all, and not both
refused-or-more : (pages : ℕ) (stored : List ℕ) (at other : ℕ) → pages ≤ 2 ^ 32 → IsRefusedEntry pages stored at → HasMoreBytes pages stored other → ⊥
refused-or-more pages stored at other most mine theirs =
    entry-last pages stored at most mine theirs.entries theirs.rest theirs.are theirs.stored_is (omega (arith, mine.few, theirs.all))

HasMoreBytes-one : (pages : ℕ) (stored : List ℕ) (at other : ℕ) → pages ≤ 2 ^ 32 → HasMoreBytes pages stored at → HasMoreBytes pages stored other → at ≡ other
HasMoreBytes-one pages stored at other most mine theirs =
    let same = entries-same pages mine.entries theirs.entries mine.rest theirs.rest most (mine.all ∙ sym theirs.all) mine.are.each theirs.are.each
    (sym mine.stored_is ∙ theirs.stored_is) in
    mine.at_is ∙ ap (λ (es : List Entry). body_front + length (entries_spelling es)) same.0 ∙ sym theirs.at_is

-- What is no body is named by one offset, where pages have numbers of four bytes.
pub IsBadBody-one : (pages : ℕ) (stored : List ℕ) (at other : ℕ) → pages ≤ 2 ^ 32 → IsBadBody pages stored at → IsBadBody pages stored other → at ≡ other
IsBadBody-one pages stored at other most (inl mine) (inl theirs) = IsFirstBroken-one stored (front_fields stored) at other mine theirs
IsBadBody-one pages stored at other most (inl mine) (inr (good, theirs)) = absurd (AreGood-none_broken stored (front_fields stored) at good mine)
IsBadBody-one pages stored at other most (inr (good, mine)) (inl theirs) = absurd (AreGood-none_broken stored (front_fields stored) other good theirs)
IsBadBody-one pages stored at other most (inr (good, inl mine)) (inr (also, inl theirs)) = IsRefusedEntry-one pages stored at other most mine theirs
IsBadBody-one pages stored at other most (inr (good, inl mine)) (inr (also, inr theirs)) = absurd (refused-or-more pages stored at other most mine theirs)
IsBadBody-one pages stored at other most (inr (good, inr mine)) (inr (also, inl theirs)) = absurd (refused-or-more pages stored other at most theirs mine)
IsBadBody-one pages stored at other most (inr (good, inr mine)) (inr (also, inr theirs)) = HasMoreBytes-one pages stored at other most mine theirs
