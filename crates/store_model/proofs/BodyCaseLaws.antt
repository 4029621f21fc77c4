-- Bytes are a body of some entries, or have a first field of one that is broken.
use Rattle.std.proofs.Common.{◌≡◌, ℕ, zero, suc, ◌+◌, ◌<◌, ◌≤◌, ◌⊎◌, inl, inr, List, [], ◌∷◌, ◌++◌, length, drop, refl, sym, ap, subst, ◌∙◌, arith, length-append, length-drop}
use Rattle.std.proofs.lemmas.Bool.{cases_lt}
use Rattle.std.proofs.lemmas.List.{drop_all}
use Rattle.store_model.specs.BodyRefusals.{AreFirstEntries, IsBadBody, IsBadEntry, front_fields, told_entries}
use Rattle.store_model.specs.Field.{AreGood}
use Rattle.store_model.specs.Frame.{Entry, Spells, entries_spelling, entry_spelling}
use Rattle.store_model.proofs.BodyReadLaws.{Spells-read}
use Rattle.store_model.proofs.ByteLaws.{AreBytes-behind, AreBytes-drop}
use Rattle.store_model.proofs.EntryReadLaws.{AreFirstEntries-next}
use Rattle.store_model.proofs.FieldCaseLaws.{AreGood-or_broken}
use Rattle.store_model.proofs.FieldLaws.{AreBytes}
use Rattle.store_model.proofs.WriteReadLaws.{HasEntry-or_bad, spelled-next}

-- So many entries at the front of bytes.
record HasEntries (pages count : ℕ) (stored : List ℕ) : Type 0 where
  entries : List Entry
  are : AreFirstEntries pages entries
  many : length entries ≡ count
  rest : List ℕ
  stored_is : stored ≡ entries_spelling entries ++ rest

-- One that is refused behind fewer.
record HasBadEntry (pages count : ℕ) (stored : List ℕ) : Type 0 where
  entries : List Entry
  are : AreFirstEntries pages entries
  few : length entries < count
  rest : List ℕ
  stored_is : stored ≡ entries_spelling entries ++ rest
  place : ℕ
  bad : IsBadEntry pages entries rest place

no-entries : (pages : ℕ) → AreFirstEntries pages []
no-entries pages =
    record {
      each = λ i d below. absurd (omega (arith, below));
      numbers = λ i one other is next. absurd (cc is);
      apart = λ i j one other key less is next mine theirs. absurd (cc is);
    }

next-entry : (pages count : ℕ) (stored : List ℕ) → AreBytes stored → HasEntries pages count stored
    → HasEntries pages (suc count) stored ⊎ HasBadEntry pages (suc count) stored
next-entry pages count stored bytes some =
    let behind : AreBytes some.rest = AreBytes-behind (entries_spelling some.entries) some.rest (subst AreBytes some.stored_is bytes) in
    elim (HasEntry-or_bad pages some.entries some.rest behind) [
      | inl next ↦ inl (record {
        entries = some.entries ++ next.one ∷ [];
        are = AreFirstEntries-next pages some.entries next.one some.are next.is next.may next.apart;
        many = omega (arith, length-append some.entries (next.one ∷ []), some.many);
        rest = next.rest;
        stored_is = spelled-next entry_spelling some.entries next.one stored some.rest next.rest some.stored_is next.stored_is;
      })
      | inr bad ↦ inr (record {
        entries = some.entries;
        are = some.are;
        few = omega (arith, some.many);
        rest = some.rest;
        stored_is = some.stored_is;
        place = bad.0;
        bad = bad.1;
      })
    ]

HasEntries-or_bad : (pages count : ℕ) (stored : List ℕ) → AreBytes stored → HasEntries pages count stored ⊎ HasBadEntry pages count stored
HasEntries-or_bad pages zero stored bytes =
    inl (record { entries = []; are = no-entries pages; many = refl; rest = stored; stored_is = refl })
HasEntries-or_bad pages (suc count) stored bytes =
    elim (HasEntries-or_bad pages count stored bytes) [
      | inl some ↦ next-entry pages count stored bytes some
      | inr bad ↦ inr (record {
        entries = bad.entries;
        are = bad.are;
        few = omega (arith, bad.few);
        rest = bad.rest;
        stored_is = bad.stored_is;
        place = bad.place;
        bad = bad.bad;
      })
    ]

-- the entries of bytes, or where they are no body
abbrev pub BodyCase : ℕ → List ℕ → Type 0
BodyCase pages stored = ((entries : List Entry) × Spells pages stored entries) ⊎ ((at : ℕ) × IsBadBody pages stored at)

-- as many entries as are told
all-case : (pages : ℕ) (stored : List ℕ) → AreBytes stored → AreGood stored (front_fields stored)
    → HasEntries pages (told_entries stored) (drop 13 stored) → BodyCase pages stored
all-case pages stored bytes good some =
    let spelled : List ℕ = entries_spelling some.entries in
    let end : ℕ = 13 + length spelled in
    let long : length stored ≡ end + length some.rest =
    omega (arith, good.1.1.0.whole, length-drop 13 stored, ap length some.stored_is, length-append spelled some.rest) in
    elim (cases_lt 0 (length some.rest)) [
      | inl more ↦ inr (
        end,
        inr (
          good,
          inr (record {
            entries = some.entries;
            are = some.are;
            rest = some.rest;
            stored_is = some.stored_is;
            all = some.many;
            more = more;
            at_is = refl;
          }),
        ),
      )
      | inr none ↦ (
          let nothing : some.rest ≡ drop end stored =
          empty some.rest (omega (arith, none)) ∙ sym (drop_all end stored (omega (arith, long, none))) in
          inl (
            some.entries,
            Spells-read pages stored some.entries end bytes good some.are
                (some.stored_is ∙ ap (λ (xs : List ℕ). spelled ++ xs) nothing) refl some.many (omega (arith, long)) (omega (arith, long, none)),
          )
          )
    ] where
      empty : (xs : List ℕ) → length xs ≤ 0 → xs ≡ []
      empty [] few = refl
      empty (x ∷ xs) few = absurd (omega (arith, few))

-- Bytes are the body of some entries, or a bad one.
pub Spells-or_bad : (pages : ℕ) (stored : List ℕ) → AreBytes stored → BodyCase pages stored
Spells-or_bad pages stored bytes =
    elim (AreGood-or_broken stored (front_fields stored)) [
      | inr first ↦ inr (first.0, inl first.1)
      | inl good ↦ elim (HasEntries-or_bad pages (told_entries stored) (drop 13 stored) (AreBytes-drop stored 13 bytes)) [
        | inl some ↦ all-case pages stored bytes good some
        | inr bad ↦ inr (
          13 + length (entries_spelling bad.entries) + bad.place,
          inr (
            good,
            inl (record {
              entries = bad.entries;
              are = bad.are;
              rest = bad.rest;
              stored_is = bad.stored_is;
              few = bad.few;
              place = bad.place;
              bad = bad.bad;
              at_is = refl;
            }),
          ),
        )
      ]
    ]
