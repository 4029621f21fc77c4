-- Bodies are taken one by one, or one is the first of which nothing can be taken.
use Rattle.std.proofs.Common.{◌≡◌, ℕ, ◌+◌, ◌*◌, ◌==◌, ◌≤◌, ◌⊎◌, inl, inr, List, [], ◌∷◌, length, refl, ap, subst, ◌∙◌, arith}
use Rattle.std.proofs.lemmas.Bool.{both_ways, cases_Bool, cases_lt, eq-eqb, eqb-true}
use Rattle.store_model.specs.Disk.{page_bytes}
use Rattle.store_model.specs.Frame.{Entry, Spells}
use Rattle.store_model.specs.Half.{tuples_spelling}
use Rattle.store_model.specs.Layout.{data_pages}
use Rattle.store_model.specs.LogReading.{StoredBody}
use Rattle.store_model.specs.Reading.{Found, GoesOn, IsBadFrame, IsFirstBad, Takes, TakesEach, with_frame}
use Rattle.store_model.proofs.BodyCaseLaws.{Spells-or_bad}
use Rattle.store_model.proofs.BodyLaws.{Spells-not_bad}
use Rattle.store_model.proofs.FieldLaws.{AreBytes}
use Rattle.store_model.proofs.FrameLaws.{Spells-one}
use Rattle.store_model.proofs.LogCaseLaws.{AreOfBytes}
use Rattle.store_model.proofs.ReadingLaws.{IsSmall, KeepsOne, KeepsOneOf, Takes-small}

-- some of each entries are kept
abbrev pub KeepsSome : (List Entry → List Entry → Type 0) → Type 0
KeepsSome Kept = (entries : List Entry) → (rest : List Entry) × Kept entries rest

abbrev pub KeepsSomeOf : (List StoredBody → List Entry → List Entry → Type 0) → Type 0
KeepsSomeOf Kept = (bodies : List StoredBody) → KeepsSome (Kept bodies)

-- entries go on or they don't
goes-decided : (last : ℕ) (entries : List Entry) → GoesOn last entries ⊎ (GoesOn last entries → ⊥)
goes-decided last [] = inr (λ goes. goes)
goes-decided last (entry ∷ entries) =
    elim (cases_Bool (entry.number == last + 1)) [
      | inl same ↦ inl (eqb-true entry.number (last + 1) same)
      | inr other ↦ inr (λ same. both_ways (entry.number == last + 1) other (eq-eqb entry.number (last + 1) same))
    ]

-- what is found behind a body, or that nothing is
abbrev TakeCase : (List Entry → List Entry → Type 0) → Found → StoredBody → Type 0
TakeCase Kept before body = ((after : Found) × Takes Kept before body after) ⊎ IsBadFrame Kept before body

-- Whatever is taken of a body, it's what its entries and those of them that are kept give.
taken-is : (Kept : List Entry → List Entry → Type 0) (before : Found) (body : StoredBody) (told rest : List Entry) (after : Found) → KeepsOne Kept → IsSmall before
    → Spells (data_pages before.layout) body.bytes told → Kept told rest → Takes Kept before body after → after ≡ with_frame before told rest
taken-is Kept before body told rest after keeps small spells kept takes =
    let same : takes.entries_told ≡ told = Spells-one (data_pages before.layout) body.bytes takes.entries_told told small takes.spells spells in
    let mine : Kept told takes.entries_kept = subst (λ (entries : List Entry). Kept entries takes.entries_kept) same takes.kept in
    takes.after_is
    ∙ ap (λ (entries : List Entry). with_frame before entries takes.entries_kept) same
    ∙ ap (λ (entries : List Entry). with_frame before told entries) (keeps told takes.entries_kept rest mine kept)

-- the room of what is found behind entries that go on
room-case : (Kept : List Entry → List Entry → Type 0) (before : Found) (body : StoredBody) (told rest : List Entry) → KeepsOne Kept → IsSmall before
    → Spells (data_pages before.layout) body.bytes told → Kept told rest → GoesOn before.last told → TakeCase Kept before body
room-case Kept before body told rest keeps small spells kept goes =
    let after : Found = with_frame before told rest in
    elim (cases_lt (page_bytes * after.layout.room) (length (tuples_spelling after.states))) [
      | inr fits ↦ inl (
        after,
        record {
          entries_told = told;
          spells = spells;
          goes_on = goes;
          entries_kept = rest;
          kept = kept;
          after_is = refl;
          room = fits;
        },
      )
      | inl over ↦ inr (λ other takes.
          let same : other ≡ after = taken-is Kept before body told rest other keeps small spells kept takes in
          let room : length (tuples_spelling after.states) ≤ page_bytes * after.layout.room =
          subst (λ (found : Found). length (tuples_spelling found.states) ≤ page_bytes * found.layout.room) same takes.room in
          omega (arith, over, room))
    ]

-- A body is taken, or nothing can be taken of it.
pub Takes-or_bad : (Kept : List Entry → List Entry → Type 0) (before : Found) (body : StoredBody) → KeepsOne Kept → KeepsSome Kept → IsSmall before → AreBytes body.bytes
    → ((after : Found) × Takes Kept before body after) ⊎ IsBadFrame Kept before body
Takes-or_bad Kept before body keeps some small bytes =
    let pages : ℕ = data_pages before.layout in
    elim (Spells-or_bad pages body.bytes bytes) [
      | inr bad ↦ inr (λ after takes. Spells-not_bad pages body.bytes takes.entries_told bad.0 small takes.spells bad.1)
      | inl told ↦ elim (goes-decided before.last told.0) [
        | inl goes ↦ (
            let rest = some told.0 in
            room-case Kept before body told.0 rest.0 keeps small told.1 rest.1 goes
            )
        | inr stops ↦ inr (λ after takes.
            stops (subst (GoesOn before.last) (Spells-one pages body.bytes takes.entries_told told.0 small takes.spells told.1) takes.goes_on))
      ]
    ]

-- Each body is taken, or one is the first that can't be.
pub TakesEach-or_bad : (Kept : List StoredBody → List Entry → List Entry → Type 0) (before : Found) (bodies : List StoredBody) → KeepsOneOf Kept → KeepsSomeOf Kept
    → IsSmall before → AreOfBytes bodies → ((after : Found) × TakesEach Kept before bodies after) ⊎ ((page : ℕ) × IsFirstBad Kept before bodies page)
TakesEach-or_bad Kept before [] keeps some small bytes = inl (before, refl)
TakesEach-or_bad Kept before (body ∷ bodies) keeps some small bytes =
    elim (Takes-or_bad (Kept bodies) before body (keeps bodies) (some bodies) small bytes.0) [
      | inr bad ↦ inr (body.page, inl (bad, refl))
      | inl next ↦ elim (TakesEach-or_bad Kept next.0 bodies keeps some (Takes-small (Kept bodies) before body next.0 small next.1) bytes.1) [
        | inl rest ↦ inl (rest.0, (next.0, next.1, rest.1))
        | inr bad ↦ inr (bad.0, inr (next.0, next.1, bad.1))
      ]
    ]
