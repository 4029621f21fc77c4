-- Laws of the reading of a disk: what is taken of the bodies of a log is one thing.
use Rattle.std.proofs.Common.{◌≡◌, ℕ, ◌^◌, ◌≤◌, List, [], ◌∷◌, inl, inr, sym, ap, subst, ◌∙◌}
use Rattle.store_model.specs.Disk.{Image}
use Rattle.store_model.specs.Frame.{Entry}
use Rattle.store_model.specs.Layout.{Layout, data_pages}
use Rattle.store_model.specs.LogReading.{StoredBody}
use Rattle.store_model.specs.Reading.{AreAllKept, AreKept, Found, IsFirstBad, KeptIn, Takes, TakesEach, with_frame}
use Rattle.store_model.proofs.FrameLaws.{Spells-one}

-- which entries are kept is one list
pub AreKept-one : (image : Image) (layout : Layout) (entries a b : List Entry) → AreKept image layout entries a → AreKept image layout entries b → a ≡ b
AreKept-one image layout [] a b one other = one ∙ sym other
AreKept-one image layout (entry ∷ entries) a b one other =
    elim one [
      | inl mine ↦ elim other [
        | inl yours ↦ mine.1.1 ∙ ap (λ (xs : List Entry). entry ∷ xs) (AreKept-one image layout entries mine.1.0 yours.1.0 mine.1.2 yours.1.2) ∙ sym yours.1.1
        | inr fails ↦ absurd (fails.0 mine.0)
      ]
      | inr fails ↦ elim other [
        | inl yours ↦ absurd (fails.0 yours.0)
        | inr both ↦ AreKept-one image layout entries a b fails.1 both.1
      ]
    ]

-- what is kept is one list
abbrev pub KeepsOne : (List Entry → List Entry → Type 0) → Type 0
KeepsOne Kept = (entries a b : List Entry) → Kept entries a → Kept entries b → a ≡ b

pub AreAllKept-one : KeepsOne AreAllKept
AreAllKept-one entries a b one other = one ∙ sym other

pub KeptIn-one : (image : Image) (layout : Layout) (bodies : List StoredBody) → KeepsOne (KeptIn image layout bodies)
KeptIn-one image layout [] = AreKept-one image layout
KeptIn-one image layout (body ∷ bodies) = AreAllKept-one

-- few enough pages for numbers of four bytes
abbrev pub IsSmall : Found → Type 0
IsSmall found = data_pages found.layout ≤ 2 ^ 32

-- what is found behind a body is one thing
pub Takes-one : (Kept : List Entry → List Entry → Type 0) (before : Found) (body : StoredBody) (a b : Found) → KeepsOne Kept → IsSmall before
    → Takes Kept before body a → Takes Kept before body b → a ≡ b
Takes-one Kept before body a b keeps small one other =
    let told : one.entries_told ≡ other.entries_told =
    Spells-one (data_pages before.layout) body.bytes one.entries_told other.entries_told small one.spells other.spells in
    let mine : Kept other.entries_told one.entries_kept = subst (λ (entries : List Entry). Kept entries one.entries_kept) told one.kept in
    let kept : one.entries_kept ≡ other.entries_kept = keeps other.entries_told one.entries_kept other.entries_kept mine other.kept in
    one.after_is
    ∙ ap (λ (entries : List Entry). with_frame before entries one.entries_kept) told
    ∙ ap (λ (entries : List Entry). with_frame before other.entries_told entries) kept
    ∙ sym other.after_is

-- the layout stays
pub Takes-small : (Kept : List Entry → List Entry → Type 0) (before : Found) (body : StoredBody) (after : Found) → IsSmall before → Takes Kept before body after
    → IsSmall after
Takes-small Kept before body after small takes = rw takes.after_is small

-- what is kept of each body, with those that stand behind it
abbrev pub KeepsOneOf : (List StoredBody → List Entry → List Entry → Type 0) → Type 0
KeepsOneOf Kept = (bodies : List StoredBody) → KeepsOne (Kept bodies)

-- the first bad frame is one
pub IsFirstBad-one : (Kept : List StoredBody → List Entry → List Entry → Type 0) (before : Found) (bodies : List StoredBody) (p q : ℕ) → KeepsOneOf Kept
    → IsSmall before → IsFirstBad Kept before bodies p → IsFirstBad Kept before bodies q → p ≡ q
IsFirstBad-one Kept before [] p q keeps small one other = absurd one
IsFirstBad-one Kept before (body ∷ bodies) p q keeps small one other =
    elim one [
      | inl mine ↦ elim other [
        | inl yours ↦ mine.1 ∙ sym yours.1
        | inr yours ↦ absurd (mine.0 yours.0 yours.1)
      ]
      | inr mine ↦ elim other [
        | inl yours ↦ absurd (yours.0 mine.0 mine.1)
        | inr yours ↦ (
            let same : mine.0 ≡ yours.0 = Takes-one (Kept bodies) before body mine.0 yours.0 (keeps bodies) small mine.1 yours.1 in
            let moved : IsFirstBad Kept yours.0 bodies p = subst (λ (next : Found). IsFirstBad Kept next bodies p) same mine.2 in
            IsFirstBad-one Kept yours.0 bodies p q keeps (Takes-small (Kept bodies) before body yours.0 small yours.1) moved yours.2
            )
      ]
    ]

pub TakesEach-one : (Kept : List StoredBody → List Entry → List Entry → Type 0) (before : Found) (bodies : List StoredBody) (a b : Found) → KeepsOneOf Kept
    → IsSmall before → TakesEach Kept before bodies a → TakesEach Kept before bodies b → a ≡ b
TakesEach-one Kept before [] a b keeps small one other = one ∙ sym other
TakesEach-one Kept before (body ∷ bodies) a b keeps small one other =
    let same : one.0 ≡ other.0 = Takes-one (Kept bodies) before body one.0 other.0 (keeps bodies) small one.1 other.1 in
    let mine : TakesEach Kept other.0 bodies a = subst (λ (next : Found). TakesEach Kept next bodies a) same one.2 in
    TakesEach-one Kept other.0 bodies a b keeps (Takes-small (Kept bodies) before body other.0 small other.1) mine other.2

-- where each body is taken, none is bad
pub TakesEach-none_bad : (Kept : List StoredBody → List Entry → List Entry → Type 0) (before after : Found) (bodies : List StoredBody) (page : ℕ) → KeepsOneOf Kept
    → IsSmall before → TakesEach Kept before bodies after → IsFirstBad Kept before bodies page → ⊥
TakesEach-none_bad Kept before after [] page keeps small takes bad = bad
TakesEach-none_bad Kept before after (body ∷ bodies) page keeps small takes bad =
    elim bad [
      | inl here ↦ here.0 takes.0 takes.1
      | inr later ↦ (
          let same : later.0 ≡ takes.0 = Takes-one (Kept bodies) before body later.0 takes.0 (keeps bodies) small later.1 takes.1 in
          let moved : IsFirstBad Kept takes.0 bodies page = subst (λ (next : Found). IsFirstBad Kept next bodies page) same later.2 in
          TakesEach-none_bad Kept takes.0 after bodies page keeps (Takes-small (Kept bodies) before body takes.0 small takes.1) takes.2 moved
          )
    ]
