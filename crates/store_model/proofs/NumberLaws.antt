-- The numbers of what is taken rise: behind a longer log a store has a greater last number.
use Rattle.std.proofs.Common.{◌≡◌, ℕ, suc, ◌+◌, ◌<◌, ◌≤◌, List, [], ◌∷◌, ◌++◌, length, refl, sym, ap, ◌∙◌, subst, arith, Bool, true, false}
use Rattle.std.specs.Prelude.{IsTrue, slice_get}
use Rattle.store_model.specs.Disk.{Image}
use Rattle.store_model.specs.Frame.{DoNumbersGoOn, Entry, Spells}
use Rattle.store_model.specs.Layout.{Layout, data_pages}
use Rattle.store_model.specs.LogReading.{AreBodies, StoredBody, gate_is_open, next_gate}
use Rattle.store_model.specs.Reading.{Found, GoesOn, Takes, TakesEach, last_number}
use Rattle.store_model.proofs.DependenceLaws.{Takes-layout}
use Rattle.store_model.proofs.FrameLaws.{Spells-one}
use Rattle.store_model.proofs.LogReadingLaws.{IsBodyAt-one}
use Rattle.store_model.proofs.ReadingLaws.{IsSmall, Takes-small}

-- the numbers behind the first go on too
pub numbers-behind : (first : Entry) (entries : List Entry) → DoNumbersGoOn (first ∷ entries) → DoNumbersGoOn entries
numbers-behind first entries goes i one other at behind =
    let same : suc i + 1 ≡ suc (i + 1) = omega arith in
    goes (suc i) one other at (ap (slice_get (first ∷ entries)) same ∙ behind)

-- numbers that go on end with a number that is no less than the first
pub numbers-rise : (first : Entry) (entries : List Entry) → DoNumbersGoOn (first ∷ entries) → first.number ≤ last_number first.number entries
numbers-rise first [] goes = omega arith
numbers-rise first (e ∷ entries) goes = omega (arith, goes 0 first e refl refl, numbers-rise e entries (numbers-behind first (e ∷ entries) goes))

-- and that is above the one before
pub last-above : (last : ℕ) (entries : List Entry) → GoesOn last entries → DoNumbersGoOn entries → last < last_number last entries
last-above last [] goes on = absurd goes
last-above last (e ∷ entries) goes on = omega (arith, goes, numbers-rise e entries on)

-- the last number behind a body
pub Takes-last : (Kept : List Entry → List Entry → Type 0) (before : Found) (body : StoredBody) (after : Found) (takes : Takes Kept before body after)
    → after.last ≡ last_number before.last takes.entries_told
Takes-last Kept before body after takes = ap (λ (found : Found). found.last) takes.after_is

-- is greater than the one before it
pub Takes-later : (Kept : List Entry → List Entry → Type 0) (before : Found) (body : StoredBody) (after : Found) → Takes Kept before body after → before.last < after.last
Takes-later Kept before body after takes =
    omega (arith, Takes-last Kept before body after takes, last-above before.last takes.entries_told takes.goes_on takes.spells.frame.numbers)

pub TakesEach-later : (Kept : List StoredBody → List Entry → List Entry → Type 0) (before : Found) (bodies : List StoredBody) (after : Found)
    → TakesEach Kept before bodies after → before.last ≤ after.last
TakesEach-later Kept before [] after takes = omega (arith, ap (λ (found : Found). found.last) takes)
TakesEach-later Kept before (body ∷ bodies) after takes =
    omega (arith, Takes-later (Kept bodies) before body takes.0 takes.1, TakesEach-later Kept takes.0 bodies after takes.2)

-- two stores have one layout and one last number
abbrev pub SameCount : Found → Found → Type 0
SameCount one other = (one.layout ≡ other.layout) × (one.last ≡ other.last)

-- one body is taken behind both, and they still have, whatever is kept of it
pub Takes-same_count : (Kept Other : List Entry → List Entry → Type 0) (one other : Found) (body : StoredBody) (a b : Found) → IsSmall one → SameCount one other
    → Takes Kept one body a → Takes Other other body b → SameCount a b
Takes-same_count Kept Other one other body a b small same first second =
    let told : List Entry = second.entries_told in
    let spells : Spells (data_pages one.layout) body.bytes told = subst (λ (l : Layout). Spells (data_pages l) body.bytes told) (sym same.0) second.spells in
    let entries : first.entries_told ≡ told = Spells-one (data_pages one.layout) body.bytes first.entries_told told small first.spells spells in (
      Takes-layout Kept one body a first ∙ same.0 ∙ sym (Takes-layout Other other body b second),
      Takes-last Kept one body a first
          ∙ ap (λ (es : List Entry). last_number one.last es) entries
          ∙ ap (λ (n : ℕ). last_number n told) same.1
          ∙ sym (Takes-last Other other body b second),
    )

-- Behind more bodies the last number is greater, whatever is kept of each.
pub TakesEach-longer : (Kept Other : List StoredBody → List Entry → List Entry → Type 0) (one other : Found) (bodies : List StoredBody) (body : StoredBody)
    (more : List StoredBody) (a b : Found) → IsSmall one → SameCount one other → TakesEach Kept one bodies a → TakesEach Other other (bodies ++ body ∷ more) b → a.last < b.last
TakesEach-longer Kept Other one other [] body more a b small same few many =
    omega (
      arith,
      ap (λ (found : Found). found.last) few,
      same.1,
      Takes-later (Other more) other body many.0 many.1,
      TakesEach-later Other many.0 more b many.2,
    )
TakesEach-longer Kept Other one other (first ∷ bodies) body more a b small same few many =
    TakesEach-longer Kept Other few.0 many.0 bodies body more a b (Takes-small (Kept bodies) one first few.0 small few.1)
    (Takes-same_count (Kept bodies) (Other (bodies ++ body ∷ more)) one other first few.0 many.0 small same few.1 many.1) few.2 many.2

-- no gate is both open and closed
pub open-closed : (b : Bool) → IsTrue b → b ≡ false → ⊥
open-closed b opened closed = let wrong : true ≡ false = sym opened ∙ closed in absurd (cc wrong)

-- Bodies up to an open gate go on in those up to a closed one.
pub AreBodies-longer : (image : Image) (half from : ℕ) (bodies : List StoredBody) (to : ℕ) (all : List StoredBody) (end : ℕ) → AreBodies image half from bodies to
    → IsTrue (gate_is_open image half to) → AreBodies image half from all end → gate_is_open image half end ≡ false
    → (body : StoredBody) × ((more : List StoredBody) × (all ≡ bodies ++ body ∷ more))
AreBodies-longer image half from [] to [] end few opened many closed =
    let same : to ≡ end = sym few ∙ many in
    absurd (open-closed (gate_is_open image half end) (subst (λ (g : ℕ). IsTrue (gate_is_open image half g)) same opened) closed)
AreBodies-longer image half from [] to (body ∷ more) end few opened many closed = (body, (more, refl))
AreBodies-longer image half from (one ∷ bodies) to [] end few opened many closed =
    absurd (open-closed (gate_is_open image half end) (subst (λ (g : ℕ). IsTrue (gate_is_open image half g)) many few.1) closed)
AreBodies-longer image half from (one ∷ bodies) to (other ∷ all) end few opened many closed =
    let bytes : other.bytes ≡ one.bytes = IsBodyAt-one image half from other.bytes one.bytes many.2 few.2 in
    let page : other.page ≡ one.page = many.0 ∙ sym few.0 in
    let same : other ≡ one = ap (λ (xs : List ℕ). body_of other.page xs) bytes ∙ ap (λ (n : ℕ). body_of n one.bytes) page in
    let rest = AreBodies-longer image half (next_gate from (length one.bytes)) bodies to all end few.3 opened
    (subst (λ (xs : List ℕ). AreBodies image half (next_gate from (length xs)) all end) bytes many.3) closed in
    (rest.0, (rest.1.0, ap (λ (b : StoredBody). b ∷ all) same ∙ ap (λ (bs : List StoredBody). one ∷ bs) rest.1.1)) where
      body_of : ℕ → List ℕ → StoredBody
      body_of page bytes = record { page = page; bytes = bytes }
