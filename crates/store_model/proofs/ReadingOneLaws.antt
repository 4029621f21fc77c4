-- A disk has one reading at most: one store, or one reason why there is none.
use Rattle.std.proofs.Common.{◌≡◌, ℕ, ◌<◌, ◌≤◌, List, inl, inr, refl, sym, ap, subst, ◌∙◌, arith}
use Rattle.std.specs.FinMap.{FinMap}
use Rattle.std.proofs.lemmas.Bool.{cases_lt}
use Rattle.store_model.specs.Closing.{Refusal}
use Rattle.store_model.specs.Closing as why
use Rattle.store_model.specs.Disk.{Image}
use Rattle.store_model.specs.Half.{picked}
use Rattle.store_model.specs.HalfRefusals.{FindsHalf, HalfRefusal, RefusesHalf}
use Rattle.store_model.specs.HalfRefusals as half
use Rattle.store_model.specs.Key.{key_order}
use Rattle.store_model.specs.Layout.{Layout}
use Rattle.store_model.specs.LogReading.{StoredBody}
use Rattle.store_model.specs.Reading.{AreAllKept, Found, Gives, IsFirstBad, IsRefused, KeptIn, Opened, Reading, Reads, Refused, RefusesLog, TakesEach, blocks_of_states, least_pages}
use Rattle.store_model.specs.Space.{Apart, Block, IsLeastOwnedTwice}
use Rattle.store_model.specs.State.{State}
use Rattle.store_model.proofs.HalfRefusalLaws.{FindsHalf-not_refused, FindsHalf-one}
use Rattle.store_model.proofs.HalfRefusedLaws.{RefusesHalf-one}
use Rattle.store_model.proofs.LogReadingLaws.{HasBodies-not_lacks, HasBodies-one, LacksBody-one}
use Rattle.store_model.proofs.ReadingLaws.{AreAllKept-one, IsFirstBad-one, IsSmall, KeptIn-one, TakesEach-none_bad, TakesEach-one}

-- a half starts with this
abbrev pub Starts : ℕ → Image → ℕ → Found → Type 0
Starts pages image half found = FindsHalf pages image half found.layout found.last found.states

found-is : (a b : Found) → a.layout ≡ b.layout → a.last ≡ b.last → a.states ≡ b.states → a ≡ b
found-is a b layout last states =
    ap (λ (l : Layout). found_with l a.last a.states) layout
    ∙ ap (λ (n : ℕ). found_with b.layout n a.states) last
    ∙ ap (λ (m : FinMap key_order State). found_with b.layout b.last m) states where
      found_with : Layout → ℕ → FinMap key_order State → Found
      found_with l n m = record { layout = l; last = n; states = m }

pub start-one : (pages : ℕ) (image : Image) (h : ℕ) (a b : Found) → Starts pages image h a → Starts pages image h b → a ≡ b
start-one pages image h a b one other =
    let same = FindsHalf-one pages image h a.layout b.layout a.last b.last a.states b.states one other in
    found-is a b same.0 same.1 same.2

pub start-small : (pages : ℕ) (image : Image) (h : ℕ) (found : Found) → Starts pages image h found → IsSmall found
start-small pages image h found starts = omega (arith, starts.spells.half.sound.most_units)

start-fits : (pages : ℕ) (image : Image) (h : ℕ) (found : Found) → Starts pages image h found → least_pages ≤ pages
start-fits pages image h found starts = omega (arith, starts.fits, starts.spells.half.sound.some_units, starts.spells.half.sound.some_room)

-- a store is found once
pub Gives-one : (pages : ℕ) (image : Image) (a b : Found) → Gives pages image a → Gives pages image b → a ≡ b
Gives-one pages image a b one other =
    let h : ℕ = picked (image 0) in
    let start : one.start ≡ other.start = start-one pages image h one.start other.start one.finds other.finds in
    let log : one.bodies ≡ other.bodies = (HasBodies-one image h one.bodies other.bodies one.gate other.gate one.log other.log).0 in
    let moved : TakesEach (KeptIn image other.start.layout) other.start one.bodies a =
    subst (λ (found : Found). TakesEach (KeptIn image found.layout) found one.bodies a) start one.takes in
    let mine : TakesEach (KeptIn image other.start.layout) other.start other.bodies a =
    subst (λ (bodies : List StoredBody). TakesEach (KeptIn image other.start.layout) other.start bodies a) log moved in
    TakesEach-one (KeptIn image other.start.layout) other.start other.bodies a b (KeptIn-one image other.start.layout) (start-small pages image h other.start other.finds) mine other.takes

-- a log is refused at one gate
pub RefusesLog-one : (image : Image) (h : ℕ) (start : Found) (p q : ℕ) → IsSmall start → RefusesLog image h start p → RefusesLog image h start q → p ≡ q
RefusesLog-one image h start p q small (inl one) (inl other) =
    let same : one.0 ≡ other.0 = (HasBodies-one image h one.0 other.0 one.1.0 other.1.0 one.1.1.0 other.1.1.0).0 in
    IsFirstBad-one (KeptIn image start.layout) start other.0 p q (KeptIn-one image start.layout) small
    (subst (λ (bodies : List StoredBody). IsFirstBad (KeptIn image start.layout) start bodies p) same one.1.1.1) other.1.1.1
RefusesLog-one image h start p q small (inl one) (inr other) = absurd (HasBodies-not_lacks image h one.0 other.0 one.1.0 other.1.0 one.1.1.0 other.1.1.0)
RefusesLog-one image h start p q small (inr one) (inl other) = absurd (HasBodies-not_lacks image h other.0 one.0 other.1.0 one.1.0 other.1.1.0 one.1.1.0)
RefusesLog-one image h start p q small (inr one) (inr other) =
    let same = LacksBody-one image h one.0 other.0 one.1.0 other.1.0 one.1.1.0 other.1.1.0 in
    elim one.1.1.1 [
      | inl mine ↦ (
          let moved : IsFirstBad (λ _. AreAllKept) start other.0 p = subst (λ (bodies : List StoredBody). IsFirstBad (λ _. AreAllKept) start bodies p) same.0 mine in
          elim other.1.1.1 [
            | inl yours ↦ IsFirstBad-one (λ _. AreAllKept) start other.0 p q (λ bodies. AreAllKept-one) small moved yours
            | inr yours ↦ absurd (TakesEach-none_bad (λ _. AreAllKept) start yours.0.0 other.0 p (λ bodies. AreAllKept-one) small yours.0.1 moved)
          ])
      | inr mine ↦ elim other.1.1.1 [
        | inl yours ↦ (
            let moved : TakesEach (λ _. AreAllKept) start other.0 mine.0.0 = subst (λ (bodies : List StoredBody). TakesEach (λ _. AreAllKept) start bodies mine.0.0) same.0 mine.0.1 in
            absurd (TakesEach-none_bad (λ _. AreAllKept) start mine.0.0 other.0 q (λ bodies. AreAllKept-one) small moved yours))
        | inr yours ↦ mine.1 ∙ same.1 ∙ sym yours.1
      ]
    ]

-- and not where a store is found
pub Gives-log_stands : (pages : ℕ) (image : Image) (found start : Found) (p : ℕ) → Gives pages image found → Starts pages image (picked (image 0)) start
    → RefusesLog image (picked (image 0)) start p → ⊥
Gives-log_stands pages image found start p gives starts refuses =
    let h : ℕ = picked (image 0) in
    let same : gives.start ≡ start = start-one pages image h gives.start start gives.finds starts in
    let takes : TakesEach (KeptIn image start.layout) start gives.bodies found =
    subst (λ (one : Found). TakesEach (KeptIn image one.layout) one gives.bodies found) same gives.takes in
    elim refuses [
      | inl bad ↦ (
          let log : gives.bodies ≡ bad.0 = (HasBodies-one image h gives.bodies bad.0 gives.gate bad.1.0 gives.log bad.1.1.0).0 in
          TakesEach-none_bad (KeptIn image start.layout) start found bad.0 p (KeptIn-one image start.layout) (start-small pages image h start starts)
          (subst (λ (bodies : List StoredBody). TakesEach (KeptIn image start.layout) start bodies found) log takes) bad.1.1.1)
      | inr lacks ↦ HasBodies-not_lacks image h gives.bodies lacks.0 gives.gate lacks.1.0 gives.log lacks.1.1.0
    ]

-- one page is the least
twice-one : (blocks : List Block) (p q : ℕ) → IsLeastOwnedTwice blocks p → IsLeastOwnedTwice blocks q → p ≡ q
twice-one blocks p q one other = elim (cases_lt p q) [
  | inl less ↦ absurd (omega (arith, one.twice, other.least p less))
  | inr from ↦ elim (cases_lt q p) [
    | inl less ↦ absurd (omega (arith, other.twice, one.least q less))
    | inr to ↦ omega (arith, from, to)
  ]
]

-- a half's refusal, as one of the disk
abbrev of_half : ℕ → HalfRefusal → Refusal
of_half h (half.TooSmall need have) = why.TooSmall need have
of_half h (half.BadHalf at) = why.BadHalf h at
of_half h (half.BadTuple at) = why.BadTuple h at

-- The stages at which a disk is refused.
data Stage (pages : ℕ) (image : Image) (refusal : Refusal) : Type 0 where
  AtPages : pages < least_pages → refusal ≡ why.TooSmall least_pages pages → Stage pages image refusal
  AtHalf : (r : HalfRefusal) → least_pages ≤ pages → RefusesHalf pages image (picked (image 0)) r → refusal ≡ of_half (picked (image 0)) r → Stage pages image refusal
  AtLog : (start : Found) (page : ℕ) → Starts pages image (picked (image 0)) start → RefusesLog image (picked (image 0)) start page
      → refusal ≡ why.BadFrame (picked (image 0)) page → Stage pages image refusal
  AtSpace : (found : Found) (page : ℕ) → Gives pages image found → IsLeastOwnedTwice (blocks_of_states found.states) page → refusal ≡ why.OwnedTwice page
      → Stage pages image refusal

stage-of : (pages : ℕ) (image : Image) (refusal : Refusal) → IsRefused pages image refusal → Stage pages image refusal
stage-of pages image (why.TooSmall need have) (inl few) = AtPages few.0 (ap (λ (n : ℕ). why.TooSmall n have) few.1 ∙ ap (λ (n : ℕ). why.TooSmall least_pages n) few.2)
stage-of pages image (why.TooSmall need have) (inr refused) = AtHalf (half.TooSmall need have) refused.0 refused.2 refl
stage-of pages image (why.BadHalf h at) refused =
    AtHalf (half.BadHalf at) refused.0 (subst (λ (n : ℕ). RefusesHalf pages image n (half.BadHalf at)) refused.1 refused.2) (ap (λ (n : ℕ). why.BadHalf n at) refused.1)
stage-of pages image (why.BadTuple h at) refused =
    AtHalf (half.BadTuple at) refused.0 (subst (λ (n : ℕ). RefusesHalf pages image n (half.BadTuple at)) refused.1 refused.2) (ap (λ (n : ℕ). why.BadTuple n at) refused.1)
stage-of pages image (why.BadFrame h page) refused =
    AtLog refused.1.0 page (subst (λ (n : ℕ). Starts pages image n refused.1.0) refused.0 refused.1.1.0)
    (subst (λ (n : ℕ). RefusesLog image n refused.1.0 page) refused.0 refused.1.1.1) (ap (λ (n : ℕ). why.BadFrame n page) refused.0)
stage-of pages image (why.OwnedTwice page) refused = AtSpace refused.0 page refused.1.0 refused.1.1 refl

gives-fits : (pages : ℕ) (image : Image) (found : Found) → Gives pages image found → least_pages ≤ pages
gives-fits pages image found gives = start-fits pages image (picked (image 0)) gives.start gives.finds

-- A disk is refused for one reason.
stage-one : (pages : ℕ) (image : Image) (a b : Refusal) → Stage pages image a → Stage pages image b → a ≡ b
stage-one pages image a b (AtPages few is) (AtPages less are) = is ∙ sym are
stage-one pages image a b (AtPages few is) (AtHalf r enough refused are) = absurd (omega (arith, few, enough))
stage-one pages image a b (AtPages few is) (AtLog start page starts refused are) = absurd (omega (arith, few, start-fits pages image (picked (image 0)) start starts))
stage-one pages image a b (AtPages few is) (AtSpace found page gives twice are) = absurd (omega (arith, few, gives-fits pages image found gives))
stage-one pages image a b (AtHalf r enough refused is) (AtPages less are) = absurd (omega (arith, less, enough))
stage-one pages image a b (AtHalf r enough refused is) (AtHalf s most other are) =
    is ∙ ap (of_half (picked (image 0))) (RefusesHalf-one pages image (picked (image 0)) r s refused other) ∙ sym are
stage-one pages image a b (AtHalf r enough refused is) (AtLog start page starts other are) =
    absurd (FindsHalf-not_refused pages image (picked (image 0)) start.layout start.last start.states r starts refused)
stage-one pages image a b (AtHalf r enough refused is) (AtSpace found page gives twice are) =
    absurd (FindsHalf-not_refused pages image (picked (image 0)) gives.start.layout gives.start.last gives.start.states r gives.finds refused)
stage-one pages image a b (AtLog start page starts refused is) (AtPages less are) = absurd (omega (arith, less, start-fits pages image (picked (image 0)) start starts))
stage-one pages image a b (AtLog start page starts refused is) (AtHalf s most other are) =
    absurd (FindsHalf-not_refused pages image (picked (image 0)) start.layout start.last start.states s starts other)
stage-one pages image a b (AtLog start page starts refused is) (AtLog begin gate begins other are) =
    let same : start ≡ begin = start-one pages image (picked (image 0)) start begin starts begins in
    is ∙ ap (λ (n : ℕ). why.BadFrame (picked (image 0)) n)
    (RefusesLog-one image (picked (image 0)) begin page gate (start-small pages image (picked (image 0)) begin begins)
    (subst (λ (found : Found). RefusesLog image (picked (image 0)) found page) same refused) other) ∙ sym are
stage-one pages image a b (AtLog start page starts refused is) (AtSpace found twice_page gives twice are) =
    absurd (Gives-log_stands pages image found start page gives starts refused)
stage-one pages image a b (AtSpace found page gives twice is) (AtPages less are) = absurd (omega (arith, less, gives-fits pages image found gives))
stage-one pages image a b (AtSpace found page gives twice is) (AtHalf s most other are) =
    absurd (FindsHalf-not_refused pages image (picked (image 0)) gives.start.layout gives.start.last gives.start.states s gives.finds other)
stage-one pages image a b (AtSpace found page gives twice is) (AtLog begin gate begins other are) =
    absurd (Gives-log_stands pages image found begin gate gives begins other)
stage-one pages image a b (AtSpace found page gives twice is) (AtSpace store place had again are) =
    let same : found ≡ store = Gives-one pages image found store gives had in
    is ∙ ap why.OwnedTwice (twice-one (blocks_of_states store.states) page place
    (subst (λ (one : Found). IsLeastOwnedTwice (blocks_of_states one.states) page) same twice) again) ∙ sym are

-- and not where it is opened
opened-not : (pages : ℕ) (image : Image) (found : Found) (refusal : Refusal) → Gives pages image found → Apart (blocks_of_states found.states) → Stage pages image refusal → ⊥
opened-not pages image found refusal gives apart (AtPages few is) = omega (arith, few, gives-fits pages image found gives)
opened-not pages image found refusal gives apart (AtHalf r enough refused is) =
    FindsHalf-not_refused pages image (picked (image 0)) gives.start.layout gives.start.last gives.start.states r gives.finds refused
opened-not pages image found refusal gives apart (AtLog start page starts refused is) = Gives-log_stands pages image found start page gives starts refused
opened-not pages image found refusal gives apart (AtSpace other page had twice is) =
    let same : other ≡ found = Gives-one pages image other found had gives in
    omega (arith, apart page, (subst (λ (one : Found). IsLeastOwnedTwice (blocks_of_states one.states) page) same twice).twice)

-- A disk has one reading.
pub Reads-one : (pages : ℕ) (image : Image) (a b : Reading) → Reads pages image a → Reads pages image b → a ≡ b
Reads-one pages image (Refused a) (Refused b) one other = ap Refused (stage-one pages image a b (stage-of pages image a one) (stage-of pages image b other))
Reads-one pages image (Refused a) (Opened b) one other = absurd (opened-not pages image b a other.0 other.1 (stage-of pages image a one))
Reads-one pages image (Opened a) (Refused b) one other = absurd (opened-not pages image a b one.0 one.1 (stage-of pages image b other))
Reads-one pages image (Opened a) (Opened b) one other = ap Opened (Gives-one pages image a b one.0 other.0)
