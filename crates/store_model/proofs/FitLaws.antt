-- The least free place, as a test and as a fact.
use Rattle.std.proofs.Common.{◌≡◌, ℕ, zero, suc, ◌+◌, ◌%◌, ◌==◌, ◌<◌, ◌≤◌, Bool, true, false, not, ◌&&◌, cond, List, [], ◌∷◌, Option, Some, None, refl, sym, ◌∙◌, ap, subst, arith, inl, inr, max}
use Rattle.std.specs.Prelude.{nat_le, nat_lt}
use Rattle.std.specs.List.{list_all, position_from, range_with_len}
use Rattle.std.proofs.lemmas.Bool.{cases_Bool, cases_lt, cases_order, eqb-true}
use Rattle.std.proofs.lemmas.Iterator.Adapters.{position_from-zero}
use Rattle.std.proofs.lemmas.Bool.Decides.{nat_tests}
use Rattle.std.proofs.lemmas.Nat.{pow_pos}
use Rattle.store_model.specs.Shape.{pages_of_tier}
use Rattle.store_model.specs.Space.{Block, Fit, IsFree, end_of, lies_in, owners}
use Rattle.store_model.specs.Places.{do_meet, fit, is_free}

and-first : (a b : Bool) → a && b ≡ true → a ≡ true
and-first true b both = refl
and-first false b both = both

and-second : (a b : Bool) → a && b ≡ true → b ≡ true
and-second true b both = both
and-second false b both = absurd (cc both)

and-both : (a b : Bool) → a ≡ true → b ≡ true → a && b ≡ true
and-both true b one other = other
and-both false b one other = one

-- a page in both of two blocks that meet
lies-both : (one other : Block) → do_meet one other ≡ true → (page : ℕ) × (lies_in page one ≡ true) × (lies_in page other ≡ true)
lies-both one other meet =
    let some : 0 < pages_of_tier one.1 = pow_pos one.1 in
    let more : 0 < pages_of_tier other.1 = pow_pos other.1 in
    let before : nat_lt one.0 (end_of other) ≡ true = and-first (nat_lt one.0 (end_of other)) (nat_lt other.0 (end_of one)) meet in
    let behind : nat_lt other.0 (end_of one) ≡ true = and-second (nat_lt one.0 (end_of other)) (nat_lt other.0 (end_of one)) meet in
    (max one.0 other.0, grind (arith, nat_tests, some, more, before, behind), grind (arith, nat_tests, some, more, before, behind))

-- two blocks with a page in both meet
meet-lies : (one other : Block) (page : ℕ) → lies_in page one ≡ true → lies_in page other ≡ true → do_meet one other ≡ true
meet-lies one other page first second = grind (arith, nat_tests)

-- what is owned has no page in a block exactly where none of it meets the block
clear-owners : (owned : List Block) (block : Block) → list_all (λ one. not (do_meet one block)) owned ≡ true → (page : ℕ) → lies_in page block ≡ true → owners owned page ≡ 0
clear-owners [] block clear page lies = refl
clear-owners (one ∷ owned) block clear page lies =
    let here : not (do_meet one block) ≡ true = and-first (not (do_meet one block)) (list_all (λ other. not (do_meet other block)) owned) clear in
    let rest = clear-owners owned block (and-second (not (do_meet one block)) (list_all (λ other. not (do_meet other block)) owned) clear) page lies in
    elim (cases_Bool (lies_in page one)) [
      | inl inside ↦ let met = meet-lies one block page inside lies in let wrong : not true ≡ true = ap not (sym met) ∙ here in absurd (cc wrong)
      | inr outside ↦ rw outside rest
    ]

fewer : (b : Bool) (n : ℕ) → cond b (1 + n) n ≡ 0 → n ≡ 0
fewer true n none = absurd (omega (arith, none))
fewer false n none = none

owners-clear : (owned : List Block) (block : Block) → ((page : ℕ) → lies_in page block ≡ true → owners owned page ≡ 0) → list_all (λ one. not (do_meet one block)) owned ≡ true
owners-clear [] block clear = refl
owners-clear (one ∷ owned) block clear =
    and-both (not (do_meet one block)) (list_all (λ other. not (do_meet other block)) owned)
    (elim (cases_Bool (do_meet one block)) [
      | inl met ↦
          let page = lies-both one block met in
          let none : owners (one ∷ owned) page.0 ≡ 0 = clear page.0 page.2 in
          let some : owners (one ∷ owned) page.0 ≡ 1 + owners owned page.0 = ap (λ b. cond b (1 + owners owned page.0) (owners owned page.0)) page.1 in
          absurd (omega (arith, none, some))
      | inr apart ↦ ap not apart
    ])
    (owners-clear owned block (λ page lies. fewer (lies_in page one) (owners owned page) (clear page lies)))

-- what a search through numbers finds: the least that passes, or that none does
record IsLeast (test : ℕ → Bool) (from to found : ℕ) : Type 0 where
  least : from ≤ found
  below : found < to
  passes : test found ≡ true
  before : (j : ℕ) → from ≤ j → j < found → test j ≡ false

abbrev Finds : (ℕ → Bool) → ℕ → ℕ → Option ℕ → Type 0
Finds test from to None = (j : ℕ) → from ≤ j → j < to → test j ≡ false
Finds test from to (Some found) = IsLeast test from to found

finds-more : (test : ℕ → Bool) (from to : ℕ) (o : Option ℕ) → test from ≡ false → Finds test (from + 1) to o → Finds test from to o
finds-more test from to None fails rest = λ j le less. elim (cases_lt from j) [
  | inl later ↦ rest j (omega (arith, later)) less
  | inr most ↦ let same : from ≡ j = omega (arith, le, most) in ap test (sym same) ∙ fails
]
finds-more test from to (Some found) fails rest = record {
  least = omega (arith, rest.least);
  below = rest.below;
  passes = rest.passes;
  before = λ j le less. elim (cases_lt from j) [
    | inl later ↦ rest.before j (omega (arith, later)) less
    | inr most ↦ let same : from ≡ j = omega (arith, le, most) in ap test (sym same) ∙ fails
  ];
}

search-range : (test : ℕ → Bool) (from n : ℕ) → Finds test from (from + n) (position_from test from (range_with_len from n))
search-range test from zero = λ j le less. absurd (omega (arith, le, less))
search-range test from (suc n) =
    let to : from + 1 + n ≡ from + suc n = omega arith in
    let rest = subst (λ (m : ℕ). Finds test (from + 1) m (position_from test (from + 1) (range_with_len (from + 1) n))) to (search-range test (from + 1) n) in
    elim (cases_Bool (test from)) [
      | inl passes ↦ subst (λ b. Finds test from (from + suc n) (cond b (Some from) (position_from test (from + 1) (range_with_len (from + 1) n)))) (sym passes)
          (record { least = omega arith; below = omega arith; passes = passes; before = λ j le less. absurd (omega (arith, le, less)) })
      | inr fails ↦ subst (λ b. Finds test from (from + suc n) (cond b (Some from) (position_from test (from + 1) (range_with_len (from + 1) n)))) (sym fails)
          (finds-more test from (from + suc n) (position_from test (from + 1) (range_with_len (from + 1) n)) fails rest)
    ]

within : {m n : ℕ} → nat_le m n ≡ true → m ≤ n
within {m = m} {n = n} le = grind (arith, nat_tests)

told : {m n : ℕ} → m ≤ n → nat_le m n ≡ true
told {m = m} {n = n} le = grind (arith, nat_tests)

-- the test of a free place tells it
pub IsFree-is_free : (owned : List Block) (tier pages head : ℕ) → is_free owned tier pages head ≡ true → IsFree owned tier pages head
IsFree-is_free owned tier pages head free =
    let rest = and-second (head % pages_of_tier tier == 0) (nat_le (end_of (head, tier)) pages && list_all (λ one. not (do_meet one (head, tier))) owned) free in
    record {
      aligned = eqb-true (head % pages_of_tier tier) 0 (and-first (head % pages_of_tier tier == 0) (nat_le (end_of (head, tier)) pages && list_all (λ one. not (do_meet one (head, tier))) owned) free);
      within = within (and-first (nat_le (end_of (head, tier)) pages) (list_all (λ one. not (do_meet one (head, tier))) owned) rest);
      clear = clear-owners owned (head, tier) (and-second (nat_le (end_of (head, tier)) pages) (list_all (λ one. not (do_meet one (head, tier))) owned) rest);
    }

pub is_free-IsFree : (owned : List Block) (tier pages head : ℕ) → IsFree owned tier pages head → is_free owned tier pages head ≡ true
is_free-IsFree owned tier pages head free =
    and-both (head % pages_of_tier tier == 0) (nat_le (end_of (head, tier)) pages && list_all (λ one. not (do_meet one (head, tier))) owned)
    (ap (λ n. n == 0) free.aligned)
    (and-both (nat_le (end_of (head, tier)) pages) (list_all (λ one. not (do_meet one (head, tier))) owned) (told free.within) (owners-clear owned (head, tier) free.clear))

not-passed : (b : Bool) → b ≡ false → b ≡ true → ⊥
not-passed b fails passes = let wrong : false ≡ true = sym fails ∙ passes in absurd (cc wrong)

Fit-finds : (owned : List Block) (tier pages : ℕ) (o : Option ℕ) → Finds (is_free owned tier pages) 0 pages o → Fit owned tier pages o
Fit-finds owned tier pages None none = λ head free.
    let some : 0 < pages_of_tier tier = pow_pos tier in
    not-passed (is_free owned tier pages head) (none head (omega arith) (omega (arith, free.within, some))) (is_free-IsFree owned tier pages head free)
Fit-finds owned tier pages (Some head) found = record {
  free = IsFree-is_free owned tier pages head found.passes;
  least = λ other less free. not-passed (is_free owned tier pages other) (found.before other (omega arith) less) (is_free-IsFree owned tier pages other free);
}

-- what the definition of places takes is the least free place, or there is none
pub Fit-fit : (owned : List Block) (tier pages : ℕ) → Fit owned tier pages (fit owned tier pages)
Fit-fit owned tier pages =
    let all : 0 + pages ≡ pages = omega arith in
    subst (Fit owned tier pages) (sym (position_from-zero (is_free owned tier pages) (range_with_len 0 pages)))
    (Fit-finds owned tier pages (position_from (is_free owned tier pages) 0 (range_with_len 0 pages)) (subst (λ (to : ℕ). Finds (is_free owned tier pages) 0 to (position_from (is_free owned tier pages) 0 (range_with_len 0 pages))) all (search-range (is_free owned tier pages) 0 pages)))

-- and there is one such answer
pub Fit-unique : (owned : List Block) (tier pages : ℕ) (one other : Option ℕ) → Fit owned tier pages one → Fit owned tier pages other → one ≡ other
Fit-unique owned tier pages None None first second = refl
Fit-unique owned tier pages None (Some head) first second = absurd (first head second.free)
Fit-unique owned tier pages (Some head) None first second = absurd (second head first.free)
Fit-unique owned tier pages (Some one) (Some other) first second = elim (cases_order one other) [
  | inl same ↦ ap Some same
  | inr (inl less) ↦ absurd (second.least one less first.free)
  | inr (inr less) ↦ absurd (first.least other less second.free)
]
