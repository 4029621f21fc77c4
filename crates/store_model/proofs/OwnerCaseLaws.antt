-- Blocks are apart, or there is a least page that is owned twice.
use Rattle.std.proofs.Common.{◌≡◌, ℕ, zero, suc, ◌<◌, ◌≤◌, ◌⊎◌, false, inl, inr, List, [], ◌∷◌, refl, arith, max}
use Rattle.std.proofs.lemmas.Bool.{cases_lt}
use Rattle.std.proofs.lemmas.Bool.Decides.{nat_tests}
use Rattle.store_model.specs.Space.{Apart, Block, IsLeastOwnedTwice, end_of, lies_in, owners}

-- a page behind a block doesn't lie in it
lies-not : (page : ℕ) (block : Block) → end_of block ≤ page → lies_in page block ≡ false
lies-not page block past = grind (arith, nat_tests, past)

-- from some page on none is owned
owners-end : (blocks : List Block) → (n : ℕ) × ((page : ℕ) → n ≤ page → owners blocks page ≡ 0)
owners-end [] = (0, λ page past. refl)
owners-end (block ∷ blocks) =
    let rest = owners-end blocks in
    (max (end_of block) rest.0, λ page past. rw (lies-not page block (omega (arith, past))) (rest.1 page (omega (arith, past))))

-- of the first so many pages none is owned twice, or one is the least that is
least-twice : (blocks : List Block) (n : ℕ) → ((page : ℕ) → page < n → owners blocks page ≤ 1) ⊎ ((page : ℕ) × IsLeastOwnedTwice blocks page)
least-twice blocks zero = inl (λ page below. absurd (omega (arith, below)))
least-twice blocks (suc n) =
    elim (least-twice blocks n) [
      | inr twice ↦ inr twice
      | inl before ↦ elim (cases_lt 1 (owners blocks n)) [
        | inl twice ↦ inr (n, record { twice = omega (arith, twice); least = before })
        | inr once ↦ inl (λ page below. elim (cases_lt page n) [
          | inl earlier ↦ before page earlier
          | inr here ↦ let same : page ≡ n = omega (arith, below, here) in rw same once
        ])
      ]
    ]

-- Blocks are apart, or one page is the least that two of them own.
pub Apart-or_twice : (blocks : List Block) → Apart blocks ⊎ ((page : ℕ) × IsLeastOwnedTwice blocks page)
Apart-or_twice blocks =
    let end = owners-end blocks in
    elim (least-twice blocks end.0) [
      | inr twice ↦ inr twice
      | inl once ↦ inl (λ page. elim (cases_lt page end.0) [
        | inl within ↦ once page within
        | inr past ↦ omega (arith, end.1 page past)
      ])
    ]
