-- Laws of tiers and shapes: what the first extents hold, tier by tier, and where a full page stands.
use Rattle.std.proofs.Common.{◌≡◌, ℕ, zero, suc, ◌+◌, ◌-◌, ◌*◌, ◌/◌, ◌%◌, ◌^◌, ◌<◌, ◌≤◌, ◌⊎◌, inl, inr, refl, ap, arith, add-one}
use Rattle.std.proofs.lemmas.Bool.{cases_lt, cases_order}
use Rattle.std.proofs.lemmas.Nat.{pow_pos, mod_below, div-add-mod'}
use Rattle.std.proofs.Math.Nat.{pow-suc}
use Rattle.store_model.specs.Disk.{page_bytes}
use Rattle.store_model.specs.Shape.{tier_of, pages_of_extent, held_by, greatest_size, Shape, HasShape, LiesAt, UsesExtent}

-- one more extent
pub held_by-next : (n : ℕ) → held_by (n + 1) ≡ held_by n + pages_of_extent n
unfolding held_by
held_by-next n = rw add-one refl

-- one more extent, of the tier of the last
held-same_tier : (held count pages : ℕ) → held + 4 ≡ count * pages → held + pages + 4 ≡ (count + 1) * pages
held-same_tier held count pages before = omega arith

-- one more extent, the fourth of its tier
held-next_tier : (held tier : ℕ) → held + 4 ≡ 7 * 2 ^ tier → held + 2 ^ tier + 4 ≡ 4 * 2 ^ (tier + 1)
held-next_tier held tier before = rw (add-one, pow-suc) (omega arith)

-- the next extent is of the same tier, or begins the next one
tier_of-next : (i : ℕ) → (tier_of (i + 1) ≡ tier_of i) ⊎ ((tier_of (i + 1) ≡ tier_of i + 1) × (i ≡ 4 * tier_of i + 3))
tier_of-next i = grind arith

-- what one more extent makes of the sum, of the same tier and of the next
held_by-same_tier : (i held : ℕ) → held + 4 ≡ (i + 4 - 4 * tier_of i) * 2 ^ tier_of i → tier_of (i + 1) ≡ tier_of i
    → held + 2 ^ tier_of i + 4 ≡ (i + 1 + 4 - 4 * tier_of (i + 1)) * 2 ^ tier_of (i + 1)
held_by-same_tier i held before same =
    let count : i + 1 + 4 - 4 * tier_of i ≡ i + 4 - 4 * tier_of i + 1 = omega arith in
    rw (same, count) (held-same_tier held (i + 4 - 4 * tier_of i) (2 ^ tier_of i) before)

held_by-next_tier : (i held : ℕ) → held + 4 ≡ (i + 4 - 4 * tier_of i) * 2 ^ tier_of i → tier_of (i + 1) ≡ tier_of i + 1
    → i ≡ 4 * tier_of i + 3 → held + 2 ^ tier_of i + 4 ≡ (i + 1 + 4 - 4 * tier_of (i + 1)) * 2 ^ tier_of (i + 1)
held_by-next_tier i held before next last =
    let seven : i + 4 - 4 * tier_of i ≡ 7 = omega arith in
    let four : i + 1 + 4 - 4 * (tier_of i + 1) ≡ 4 = omega arith in
    rw (next, four) (held-next_tier held (tier_of i) (rw seven at before))

-- What the first extents hold: the tiers below hold 4 * (2 ^ tier - 1) pages, and each further extent 2 ^ tier.
pub held_by-tier : (i : ℕ) → held_by i + 4 ≡ (i + 4 - 4 * tier_of i) * 2 ^ tier_of i
unfolding held_by
held_by-tier zero = refl
held_by-tier (suc i) = rw (← (add-one i)) (
    elim (tier_of-next i) [
      | inl same ↦ held_by-same_tier i (held_by i) (held_by-tier i) same
      | inr next ↦ held_by-next_tier i (held_by i) (held_by-tier i) next.0 next.1
    ])

-- more extents hold no less
pub held_by-mono : (m n : ℕ) → m ≤ n → held_by m ≤ held_by n
held_by-mono m zero below = rw (let none : m ≡ 0 = omega arith in none) (omega arith)
held_by-mono m (suc n) below = rw (← (add-one n)) (
    elim (cases_lt m (suc n)) [
      | inl less ↦ omega (arith, held_by-mono m n (omega arith), held_by-next n)
      | inr all ↦ (let same : m ≡ n + 1 = omega arith in rw same (omega arith))
    ])

-- any number of extents holds more than each smaller one
pub held_by-lt : (m n : ℕ) → m < n → held_by m < held_by n
held_by-lt m n below =
    let next : held_by (m + 1) ≤ held_by n = held_by-mono (m + 1) n (omega arith) in
    omega (arith, held_by-next m, pow_pos (tier_of m))

-- what holds less is fewer
pub lt-held_by : (m n : ℕ) → held_by m < held_by n → m < n
lt-held_by m n less =
    elim (cases_lt m n) [ inl below ↦ below | inr past ↦ absurd (omega (arith, held_by-mono n m past)) ]

-- all the extents together
pub held_by-all : held_by 127 ≡ 93180
held_by-all = omega (arith, held_by-tier 127)

-- the greatest size fills all the extents, and has the longest tail
pub greatest_size-pages : greatest_size ≡ page_bytes * held_by 127 + (page_bytes - 1)
greatest_size-pages = omega (arith, held_by-all)

-- an extent's tier, from the number of extents of that tier before it
tier_of-within : (tier before : ℕ) → tier ≤ 10 → (tier < 10 → before < 4) → tier_of (4 * tier + before) ≡ tier
tier_of-within tier before most within = grind arith

-- where a full page stands, from the tier that holds it and the pages of that tier before it
pub LiesAt-tier : (page tier rest : ℕ) → tier ≤ 10 → (tier < 10 → rest / 2 ^ tier < 4) → page + 4 ≡ 4 * 2 ^ tier + rest
    → LiesAt page (4 * tier + rest / 2 ^ tier) (rest % 2 ^ tier)
LiesAt-tier page tier rest most within at =
    let same : tier_of (4 * tier + rest / 2 ^ tier) ≡ tier = tier_of-within tier (rest / 2 ^ tier) most within in
    let count : 4 * tier + rest / 2 ^ tier + 4 - 4 * tier ≡ rest / 2 ^ tier + 4 = omega arith in
    let held : held_by (4 * tier + rest / 2 ^ tier) + 4 ≡ (rest / 2 ^ tier + 4) * 2 ^ tier = rw (same, count) at (held_by-tier (4 * tier + rest / 2 ^ tier)) in
    record {
      at = omega (arith, div-add-mod' rest (2 ^ tier));
      within = rw same (mod_below rest (2 ^ tier) (pow_pos tier));
    }

-- a full page stands before the end of its extent
pub held_by-LiesAt : (page extent offset : ℕ) → LiesAt page extent offset → page < held_by (extent + 1)
held_by-LiesAt page extent offset lies = omega (arith, held_by-next extent, lies.at, lies.within)

-- a full page stands in one place
pub LiesAt-unique : (page e f o p : ℕ) → LiesAt page e o → LiesAt page f p → (e ≡ f) × (o ≡ p)
LiesAt-unique page e f o p one other =
    elim (cases_order e f) [
      | inl same ↦ (same, omega (arith, ap held_by same, one.at, other.at))
      | inr (inl less) ↦ absurd (omega (arith, held_by-LiesAt page e o one, held_by-mono (e + 1) f (omega arith), other.at))
      | inr (inr more) ↦ absurd (omega (arith, held_by-LiesAt page f p other, held_by-mono (f + 1) e (omega arith), one.at))
    ]

-- the extents of a size are those below the number in its shape
pub UsesExtent-HasShape : (size i : ℕ) (shape : Shape) → HasShape size shape → i < shape.extents → UsesExtent size i
UsesExtent-HasShape size i shape has below = omega (arith, has.least i below, has.full)

pub extents-UsesExtent : (size i : ℕ) (shape : Shape) → HasShape size shape → UsesExtent size i → i < shape.extents
extents-UsesExtent size i shape has uses =
    elim (cases_lt i shape.extents) [
      | inl below ↦ below
      | inr past ↦ absurd (omega (arith, held_by-mono shape.extents i past, has.held, has.full))
    ]

-- any number of extents that holds the full pages is no less than that of the shape
pub extents-HasShape : (size n : ℕ) (shape : Shape) → HasShape size shape → shape.full ≤ held_by n → shape.extents ≤ n
extents-HasShape size n shape has holds =
    elim (cases_lt n shape.extents) [
      | inl below ↦ absurd (omega (arith, has.least n below))
      | inr enough ↦ enough
    ]
