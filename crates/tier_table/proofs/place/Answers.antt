-- The tier of a full page, from the logarithm of a quarter of its number.
use Rattle.std.proofs.Common.{◌≡◌, ℕ, ◌+◌, ◌-◌, ◌*◌, ◌/◌, ◌%◌, ◌^◌, ◌<◌, ◌≤◌, inl, inr, arith}
use Rattle.std.specs.Prelude.{min}
use Rattle.std.proofs.lemmas.Bool.{cases_lt}
use Rattle.std.proofs.lemmas.Nat.{div_below, pow_below, pow_pos}
use Rattle.store_model.specs.Shape.{LiesAt}
use Rattle.store_model.proofs.ShapeLaws.{LiesAt-tier, lt-held_by, held_by-all}
use Rattle.tier_table.proofs.place.Goals as goal

-- the tiers below the page's tier end before the page
begins : (page log : ℕ) → 2 ^ log ≤ page / 4 + 1 → 4 * 2 ^ min log 10 ≤ page + 4
begins page log low =
    elim (cases_lt 10 log) [
      | inl more ↦ (let last : min log 10 ≡ 10 = omega arith in rw last (omega (arith, pow_below 10 log more)))
      | inr less ↦ (let same : min log 10 ≡ log = omega arith in rw same (omega arith))
    ]

-- and the page stands in one of the four extents of its tier, unless that is the last
ends : (page log : ℕ) → page / 4 + 1 < 2 * 2 ^ log → min log 10 < 10 → (page + 4 - 4 * 2 ^ min log 10) / 2 ^ min log 10 < 4
ends page log high below =
    let same : min log 10 ≡ log = omega arith in
    rw same (div_below (page + 4 - 4 * 2 ^ log) (2 ^ log) 4 (pow_pos log) (omega arith))

-- where the page stands
placed : (page log : ℕ) → 2 ^ log ≤ page / 4 + 1 → page / 4 + 1 < 2 * 2 ^ log
    → LiesAt page (4 * min log 10 + (page + 4 - 4 * 2 ^ min log 10) / 2 ^ min log 10) ((page + 4 - 4 * 2 ^ min log 10) % 2 ^ min log 10)
placed page log low high =
    LiesAt-tier page (min log 10) (page + 4 - 4 * 2 ^ min log 10) (omega arith) (ends page log high) (omega (arith, begins page log low))

-- the extents before one hold no more than a page that stands in it has before it
extent-LiesAt : (page extent offset : ℕ) → page < 93180 → LiesAt page extent offset → extent < 127
extent-LiesAt page extent offset below lies = lt-held_by extent 127 (omega (arith, held_by-all, lies.at))

pub overflow_sub-rest : goal.overflow_sub-rest
overflow_sub-rest c = rw (c.tier_pages-pages.ensures, c.min-tier.ensures) (begins c.args.page c.ilog2.result c.ilog2.ensures.power_le)

pub returns-clause-place : goal.returns-clause-place
returns-clause-place c =
    rw (c.tier_pages-pages.ensures, c.min-tier.ensures) (placed c.args.page c.ilog2.result c.ilog2.ensures.power_le c.ilog2.ensures.next_power_gt)

pub returns-clause-within : goal.returns-clause-within
returns-clause-within c = extent-LiesAt c.args.page _ _ c.requires (returns-clause-place c)
