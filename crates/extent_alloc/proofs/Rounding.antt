-- Multiples.
use Rattle.std.proofs.Common.{◌≡◌, ℕ, ◌+◌, ◌-◌, ◌*◌, ◌/◌, ◌%◌, ◌<◌, ◌≤◌, arith}
use Rattle.std.proofs.Math.Nat.{div-lt_iff_lt-mul, mod-add-div', mul-le-mul_right}

-- Rounded up, a number isn't above a multiple that isn't below it.
pub rounded-least : (x step m : ℕ) → 0 < step → m % step ≡ 0 → x ≤ m → (x + step - 1) / step * step ≤ m
rounded-least x step m pos multiple le =
    let q : ℕ = m / step in
    let whole : q * step ≡ m = omega (arith, mod-add-div' m step, multiple) in
    let less : x + step - 1 < (q + 1) * step = omega (arith, whole, le, pos) in
    let most : (x + step - 1) / step < q + 1 = (div-lt_iff_lt-mul pos).1 less in
    let times : (x + step - 1) / step * step ≤ q * step = mul-le-mul_right step (omega (arith, most)) in
    omega (arith, times, whole)
