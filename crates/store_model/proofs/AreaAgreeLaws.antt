-- Areas of two images are the same where their pages are.
use Rattle.std.proofs.Common.{◌≡◌, ℕ, zero, suc, ◌+◌, ◌-◌, ◌*◌, ◌<◌, ◌≤◌, List, ◌++◌, take, refl, sym, ap, ◌∙◌, subst, arith}
use Rattle.std.specs.List.{flat_map, range_with_len}
use Rattle.std.proofs.lemmas.List.{take-append-le}
use Rattle.std.proofs.lemmas.List.Concat.{flat_map-cons}
use Rattle.store_model.specs.Disk.{HasPages, Image, area_of, page_bytes}
use Rattle.store_model.proofs.AreaLaws.{area-split, length-area, take-area}

-- pages that are read in two ways give the same bytes where each gives the same
pub pages-agree : (f g : ℕ → List ℕ) (from n : ℕ) → ((k : ℕ) → k < n → g (from + k) ≡ f (from + k))
    → flat_map g (range_with_len from n) ≡ flat_map f (range_with_len from n)
pages-agree f g from zero same = refl
pages-agree f g from (suc n) same =
    let here : g from ≡ f from = subst (λ (p : ℕ). g p ≡ f p) (let e : from + 0 ≡ from = omega arith in e) (same 0 (omega arith)) in
    let rest = pages-agree f g (from + 1) n (λ k less.
    subst (λ (p : ℕ). g p ≡ f p) (let e : from + (k + 1) ≡ from + 1 + k = omega arith in e) (same (k + 1) (omega (arith, less)))) in
    flat_map-cons g from (range_with_len (from + 1) n)
    ∙ ap (λ (xs : List ℕ). xs ++ flat_map g (range_with_len (from + 1) n)) here
    ∙ ap (λ (xs : List ℕ). f from ++ xs) rest
    ∙ sym (flat_map-cons f from (range_with_len (from + 1) n))

-- Bytes that stand on the first pages of an area are the same where these are: nothing need be known of the pages behind them.
pub take-area-agree : (image other : Image) (first few many count : ℕ) → HasPages image → few ≤ many → count ≤ page_bytes * few
    → ((k : ℕ) → k < few → other (first + k) ≡ image (first + k))
    → take count (area_of other first many) ≡ take count (area_of image first many)
take-area-agree image other first few many count pages fewer most same =
    let rest : ℕ = many - few in
    let front : area_of other first few ≡ area_of image first few = pages-agree image other first few same in
    ap (λ (n : ℕ). take count (area_of other first n)) (let e : many ≡ few + rest = omega (arith, fewer) in e)
    ∙ ap (λ (xs : List ℕ). take count xs) (area-split other first few rest)
    ∙ ap (λ (xs : List ℕ). take count (xs ++ area_of other (first + few) rest)) front
    ∙ take-append-le count (area_of image first few) (area_of other (first + few) rest) (omega (arith, length-area image first few pages, most))
    ∙ sym (take-area image first few many count pages fewer most)
