-- Laws of areas: the bytes of pages one behind the other.
use Rattle.std.proofs.Common.{◌≡◌, ℕ, zero, suc, ◌+◌, ◌-◌, ◌*◌, ◌≤◌, List, ◌++◌, length, take, refl, sym, ap, ◌∙◌, arith, append_assoc, length-append}
use Rattle.std.specs.List.{range_with_len}
use Rattle.std.proofs.lemmas.List.{append-nil, take-append-le, take_all}
use Rattle.std.proofs.Math.Seq.{take-append-add}
use Rattle.std.proofs.lemmas.List.Concat.{flat_map-cons}
use Rattle.store_model.specs.Disk.{HasPages, Image, area_of, page_bytes}

-- the first page, and those behind it
pub area-first : (image : Image) (first n : ℕ) → area_of image first (suc n) ≡ image first ++ area_of image (first + 1) n
area-first image first n = flat_map-cons image first (range_with_len (first + 1) n)

-- some pages, and those behind them
pub area-split : (image : Image) (first m n : ℕ) → area_of image first (m + n) ≡ area_of image first m ++ area_of image (first + m) n
area-split image first zero n =
    ap (λ (k : ℕ). area_of image first k) (let e : zero + n ≡ n = omega arith in e)
    ∙ ap (λ (p : ℕ). area_of image p n) (let e : first ≡ first + zero = omega arith in e)
area-split image first (suc m) n =
    ap (λ (k : ℕ). area_of image first k) (let e : suc m + n ≡ suc (m + n) = omega arith in e)
    ∙ area-first image first (m + n)
    ∙ ap (λ (xs : List ℕ). image first ++ xs) (area-split image (first + 1) m n)
    ∙ ap (λ (p : ℕ). image first ++ (area_of image (first + 1) m ++ area_of image p n)) (let e : first + 1 + m ≡ first + suc m = omega arith in e)
    ∙ sym (append_assoc (image first) (area_of image (first + 1) m) (area_of image (first + suc m) n))
    ∙ ap (λ (xs : List ℕ). xs ++ area_of image (first + suc m) n) (sym (area-first image first m))

-- one page
pub area-one : (image : Image) (first : ℕ) → area_of image first 1 ≡ image first
area-one image first = area-first image first 0 ∙ append-nil (image first)

-- one more page behind the others
pub area-more : (image : Image) (first n : ℕ) → area_of image first (n + 1) ≡ area_of image first n ++ image (first + n)
area-more image first n = area-split image first n 1 ∙ ap (λ (xs : List ℕ). area_of image first n ++ xs) (area-one image (first + n))

-- how many bytes whole pages have
pub length-area : (image : Image) (first n : ℕ) → HasPages image → length (area_of image first n) ≡ page_bytes * n
length-area image first zero pages = refl
length-area image first (suc n) pages =
    ap length (area-first image first n)
    ∙ length-append (image first) (area_of image (first + 1) n)
    ∙ (omega (arith, (pages first).whole, length-area image (first + 1) n pages))

-- bytes that stand on the first pages
pub take-area : (image : Image) (first few many count : ℕ) → HasPages image → few ≤ many → count ≤ page_bytes * few
    → take count (area_of image first many) ≡ take count (area_of image first few)
take-area image first few many count pages fewer most =
    let rest : ℕ = many - few in
    ap (λ (n : ℕ). take count (area_of image first n)) (let e : many ≡ few + rest = omega (arith, fewer) in e)
    ∙ ap (λ (xs : List ℕ). take count xs) (area-split image first few rest)
    ∙ take-append-le count (area_of image first few) (area_of image (first + few) rest) (omega (arith, length-area image first few pages, most))

-- bytes that go on on one more page
pub take-area-more : (image : Image) (first n count : ℕ) → HasPages image → page_bytes * n ≤ count
    → take count (area_of image first (n + 1)) ≡ take count (area_of image first n) ++ take (count - page_bytes * n) (image (first + n))
take-area-more image first n count pages some =
    let before : List ℕ = area_of image first n in
    let page : List ℕ = image (first + n) in
    let rest : ℕ = count - page_bytes * n in
    let long : length before ≡ page_bytes * n = length-area image first n pages in
    ap (λ (xs : List ℕ). take count xs) (area-more image first n)
    ∙ ap (λ (k : ℕ). take k (before ++ page)) (let e : count ≡ length before + rest = omega (arith, some, long) in e)
    ∙ take-append-add before page rest
    ∙ ap (λ (xs : List ℕ). xs ++ take rest page) (sym (take_all count before (omega (arith, some, long))))
