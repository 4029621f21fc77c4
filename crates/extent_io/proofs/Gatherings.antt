-- Steps of reading bytes of a content page by page.
use Rattle.std.proofs.Common.{◌≡◌, ℕ, ◌+◌, ◌-◌, ◌*◌, ◌/◌, ◌%◌, ◌<◌, ◌≤◌, min, List, ◌++◌, length, take, drop, Bool, sym, ap, ◌∙◌, subst, arith}
use Rattle.std.specs.Prelude.{IsTrue, Some, max}
use Rattle.std.proofs.Common.{length-take, length-drop}
use Rattle.std.proofs.Math.Seq.{take-add}
use Rattle.std.proofs.lemmas.List.{drop-drop, drop-take, take-take, take_all}
use Rattle.std.proofs.lemmas.Slice.{take-put_mid}
use borrow.Rule.Slice.PartMut.{put_mid}
use Rattle.store_model.specs.Disk.{Calls, Image, Took, page_bytes}
use Rattle.store_model.specs.Holds.{Holds, StandsAt, full_page, place_of}
use Rattle.store_model.specs.Images.{Story, Stayed}
use Rattle.store_model.specs.State.{State}
use Rattle.store_model.proofs.HeldLaws.{HoldsAt-full}
use Rattle.extent_io.specs.Pages.{BeginsAs, FrontAs, bytes_before}

-- Some bytes are read: those before page number `number`.
pub record Gathering (tells : Bool) (first : ℕ) (state : State) (off begun number : ℕ) (from into : List ℕ) (old new : Story) (was now : Calls) : Type 0 where
  pub bytes : IsTrue tells → (content : List ℕ) → Holds old.reads first state content
      → FrontAs into off content (bytes_before off (length from) number)
  pub length : length into ≡ length from
  pub reads : IsTrue tells → Took (number - begun) 0 0 was now
  pub images : IsTrue tells → Stayed old new

-- Part of a page, in terms of the content: the bytes of page number `number` from `skip` on, so many of them.
part-is : (number skip count : ℕ) (page content : List ℕ) → BeginsAs page number content → skip + count ≤ page_bytes → page_bytes * number + (skip + count) ≤ length content
    → take count (drop skip page) ≡ take count (drop (page_bytes * number + skip) content)
part-is number skip count page content begins short there =
    let whole : ℕ = min page_bytes (length content - page_bytes * number) in
    let front : take (skip + count) page ≡ take (skip + count) (drop (page_bytes * number) content) =
    sym (take-take (skip + count) whole page (omega (arith, short, there)))
    ∙ ap (λ (xs : List ℕ). take (skip + count) xs) begins
    ∙ take-take (skip + count) page_bytes (drop (page_bytes * number) content) short in
    sym (drop-take skip count page) ∙ ap (λ (xs : List ℕ). drop skip xs) front ∙ drop-take skip count (drop (page_bytes * number) content)
    ∙ ap (λ (xs : List ℕ). take count xs) (drop-drop skip (page_bytes * number) content)

-- More bytes behind those that are there.
front-more : (done more : ℕ) (into part rest : List ℕ) → take done into ≡ take done rest → part ≡ take more (drop done rest) → take done into ++ part ≡ take (done + more) rest
front-more done more into part rest front is =
    ap (λ (xs : List ℕ). xs ++ part) front ∙ ap (λ (xs : List ℕ). take done rest ++ xs) is ∙ sym (take-add done more rest)

-- A page's bytes are laid behind those of the pages before.
pub laid : (off number from to count : ℕ) (page into part content : List ℕ) → from ≡ max off (page_bytes * number)
    → to ≡ min (off + length into) (page_bytes * number + page_bytes) → off < page_bytes * (number + 1) → page_bytes * number < off + length into
    → length page ≡ page_bytes → off + length into ≤ length content → count ≡ to - from
    → part ≡ take count (drop (from - page_bytes * number) page) → BeginsAs page number content → FrontAs into off content (bytes_before off (length into) number)
    → FrontAs (put_mid (from - off) count into part) off content (bytes_before off (length into) (number + 1))
laid off number from to count page into part content from_is to_is below above long there count_is is begins front =
    let done : ℕ = from - off in
    let before : bytes_before off (length into) number ≡ done = omega (arith, from_is, above) in
    let behind : bytes_before off (length into) (number + 1) ≡ done + count = omega (arith, from_is, to_is, below, above, count_is) in
    let exact : length part ≡ count = omega (arith, ap length is, length-take count (drop (from - page_bytes * number) page), length-drop (from - page_bytes * number) page, long, from_is, to_is, below, above, count_is) in
    let first : take done into ≡ take done (drop off content) = subst (λ (n : ℕ). take n into ≡ take n (drop off content)) before front in
    let bytes : part ≡ take count (drop done (drop off content)) =
    is ∙ part-is number (from - page_bytes * number) count page content begins (omega (arith, from_is, to_is, below, above, count_is)) (omega (arith, from_is, to_is, below, above, count_is, there))
    ∙ ap (λ (n : ℕ). take count (drop n content)) (let e : page_bytes * number + (from - page_bytes * number) ≡ off + done = omega (arith, from_is) in e)
    ∙ ap (λ (xs : List ℕ). take count xs) (sym (drop-drop done off content)) in
    subst (λ (n : ℕ). take n (put_mid done count into part) ≡ take n (drop off content)) (sym behind)
    (take-put_mid done count into part (done + count) (omega (arith, exact)) (omega (arith, from_is, above)) ∙ front-more done count into part (drop off content) first bytes)

-- a full page that was read
pub begins-full : (first : ℕ) (state : State) (image : Image) (number at : ℕ) (page content : List ℕ) → Holds image first state content
    → number < state.size / page_bytes → StandsAt (place_of state) number at → page ≡ image (first + at) → BeginsAs page number content
begins-full first state image number at page content holds below stands is =
    let size_is : length content ≡ state.size = holds.size in
    let whole : page ≡ full_page content number =
    is ∙ HoldsAt-full image first (place_of state) content holds.at number at (omega (arith, below, size_is)) stands in
    ap (λ (xs : List ℕ). take (min page_bytes (length content - page_bytes * number)) xs) whole
    ∙ ap (λ (n : ℕ). take n (full_page content number)) (let e : min page_bytes (length content - page_bytes * number) ≡ page_bytes = omega (arith, below, size_is) in e)
    ∙ take-take page_bytes page_bytes (drop (page_bytes * number) content) (omega arith)

-- a tail page that was read
pub begins-tail : (first : ℕ) (state : State) (image : Image) (number at : ℕ) (page content : List ℕ) → Holds image first state content
    → state.size / page_bytes ≤ number → page_bytes * number < state.size → state.tail ≡ Some at → page ≡ image (first + at) → BeginsAs page number content
begins-tail first state image number at page content holds past below there is =
    let size_is : length content ≡ state.size = holds.size in
    let last : number ≡ length content / page_bytes = omega (arith, past, below, size_is) in
    ap (λ (xs : List ℕ). take (min page_bytes (length content - page_bytes * number)) xs) is
    ∙ ap (λ (n : ℕ). take n (image (first + at))) (let e : min page_bytes (length content - page_bytes * number) ≡ length content % page_bytes = omega (arith, last) in e)
    ∙ holds.at.tail at there
    ∙ ap (λ (n : ℕ). drop (page_bytes * n) content) (sym last)
    ∙ sym (take_all page_bytes (drop (page_bytes * number) content) (omega (arith, last, length-drop (page_bytes * number) content)))
