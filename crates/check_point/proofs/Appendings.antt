-- What more bytes make of the pages of those before.
use Rattle.std.proofs.Common.{◌≡◌, ℕ, ◌+◌, ◌-◌, ◌*◌, ◌/◌, ◌%◌, ◌≤◌, List, ◌++◌, length, take, drop, replicate, refl, sym, ap, ◌∙◌, arith, length-append}
use Rattle.std.proofs.lemmas.List.{drop-append-le, drop-replicate, drop_all, length-drop, take-append-drop, take-append-le, take_all}
use Rattle.std.proofs.lemmas.Slice.{drop-put_mid, take-put_mid}
use Rattle.std.proofs.Math.Seq.{drop-append-add, take-append_seam}
use Rattle.store_model.specs.Disk.{page_bytes, page_of, zero_page}
use Rattle.store_model.specs.Log.{body_page}
use Rattle.check_point.specs.Halves.{Ends}
use borrow.Rule.Slice.PartMut.{put_mid}

-- a full page stays what it is
pub page-kept : (bytes more : List ℕ) (i : ℕ) → page_bytes * (i + 1) ≤ length bytes → body_page (bytes ++ more) i ≡ body_page bytes i
page-kept bytes more i full =
    ap page_of (
    ap (λ (xs : List ℕ). take page_bytes xs) (drop-append-le (page_bytes * i) bytes more (omega (arith, full)))
    ∙ take-append-le page_bytes (drop (page_bytes * i) bytes) more (omega (arith, full, length-drop (page_bytes * i) bytes))
    )

-- a page on which less than a page of bytes stands
pub page-end : (bytes : List ℕ) (i : ℕ) → length bytes ≤ page_bytes * i + page_bytes → body_page bytes i ≡ page_of (drop (page_bytes * i) bytes)
page-end bytes i most = ap page_of (take_all page_bytes (drop (page_bytes * i) bytes) (omega (arith, most, length-drop (page_bytes * i) bytes)))

-- behind the last byte a page is one of zeros
pub page-none : (bytes : List ℕ) (i : ℕ) → length bytes ≤ page_bytes * i → body_page bytes i ≡ zero_page
page-none bytes i most = ap (λ (xs : List ℕ). page_of (take page_bytes xs)) (drop_all (page_bytes * i) bytes most)

-- bytes behind those at the front of a page of zeros
laid-behind : (front piece : List ℕ) (at : ℕ) → length front ≡ at → take at (page_of front) ++ piece ++ drop (at + length piece) (page_of front) ≡ page_of (front ++ piece)
laid-behind front piece at is =
    let zeros : List ℕ = replicate (page_bytes - length front) 0 in
    ap (λ (n : ℕ). take n (front ++ zeros) ++ piece ++ drop (n + length piece) (front ++ zeros)) (sym is)
    ∙ ap (λ (xs : List ℕ). xs ++ piece ++ drop (length front + length piece) (front ++ zeros)) (take-append_seam front zeros)
    ∙ ap (λ (xs : List ℕ). front ++ piece ++ xs) (drop-append-add front zeros (length piece)
    ∙ drop-replicate (length piece) (page_bytes - length front) 0
    ∙ ap (λ (n : ℕ). replicate n 0) (let e : page_bytes - length front - length piece ≡ page_bytes - length (front ++ piece) = omega (arith, length-append front piece) in e))

-- more bytes on the last page
pub page-grown : (bytes piece page : List ℕ) (taken : ℕ) → Ends bytes taken page → taken % page_bytes + length piece ≤ page_bytes
    → take (taken % page_bytes) page ++ piece ++ drop (taken % page_bytes + length piece) page ≡ body_page (bytes ++ piece) (taken / page_bytes)
page-grown bytes piece page taken ends room =
    let i : ℕ = taken / page_bytes in
    let at : ℕ = taken % page_bytes in
    let front : List ℕ = drop (page_bytes * i) bytes in
    let front_is : length front ≡ at = omega (arith, length-drop (page_bytes * i) bytes, ends.taken_is) in
    ap (λ (xs : List ℕ). take at xs ++ piece ++ drop (at + length piece) xs) (ends.page_is ∙ page-end bytes i (omega (arith, ends.taken_is)))
    ∙ laid-behind front piece at front_is
    ∙ ap page_of (sym (drop-append-le (page_bytes * i) bytes piece (omega (arith, ends.taken_is))))
    ∙ sym (page-end (bytes ++ piece) i (omega (arith, ends.taken_is, room, length-append bytes piece)))

-- bytes in the middle of others
put-middle : (at count : ℕ) (page piece : List ℕ) → at ≤ length page → length piece ≡ count → put_mid at count page piece ≡ take at page ++ piece ++ drop (at + count) page
put-middle at count page piece within is =
    sym (take-append-drop (at + count) (put_mid at count page piece))
    ∙ ap (λ (xs : List ℕ). xs ++ drop (at + count) (put_mid at count page piece)) (take-put_mid at count page piece (at + count) (omega (arith, is)) within)
    ∙ ap (λ (xs : List ℕ). take at page ++ piece ++ xs) (drop-put_mid at count page piece (at + count) (omega arith) within is)

-- more bytes put on the last page
pub page-put : (bytes piece put page : List ℕ) (taken count : ℕ) → Ends bytes taken page → length page ≡ page_bytes → taken % page_bytes + length piece ≤ page_bytes
    → count ≡ length piece → put ≡ piece → put_mid (taken % page_bytes) count page put ≡ body_page (bytes ++ piece) (taken / page_bytes)
page-put bytes piece put page taken count ends whole room count_is same =
    ap (λ (n : ℕ). put_mid (taken % page_bytes) n page put) count_is
    ∙ ap (λ (xs : List ℕ). put_mid (taken % page_bytes) (length piece) page xs) same
    ∙ put-middle (taken % page_bytes) (length piece) page piece (omega (arith, whole)) refl
    ∙ page-grown bytes piece page taken ends room
