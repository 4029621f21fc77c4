-- Steps of writing bytes page by page.
use Rattle.std.proofs.Common.{◌≡◌, ℕ, ◌+◌, ◌-◌, ◌*◌, ◌/◌, ◌%◌, ◌<◌, ◌≤◌, inl, inr, Bool, IsTrue, List, ◌++◌, length, take, drop, refl, sym, ap, ◌∙◌, subst, arith, append_assoc, length-append}
use Rattle.std.proofs.lemmas.Bool.{cases_lt}
use Rattle.std.proofs.lemmas.List.{append-nil, drop-drop, length-take-le, take_all}
use Rattle.std.proofs.Math.Seq.{take-add}
use Rattle.store_model.specs.Disk.{Calls, Image, Took, page_bytes, with_page, zero_page}
use Rattle.store_model.specs.Log.{body_page}
use Rattle.store_model.proofs.ImageLaws.{with_page_at, with_page_off}
use Rattle.check_point.specs.Halves.{Ends, Stand, filled_pages}
use Rattle.check_point.proofs.Appendings.{page-kept, page-none}

-- behind a full page
pub Ends-full : (bytes piece page : List ℕ) (taken : ℕ) → Ends bytes taken page → taken % page_bytes + length piece ≡ page_bytes
    → Ends (bytes ++ piece) (taken + length piece) zero_page
Ends-full bytes piece page taken ends full = record {
  taken_is = omega (arith, length-append bytes piece, ends.taken_is);
  page_is = sym (page-none (bytes ++ piece) ((taken + length piece) / page_bytes) (omega (arith, length-append bytes piece, ends.taken_is, full)));
}

-- on a page that isn't full
pub Ends-more : (bytes piece page put : List ℕ) (taken : ℕ) → Ends bytes taken page → taken % page_bytes + length piece < page_bytes
    → put ≡ body_page (bytes ++ piece) (taken / page_bytes) → Ends (bytes ++ piece) (taken + length piece) put
Ends-more bytes piece page put taken ends less is = record {
  taken_is = omega (arith, length-append bytes piece, ends.taken_is);
  page_is = is ∙ ap (λ (i : ℕ). body_page (bytes ++ piece) i) (let e : taken / page_bytes ≡ (taken + length piece) / page_bytes = omega (arith, less) in e);
}

-- more bytes leave the full pages as they were
pub Stand-kept : (first count more : ℕ) (bytes piece : List ℕ) (image : Image) → page_bytes * count ≤ length bytes → more ≡ count
    → Stand first count bytes image → Stand first more (bytes ++ piece) image
Stand-kept first count more bytes piece image full is stand i below =
    stand i (omega (arith, below, is)) ∙ sym (page-kept bytes piece i (omega (arith, below, is, full)))

-- one more page
pub Stand-next : (first count more : ℕ) (bytes piece put : List ℕ) (old new : Image) → page_bytes * count ≤ length bytes → more ≡ count + 1
    → Stand first count bytes old → new ≡ with_page old (first + count) put → put ≡ body_page (bytes ++ piece) count → Stand first more (bytes ++ piece) new
Stand-next first count more bytes piece put old new full more_is stand wrote is i below =
    elim (cases_lt i count) [
      | inl earlier ↦ ap (λ (image : Image). image (first + i)) wrote
          ∙ with_page_off old (first + count) put (first + i) (λ same. omega (arith, same, earlier))
          ∙ stand i earlier ∙ sym (page-kept bytes piece i (omega (arith, earlier, full)))
      | inr late ↦ (
          let here : count ≡ i = omega (arith, below, late, more_is) in
          ap (λ (image : Image). image (first + i)) wrote
          ∙ ap (λ (q : ℕ). with_page old (first + count) put (first + q)) (sym here)
          ∙ with_page_at old (first + count) put ∙ is ∙ ap (λ (q : ℕ). body_page (bytes ++ piece) q) here)
    ]

-- How far the bytes are written: `sum` counts those that were taken before with them, and `rest` is left.
pub record Appending (tells : Bool) (first taken sum : ℕ) (bytes rest was page : List ℕ) (old new : Image) (before now : Calls) : Type 0 where
  pub from : taken ≤ sum
  pub to : sum + length rest ≡ taken + length bytes
  pub rest_is : rest ≡ drop (sum - taken) bytes
  pub ends : (past : List ℕ) → Ends past taken was → Ends (past ++ take (sum - taken) bytes) sum page
  pub stand : IsTrue tells → (past : List ℕ) → Ends past taken was → Stand first (taken / page_bytes) past old
      → Stand first (sum / page_bytes) (past ++ take (sum - taken) bytes) new
  pub calls : IsTrue tells → Took 0 (sum / page_bytes - taken / page_bytes) 0 before now

-- nothing yet
pub Appending-none : (tells : Bool) (first taken : ℕ) (bytes was : List ℕ) (old : Image) (before : Calls)
    → Appending tells first taken taken bytes bytes was was old old before before
Appending-none tells first taken bytes was old before =
    let none : (past : List ℕ) → past ≡ past ++ take (taken - taken) bytes =
    λ past. sym (ap (λ (n : ℕ). past ++ take n bytes) (let e : taken - taken ≡ 0 = omega arith in e) ∙ append-nil past) in
    record {
      from = omega arith;
      to = refl;
      rest_is = ap (λ (n : ℕ). drop n bytes) (let e : 0 ≡ taken - taken = omega arith in e);
      ends = λ past ends. subst (λ (xs : List ℕ). Ends xs taken was) (none past) ends;
      stand = λ told past ends stand. subst (λ (xs : List ℕ). Stand first (taken / page_bytes) xs old) (none past) stand;
      calls = λ told. record { reads = omega arith; writes = omega arith; syncs = omega arith };
    }

-- the first bytes with the next piece
piece-next : (past bytes rest piece : List ℕ) (taken sum count : ℕ) → taken ≤ sum → rest ≡ drop (sum - taken) bytes → piece ≡ take count rest → length piece ≡ count
    → past ++ take (sum - taken) bytes ++ piece ≡ past ++ take (sum + length piece - taken) bytes
piece-next past bytes rest piece taken sum count from rest_is piece_is long =
    append_assoc past (take (sum - taken) bytes) piece
    ∙ ap (λ (xs : List ℕ). past ++ xs) (
    ap (λ (xs : List ℕ). take (sum - taken) bytes ++ xs) (piece_is ∙ ap (λ (xs : List ℕ). take count xs) rest_is)
    ∙ sym (take-add (sum - taken) count bytes)
    ∙ ap (λ (n : ℕ). take n bytes) (let e : sum - taken + count ≡ sum + length piece - taken = omega (arith, from, long) in e))

-- what is left behind the next piece
rest-next : (bytes rest others : List ℕ) (taken sum count more : ℕ) → taken ≤ sum → rest ≡ drop (sum - taken) bytes → others ≡ drop count rest → more ≡ count
    → others ≡ drop (sum + more - taken) bytes
rest-next bytes rest others taken sum count more from rest_is others_is more_is =
    others_is ∙ ap (λ (xs : List ℕ). drop count xs) rest_is ∙ drop-drop count (sum - taken) bytes
    ∙ ap (λ (n : ℕ). drop n bytes) (let e : sum - taken + count ≡ sum + more - taken = omega (arith, from, more_is) in e)

-- more calls
took-more : (n m k : ℕ) (before mid now : Calls) → n + m ≡ k → Took 0 n 0 before mid → Took 0 m 0 mid now → Took 0 k 0 before now
took-more n m k before mid now sum one other = record {
  reads = omega (arith, one.reads, other.reads);
  writes = omega (arith, one.writes, other.writes, sum);
  syncs = omega (arith, one.syncs, other.syncs);
}

-- one piece more
pub Appending-next : (tells : Bool) (first taken sum count : ℕ) (bytes rest piece others was page put : List ℕ) (old mid new : Image) (before then now : Calls)
    → Appending tells first taken sum bytes rest was page old mid before then → count ≤ length rest → piece ≡ take count rest → others ≡ drop count rest
    → length others + count ≡ length rest
    → ((past : List ℕ) → Ends past sum page → Ends (past ++ piece) (sum + length piece) put)
    → (IsTrue tells → (past : List ℕ) → Ends past sum page → Stand first (sum / page_bytes) past mid → Stand first ((sum + length piece) / page_bytes) (past ++ piece) new)
    → (IsTrue tells → Took 0 (filled_pages sum (length piece)) 0 then now)
    → Appending tells first taken (sum + length piece) bytes others was put old new before now
Appending-next tells first taken sum count bytes rest piece others was page put old mid new before then now begun most piece_is others_is left ends stand calls =
    let long : length piece ≡ count = ap length piece_is ∙ length-take-le count rest most in
    let next : (past : List ℕ) → past ++ take (sum - taken) bytes ++ piece ≡ past ++ take (sum + length piece - taken) bytes =
    λ past. piece-next past bytes rest piece taken sum count begun.from begun.rest_is piece_is long in
    record {
      from = omega (arith, begun.from);
      to = omega (arith, begun.to, long, left);
      rest_is = rest-next bytes rest others taken sum count (length piece) begun.from begun.rest_is others_is long;
      ends = λ past had. subst (λ (xs : List ℕ). Ends xs (sum + length piece) put) (next past) (ends (past ++ take (sum - taken) bytes) (begun.ends past had));
      stand = λ told past had stood. subst (λ (xs : List ℕ). Stand first ((sum + length piece) / page_bytes) xs new) (next past)
          (stand told (past ++ take (sum - taken) bytes) (begun.ends past had) (begun.stand told past had stood));
      calls = λ told. took-more (sum / page_bytes - taken / page_bytes) (filled_pages sum (length piece)) ((sum + length piece) / page_bytes - taken / page_bytes)
          before then now (omega (arith, begun.from)) (begun.calls told) (calls told);
    }

-- the whole of the bytes, where nothing is left
whole : (past bytes : List ℕ) (n : ℕ) → n ≡ length bytes → past ++ take n bytes ≡ past ++ bytes
whole past bytes n is = ap (λ (xs : List ℕ). past ++ xs) (take_all n bytes (omega (arith, is)))

-- all bytes are taken
pub Ends-all : (tells : Bool) (first taken sum : ℕ) (bytes rest was page : List ℕ) (old new : Image) (before now : Calls)
    → Appending tells first taken sum bytes rest was page old new before now → length rest ≡ 0 → (past : List ℕ) → Ends past taken was
    → Ends (past ++ bytes) (taken + length bytes) page
Ends-all tells first taken sum bytes rest was page old new before now done none past had =
    subst (λ (n : ℕ). Ends (past ++ bytes) n page) (omega (arith, done.to, none))
    (subst (λ (xs : List ℕ). Ends xs sum page) (whole past bytes (sum - taken) (omega (arith, done.to, none))) (done.ends past had))

-- and stand
pub Stand-all : (tells : Bool) (first taken sum : ℕ) (bytes rest was page : List ℕ) (old new : Image) (before now : Calls)
    → Appending tells first taken sum bytes rest was page old new before now → length rest ≡ 0 → IsTrue tells → (past : List ℕ) → Ends past taken was
    → Stand first (taken / page_bytes) past old → Stand first ((taken + length bytes) / page_bytes) (past ++ bytes) new
Stand-all tells first taken sum bytes rest was page old new before now done none told past had stood =
    subst (λ (n : ℕ). Stand first (n / page_bytes) (past ++ bytes) new) (omega (arith, done.to, none))
    (subst (λ (xs : List ℕ). Stand first (sum / page_bytes) xs new) (whole past bytes (sum - taken) (omega (arith, done.to, none))) (done.stand told past had stood))
