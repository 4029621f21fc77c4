-- Steps of writing a body page by page.
use Rattle.std.proofs.Common.{◌≡◌, ℕ, ◌+◌, ◌*◌, ◌<◌, min, List, length, take, drop, Bool, sym, ap, ◌∙◌, arith, inl, inr}
use Rattle.std.specs.Prelude.{IsTrue}
use Rattle.std.proofs.lemmas.Bool.{cases_lt}
use Rattle.std.proofs.lemmas.List.{drop_min, take_min}
use Rattle.store_model.specs.Disk.{Calls, Image, Took, page_bytes, page_of, with_page, with_write}
use Rattle.store_model.specs.Images.{Story, Within, Wrote}
use Rattle.store_model.specs.Log.{body_page}
use Rattle.store_model.proofs.ImageLaws.{with_page_at, with_page_off, wrote_more, wrote_none}

-- the bytes of a page of a body
pub page-is : (number start count : ℕ) (body rest piece : List ℕ) → start ≡ min (page_bytes * number) (length body) → rest ≡ drop start body
    → count ≡ min page_bytes (length rest) → piece ≡ take count rest → page_of piece ≡ body_page body number
page-is number start count body rest piece start_is rest_is count_is piece_is =
    ap page_of (
    piece_is
    ∙ ap (λ (n : ℕ). take n rest) count_is
    ∙ take_min page_bytes rest
    ∙ ap (λ (xs : List ℕ). take page_bytes xs) (rest_is ∙ ap (λ (n : ℕ). drop n body) start_is ∙ drop_min (page_bytes * number) body)
    )

-- The first `number` of the pages are written.
pub record Writing (tells : Bool) (first number count : ℕ) (body : List ℕ) (old new : Story) (was now : Calls) : Type 0 where
  pub reads : IsTrue tells → (i : ℕ) → i < number → new.reads (first + i) ≡ body_page body i
  pub wrote : IsTrue tells → Wrote (Within first count) old new
  pub calls : IsTrue tells → Took 0 number 0 was now

-- none yet
pub Writing-none : (tells : Bool) (first count : ℕ) (body : List ℕ) (old : Story) (was : Calls) → Writing tells first 0 count body old old was was
Writing-none tells first count body old was = record {
  reads = λ told i below. absurd (omega (arith, below));
  wrote = λ told. wrote_none (Within first count) old;
  calls = λ told. record { reads = omega arith; writes = omega arith; syncs = omega arith };
}

-- a further write leaves what the pages before read as
reads-next : (first number : ℕ) (body bytes : List ℕ) (mid new : Image) → ((i : ℕ) → i < number → mid (first + i) ≡ body_page body i)
    → new ≡ with_page mid (first + number) bytes → bytes ≡ body_page body number → (i : ℕ) → i < number + 1 → new (first + i) ≡ body_page body i
reads-next first number body bytes mid new before put is i below =
    elim (cases_lt i number) [
      | inl earlier ↦ ap (λ (image : Image). image (first + i)) put
          ∙ with_page_off mid (first + number) bytes (first + i) (λ same. omega (arith, same, earlier))
          ∙ before i earlier
      | inr late ↦ (
          let here : number ≡ i = omega (arith, below, late) in
          ap (λ (image : Image). image (first + i)) put
          ∙ ap (λ (q : ℕ). with_page mid (first + number) bytes (first + q)) (sym here)
          ∙ with_page_at mid (first + number) bytes ∙ is ∙ ap (λ (q : ℕ). body_page body q) here)
    ]

-- a write of one of the pages
pub wrote-next : (first number count : ℕ) (old mid new : Story) → number < count → Wrote (Within first count) old mid → Wrote (λ p. p ≡ first + number) mid new
    → Wrote (Within first count) old new
wrote-next first number count old mid new below before wrote =
    wrote_more (λ p. p ≡ first + number) (Within first count) old mid new
    (λ p here. record { from = omega (arith, here); to = omega (arith, here, below) }) before wrote

-- one more write
pub took-write : (n : ℕ) (was then now : Calls) → Took 0 n 0 was then → now ≡ with_write then → Took 0 (n + 1) 0 was now
took-write n was then now took made = record {
  reads = ap (λ (c : Calls). c.reads) made ∙ took.reads;
  writes = omega (arith, ap (λ (c : Calls). c.writes) made, took.writes);
  syncs = ap (λ (c : Calls). c.syncs) made ∙ took.syncs;
}

-- one more page
pub Writing-next : (tells : Bool) (first number count : ℕ) (body bytes : List ℕ) (old mid new : Story) (was then now : Calls) → number < count
    → bytes ≡ body_page body number → Writing tells first number count body old mid was then
    → (IsTrue tells → new.reads ≡ with_page mid.reads (first + number) bytes) → (IsTrue tells → Wrote (λ p. p ≡ first + number) mid new)
    → (IsTrue tells → now ≡ with_write then) → Writing tells first (number + 1) count body old new was now
Writing-next tells first number count body bytes old mid new was then now below is before put wrote made = record {
  reads = λ told. reads-next first number body bytes mid.reads new.reads (before.reads told) (put told) is;
  wrote = λ told. wrote-next first number count old mid new below (before.wrote told) (wrote told);
  calls = λ told. took-write number was then now (before.calls told) (made told);
}
