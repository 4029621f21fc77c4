-- Steps of reading bytes page by page.
use Rattle.std.proofs.Common.{◌≡◌, ℕ, ◌+◌, ◌-◌, ◌*◌, ◌<◌, ◌≤◌, min, List, ◌++◌, length, take, Bool, sym, ap, ◌∙◌, arith, length-append, length-take}
use Rattle.std.specs.Prelude.{IsTrue}
use Rattle.store_model.specs.Disk.{Calls, HasPages, Image, Took, area_of, page_bytes, with_read}
use Rattle.store_model.specs.Images.{Story}
use Rattle.store_model.proofs.AreaLaws.{take-area-more}

-- no call
pub took-none : (was : Calls) → Took 0 0 0 was was
took-none was = record { reads = omega arith; writes = omega arith; syncs = omega arith }

-- one more read
pub took-read : (n next : ℕ) (was then now : Calls) → next ≡ n + 1 → Took n 0 0 was then → now ≡ with_read then → Took next 0 0 was now
took-read n next was then now is took made = record {
  reads = omega (arith, ap (λ (c : Calls). c.reads) made, took.reads, is);
  writes = ap (λ (c : Calls). c.writes) made ∙ took.writes;
  syncs = ap (λ (c : Calls). c.syncs) made ∙ took.syncs;
}

-- reads after others
pub took-then : (m n sum : ℕ) (was then now : Calls) → sum ≡ m + n → Took m 0 0 was then → Took n 0 0 then now → Took sum 0 0 was now
took-then m n sum was then now is one other = record {
  reads = omega (arith, one.reads, other.reads, is);
  writes = omega (arith, one.writes, other.writes);
  syncs = omega (arith, one.syncs, other.syncs);
}

-- each page of a disk is one
pub pages-of : (story : Story) → HasPages story.reads
pages-of story = story.pages story.time story.reads story.own

-- Those of so many bytes that stand on the first `number` pages are there, where those on the first `from` were.
pub record Filling (tells : Bool) (first from count number : ℕ) (begun into : List ℕ) (old : Story) (was now : Calls) : Type 0 where
  pub bytes : IsTrue tells → begun ≡ take count (area_of old.reads first from) → into ≡ take count (area_of old.reads first number)
  pub long : length into ≡ min count (page_bytes * number)
  pub calls : IsTrue tells → Took (number - from) 0 0 was now

-- those on the first `from` pages
pub Filling-begun : (tells : Bool) (first from count : ℕ) (begun : List ℕ) (old : Story) (was : Calls) → length begun ≡ min count (page_bytes * from)
    → Filling tells first from count from begun begun old was was
Filling-begun tells first from count begun old was long = record {
  bytes = λ told is. is;
  long = long;
  calls = λ told. record { reads = omega arith; writes = omega arith; syncs = omega arith };
}

-- one more page
pub Filling-next : (tells : Bool) (first from count number : ℕ) (begun into next page : List ℕ) (old mid : Story) (was then now : Calls) → from ≤ number
    → page_bytes * number < count → length page ≡ page_bytes → Filling tells first from count number begun into old was then
    → (IsTrue tells → mid.reads ≡ old.reads) → (IsTrue tells → page ≡ mid.reads (first + number))
    → next ≡ into ++ take (count - page_bytes * number) page → (IsTrue tells → now ≡ with_read then)
    → Filling tells first from count (number + 1) begun next old was now
Filling-next tells first from count number begun into next page old mid was then now some below whole filling same read is made =
    let rest : ℕ = count - page_bytes * number in
    record {
      bytes = λ told begins.
          is
          ∙ ap (λ (xs : List ℕ). xs ++ take rest page) (filling.bytes told begins)
          ∙ ap (λ (xs : List ℕ). take count (area_of old.reads first number) ++ take rest xs) (read told ∙ ap (λ (image : Image). image (first + number)) (same told))
          ∙ sym (take-area-more old.reads first number count (pages-of old) (omega (arith, below)));
      long = omega (arith, ap length is, length-append into (take rest page), length-take rest page, filling.long, whole, below);
      calls = λ told. took-read (number - from) (number + 1 - from) was then now (omega (arith, some)) (filling.calls told) (made told);
    }
