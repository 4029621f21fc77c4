-- Steps of writing a content page by page.
use Rattle.std.proofs.Common.{◌≡◌, ℕ, zero, suc, ◌+◌, ◌-◌, ◌*◌, ◌/◌, ◌%◌, ◌<◌, ◌≤◌, List, [], length, take, drop, replicate, get_or, length-drop, Bool, refl, sym, ap, ◌∙◌, subst, arith, inl, inr}
use Rattle.std.specs.Prelude.{IsTrue, Option, Some, None, Result, Ok, Err, OnOk, min}
use Rattle.blob_base.specs.Faults.{OnMade}
use Rattle.blob_base.specs.declared.faults.IoFault.{IoFault}
use Rattle.blob_base.specs.declared.faults.IoFault.TheVariants.{Failed, OutOfMemory}
use Rattle.std.specs.Simd.{first_chunks}
use Rattle.std.proofs.Math.Seq.{take-append_seam}
use Rattle.std.proofs.lemmas.Bool.{cases_lt}
use Rattle.std.proofs.lemmas.List.{drop-drop}
use Rattle.store_model.specs.Disk.{Calls, Image, SameOff, Took, page_bytes, page_of, with_page, with_write}
use Rattle.store_model.specs.Holds.{Holds, HoldsFront, IsFullPage, IsPoured, IsTailPage, StandsAt, full_page, place_of, rest_of}
use Rattle.store_model.specs.Images.{Story, Wrote}
use Rattle.store_model.specs.Layout.{Layout, data_page}
use Rattle.store_model.specs.Space.{Apart, AreBlocks, blocks_of}
use Rattle.store_model.specs.State.{HasTail, IsState, State}
use Rattle.store_model.specs.Store.{Placement}
use Rattle.store_model.proofs.HoldsLaws.{stands-somewhere}
use Rattle.store_model.proofs.VerifyLaws.{no_tail}
use Rattle.store_model.proofs.ImageLaws.{with_page_at, with_page_off, wrote_more, wrote_none, wider}
use Rattle.store_model.proofs.PlaceLaws.{StandsAt-apart, StandsAt-one, StandsAt-tail, tail-within}
use Rattle.disk_model.specs.Disks.{OnlyWrites}
use Rattle.disk_model.specs.declared.disk.Disk.{Ghosts}
use Rattle.disk_model.proofs.DiskLaws.{OnlyWrites-more, OnlyWrites-wider}
use Rattle.extent_io.specs.Pages.{PagesRead}

-- the tail page is one of the data area's
pub tail-page-within : (pages page : ℕ) (place : Placement) → AreBlocks pages (blocks_of place) → place.tail ≡ Some page → page < pages
tail-page-within pages page place blocks is =
    tail-within pages page place.heads (subst (λ (t : Option ℕ). AreBlocks pages (blocks_of (record { heads = place.heads; tail = t }))) is blocks)

-- a write of the tail page
pub wrote-tail : (first : ℕ) (place : Placement) (page start : ℕ) (old new : Story) → place.tail ≡ Some page → start ≡ first
    → Wrote (λ p. p ≡ start + page) old new → Wrote (IsTailPage first place) old new
wrote-tail first place page start old new is at wrote =
    wider (λ p. p ≡ start + page) (IsTailPage first place) old new (λ p here. record { at = page; tail = is; is = omega (arith, here, at) }) wrote

-- The full pages from number `from` up to `page` are written.
pub record Pouring (tells : Bool) (first : ℕ) (place : Placement) (from page to : ℕ) (pages : List (List ℕ)) (old new : Story) (was now : Calls) : Type 0 where
  pub reads : IsTrue tells → PagesRead first place from page pages new.reads
  pub wrote : IsTrue tells → Wrote (IsFullPage first place from to) old new
  pub calls : IsTrue tells → Took 0 (page - from) 0 was now

-- none yet
pub Pouring-none : (tells : Bool) (first : ℕ) (place : Placement) (from to : ℕ) (pages : List (List ℕ)) (old : Story) (was : Calls)
    → Pouring tells first place from from to pages old old was was
Pouring-none tells first place from to pages old was = record {
  reads = λ told page at least below stands. absurd (omega (arith, least, below));
  wrote = λ told. wrote_none (IsFullPage first place from to) old;
  calls = λ told. record { reads = omega arith; writes = omega arith; syncs = omega arith };
}

-- a further write leaves what the pages before read as
reads-next : (first : ℕ) (place : Placement) (from page at : ℕ) (pages : List (List ℕ)) (bytes : List ℕ) (mid new : Image) → Apart (blocks_of place)
    → StandsAt place page at → PagesRead first place from page pages mid → new ≡ with_page mid (first + at) bytes → bytes ≡ get_or pages (page - from) []
    → PagesRead first place from (page + 1) pages new
reads-next first place from page at pages bytes mid new apart stands before put is p there least below other =
    elim (cases_lt p page) [
      | inl earlier ↦ (
          let off : first + there ≡ first + at → ⊥ = λ same.
          (let equal : p ≡ page = StandsAt-apart place p page there apart other (let e : at ≡ there = omega (arith, same) in subst (StandsAt place page) e stands) in omega (arith, equal, earlier)) in
          ap (λ (image : Image). image (first + there)) put ∙ with_page_off mid (first + at) bytes (first + there) off ∙ before p there least earlier other)
      | inr late ↦ (
          let here : page ≡ p = omega (arith, below, late) in
          let same : at ≡ there = StandsAt-one place p at there (subst (λ (q : ℕ). StandsAt place q at) here stands) other in
          ap (λ (image : Image). image (first + there)) put
          ∙ ap (λ (q : ℕ). with_page mid (first + at) bytes (first + q)) (sym same)
          ∙ with_page_at mid (first + at) bytes ∙ is ∙ ap (λ (q : ℕ). get_or pages (q - from) []) here)
    ]

-- one more write
pub took-write : (n next : ℕ) (was then now : Calls) → Took 0 n 0 was then → now ≡ with_write then → next ≡ n + 1 → Took 0 next 0 was now
took-write n next was then now took made is = record {
  reads = ap (λ (c : Calls). c.reads) made ∙ took.reads;
  writes = omega (arith, ap (λ (c : Calls). c.writes) made, took.writes, is);
  syncs = ap (λ (c : Calls). c.syncs) made ∙ took.syncs;
}

-- a call that was made and succeeded
pub made-ok : (result : Result (Unit {0}) IoFault) (P Q : Type 0) → OnMade result P → (P → Q) → OnOk result Q
made-ok (Ok done) P Q made then = then made
made-ok (Err Failed) P Q made then = tt
made-ok (Err OutOfMemory) P Q made then = tt

-- a tail's page is there where bytes are left over
pub tail-some : (size : ℕ) (tail : Option ℕ) (page : ℕ) → HasTail size tail → tail ≡ Some page → 0 < size % page_bytes
tail-some size tail page has is = (subst (λ (t : Option ℕ). HasTail size t) is has).0 refl

-- the write of a tail
pub took-tail : (size : ℕ) (was now : Calls) → 0 < size % page_bytes → now ≡ with_write was → Took 0 (min 1 (size % page_bytes)) 0 was now
took-tail size was now some made = record {
  reads = omega (arith, ap (λ (c : Calls). c.reads) made);
  writes = omega (arith, ap (λ (c : Calls). c.writes) made, some);
  syncs = omega (arith, ap (λ (c : Calls). c.syncs) made);
}

-- where there is none, nothing is written
pub took-no_tail : (size : ℕ) (tail : Option ℕ) (was : Calls) → HasTail size tail → tail ≡ None → Took 0 (min 1 (size % page_bytes)) 0 was was
took-no_tail size tail was has is =
    let none : size % page_bytes ≡ 0 = no_tail size (subst (λ (t : Option ℕ). HasTail size t) is has) in
    record { reads = omega arith; writes = omega (arith, none); syncs = omega arith }

-- one more page
pub Pouring-next : (tells : Bool) (first : ℕ) (place : Placement) (from page to : ℕ) (pages : List (List ℕ)) (old mid new : Story) (was then now : Calls)
    (start at : ℕ) (bytes : List ℕ) → Apart (blocks_of place) → StandsAt place page at → from ≤ page → page < to → start ≡ first → bytes ≡ get_or pages (page - from) []
    → Pouring tells first place from page to pages old mid was then
    → (IsTrue tells → new.reads ≡ with_page mid.reads (start + at) bytes) → (IsTrue tells → Wrote (λ p. p ≡ start + at) mid new)
    → (IsTrue tells → now ≡ with_write then)
    → Pouring tells first place from (page + 1) to pages old new was now
Pouring-next tells first place from page to pages old mid new was then now start at bytes apart stands least below start_is is before put wrote made = record {
  reads = λ told. reads-next first place from page at pages bytes mid.reads new.reads apart stands (before.reads told)
      (put told ∙ ap (λ (d : ℕ). with_page mid.reads (d + at) bytes) start_is) is;
  wrote = λ told. wrote_more (λ p. p ≡ start + at) (IsFullPage first place from to) old mid new
      (λ p here. record { page = page; least = least; below = below; at = at; stands = stands; is = omega (arith, here, start_is) }) (before.wrote told) (wrote told);
  calls = λ told. took-write (page - from) (page + 1 - from) was then now (before.calls told) (made told) (omega (arith, least));
}

-- a further write that failed
pub Pouring-torn : (tells : Bool) (first : ℕ) (place : Placement) (from page to : ℕ) (pages : List (List ℕ)) (old mid new : Story) (was then : Calls)
    (start at : ℕ) → IsTrue tells → StandsAt place page at → from ≤ page → page < to → start ≡ first
    → Pouring tells first place from page to pages old mid was then → Wrote (λ p. p ≡ start + at) mid new
    → Wrote (IsFullPage first place from to) old new
Pouring-torn tells first place from page to pages old mid new was then start at told stands least below start_is before wrote =
    wrote_more (λ p. p ≡ start + at) (IsFullPage first place from to) old mid new
    (λ p here. record { page = page; least = least; below = below; at = at; stands = stands; is = omega (arith, here, start_is) }) (before.wrote told) wrote

-- the bytes of one of the first chunks
pub get_or-first_chunks : (n count k : ℕ) (bytes : List ℕ) → k < count → get_or (first_chunks n count bytes) k [] ≡ take n (drop (n * k) bytes)
get_or-first_chunks n zero k bytes below = absurd (omega arith)
get_or-first_chunks n (suc count) zero bytes below = ap (λ (i : ℕ). take n (drop i bytes)) (let e : 0 ≡ n * 0 = omega arith in e)
get_or-first_chunks n (suc count) (suc k) bytes below =
    get_or-first_chunks n count k (drop n bytes) (omega arith)
    ∙ ap (λ (xs : List ℕ). take n xs) (drop-drop (n * k) n bytes)
    ∙ ap (λ (i : ℕ). take n (drop i bytes)) (let e : n + n * k ≡ n * suc k = omega arith in e)

-- the bytes that are left from a full page on, at a page further
pub rest-page : (from page : ℕ) (content rest : List ℕ) → from ≤ page → rest ≡ drop (page_bytes * from) content
    → take page_bytes (drop (page_bytes * (page - from)) rest) ≡ full_page content page
rest-page from page content rest least is =
    ap (λ (xs : List ℕ). take page_bytes (drop (page_bytes * (page - from)) xs)) is
    ∙ ap (λ (xs : List ℕ). take page_bytes xs) (drop-drop (page_bytes * (page - from)) (page_bytes * from) content)
    ∙ ap (λ (i : ℕ). take page_bytes (drop i content)) (omega (arith, least))

-- the bytes behind the full pages of what is left are those of the content
pub rest-tail : (from : ℕ) (content rest : List ℕ) → from ≤ length content / page_bytes → page_bytes * from + length rest ≡ length content
    → rest ≡ drop (page_bytes * from) content → rest_of rest ≡ rest_of content
rest-tail from content rest least count is =
    ap (λ (xs : List ℕ). drop (page_bytes * (length rest / page_bytes)) xs) is
    ∙ drop-drop (page_bytes * (length rest / page_bytes)) (page_bytes * from) content
    ∙ ap (λ (i : ℕ). drop i content) (omega (arith, least, count))

-- how many bytes are behind the full pages
pub length-rest_of : (content : List ℕ) → length (rest_of content) ≡ length content % page_bytes
length-rest_of content = omega (arith, length-drop (page_bytes * (length content / page_bytes)) content)

-- a full page that was not written
page-kept : (first : ℕ) (place : Placement) (from to page at : ℕ) (old new : Image) → Apart (blocks_of place) → StandsAt place page at
    → (from ≤ page → ⊥) → SameOff (IsFullPage first place from to) old new → new (first + at) ≡ old (first + at)
page-kept first place from to page at old new apart stands off same =
    same (first + at) (λ is. (
    let there : is.at ≡ at = omega (arith, is.is) in
    let equal : is.page ≡ page = StandsAt-apart place is.page page at apart (subst (λ (q : ℕ). StandsAt place is.page q) there is.stands) stands in
    off (omega (arith, equal, is.least))))

-- and one beside the tail page
page-beside : (first : ℕ) (place : Placement) (page at : ℕ) (old new : Image) → Apart (blocks_of place) → StandsAt place page at
    → SameOff (IsTailPage first place) old new → new (first + at) ≡ old (first + at)
page-beside first place page at old new apart stands same =
    same (first + at) (λ is. (
    let there : is.at ≡ at = omega (arith, is.is) in
    StandsAt-tail place page at apart stands (is.tail ∙ ap (λ (q : ℕ). Some q) there)))

-- A content is written: its full pages and then its tail page.
pub Holds-poured : (first : ℕ) (state : State) (from : ℕ) (content rest end : List ℕ) (pages : List (List ℕ)) (old mid new : Image) → IsState state
    → Apart (blocks_of (place_of state)) → length content ≡ state.size → from ≤ state.size / page_bytes → page_bytes * from + length rest ≡ state.size
    → rest ≡ drop (page_bytes * from) content → HoldsFront from old first (place_of state) content
    → SameOff (IsFullPage first (place_of state) from (state.size / page_bytes)) old mid → SameOff (IsTailPage first (place_of state)) mid new
    → pages ≡ first_chunks page_bytes (length rest / page_bytes) rest → PagesRead first (place_of state) from (state.size / page_bytes) pages mid
    → end ≡ rest_of rest → ((page : ℕ) → state.tail ≡ Some page → new (first + page) ≡ page_of end)
    → Holds new first state content
Holds-poured first state from content rest end pages old mid new sound apart size_is least count is front full tail chunks read end_is filled = record {
  size = size_is;
  at = record {
    full = λ page below.
        let place : Placement = place_of state in
        let one = stands-somewhere state sound page (omega (arith, below, size_is)) in (
          one.0,
          one.1,
          page-beside first place page one.0 mid new apart one.1 tail
              ∙ elim (cases_lt page from) [
                | inl before ↦ page-kept first place from (state.size / page_bytes) page one.0 old mid apart one.1 (λ past. omega (arith, before, past)) full ∙ front page one.0 before one.1
                | inr past ↦ read page one.0 past (omega (arith, below, size_is)) one.1
                    ∙ ap (λ (ps : List (List ℕ)). get_or ps (page - from) []) chunks
                    ∙ get_or-first_chunks page_bytes (length rest / page_bytes) (page - from) rest (omega (arith, count, past, below, size_is))
                    ∙ rest-page from page content rest past is
              ],
        );
    tailed = subst (λ (size : ℕ). HasTail size state.tail) (sym size_is) sound.tail;
    tail = λ page there.
        ap (λ (xs : List ℕ). take (length content % page_bytes) xs)
        (filled page there ∙ ap page_of (end_is ∙ rest-tail from content rest (omega (arith, least, size_is)) (count ∙ sym size_is) is))
        ∙ ap (λ (n : ℕ). take n (page_of (rest_of content))) (sym (length-rest_of content))
        ∙ take-append_seam (rest_of content) (replicate (page_bytes - length (rest_of content)) 0);
  };
}

-- what is behind the last whole chunk
pub end-is : (rest end : List ℕ) → end ≡ drop (length rest / page_bytes * page_bytes) rest → end ≡ rest_of rest
end-is rest end is = is ∙ ap (λ (n : ℕ). drop n rest) (let e : length rest / page_bytes * page_bytes ≡ page_bytes * (length rest / page_bytes) = omega arith in e)

-- the full pages are some of those that are written
pub OnlyWrites-full : {D : Type 0} (g : Ghosts D) (layout : Layout) (state : State) (from : ℕ) (old mid : D)
    → OnlyWrites g (IsFullPage (data_page layout) (place_of state) from (state.size / page_bytes)) old mid → OnlyWrites g (IsPoured layout state from) old mid
OnlyWrites-full g layout state from old mid full =
    OnlyWrites-wider g (IsFullPage (data_page layout) (place_of state) from (state.size / page_bytes)) (IsPoured layout state from) old mid (λ p is. inl is) full

-- The pages that were written by both steps.
pub OnlyWrites-both : {D : Type 0} (g : Ghosts D) (layout : Layout) (state : State) (from : ℕ) (old mid new : D)
    → OnlyWrites g (IsFullPage (data_page layout) (place_of state) from (state.size / page_bytes)) old mid
    → OnlyWrites g (IsTailPage (data_page layout) (place_of state)) mid new → OnlyWrites g (IsPoured layout state from) old new
OnlyWrites-both g layout state from old mid new full tail =
    OnlyWrites-more g (IsTailPage (data_page layout) (place_of state)) (IsPoured layout state from) old mid new (λ p is. inr is)
    (OnlyWrites-full g layout state from old mid full) tail
