-- Steps of verifying a content, page by page and link by link.
use Rattle.std.proofs.Common.{◌≡◌, ℕ, zero, suc, ◌+◌, ◌*◌, ◌/◌, ◌%◌, ◌<◌, ◌≤◌, List, ◌++◌, length, Bool, true, false, not, nat_eq, add-one, append-nil, append_assoc, length-append, refl, sym, ap, ◌∙◌, subst, arith, inl, inr}
use Rattle.std.specs.Prelude.{IsTrue}
use Rattle.std.specs.List.{flat_map, range_with_len}
use Rattle.std.specs.Cmp.Lexicographic.{other_text, pointwise, same_text}
use Rattle.std.proofs.Common.{◌-◌, take, drop, length-drop}
use Rattle.std.proofs.lemmas.List.{take_all}
use Rattle.std.proofs.lemmas.Bool.{cases_lt}
use Rattle.std.proofs.lemmas.Bool.Decides.{nat_tests}
use Rattle.store_model.specs.Disk.{Calls, Image, Took, page_bytes, with_read}
use Rattle.store_model.specs.Hash.{Leads}
use Rattle.store_model.specs.Holds.{pages_from}
use Rattle.store_model.specs.Images.{Story, Stayed}
use Rattle.store_model.specs.Shape.{UsesExtent, held_by, pages_used}
use Rattle.store_model.specs.State.{IsState, State}
use Rattle.store_model.specs.Holds.{rest_of}
use Rattle.store_model.specs.Verify.{FailsFirst, computed, extent_part, given, kept, link_value}
use Rattle.store_model.proofs.HoldsLaws.{link_value-extent, link_value-tail}
use Rattle.store_model.proofs.HashLaws.{Leads-empty}
use Rattle.store_model.proofs.ImageLaws.{stayed_none, stayed_then}
use Rattle.store_model.proofs.ShapeLaws.{UsesExtent-HasShape, held_by-next}
use Rattle.extent_io.specs.Pages.{pages_of_link, pages_of_links, part_begin}

-- the bytes of some data pages, one after another
abbrev pub page_run : Image → ℕ → ℕ → ℕ → List ℕ
page_run image first head n = flat_map (λ page. image (first + page)) (range_with_len head n)

-- Some pages of an extent are hashed.
pub record Hashing (tells : Bool) (first head number : ℕ) (before mark : List ℕ) (count : ℕ) (old new : Story) : Type 0 where
  pub led : IsTrue tells → Leads before (page_run old.reads first head number) mark
  pub whole : IsTrue tells → length (page_run old.reads first head number) ≡ page_bytes * number
  pub blocks : count ≡ 64 * number
  pub images : IsTrue tells → Stayed old new

-- Each link so far holds.
pub record Verifying (tells : Bool) (first : ℕ) (state : State) (link : ℕ) (old new : Story) : Type 0 where
  pub holds : IsTrue tells → (i : ℕ) → i < link → computed old.reads first state i ≡ kept state i
  pub images : IsTrue tells → Stayed old new

-- none yet
pub Hashing-none : (tells : Bool) (first head : ℕ) (before mark : List ℕ) (count : ℕ) (old : Story) → mark ≡ before → count ≡ 0
    → Hashing tells first head 0 before mark count old old
Hashing-none tells first head before mark count old same none = record {
  led = λ told. Leads-empty before ∙ sym same;
  whole = λ told. refl;
  blocks = none;
  images = λ told. stayed_none old;
}

-- one more page behind the others
page_run-more : (image : Image) (first head n : ℕ) → page_run image first head (n + 1) ≡ page_run image first head n ++ image (first + (head + n))
page_run-more image first head zero = rw (append-nil (image (first + head))) (ap (λ (k : ℕ). image (first + k)) (let e : head ≡ head + 0 = omega arith in e))
page_run-more image first head (suc n) =
    rw (add-one (suc n)) (ap (λ (xs : List ℕ). image (first + head) ++ xs)
    (rw (add-one n) at (page_run-more image first (head + 1) n) ∙ ap (λ (k : ℕ). page_run image first (head + 1) n ++ image (first + k)) (let e : head + 1 + n ≡ head + suc n = omega arith in e))
    ∙ sym (append_assoc (image (first + head)) (page_run image first (head + 1) n) (image (first + (head + suc n)))))

page_run-next : (old mid : Image) (first head number start at : ℕ) (page : List ℕ) → start ≡ first → at ≡ head → mid ≡ old → page ≡ mid (start + at + number)
    → page_run old first head number ++ page ≡ page_run old first head (number + 1)
page_run-next old mid first head number start at page start_is at_is same read =
    let here : page ≡ old (first + (head + number)) =
    read ∙ ap (λ (image : Image). image (start + at + number)) same ∙ ap (λ (k : ℕ). old k) (omega (arith, start_is, at_is)) in
    ap (λ (xs : List ℕ). page_run old first head number ++ xs) here ∙ sym (page_run-more old first head number)

-- one more page is hashed
pub Hashing-next : (tells : Bool) (first head number : ℕ) (before mark next : List ℕ) (count after : ℕ) (old mid new : Story) (start at : ℕ) (page : List ℕ)
    → start ≡ first → at ≡ head → length page ≡ page_bytes → Hashing tells first head number before mark count old mid
    → (IsTrue tells → page ≡ mid.reads (start + at + number)) → (IsTrue tells → Stayed mid new)
    → ((h done : List ℕ) → length done % 64 ≡ 0 → Leads h done mark → Leads h (done ++ page) next) → after ≡ count + length page / 64
    → Hashing tells first head (number + 1) before next after old new
Hashing-next tells first head number before mark next count after old mid new start at page start_is at_is long hashing read stayed longer more = record {
  led = λ told. subst (λ (xs : List ℕ). Leads before xs next) (page_run-next old.reads mid.reads first head number start at page start_is at_is (hashing.images told).reads (read told))
      (longer before (page_run old.reads first head number) (omega (arith, hashing.whole told)) (hashing.led told));
  whole = λ told. ap length (sym (page_run-next old.reads mid.reads first head number start at page start_is at_is (hashing.images told).reads (read told))) ∙ length-append (page_run old.reads first head number) page ∙ (omega (arith, hashing.whole told, long));
  blocks = omega (arith, more, long, hashing.blocks);
  images = λ told. stayed_then old mid new (hashing.images told) (stayed told);
}

-- what a test of two values has told
not-true : (b : Bool) → not b ≡ true → false ≡ b
not-true true is = is
not-true false is = refl

not-false : (b : Bool) → not b ≡ false → true ≡ b
not-false true is = refl
not-false false is = is

pub told-other : (xs ys : List ℕ) (r : Bool) → r ≡ true → r ≡ not (pointwise nat_eq xs ys) → xs ≡ ys → ⊥
told-other xs ys r so is = other_text xs ys (not-true (pointwise nat_eq xs ys) (sym is ∙ so))

pub told-same : (xs ys : List ℕ) (r : Bool) → r ≡ false → r ≡ not (pointwise nat_eq xs ys) → xs ≡ ys
told-same xs ys r so is = same_text xs ys (not-false (pointwise nat_eq xs ys) (sym is ∙ so))

-- no link yet
pub Verifying-none : (tells : Bool) (first : ℕ) (state : State) (old : Story) → Verifying tells first state 0 old old
Verifying-none tells first state old = record {
  holds = λ told i below. absurd (omega arith);
  images = λ told. stayed_none old;
}

-- one more link holds
pub Verifying-next : (tells : Bool) (first : ℕ) (state : State) (link : ℕ) (old mid new : Story) (want got : List ℕ) → want ≡ kept state link → want ≡ got
    → Verifying tells first state link old mid → (IsTrue tells → got ≡ computed mid.reads first state link) → (IsTrue tells → Stayed mid new)
    → Verifying tells first state (link + 1) old new
Verifying-next tells first state link old mid new want got want_is same before got_is stayed = record {
  holds = λ told i below. elim (cases_lt i link) [
    | inl earlier ↦ before.holds told i earlier
    | inr here ↦ (
        let last : link ≡ i = omega (arith, below, here) in
        subst (λ (k : ℕ). computed old.reads first state k ≡ kept state k) last
        (ap (λ (image : Image). computed image first state link) (sym (before.images told).reads) ∙ sym (got_is told) ∙ sym same ∙ want_is))
  ];
  images = λ told. stayed_then old mid new (before.images told) (stayed told);
}

-- a link fails
pub Verifying-fails : (tells : Bool) (first : ℕ) (state : State) (link : ℕ) (old mid : Story) (want got : List ℕ) → IsTrue tells → link ≤ length state.extents
    → want ≡ kept state link → (want ≡ got → ⊥) → Verifying tells first state link old mid → got ≡ computed mid.reads first state link
    → FailsFirst (computed old.reads first state) state link want got
Verifying-fails tells first state link old mid want got told exists want_is differ before got_is = record {
  exists = exists;
  before = before.holds told;
  want_is = want_is;
  got_is = got_is ∙ ap (λ (image : Image). computed image first state link) (before.images told).reads;
  differ = differ;
}

-- an answer that says which link fails
pub fails-as : (value : ℕ → List ℕ) (state : State) (a link : ℕ) (b want c got : List ℕ)
    → FailsFirst value state a b c → a ≡ link → b ≡ want → c ≡ got → FailsFirst value state link want got
fails-as value state a link b want c got fails one two three =
    subst (λ (n : ℕ). FailsFirst value state n want got) one
    (subst (λ (xs : List ℕ). FailsFirst value state a xs got) two (subst (λ (xs : List ℕ). FailsFirst value state a b xs) three fails))

-- no call, one more read, and calls after others
pub took-none : (was : Calls) → Took 0 0 0 was was
took-none was = record { reads = omega arith; writes = omega arith; syncs = omega arith }

pub took-read : (n next : ℕ) (was then now : Calls) → Took n 0 0 was then → now ≡ with_read then → next ≡ n + 1 → Took next 0 0 was now
took-read n next was then now took made is = record {
  reads = omega (arith, ap (λ (c : Calls). c.reads) made, took.reads, is);
  writes = ap (λ (c : Calls). c.writes) made ∙ took.writes;
  syncs = ap (λ (c : Calls). c.syncs) made ∙ took.syncs;
}

took-then : (m n sum : ℕ) (was then now : Calls) → sum ≡ m + n → Took m 0 0 was then → Took n 0 0 then now → Took sum 0 0 was now
took-then m n sum was then now is one other = record {
  reads = omega (arith, one.reads, other.reads, is);
  writes = omega (arith, one.writes, other.writes);
  syncs = omega (arith, one.syncs, other.syncs);
}

-- a further link reads its pages
links-next : (state : State) (link : ℕ) → IsState state → link ≤ length state.extents → pages_of_links state (link + 1) ≡ pages_of_links state link + pages_of_link state link
links-next state link rules most = elim (cases_lt link (length state.extents)) [
  | inl below ↦ (let uses : UsesExtent state.size link = UsesExtent-HasShape state.size link _ rules.extents below in grind (arith, nat_tests, uses, held_by-next link))
  | inr past ↦ (
      let last : link ≡ length state.extents = omega (arith, most, past) in
      let held = rules.extents.held in grind (arith, nat_tests, last, held))
]

pub took-link : (state : State) (link : ℕ) (was then now : Calls) → IsState state → link ≤ length state.extents → Took (pages_of_links state link) 0 0 was then
    → Took (pages_of_link state link) 0 0 then now → Took (pages_of_links state (link + 1)) 0 0 was now
took-link state link was then now rules most one other =
    took-then (pages_of_links state link) (pages_of_link state link) (pages_of_links state (link + 1)) was then now (links-next state link rules most) one other

-- no link yet, and all of them
links-none : (state : State) → pages_of_links state 0 ≡ 0
unfolding held_by
links-none state = grind (arith, nat_tests)

pub took-no_link : (state : State) (was : Calls) → Took (pages_of_links state 0) 0 0 was was
took-no_link state was = subst (λ (n : ℕ). Took n 0 0 was was) (sym (links-none state)) (took-none was)

links-all : (state : State) (link : ℕ) → length state.extents < link → pages_of_links state link ≡ pages_from state.size 0
links-all state link past = grind (arith, nat_tests)

pub took-all : (state : State) (link : ℕ) (was now : Calls) → length state.extents < link → Took (pages_of_links state link) 0 0 was now → Took (pages_from state.size 0) 0 0 was now
took-all state link was now past took = subst (λ (n : ℕ). Took n 0 0 was now) (links-all state link past) took

-- The first links hold over a content.
abbrev pub HoldBelow : (ℕ → List ℕ) → State → ℕ → Type 0
HoldBelow value state link = (i : ℕ) → i < link → value i ≡ kept state i

-- one more does
pub HoldBelow-next : (value : ℕ → List ℕ) (state : State) (link : ℕ) (want got : List ℕ) → want ≡ kept state link → want ≡ got → got ≡ value link
    → HoldBelow value state link → HoldBelow value state (link + 1)
HoldBelow-next value state link want got want_is same got_is before i below = elim (cases_lt i link) [
  | inl earlier ↦ before i earlier
  | inr here ↦ (let last : link ≡ i = omega (arith, below, here) in
      subst (λ (k : ℕ). value k ≡ kept state k) last (sym got_is ∙ sym same ∙ want_is))
]

-- where the bytes of extents begin
pub part_begin-extent : (state : State) (link : ℕ) → IsState state → link < length state.extents → part_begin state link ≡ page_bytes * held_by link
part_begin-extent state link sound below =
    let uses : UsesExtent state.size link = UsesExtent-HasShape state.size link _ sound.extents below in grind (arith, nat_tests, uses)

-- and where each ends, the next begins
pub part_begin-next : (state : State) (link : ℕ) → IsState state → link < length state.extents
    → part_begin state (link + 1) ≡ part_begin state link + page_bytes * pages_used state.size link
part_begin-next state link sound below =
    let uses : UsesExtent state.size link = UsesExtent-HasShape state.size link _ sound.extents below in
    let next = held_by-next link in
    grind (arith, nat_tests, uses, next)

-- the first begins at the front
pub part_begin-none : (state : State) → part_begin state 0 ≡ 0
unfolding held_by
part_begin-none state = grind (arith, nat_tests)

-- the tail begins behind the full pages
pub part_begin-tail : (state : State) (link : ℕ) → IsState state → link ≡ length state.extents → part_begin state link ≡ page_bytes * (state.size / page_bytes)
part_begin-tail state link sound last = let held = sound.extents.held in grind (arith, nat_tests, held, last)

-- behind it the content ends
pub part_begin-end : (state : State) (link : ℕ) → link ≡ length state.extents → part_begin state (link + 1) ≡ state.size
part_begin-end state link last = grind (arith, nat_tests, last)

-- no link's bytes begin behind the content
pub part_begin-within : (state : State) (link : ℕ) → part_begin state link ≤ state.size
part_begin-within state link = grind (arith, nat_tests)

-- the bytes of a link in a content of the state's size, as a slice of it
pub part-given : (state : State) (content part : List ℕ) (link begin end : ℕ) → IsState state → length content ≡ state.size → link ≤ length state.extents
    → begin ≡ part_begin state link → end ≡ part_begin state (link + 1) → part ≡ take (end - begin) (drop begin content)
    → link_value (λ _. part) part state link ≡ given content state link
part-given state content part link begin end sound size_is most begin_is end_is is = elim (cases_lt link (length state.extents)) [
  | inl below ↦
      (let next = part_begin-next state link sound below in
      let from : begin ≡ page_bytes * held_by link = begin_is ∙ part_begin-extent state link sound below in
      let count : end - begin ≡ page_bytes * pages_used state.size link = omega (arith, end_is, begin_is, next) in
      link_value-extent (λ _. part) (extent_part content state.size) part (rest_of content) state link below
      (is ∙ ap (λ (n : ℕ). take n (drop begin content)) count ∙ ap (λ (n : ℕ). take (page_bytes * pages_used state.size link) (drop n content)) from))
  | inr past ↦
      (let last : link ≡ length state.extents = omega (arith, most, past) in
      let from : begin ≡ page_bytes * (state.size / page_bytes) = begin_is ∙ part_begin-tail state link sound last in
      let to : end ≡ state.size = end_is ∙ part_begin-end state link last in
      link_value-tail (λ _. part) (extent_part content state.size) part (rest_of content) state link past
      (is ∙ take_all (end - begin) (drop begin content) (omega (arith, to, size_is, length-drop begin content))
      ∙ ap (λ (n : ℕ). drop n content) (omega (arith, from, size_is))))
]
