-- Laws of what a data area holds: at a place it holds one content of each size at most, at that of a state exactly one, and
-- the links of a state give the same over its pages and over that content.
use Rattle.std.proofs.Common.{◌≡◌, ℕ, zero, suc, ◌+◌, ◌-◌, ◌*◌, ◌/◌, ◌%◌, ◌<◌, ◌≤◌, true, false, List, [], ◌++◌, length, take, drop, length-append, length-drop, Option, Some, None, refl, sym, ◌∙◌, ap, subst, arith, inl, inr}
use Rattle.std.specs.Prelude.{nat_lt, slice_get, slice_index}
use Rattle.std.proofs.Math.Seq.{drop-append_seam, take-add}
use Rattle.std.proofs.lemmas.Bool.{cases_lt}
use Rattle.std.proofs.lemmas.Bool.Decides.{nat_tests}
use Rattle.std.proofs.lemmas.List.{drop-append-le, length-map, length-take-le, take-append-drop, take-append-le, take_all}
use Rattle.store_model.specs.Disk.{HasPages, Image, page_bytes}
use Rattle.store_model.specs.Hash.{bytes_of_state, close, state_after}
use Rattle.store_model.specs.Holds.{Holds, HoldsAt, HoldsPage, StandsAt, full_page, place_of, rest_of}
use Rattle.store_model.specs.Shape.{LiesAt, held_by}
use Rattle.store_model.specs.State.{Extent, HasTail, IsState, State, heads_of}
use Rattle.store_model.specs.Store.{Placement}
use Rattle.store_model.specs.Verify.{FailsFirst, LeadsTo, Verifies, computed, extent_bytes, extent_part, given, link_from, link_value, tail_on}
use Rattle.store_model.proofs.HeldLaws.{HoldsAt-full}
use Rattle.store_model.proofs.VerifyLaws.{extent-held, no_tail, slice_get-index, tail-held}

-- one more page
front-next : (k : ℕ) (content : List ℕ) → take (page_bytes * suc k) content ≡ take (page_bytes * k) content ++ full_page content k
front-next k content =
    let more : page_bytes * suc k ≡ page_bytes * k + page_bytes = omega arith in
    ap (λ (n : ℕ). take n content) more ∙ take-add (page_bytes * k) page_bytes content

-- two contents that are held at one place agree in their full pages
fronts : (image : Image) (first : ℕ) (place : Placement) (a b : List ℕ) (k : ℕ) → HoldsAt image first place a → HoldsAt image first place b
    → k ≤ length a / page_bytes → k ≤ length b / page_bytes → take (page_bytes * k) a ≡ take (page_bytes * k) b
fronts image first place a b zero one other most also =
    let none : page_bytes * 0 ≡ 0 = omega arith in
    ap (λ (n : ℕ). take n a) none ∙ ap (λ (n : ℕ). take n b) (sym none)
fronts image first place a b (suc k) one other most also =
    let page = one.full k (omega (arith, most)) in
    let same : full_page a k ≡ full_page b k =
    sym page.2 ∙ HoldsAt-full image first place b other k page.0 (omega (arith, also)) page.1 in
    front-next k a
    ∙ ap (λ xs. xs ++ full_page a k) (fronts image first place a b k one other (omega (arith, most)) (omega (arith, also)))
    ∙ ap (λ xs. take (page_bytes * k) b ++ xs) same ∙ sym (front-next k b)

-- A place holds at most one content of a size on one image.
pub HoldsAt-one : (image : Image) (first : ℕ) (place : Placement) (a b : List ℕ) → HoldsAt image first place a → HoldsAt image first place b
    → length a ≡ length b → a ≡ b
HoldsAt-one image first place a b one other long =
    let n : ℕ = length a / page_bytes in
    let front : take (page_bytes * n) a ≡ take (page_bytes * n) b =
    fronts image first place a b n one other (omega arith) (omega (arith, long)) in
    let rest : rest_of a ≡ rest_of b =
    sym (tail-held image first place a place.tail refl one one.tailed)
    ∙ ap (λ (size : ℕ). tail_on image first size place.tail) long
    ∙ tail-held image first place b place.tail refl other other.tailed in
    let start : length b / page_bytes ≡ n = omega (arith, long) in
    sym (take-append-drop (page_bytes * n) a)
    ∙ ap (λ xs. xs ++ rest_of a) front ∙ ap (λ xs. take (page_bytes * n) b ++ xs) rest
    ∙ ap (λ (k : ℕ). take (page_bytes * n) b ++ drop (page_bytes * k) b) start
    ∙ take-append-drop (page_bytes * n) b

-- So does a state.
pub Holds-one : (image : Image) (first : ℕ) (state : State) (a b : List ℕ) → Holds image first state a → Holds image first state b → a ≡ b
Holds-one image first state a b one other = HoldsAt-one image first (place_of state) a b one.at other.at (one.size ∙ sym other.size)

-- a page that some extents hold lies in one of them
lies-somewhere : (n page : ℕ) → page < held_by n → (i : ℕ) × (o : ℕ) × (i < n) × LiesAt page i o
unfolding held_by
lies-somewhere zero page below = absurd (omega arith)
lies-somewhere (suc n) page below = elim (cases_lt page (held_by n)) [
  | inl before ↦ (let one = lies-somewhere n page before in (one.0, one.1, omega (arith, one.2), one.3))
  | inr here ↦ (n, page - held_by n, omega arith, record { at = omega (arith, here); within = omega (arith, here, below) })
]

-- each full page of a state's content stands somewhere
pub stands-somewhere : (state : State) → IsState state → (page : ℕ) → page < state.size / page_bytes → (at : ℕ) × StandsAt (place_of state) page at
stands-somewhere state sound page below =
    let lies = lies-somewhere (length state.extents) page (omega (arith, below, sound.extents.held)) in
    let heads : List ℕ = heads_of state.extents in
    let there : slice_get heads lies.0 ≡ Some (slice_index heads lies.0) =
    slice_get-index heads lies.0 (omega (arith, lies.2, length-map state.extents (λ (e : Extent). e.head))) in (
      slice_index heads lies.0 + lies.1,
      record { extent = lies.0; offset = lies.1; lies = lies.3; head = slice_index heads lies.0; there = there; at_is = refl },
    )

-- a full page stays one where more bytes come behind
full_page-append : (front more : List ℕ) (page : ℕ) → page_bytes * (page + 1) ≤ length front → full_page (front ++ more) page ≡ full_page front page
full_page-append front more page within =
    ap (λ (xs : List ℕ). take page_bytes xs) (drop-append-le (page_bytes * page) front more (omega (arith, within)))
    ∙ take-append-le page_bytes (drop (page_bytes * page) front) more (omega (arith, within, length-drop (page_bytes * page) front))

-- where whole pages end
drop-front : (front more : List ℕ) (n : ℕ) → length front ≡ n → drop n (front ++ more) ≡ more
drop-front front more n long = ap (λ (k : ℕ). drop k (front ++ more)) (sym long) ∙ drop-append_seam front more

-- the bytes of the first pages of a state
record Front (image : Image) (first : ℕ) (place : Placement) (n : ℕ) : Type 0 where
  bytes : List ℕ
  long : length bytes ≡ page_bytes * n
  each : (page : ℕ) → page < n → HoldsPage image first place bytes page

front-of : (image : Image) (first : ℕ) (place : Placement) (n : ℕ) → HasPages image → ((page : ℕ) → page < n → (at : ℕ) × StandsAt place page at)
    → Front image first place n
front-of image first place zero pages stand = record { bytes = []; long = omega arith; each = λ page below. absurd (omega arith) }
front-of image first place (suc n) pages stand =
    let before = front-of image first place n pages (λ page below. stand page (omega arith)) in
    let here = stand n (omega arith) in
    let bytes : List ℕ = image (first + here.0) in
    let whole : length bytes ≡ page_bytes = (pages (first + here.0)).whole in
    record {
      bytes = before.bytes ++ bytes;
      long = length-append before.bytes bytes ∙ omega (arith, before.long, whole);
      each = λ page below. elim (cases_lt page n) [
        | inl earlier ↦
            (let one = before.each page earlier in
            (one.0, one.1, one.2 ∙ sym (full_page-append before.bytes bytes page (omega (arith, before.long, earlier)))))
        | inr last ↦
            (let same : n ≡ page = omega (arith, below, last) in
            let shown : bytes ≡ full_page (before.bytes ++ bytes) n =
            sym (ap (λ (xs : List ℕ). take page_bytes xs) (drop-front before.bytes bytes (page_bytes * n) before.long)
            ∙ take_all page_bytes bytes (omega (arith, whole))) in
            subst (λ (p : ℕ). HoldsPage image first place (before.bytes ++ bytes) p) same (here.0, here.1, shown))
      ];
    }

-- how many bytes a tail page gives
length-tail_on : (image : Image) (first size : ℕ) (tail : Option ℕ) → HasPages image → HasTail size tail → length (tail_on image first size tail) ≡ size % page_bytes
length-tail_on image first size None pages has = sym (no_tail size has)
length-tail_on image first size (Some page) pages has =
    length-take-le (size % page_bytes) (image (first + page)) (omega (arith, (pages (first + page)).whole))

-- the bytes of a tail page that is there
tail_on-some : (image : Image) (first size : ℕ) (tail : Option ℕ) (page : ℕ) → tail ≡ Some page → take (size % page_bytes) (image (first + page)) ≡ tail_on image first size tail
tail_on-some image first size tail page is = sym (ap (tail_on image first size) is)

-- On each image a state's place holds a content of its size.
pub Holds-there : (image : Image) (first : ℕ) (state : State) → HasPages image → IsState state → (content : List ℕ) × Holds image first state content
Holds-there image first state pages sound =
    let n : ℕ = state.size / page_bytes in
    let front = front-of image first (place_of state) n pages (λ page below. stands-somewhere state sound page below) in
    let tail : List ℕ = tail_on image first state.size state.tail in
    let long : length tail ≡ state.size % page_bytes = length-tail_on image first state.size state.tail pages sound.tail in
    let all : length (front.bytes ++ tail) ≡ state.size = length-append front.bytes tail ∙ omega (arith, front.long, long) in
    let rest : rest_of (front.bytes ++ tail) ≡ tail =
    ap (λ (size : ℕ). drop (page_bytes * (size / page_bytes)) (front.bytes ++ tail)) all ∙ drop-front front.bytes tail (page_bytes * n) front.long in (
      front.bytes ++ tail,
      record {
        size = all;
        at = record {
          full = λ page below.
              let within : page < n = omega (arith, below, all) in
              let one = front.each page within in
              (one.0, one.1, one.2 ∙ sym (full_page-append front.bytes tail page (omega (arith, front.long, within))));
          tailed = subst (λ (size : ℕ). HasTail size state.tail) (sym all) sound.tail;
          tail = λ page is.
              ap (λ (size : ℕ). take (size % page_bytes) (image (first + page))) all
              ∙ tail_on-some image first state.size state.tail page is ∙ sym rest;
        };
      },
    )

-- the link of an extent gives the same where its bytes are the same
pub link_value-extent : (one other : ℕ → List ℕ) (tail rest : List ℕ) (state : State) (i : ℕ) → i < length state.extents → one i ≡ other i
    → link_value one tail state i ≡ link_value other rest state i
link_value-extent one other tail rest state i less same =
    let yes : nat_lt i (length state.extents) ≡ true = grind (arith, nat_tests, less) in
    rw yes (ap (λ (xs : List ℕ). bytes_of_state (state_after (link_from state i) xs)) same)

-- so does the last link, where the tail's bytes are
pub link_value-tail : (one other : ℕ → List ℕ) (tail rest : List ℕ) (state : State) (i : ℕ) → length state.extents ≤ i → tail ≡ rest
    → link_value one tail state i ≡ link_value other rest state i
link_value-tail one other tail rest state i past same =
    let no : nat_lt i (length state.extents) ≡ false = grind (arith, nat_tests, past) in
    rw no (ap (close (link_from state i) (64 * (state.size / page_bytes))) same)

-- the links of a state give the same over its pages and over the content that they hold
pub computed-given : (image : Image) (first : ℕ) (state : State) (content : List ℕ) (i : ℕ) → Holds image first state content
    → computed image first state i ≡ given content state i
computed-given image first state content i held = elim (cases_lt i (length state.extents)) [
  | inl less ↦
      link_value-extent (extent_bytes image first state) (extent_part content state.size) (tail_on image first state.size state.tail) (rest_of content) state i less
      (extent-held image first state content i (sym held.size) held.at less ∙ ap (λ (size : ℕ). extent_part content size i) held.size)
  | inr past ↦
      link_value-tail (extent_bytes image first state) (extent_part content state.size) (tail_on image first state.size state.tail) (rest_of content) state i past
      (ap (λ (size : ℕ). tail_on image first size state.tail) (sym held.size)
      ∙ tail-held image first (place_of state) content state.tail refl held.at held.at.tailed)
]

-- So a state verifies where the content that is held leads to it,
pub Verifies-LeadsTo : (image : Image) (first : ℕ) (state : State) (content : List ℕ) → Holds image first state content → LeadsTo content state
    → Verifies image first state
Verifies-LeadsTo image first state content held leads = λ i most. computed-given image first state content i held ∙ leads.links i most

-- and the link that fails first over the content does over the pages.
pub FailsFirst-held : (image : Image) (first : ℕ) (state : State) (content : List ℕ) (link : ℕ) (want got : List ℕ) → Holds image first state content
    → FailsFirst (given content state) state link want got → FailsFirst (computed image first state) state link want got
FailsFirst-held image first state content link want got held fails = record {
  exists = fails.exists;
  before = λ i less. computed-given image first state content i held ∙ fails.before i less;
  want_is = fails.want_is;
  got_is = fails.got_is ∙ sym (computed-given image first state content link held);
  differ = fails.differ;
}

-- A state that verifies has no link that fails.
pub Verifies-whole : (image : Image) (first : ℕ) (state : State) (link : ℕ) (want got : List ℕ) → Verifies image first state
    → FailsFirst (computed image first state) state link want got → ⊥
Verifies-whole image first state link want got verifies fails = fails.differ (fails.want_is ∙ sym (verifies link fails.exists) ∙ sym fails.got_is)
