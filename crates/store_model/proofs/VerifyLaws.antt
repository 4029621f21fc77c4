-- A state that tells a content verifies wherever its places hold it.
use Rattle.std.proofs.Common.{◌≡◌, ℕ, zero, suc, ◌+◌, ◌-◌, ◌*◌, ◌/◌, ◌%◌, ◌<◌, ◌≤◌, Bool, true, false, cond, List, [], ◌∷◌, ◌++◌, length, take, drop, Option, Some, None, refl, sym, ◌∙◌, ap, subst, arith, inl, inr, min}
use Rattle.std.specs.Prelude.{nat_lt, slice_get, slice_index, slice_index_or}
use Rattle.std.specs.List.{flat_map, range_with_len}
use Rattle.std.proofs.Math.Seq.{take-add}
use Rattle.std.proofs.lemmas.Bool.{cases_lt}
use Rattle.std.proofs.lemmas.Bool.Decides.{nat_tests}
use Rattle.std.proofs.lemmas.List.{drop_all, length-map, length-take-le, take-append-drop}
use Rattle.store_model.specs.Disk.{Image, page_bytes}
use Rattle.store_model.specs.Hash.{Leads, bytes_of_state, close, initial_state, sha256, state_after}
use Rattle.store_model.specs.Holds.{Holds, HoldsAt, StandsAt, full_page, place_of, rest_of}
use Rattle.store_model.specs.Shape.{UsesExtent, held_by, pages_used}
use Rattle.store_model.specs.State.{Extent, HasTail, IsState, State, Tells, bytes_through, heads_of, marks_of}
use Rattle.store_model.specs.Store.{Placement}
use Rattle.store_model.specs.Verify.{Verifies, extent_bytes, link_from, mark_at, tail_on}
use Rattle.store_model.proofs.HashLaws.{Leads-empty, close-Leads, state_after-append}
use Rattle.store_model.proofs.HeldLaws.{HoldsAt-full}
use Rattle.store_model.proofs.ShapeLaws.{UsesExtent-HasShape}
use Rattle.store_model.proofs.StateLaws.{bytes_through-min}

-- a page, and then what is behind it
drop-none : (n : ℕ) → drop {A = ℕ} n [] ≡ []
drop-none zero = refl
drop-none (suc n) = refl

drop-more : (a b : ℕ) (xs : List ℕ) → drop b (drop a xs) ≡ drop (a + b) xs
drop-more zero b xs = let same : b ≡ 0 + b = omega arith in ap (λ (n : ℕ). drop n xs) same
drop-more (suc a) b [] = drop-none b ∙ sym (drop-none (suc a + b))
drop-more (suc a) b (x ∷ xs) = let same : suc (a + b) ≡ suc a + b = omega arith in drop-more a b xs ∙ ap (λ (n : ℕ). drop n (x ∷ xs)) same

joined : (content : List ℕ) (start next more all : ℕ) → next ≡ start + page_bytes → all ≡ page_bytes + more → take page_bytes (drop start content) ++ take more (drop next content) ≡ take all (drop start content)
joined content start next more all next_is all_is =
    ap (λ (n : ℕ). take page_bytes (drop start content) ++ take more (drop n content)) next_is
    ∙ ap (λ xs. take page_bytes (drop start content) ++ take more xs) (sym (drop-more start page_bytes content))
    ∙ sym (take-add page_bytes more (drop start content)) ∙ ap (λ (n : ℕ). take n (drop start content)) (sym all_is)

-- the pages of an extent, from one behind its head on, read as the content from there on
pages-held : (image : Image) (first : ℕ) (place : Placement) (content : List ℕ) (i head o k : ℕ) → HoldsAt image first place content → slice_get place.heads i ≡ Some head → o + k ≤ pages_used (length content) i
    → flat_map (λ page. image (first + page)) (range_with_len (head + o) k) ≡ take (page_bytes * k) (drop (page_bytes * (held_by i + o)) content)
pages-held image first place content i head o zero held there fits = refl
pages-held image first place content i head o (suc k) held there fits =
    let stands : StandsAt place (held_by i + o) (head + o) = record { extent = i; offset = o; lies = record { at = refl; within = omega (arith, fits) }; head = head; there = there; at_is = refl } in
    let here : image (first + (head + o)) ≡ full_page content (held_by i + o) = HoldsAt-full image first place content held (held_by i + o) (head + o) (omega (arith, fits)) stands in
    let next : head + o + 1 ≡ head + (o + 1) = omega arith in
    let later : held_by i + (o + 1) ≡ held_by i + o + 1 = omega arith in
    let rest = pages-held image first place content i head (o + 1) k held there (omega (arith, fits)) in
    ap (λ bytes. bytes ++ flat_map (λ page. image (first + page)) (range_with_len (head + o + 1) k)) here
    ∙ ap (λ (n : ℕ). full_page content (held_by i + o) ++ flat_map (λ page. image (first + page)) (range_with_len n k)) next
    ∙ ap (λ bytes. full_page content (held_by i + o) ++ bytes) (rest ∙ ap (λ (n : ℕ). take (page_bytes * k) (drop (page_bytes * n) content)) later)
    ∙ joined content (page_bytes * (held_by i + o)) (page_bytes * (held_by i + o + 1)) (page_bytes * k) (page_bytes * suc k) (omega arith) (omega arith)

-- up to where extent i begins
abbrev begin_of : ℕ → ℕ
begin_of i = page_bytes * held_by i

pub slice_get-index : (heads : List ℕ) (i : ℕ) → i < length heads → slice_get heads i ≡ Some (slice_index heads i)
slice_get-index [] i less = absurd (omega arith)
slice_get-index (h ∷ heads) zero less = refl
slice_get-index (h ∷ heads) (suc i) less = slice_get-index heads i (omega arith)

pub slice_get-or : (marks : List (List ℕ)) (i : ℕ) (d : List ℕ) → i < length marks → slice_get marks i ≡ Some (slice_index_or marks i d)
slice_get-or [] i d less = absurd (omega arith)
slice_get-or (m ∷ marks) zero d less = refl
slice_get-or (m ∷ marks) (suc i) d less = slice_get-or marks i d (omega arith)

-- what is known of a state that tells a content, in the places that hold it
record Known (image : Image) (first : ℕ) (state : State) (content : List ℕ) : Type 0 where
  sound : IsState state
  tells : Tells state content
  held : HoldsAt image first (place_of state) content

-- the mark of an extent leads from the initial state through its used pages
led-mark : (image : Image) (first : ℕ) (state : State) (content : List ℕ) (i : ℕ) → Known image first state content → i < length state.extents → Leads initial_state (take (bytes_through (length content) i) content) (mark_at state i)
led-mark image first state content i known less =
    known.tells.marks i (mark_at state i) (slice_get-or (marks_of state.extents) i [] (omega (arith, less, length-map state.extents (λ (e : Extent). e.mark))))

-- each extent is one of the size
uses : (image : Image) (first : ℕ) (state : State) (content : List ℕ) (i : ℕ) → Known image first state content → i < length state.extents → UsesExtent (length content) i
uses image first state content i known less =
    subst (λ (n : ℕ). UsesExtent n i) known.tells.size (UsesExtent-HasShape state.size i _ known.sound.extents less)

pub held-none : held_by 0 ≡ 0
unfolding held_by
held-none = refl

-- a later link begins with the mark before
pub link_from-next : (state : State) (i : ℕ) → link_from state (suc i) ≡ mark_at state i
link_from-next state i =
    let no : nat_lt (suc i) 1 ≡ false = grind (arith, nat_tests) in
    let before : suc i - 1 ≡ i = omega arith in
    ap (λ (b : Bool). cond b initial_state (mark_at state (suc i - 1))) no ∙ ap (mark_at state) before

-- how many bytes stand before extent i
abbrev pub before_of : ℕ → ℕ → ℕ
before_of size i = page_bytes * min (held_by i) (size / page_bytes)

-- a link begins with what the bytes before it lead to
led-from : (image : Image) (first : ℕ) (state : State) (content : List ℕ) (i : ℕ) → Known image first state content → i ≤ length state.extents
    → Leads initial_state (take (before_of (length content) i) content) (link_from state i)
led-from image first state content zero known le =
    let none : before_of (length content) 0 ≡ 0 = omega (arith, held-none) in
    ap (λ (n : ℕ). state_after initial_state (take n content)) none ∙ Leads-empty initial_state
led-from image first state content (suc i) known le =
    let next : i + 1 ≡ suc i = omega arith in
    let through = bytes_through-min (length content) i (uses image first state content i known (omega arith)) in
    let same : before_of (length content) (suc i) ≡ bytes_through (length content) i = ap (λ (n : ℕ). before_of (length content) n) (sym next) ∙ sym through in
    ap (λ (n : ℕ). state_after initial_state (take n content)) same
    ∙ led-mark image first state content i known (omega arith) ∙ sym (link_from-next state i)

-- what the pages of an extent read as
pub extent-held : (image : Image) (first : ℕ) (state : State) (content : List ℕ) (i : ℕ) → state.size ≡ length content → HoldsAt image first (place_of state) content → i < length state.extents
    → extent_bytes image first state i ≡ take (page_bytes * pages_used (length content) i) (drop (page_bytes * held_by i) content)
extent-held image first state content i size_is held less =
    let heads : List ℕ = heads_of state.extents in
    let there : slice_get heads i ≡ Some (slice_index heads i) = slice_get-index heads i (omega (arith, less, length-map state.extents (λ (e : Extent). e.head))) in
    let read = pages-held image first (place_of state) content i (slice_index heads i) 0 (pages_used (length content) i) held there (omega arith) in
    let begin : slice_index heads i + 0 ≡ slice_index heads i = omega arith in
    let start : held_by i + 0 ≡ held_by i = omega arith in
    ap (λ (n : ℕ). flat_map (λ page. image (first + page)) (range_with_len (slice_index heads i) (pages_used n i))) size_is
    ∙ ap (λ (n : ℕ). flat_map (λ page. image (first + page)) (range_with_len n (pages_used (length content) i))) (sym begin)
    ∙ read ∙ ap (λ (n : ℕ). take (page_bytes * pages_used (length content) i) (drop (page_bytes * n) content)) start

-- each extent leads from the mark before to its own
extent-leads : (image : Image) (first : ℕ) (state : State) (content : List ℕ) (i : ℕ) → Known image first state content → i < length state.extents
    → state_after (link_from state i) (extent_bytes image first state i) ≡ mark_at state i
extent-leads image first state content i known less =
    let size : ℕ = length content in
    let used : UsesExtent size i = uses image first state content i known less in
    let a : ℕ = page_bytes * held_by i in
    let b : ℕ = page_bytes * pages_used size i in
    let start : before_of size i ≡ a = omega (arith, used) in
    let end : bytes_through size i ≡ a + b = omega arith in
    let whole : length (take a content) % 64 ≡ 0 = omega (arith, used, length-take-le a content (omega (arith, used))) in
    let from : Leads initial_state (take a content) (link_from state i) = subst (λ (n : ℕ). Leads initial_state (take n content) (link_from state i)) start (led-from image first state content i known (omega (arith, less))) in
    ap (state_after (link_from state i)) (extent-held image first state content i known.tells.size known.held less)
    ∙ ap (λ (s : List ℕ). state_after s (take b (drop a content))) (sym from)
    ∙ sym (state_after-append initial_state (take a content) (take b (drop a content)) whole)
    ∙ ap (state_after initial_state) (sym (take-add a b content) ∙ ap (λ (n : ℕ). take n content) (sym end))
    ∙ led-mark image first state content i known less

-- Where no tail page is, no bytes are left.
pub no_tail : (size : ℕ) → HasTail size None → size % page_bytes ≡ 0
no_tail size has = elim (cases_lt 0 (size % page_bytes)) [ inl some ↦ absurd (cc (has.1 some)) | inr none ↦ omega arith ]

-- the bytes of the tail, from its page
pub tail-held : (image : Image) (first : ℕ) (place : Placement) (content : List ℕ) (tail : Option ℕ) → tail ≡ place.tail → HoldsAt image first place content → HasTail (length content) tail
    → tail_on image first (length content) tail ≡ rest_of content
tail-held image first place content None same held has =
    let none = no_tail (length content) has in
    sym (drop_all (page_bytes * (length content / page_bytes)) content (omega (arith, none)))
tail-held image first place content (Some page) same held has = held.tail page (sym same)

-- the digest's link gives the digest
tail-closes : (image : Image) (first : ℕ) (state : State) (content : List ℕ) → Known image first state content
    → close (link_from state (length state.extents)) (64 * (state.size / page_bytes)) (tail_on image first state.size state.tail) ≡ state.digest
tail-closes image first state content known =
    let size : ℕ = length content in
    let n : ℕ = length state.extents in
    let full : ℕ = page_bytes * (size / page_bytes) in
    let same : before_of size n ≡ full = omega (arith, known.sound.extents.full, known.sound.extents.held, known.tells.size) in
    let from : Leads initial_state (take full content) (link_from state n) = subst (λ (k : ℕ). Leads initial_state (take k content) (link_from state n)) same (led-from image first state content n known (omega arith)) in
    let count : length (take full content) ≡ 64 * (64 * (size / page_bytes)) = omega (arith, length-take-le full content (omega arith)) in
    let has : HasTail size state.tail = subst (λ (k : ℕ). HasTail k state.tail) known.tells.size known.sound.tail in
    ap (λ (k : ℕ). close (link_from state n) (64 * (k / page_bytes)) (tail_on image first k state.tail)) known.tells.size
    ∙ ap (close (link_from state n) (64 * (size / page_bytes))) (tail-held image first (place_of state) content state.tail refl known.held has)
    ∙ close-Leads (link_from state n) (take full content) (rest_of content) (64 * (size / page_bytes)) count from
    ∙ ap sha256 (take-append-drop full content) ∙ sym known.tells.digest

-- A state that tells a content verifies over every image whose pages hold it.
pub Verifies-Holds : (image : Image) (first : ℕ) (state : State) (content : List ℕ) → IsState state → Tells state content → Holds image first state content → Verifies image first state
Verifies-Holds image first state content sound tells held =
    let known : Known image first state content = record { sound = sound; tells = tells; held = held.at } in
    λ i le. elim (cases_lt i (length state.extents)) [
      | inl less ↦
          (let yes : nat_lt i (length state.extents) ≡ true = grind (arith, nat_tests, less) in
          ap (λ (b : Bool). cond b (bytes_of_state (state_after (link_from state i) (extent_bytes image first state i))) (close (link_from state i) (64 * (state.size / page_bytes)) (tail_on image first state.size state.tail))) yes
          ∙ ap bytes_of_state (extent-leads image first state content i known less)
          ∙ sym (ap (λ (b : Bool). cond b (bytes_of_state (mark_at state i)) state.digest) yes))
      | inr past ↦
          (let no : nat_lt i (length state.extents) ≡ false = grind (arith, nat_tests, past) in
          let last : i ≡ length state.extents = omega (arith, le, past) in
          ap (λ (b : Bool). cond b (bytes_of_state (state_after (link_from state i) (extent_bytes image first state i))) (close (link_from state i) (64 * (state.size / page_bytes)) (tail_on image first state.size state.tail))) no
          ∙ ap (λ (k : ℕ). close (link_from state k) (64 * (state.size / page_bytes)) (tail_on image first state.size state.tail)) last
          ∙ tail-closes image first state content known
          ∙ sym (ap (λ (b : Bool). cond b (bytes_of_state (mark_at state i)) state.digest) no))
    ]
