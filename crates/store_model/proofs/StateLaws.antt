-- Laws of states: the marks of a content one after another, its prefix, and the lengths of spellings.
use Rattle.std.proofs.Common.{◌≡◌, ℕ, zero, suc, ◌+◌, ◌-◌, ◌*◌, ◌/◌, ◌<◌, ◌≤◌, ◌⊎◌, inl, inr, List, [], ◌∷◌, ◌++◌, length, take, drop, replicate, get_or, refl, ap, ◌∙◌, arith, length-append, Option, Some}
use Rattle.std.specs.Prelude.{min, slice_get, slice_index}
use Rattle.std.specs.Int.{w32, w64, to_be_bytes}
use Rattle.std.specs.List.{flat_map}
use Rattle.std.proofs.lemmas.Bool.{cases_lt}
use Rattle.std.proofs.lemmas.List.{length-replicate, length-take, take_min, take_all, drop-replicate, get_or-append_right}
use Rattle.store_model.specs.Disk.{page_bytes}
use Rattle.store_model.specs.Hash.{Leads, bytes_of_state, initial_state}
use Rattle.store_model.specs.Shape.{UsesExtent, held_by, pages_used}
use Rattle.store_model.specs.State.{AreMarks, Draft, Extent, HasExtents, IsDraftOf, IsMark, IsPrefix, MarksTell, Places, State, Tells, bytes_through, marks_of, prefix_of}
use Rattle.store_model.specs.Tuple.{extent_spelling, fields_spelling, key_spelling, places_spelling, spelling, state_spelling, tail_spelling}
use Rattle.store_model.proofs.HashLaws.{Leads-empty}
use Rattle.store_model.proofs.ShapeLaws.{held_by-next}

-- the last of a list, or one before it
pub slice_get-last : {A : Type 0} (xs : List A) (x y : A) (i : ℕ) → slice_get (xs ++ x ∷ []) i ≡ Some y
    → (slice_get xs i ≡ Some y) ⊎ ((i ≡ length xs) × (x ≡ y))
slice_get-last [] x y zero is = inr (refl, grind arith)
slice_get-last [] x y (suc i) is = grind arith
slice_get-last (z ∷ xs) x y zero is = inl is
slice_get-last (z ∷ xs) x y (suc i) is =
    elim (slice_get-last xs x y i is) [
      | inl before ↦ inl before
      | inr last ↦ inr (ap suc last.0, last.1)
    ]

-- no marks
pub MarksTell-none : (content : List ℕ) → MarksTell [] content
MarksTell-none content i mark is = grind arith

pub AreMarks-none : AreMarks []
AreMarks-none i mark is = grind arith

-- one more mark
pub MarksTell-next : (marks : List (List ℕ)) (mark content : List ℕ) → MarksTell marks content
    → Leads initial_state (take (bytes_through (length content) (length marks)) content) mark → MarksTell (marks ++ mark ∷ []) content
MarksTell-next marks mark content before last i m is =
    elim (slice_get-last marks mark m i is) [
      | inl earlier ↦ before i m earlier
      | inr here ↦ rw (here.0, ← here.1) last
    ]

pub AreMarks-next : (marks : List (List ℕ)) (mark : List ℕ) → AreMarks marks → IsMark mark → AreMarks (marks ++ mark ∷ [])
AreMarks-next marks mark before last i m is =
    elim (slice_get-last marks mark m i is) [
      | inl earlier ↦ before i m earlier
      | inr here ↦ rw (← here.1) last
    ]

-- wherever the draft of a content is placed, the state is one of the content
pub Tells-Places : (draft : Draft) (content at : List ℕ) (end : Option ℕ) (number : ℕ) (state : State)
    → IsDraftOf draft content → Places draft at end number state → Tells state content
Tells-Places draft content at end number state is places =
    record {
      size = places.size ∙ is.size;
      digest = places.digest ∙ is.digest;
      prefix = places.prefix ∙ is.prefix;
      marks = rw places.marks is.marks;
    }

-- behind a content the prefix is zeros
get_or-replicate_zero : (n k : ℕ) → get_or {A = ℕ} (replicate n 0) k 0 ≡ 0
get_or-replicate_zero zero k = refl
get_or-replicate_zero (suc n) zero = refl
get_or-replicate_zero (suc n) (suc k) = get_or-replicate_zero n k

get_or-past : (xs : List ℕ) (k : ℕ) → length xs ≤ k → get_or xs k 0 ≡ 0
get_or-past [] k past = refl
get_or-past (x ∷ xs) zero past = absurd (omega arith)
get_or-past (x ∷ xs) (suc k) past = get_or-past xs k (omega arith)

IsPrefix-zeros : (content : List ℕ) (k : ℕ) → length content ≤ k → (length content < 33) ⊎ (33 ≤ length content) → slice_index (prefix_of content) k ≡ 0
IsPrefix-zeros content k past (inl short) =
    let all : take 32 content ≡ content = take_all 32 content (omega arith) in
    rw all (get_or-append_right content (replicate (32 - length content) 0) (length content) k 0 refl past ∙ get_or-replicate_zero (32 - length content) (k - length content))
IsPrefix-zeros content k past (inr long) =
    let front = length-take 32 content in
    let back = length-replicate {A = ℕ} (32 - length content) 0 in
    get_or-past (prefix_of content) k (omega (arith, front, back, length-append (take 32 content) (replicate (32 - length content) 0)))

-- the prefix of a content is 32 bytes, with zeros behind a shorter content
pub IsPrefix-prefix_of : (content : List ℕ) → IsPrefix (length content) (prefix_of content)
IsPrefix-prefix_of content =
    let front = length-take 32 content in
    let back = length-replicate {A = ℕ} (32 - length content) 0 in
    record {
      bytes = omega (arith, front, back, length-append (take 32 content) (replicate (32 - length content) 0));
      zeros = λ k past. IsPrefix-zeros content k past (cases_lt (length content) 33);
    }

-- a content's first bytes, laid into zeros
pub prefix_of-laid : (content : List ℕ) (n : ℕ) → n ≡ min (length content) 32 → take n content ++ drop n (replicate 32 0) ≡ prefix_of content
prefix_of-laid content n is =
    let front : take n content ≡ take 32 content = ap (λ (m : ℕ). take m content) (is ∙ (omega arith)) ∙ take_min 32 content in
    let back : drop n (replicate 32 0) ≡ replicate (32 - length content) 0 = drop-replicate n 32 0 ∙ ap (λ (m : ℕ). replicate m 0) (omega arith) in
    ap (λ (xs : List ℕ). xs ++ drop n (replicate 32 0)) front ∙ ap (λ (xs : List ℕ). take 32 content ++ xs) back

-- an extent's spelling has 36 bytes
pub length-bytes_of_state : (h : List ℕ) → length (bytes_of_state h) ≡ 4 * length h
unfolding bytes_of_state
length-bytes_of_state [] = refl
length-bytes_of_state (w ∷ h) = omega (arith, length-append (to_be_bytes w32 w) (flat_map (to_be_bytes w32) h), length-bytes_of_state h)

pub length-extents_spelling : (extents : List Extent) → AreMarks (marks_of extents) → length (flat_map extent_spelling extents) ≡ 36 * length extents
length-extents_spelling [] marks = refl
length-extents_spelling (e ∷ extents) marks =
    let one : length (bytes_of_state e.mark) ≡ 32 = omega (arith, length-bytes_of_state e.mark, (marks 0 e.mark refl).eight) in
    let more = length-extents_spelling extents (λ i mark is. marks (suc i) mark is) in
    omega (arith, length-append (to_be_bytes w32 e.head) (bytes_of_state e.mark), length-append (extent_spelling e) (flat_map extent_spelling extents), one, more)

-- two pieces of a list, one after the other
take-split : (xs : List ℕ) (start end : ℕ) → start ≤ end → take start xs ++ take (end - start) (drop start xs) ≡ take end xs
take-split xs zero end below = ap (λ (m : ℕ). take m xs) (let same : end - 0 ≡ end = omega arith in same)
take-split [] (suc start) zero below = absurd (omega arith)
take-split [] (suc start) (suc end) below = take_all (suc end - suc start) [] (omega arith)
take-split (x ∷ xs) (suc start) zero below = absurd (omega arith)
take-split (x ∷ xs) (suc start) (suc end) below =
    let same : suc end - suc start ≡ end - start = omega arith in
    rw same (ap (λ (ys : List ℕ). x ∷ ys) (take-split xs start end (omega arith)))

-- what stands up to the end of an extent's used pages is no more than the full pages
pub bytes_through-min : (size i : ℕ) → UsesExtent size i → bytes_through size i ≡ page_bytes * min (held_by (i + 1)) (size / page_bytes)
bytes_through-min size i uses = ap (λ (n : ℕ). page_bytes * n) (omega (arith, held_by-next i))

-- How far a content is hashed after the marks of its first i extents: `start` bytes, which led to `mark` in `count` blocks.
pub record Hashed (content : List ℕ) (i start : ℕ) (mark : List ℕ) (count : ℕ) (marks : List (List ℕ)) : Type 0 where
  pub at : start ≡ page_bytes * min (held_by i) (length content / page_bytes)
  pub blocks : start ≡ 64 * count
  pub led : Leads initial_state (take start content) mark
  pub told : MarksTell marks content
  pub sound : AreMarks marks
  pub number : length marks ≡ i

-- one more extent
pub Hashed-next : (content : List ℕ) (i start end : ℕ) (mark next : List ℕ) (count after : ℕ) (marks : List (List ℕ))
    → Hashed content i start mark count marks → UsesExtent (length content) i
    → end ≡ start + pages_used (length content) i * page_bytes → after ≡ count + (end - start) / 64
    → Leads initial_state (take start content ++ take (end - start) (drop start content)) next → IsMark next
    → Hashed content (i + 1) end next after (marks ++ next ∷ [])
Hashed-next content i start end mark next count after marks hashed uses to blocks led sound =
    let through : end ≡ bytes_through (length content) i = omega (arith, hashed.at, uses) in
    let whole : take start content ++ take (end - start) (drop start content) ≡ take end content =
    take-split content start end (omega arith) in
    let here : Leads initial_state (take end content) next = rw whole at led in
    let last : Leads initial_state (take (bytes_through (length content) (length marks)) content) next =
    rw (hashed.number, ← through) here in
    record {
      at = through ∙ bytes_through-min (length content) i uses;
      blocks = omega (arith, hashed.blocks);
      led = here;
      told = MarksTell-next marks next content hashed.told last;
      sound = AreMarks-next marks next hashed.sound sound;
      number = omega (arith, length-append marks (next ∷ []), hashed.number);
    }

-- the used pages of one more extent are all of the content
pub Hashed-fits : (content : List ℕ) (i start : ℕ) (mark : List ℕ) (count : ℕ) (marks : List (List ℕ))
    → Hashed content i start mark count marks → UsesExtent (length content) i
    → start + pages_used (length content) i * page_bytes ≤ length content
Hashed-fits content i start mark count marks hashed uses = omega (arith, hashed.at, uses)

-- after all extents the full pages are hashed
pub Hashed-all : (content : List ℕ) (i start : ℕ) (mark : List ℕ) (count : ℕ) (marks : List (List ℕ))
    → Hashed content i start mark count marks → HasExtents (length content) i
    → start ≡ page_bytes * (length content / page_bytes)
Hashed-all content i start mark count marks hashed has = omega (arith, hashed.at, has.held)

held_by-none : held_by 0 ≡ 0
unfolding held_by
held_by-none = refl

-- no extent yet
pub Hashed-none : (content : List ℕ) → Hashed content 0 0 initial_state 0 []
Hashed-none content =
    record {
      at = omega (arith, held_by-none);
      blocks = refl;
      led = Leads-empty initial_state;
      told = MarksTell-none content;
      sound = AreMarks-none;
      number = refl;
    }

-- four lists, one after the other
length-four : (a b c d : List ℕ) → length (a ++ b ++ c ++ d) ≡ length a + length b + length c + length d
length-four a b c d = omega (arith, length-append (a ++ b ++ c) d, length-append (a ++ b) c, length-append a b)

-- how long a spelling is
pub length-fields_spelling : (state : State) → length state.digest ≡ 32 → length state.prefix ≡ 32 → length (fields_spelling state) ≡ 76
length-fields_spelling state digest prefix =
    length-four (to_be_bytes w32 state.size) (to_be_bytes w64 state.born) state.digest state.prefix ∙ omega (arith, digest, prefix)

pub length-places_spelling : (extents : List Extent) (tail : Option ℕ) → AreMarks (marks_of extents)
    → length (places_spelling extents tail) ≡ 36 * length extents + length (tail_spelling tail)
length-places_spelling extents tail marks =
    length-append (flat_map extent_spelling extents) (tail_spelling tail)
    ∙ ap (λ (n : ℕ). n + length (tail_spelling tail)) (length-extents_spelling extents marks)

pub length-state_spelling : (state : State) → length state.digest ≡ 32 → length state.prefix ≡ 32 → AreMarks (marks_of state.extents)
    → length (state_spelling state) ≡ 76 + (36 * length state.extents + length (tail_spelling state.tail))
length-state_spelling state digest prefix marks =
    let fields = length-fields_spelling state digest prefix in
    let places = length-places_spelling state.extents state.tail marks in
    length-append (fields_spelling state) (places_spelling state.extents state.tail)
    ∙ ap (λ (n : ℕ). n + length (places_spelling state.extents state.tail)) fields ∙ ap (λ (n : ℕ). 76 + n) places

pub length-spelling : (key : List ℕ) (state : State) → length state.digest ≡ 32 → length state.prefix ≡ 32 → AreMarks (marks_of state.extents)
    → length (spelling key state) ≡ 1 + length key + 76 + 36 * length state.extents + length (tail_spelling state.tail)
length-spelling key state digest prefix marks =
    let rest = length-state_spelling state digest prefix marks in
    length-append (key_spelling key) (state_spelling state) ∙ ap (λ (n : ℕ). length (key_spelling key) + n) rest ∙ (omega arith)
