-- Laws of stored tuples: what a list of bytes begins with is one tuple at most, so that a tuple has one spelling, and no
-- spelling begins another's.
use Rattle.std.proofs.Common.{◌≡◌, ℕ, suc, ◌^◌, ◌<◌, ◌≤◌, List, [], ◌∷◌, ◌++◌, length, take, drop, get_or, refl, sym, ap, ◌∙◌, arith, Option, Some, None}
use Rattle.std.specs.Prelude.{slice_get, slice_index, IfSome}
use Rattle.std.specs.Int.{w32, w64, to_be_bytes, from_be_bytes}
use Rattle.std.specs.List.{flat_map}
use Rattle.std.proofs.lemmas.List.{append_assoc, take_at, drop_at}
use Rattle.std.proofs.lemmas.Nat.{from_be_bytes-to_be_bytes_4, from_be_bytes-to_be_bytes_8, pow_pos}
use Rattle.store_model.specs.Hash.{bytes_of_state}
use Rattle.store_model.specs.Shape.{pages_of_extent, tier_of}
use Rattle.store_model.specs.State.{AreMarks, Extent, HasExtents, HasTail, IsMark, IsState, State, marks_of}
use Rattle.store_model.specs.Tuple.{IsTuple, extent_spelling, fields_spelling, key_spelling, places_spelling, spelling, state_spelling, tail_spelling}
use Rattle.store_model.proofs.ShapeLaws.{extents-HasShape}
use Rattle.store_model.proofs.StateLaws.{length-bytes_of_state}

-- two fronts of one length, of one list
pub split-same : (a b x y : List ℕ) → length a ≡ length b → a ++ x ≡ b ++ y → (a ≡ b) × (x ≡ y)
split-same a b x y len both = (
  sym (take_at a x (length b) len) ∙ ap (take (length b)) both ∙ take_at b y (length b) refl,
  sym (drop_at a x (length b) len) ∙ ap (drop (length b)) both ∙ drop_at b y (length b) refl,
)

-- numbers of four bytes and of eight
pub four-same : (m n : ℕ) → m < 2 ^ 32 → n < 2 ^ 32 → to_be_bytes w32 m ≡ to_be_bytes w32 n → m ≡ n
four-same m n low less same =
    sym (from_be_bytes-to_be_bytes_4 m low) ∙ ap (from_be_bytes w32) same ∙ from_be_bytes-to_be_bytes_4 n less

pub eight-same : (m n : ℕ) → m < 2 ^ 64 → n < 2 ^ 64 → to_be_bytes w64 m ≡ to_be_bytes w64 n → m ≡ n
eight-same m n low less same =
    sym (from_be_bytes-to_be_bytes_8 m low) ∙ ap (from_be_bytes w64) same ∙ from_be_bytes-to_be_bytes_8 n less

-- words
words-same : (a b : List ℕ) → length a ≡ length b → ((k : ℕ) → slice_index a k < 2 ^ 32) → ((k : ℕ) → slice_index b k < 2 ^ 32)
    → bytes_of_state a ≡ bytes_of_state b → a ≡ b
unfolding bytes_of_state
words-same [] [] len low less same = refl
words-same [] (w ∷ b) len low less same = absurd (omega arith)
words-same (v ∷ a) [] len low less same = absurd (omega arith)
words-same (v ∷ a) (w ∷ b) len low less same =
    let both = split-same (to_be_bytes w32 v) (to_be_bytes w32 w) (flat_map (to_be_bytes w32) a) (flat_map (to_be_bytes w32) b) refl same in
    let head : v ≡ w = four-same v w (low 0) (less 0) both.0 in
    let rest : a ≡ b = words-same a b (omega arith) (λ k. low (suc k)) (λ k. less (suc k)) both.1 in
    rw (head, rest) refl

pub marks-same : (a b : List ℕ) → IsMark a → IsMark b → bytes_of_state a ≡ bytes_of_state b → a ≡ b
marks-same a b one other same = words-same a b (one.eight ∙ sym other.eight) one.words other.words same

-- heads that are numbers of four bytes
abbrev pub HeadsFit : List Extent → Type 0
HeadsFit extents = (i : ℕ) (extent : Extent) → slice_get extents i ≡ Some extent → extent.head < 2 ^ 32

-- an extent is its head and its mark
extent-is : (a b : Extent) → a.head ≡ b.head → a.mark ≡ b.mark → a ≡ b
extent-is a b head mark =
    ap (λ (h : ℕ). record { head = h; mark = a.mark }) head ∙ ap (λ (m : List ℕ). record { head = b.head; mark = m }) mark

-- one extent
extent-same : (a b : Extent) (x y : List ℕ) → IsMark a.mark → IsMark b.mark → a.head < 2 ^ 32 → b.head < 2 ^ 32
    → extent_spelling a ++ x ≡ extent_spelling b ++ y → (a ≡ b) × (x ≡ y)
extent-same a b x y one other low less same =
    let words : length (bytes_of_state a.mark) ≡ length (bytes_of_state b.mark) =
    omega (arith, length-bytes_of_state a.mark, length-bytes_of_state b.mark, one.eight, other.eight) in
    let long : length (extent_spelling a) ≡ length (extent_spelling b) = omega (arith, words) in
    let both = split-same (extent_spelling a) (extent_spelling b) x y long same in
    let parts = split-same (to_be_bytes w32 a.head) (to_be_bytes w32 b.head) (bytes_of_state a.mark) (bytes_of_state b.mark) refl both.0 in
    let head : a.head ≡ b.head = four-same a.head b.head low less parts.0 in
    let mark : a.mark ≡ b.mark = marks-same a.mark b.mark one other parts.1 in
    (extent-is a b head mark, both.1)

-- as many extents
extents-same : (a b : List Extent) (x y : List ℕ) → length a ≡ length b → AreMarks (marks_of a) → AreMarks (marks_of b) → HeadsFit a → HeadsFit b
    → flat_map extent_spelling a ++ x ≡ flat_map extent_spelling b ++ y → (a ≡ b) × (x ≡ y)
extents-same [] [] x y len one other low less same = (refl, same)
extents-same [] (f ∷ b) x y len one other low less same = absurd (omega arith)
extents-same (e ∷ a) [] x y len one other low less same = absurd (omega arith)
extents-same (e ∷ a) (f ∷ b) x y len one other low less same =
    let moved : extent_spelling e ++ (flat_map extent_spelling a ++ x) ≡ extent_spelling f ++ (flat_map extent_spelling b ++ y) =
    sym (append_assoc (extent_spelling e) (flat_map extent_spelling a) x) ∙ same ∙ append_assoc (extent_spelling f) (flat_map extent_spelling b) y in
    let first = extent-same e f (flat_map extent_spelling a ++ x) (flat_map extent_spelling b ++ y) (one 0 e.mark refl) (other 0 f.mark refl)
    (low 0 e refl) (less 0 f refl) moved in
    let rest = extents-same a b x y (omega arith) (λ i mark is. one (suc i) mark is) (λ i mark is. other (suc i) mark is)
    (λ i extent is. low (suc i) extent is) (λ i extent is. less (suc i) extent is) first.1 in
    (ap (λ (g : Extent). g ∷ a) first.0 ∙ ap (λ (es : List Extent). f ∷ es) rest.0, rest.1)

-- a tail, where the size says whether there is one
tail-same : (size : ℕ) (s t : Option ℕ) (x y : List ℕ) → HasTail size s → HasTail size t
    → IfSome s (λ page. page < 2 ^ 32) → IfSome t (λ page. page < 2 ^ 32) → tail_spelling s ++ x ≡ tail_spelling t ++ y → (s ≡ t) × (x ≡ y)
tail-same size None None x y one other low less same = (refl, same)
tail-same size None (Some q) x y one other low less same = absurd (grind (arith, one.1 (other.0 refl)))
tail-same size (Some p) None x y one other low less same = absurd (grind (arith, other.1 (one.0 refl)))
tail-same size (Some p) (Some q) x y one other low less same =
    let both = split-same (to_be_bytes w32 p) (to_be_bytes w32 q) x y refl same in
    (ap Some (four-same p q low less both.0), both.1)

-- how many extents a size has
pub count-same : (size m n : ℕ) → HasExtents size m → HasExtents size n → m ≡ n
count-same size m n one other =
    omega (arith, extents-HasShape size n _ one other.held, extents-HasShape size m _ other one.held)

-- keys
pub key-same : (k l x y : List ℕ) → key_spelling k ++ x ≡ key_spelling l ++ y → (k ≡ l) × (x ≡ y)
key-same k l x y same =
    let len : length k ≡ length l = ap (λ (bytes : List ℕ). get_or bytes 0 0) same in
    split-same k l x y len (ap (drop 1) same)

-- the fields, one behind the other
fields-moved : (s : State) (x : List ℕ)
    → fields_spelling s ++ x ≡ to_be_bytes w32 s.size ++ (to_be_bytes w64 s.born ++ (s.digest ++ (s.prefix ++ x)))
fields-moved s x =
    let size : List ℕ = to_be_bytes w32 s.size in
    let born : List ℕ = to_be_bytes w64 s.born in
    append_assoc (size ++ born ++ s.digest) s.prefix x ∙ append_assoc (size ++ born) s.digest (s.prefix ++ x)
    ∙ append_assoc size born (s.digest ++ (s.prefix ++ x))

-- the parts of a tuple that its spelling tells
fields-same : (s t : State) (x y : List ℕ) → IsState s → IsState t → fields_spelling s ++ x ≡ fields_spelling t ++ y
    → ((s.size ≡ t.size) × (s.born ≡ t.born)) × ((s.digest ≡ t.digest) × (s.prefix ≡ t.prefix)) × (x ≡ y)
fields-same s t x y one other same =
    let numbers : List ℕ → State → List ℕ = λ (rest : List ℕ) (u : State). to_be_bytes w32 u.size ++ (to_be_bytes w64 u.born ++ (u.digest ++ (u.prefix ++ rest))) in
    let moved : numbers x s ≡ numbers y t = sym (fields-moved s x) ∙ same ∙ fields-moved t y in
    let size = split-same (to_be_bytes w32 s.size) (to_be_bytes w32 t.size) _ _ refl moved in
    let born = split-same (to_be_bytes w64 s.born) (to_be_bytes w64 t.born) _ _ refl size.1 in
    let digest = split-same s.digest t.digest _ _ (one.digest ∙ sym other.digest) born.1 in
    let prefix = split-same s.prefix t.prefix x y (one.prefix.bytes ∙ sym other.prefix.bytes) digest.1 in (
      (
        four-same s.size t.size (omega (arith, one.size)) (omega (arith, other.size)) size.0,
        eight-same s.born t.born (omega (arith, one.born.most)) (omega (arith, other.born.most)) born.0,
      ),
      (digest.0, prefix.0),
      prefix.1,
    )

-- heads are numbers of four bytes where there are at most so many pages
pub heads-fit : (pages : ℕ) (key : List ℕ) (s : State) → pages ≤ 2 ^ 32 → IsTuple pages key s → HeadsFit s.extents
heads-fit pages key s most tuple i extent is =
    let pos : 0 < pages_of_extent i = pow_pos (tier_of i) in
    omega (arith, tuple.extents i extent is, pos)

tail-fits : (pages : ℕ) (tail : Option ℕ) → pages ≤ 2 ^ 32 → IfSome tail (λ page. page < pages) → IfSome tail (λ page. page < 2 ^ 32)
tail-fits pages None most below = tt
tail-fits pages (Some page) most below = omega arith

-- a state, from its parts
abbrev state : ℕ → ℕ → List ℕ → List ℕ → List Extent → Option ℕ → State
state size born digest prefix extents tail =
    record { size = size; born = born; digest = digest; prefix = prefix; extents = extents; tail = tail }

states-same : (s t : State) → s.size ≡ t.size → s.born ≡ t.born → s.digest ≡ t.digest → s.prefix ≡ t.prefix → s.extents ≡ t.extents → s.tail ≡ t.tail → s ≡ t
states-same s t size born digest prefix extents tail =
    ap (λ (n : ℕ). state n s.born s.digest s.prefix s.extents s.tail) size
    ∙ ap (λ (n : ℕ). state t.size n s.digest s.prefix s.extents s.tail) born
    ∙ ap (λ (d : List ℕ). state t.size t.born d s.prefix s.extents s.tail) digest
    ∙ ap (λ (p : List ℕ). state t.size t.born t.digest p s.extents s.tail) prefix
    ∙ ap (λ (es : List Extent). state t.size t.born t.digest t.prefix es s.tail) extents
    ∙ ap (λ (o : Option ℕ). state t.size t.born t.digest t.prefix t.extents o) tail

-- What a list of bytes begins with is one tuple at most, and what follows it is one rest: a tuple has one spelling, no
-- tuple's spelling begins another's, and anything may follow a spelling.
pub spelling-unique : (pages : ℕ) (k l : List ℕ) (s t : State) (x y : List ℕ) → pages ≤ 2 ^ 32 → IsTuple pages k s → IsTuple pages l t
    → spelling k s ++ x ≡ spelling l t ++ y → (k ≡ l) × (s ≡ t) × (x ≡ y)
spelling-unique pages k l s t x y most one other same =
    let keys = key-same k l (state_spelling s ++ x) (state_spelling t ++ y)
    (sym (append_assoc (key_spelling k) (state_spelling s) x) ∙ same ∙ append_assoc (key_spelling l) (state_spelling t) y) in
    let fields = fields-same s t (places_spelling s.extents s.tail ++ x) (places_spelling t.extents t.tail ++ y) one.stands other.stands
    (sym (append_assoc (fields_spelling s) (places_spelling s.extents s.tail) x) ∙ keys.1 ∙ append_assoc (fields_spelling t) (places_spelling t.extents t.tail) y) in
    let size : s.size ≡ t.size = fields.0.0 in
    let count : length s.extents ≡ length t.extents =
    count-same t.size (length s.extents) (length t.extents) (rw size at one.stands.extents) other.stands.extents in
    let extents = extents-same s.extents t.extents (tail_spelling s.tail ++ x) (tail_spelling t.tail ++ y) count one.stands.marks other.stands.marks
    (heads-fit pages k s most one) (heads-fit pages l t most other)
    (sym (append_assoc (flat_map extent_spelling s.extents) (tail_spelling s.tail) x) ∙ fields.2 ∙ append_assoc (flat_map extent_spelling t.extents) (tail_spelling t.tail) y) in
    let tail = tail-same t.size s.tail t.tail x y (rw size at one.stands.tail) other.stands.tail
    (tail-fits pages s.tail most one.tail) (tail-fits pages t.tail most other.tail) extents.1 in
    (keys.0, states-same s t size fields.0.1 fields.1.0 fields.1.1 extents.0 tail.0, tail.1)
