-- Laws of the fields of a stored tuple: where a tuple stands that keeps the rules, all of them are good.
use Rattle.std.proofs.Common.{◌≡◌, ℕ, zero, suc, ◌+◌, ◌-◌, ◌*◌, ◌%◌, ◌^◌, ◌<◌, ◌≤◌, inl, inr, true, List, [], ◌∷◌, ◌++◌, length, drop, get_or, refl, sym, ap, ◌∙◌, arith, length-append, Option, Some, None}
use Rattle.std.specs.Prelude.{slice_get, slice_index, IfSome, IsTrue, nat_le, nat_lt, ◌==◌}
use Rattle.std.specs.Int.{w32, w64, to_be_bytes}
use Rattle.std.specs.List.{flat_map, list_all, range_with_len}
use Rattle.std.proofs.lemmas.Bool.{and_from, and_parts, cases_lt, cond-true, cond-false, eq-eqb, eqb-true, false_from_ne_true, le-leb, lt-ltb}
use Rattle.std.proofs.lemmas.List.{get_or-drop, get_or-map, length-map}
use Rattle.std.proofs.lemmas.Option.{get_or_from_slice_get, slice_get_within}
use Rattle.store_model.specs.Disk.{page_bytes}
use Rattle.store_model.specs.Field.{AreGood, Field, Number, told_four}
use Rattle.store_model.specs.Hash.{bytes_of_state}
use Rattle.store_model.specs.Shape.{greatest_size, pages_of_extent}
use Rattle.store_model.specs.State.{AreMarks, Extent, HasExtents, HasTail, IsPrefix, IsState, State, heads_of, marks_of}
use Rattle.store_model.specs.Tuple.{IsAtFront, IsTuple, extent_spelling, fields_spelling, key_spelling, places_spelling, spelling, state_spelling, tail_spelling}
use Rattle.store_model.specs.TupleFields.{Rules, any_tuple, ruled_key_fields, IsBadTuple, content_fields, extent_fields, is_filled, is_head, is_within, places_fields, tail_fields, told_key, told_size, tuple_fields}
use Rattle.store_model.proofs.FieldLaws.{TextStands-at, AreGood-append, AreGood-none_broken, AreGood-same, IsGood-bytes, IsGood-eight, IsGood-four, TextStands, TextStands-back, TextStands-front, TextStands-start, told_four-stands}
use Rattle.store_model.proofs.StateLaws.{length-bytes_of_state, length-extents_spelling, length-fields_spelling}
use Rattle.store_model.proofs.TupleLaws.{HeadsFit, count-same, heads-fit}
use Rattle.store_model.proofs.KeyFieldLaws.{ruled_key-good, told_key-stands}

-- A key and a state keep the rules: the key may stand there, and the number is one of those that may.
pub record KeepsRules (rules : Rules) (key : List ℕ) (state : State) : Type 0 where
  pub key_may : IsTrue (rules.key key)
  pub from_least : rules.least ≤ state.born
  pub to_most : state.born ≤ rules.most

-- zeros, one by one and all together
list_all-zeros : (xs : List ℕ) → ((k : ℕ) → get_or xs k 0 ≡ 0) → list_all (λ byte. byte == 0) xs ≡ true
list_all-zeros [] zeros = refl
list_all-zeros (x ∷ xs) zeros = and_from _ _ (eq-eqb x 0 (zeros 0)) (list_all-zeros xs (λ k. zeros (suc k)))

zeros-list_all : (xs : List ℕ) (k : ℕ) → list_all (λ byte. byte == 0) xs ≡ true → get_or xs k 0 ≡ 0
zeros-list_all [] k all = refl
zeros-list_all (x ∷ xs) zero all = eqb-true x 0 (and_parts _ _ all).0
zeros-list_all (x ∷ xs) (suc k) all = zeros-list_all xs k (and_parts _ _ all).1

pub is_filled-zeros : (size : ℕ) (prefix : List ℕ) → IsPrefix size prefix → IsTrue (is_filled size prefix)
is_filled-zeros size prefix is =
    list_all-zeros (drop size prefix) (λ k. get_or-drop size prefix k 0 ∙ is.zeros (size + k) (omega arith))

pub IsPrefix-is_filled : (size : ℕ) (prefix : List ℕ) → length prefix ≡ 32 → IsTrue (is_filled size prefix) → IsPrefix size prefix
IsPrefix-is_filled size prefix long filled =
    record {
      bytes = long;
      zeros = λ k past.
          let place : k ≡ size + (k - size) = omega arith in
          ap (λ (i : ℕ). get_or prefix i 0) place ∙ sym (get_or-drop size prefix (k - size) 0) ∙ zeros-list_all (drop size prefix) (k - size) filled;
    }

-- the fields before the extents, from what stands there
content-good : (stored : List ℕ) (at least most : ℕ) (state : State) → IsState state → least ≤ state.born → state.born ≤ most
    → TextStands stored at (fields_spelling state) → AreGood stored (content_fields least most at state.size)
content-good stored at least most state is low high stands =
    let size : List ℕ = to_be_bytes w32 state.size in
    let born : List ℕ = to_be_bytes w64 state.born in
    let three : TextStands stored at (size ++ born ++ state.digest) = TextStands-front stored at (size ++ born ++ state.digest) state.prefix stands in
    let two : TextStands stored at (size ++ born) = TextStands-front stored at (size ++ born) state.digest three in
    let long : length (size ++ born ++ state.digest) ≡ 44 = omega (arith, length-append (size ++ born) state.digest, length-append size born, is.digest) in
    let second : TextStands stored (at + 4) born = TextStands-back stored at size born two in
    let third : TextStands stored (at + 12) state.digest = TextStands-back stored at (size ++ born) state.digest three in
    let fourth : TextStands stored (at + 44) state.prefix = TextStands-at stored _ _ state.prefix (ap (λ (n : ℕ). at + n) long) (TextStands-back stored at (size ++ born ++ state.digest) state.prefix stands) in (
      IsGood-four stored at state.size (λ n. nat_le n greatest_size) (omega (arith, is.size)) (le-leb state.size greatest_size is.size) (TextStands-front stored at size born two),
      (
        IsGood-eight stored (at + 4) state.born (is_within least most) (omega (arith, is.born.most))
            (and_from _ _ (le-leb least state.born low) (le-leb state.born most high)) second,
        (
          IsGood-bytes stored (at + 12) 32 state.digest (λ bytes. true) is.digest refl third,
          (IsGood-bytes stored (at + 44) 32 state.prefix (is_filled state.size) is.prefix.bytes (is_filled-zeros state.size state.prefix is.prefix) fourth, tt),
        ),
      ),
    )

-- the head of each extent, from extent j on
abbrev pub AreHeads : ℕ → ℕ → List Extent → Type 0
AreHeads pages j extents = (i : ℕ) (extent : Extent) → slice_get extents i ≡ Some extent → IsTrue (is_head pages (j + i) extent.head)

AreHeads-first : (pages j : ℕ) (e : Extent) (extents : List Extent) → AreHeads pages j (e ∷ extents) → IsTrue (is_head pages j e.head)
AreHeads-first pages j e extents heads = let same : j + 0 ≡ j = omega arith in rw same at (heads 0 e refl)

AreHeads-rest : (pages j : ℕ) (e : Extent) (extents : List Extent) → AreHeads pages j (e ∷ extents) → AreHeads pages (j + 1) extents
AreHeads-rest pages j e extents heads i extent is =
    let same : j + suc i ≡ j + 1 + i = omega arith in rw same at (heads (suc i) extent is)

-- the fields of the extents, from what stands there
extents-good : (stored : List ℕ) (pages at j : ℕ) (extents : List Extent) → AreMarks (marks_of extents) → HeadsFit extents → AreHeads pages j extents
    → TextStands stored (at + 36 * j) (flat_map extent_spelling extents) → AreGood stored (flat_map (extent_fields pages at) (range_with_len j (length extents)))
extents-good stored pages at j [] marks fit heads stands = tt
extents-good stored pages at j (e ∷ extents) marks fit heads stands =
    let start : ℕ = at + 36 * j in
    let head : List ℕ = to_be_bytes w32 e.head in
    let mark : List ℕ = bytes_of_state e.mark in
    let eight : length mark ≡ 32 = omega (arith, length-bytes_of_state e.mark, (marks 0 e.mark refl).eight) in
    let first : TextStands stored start (head ++ mark) = TextStands-front stored start (head ++ mark) (flat_map extent_spelling extents) stands in
    let second : TextStands stored (at + (36 * j + 4)) mark = TextStands-at stored (start + 4) _ mark (omega arith) (TextStands-back stored start head mark first) in
    let next : start + length (head ++ mark) ≡ at + 36 * (j + 1) = omega (arith, length-append head mark) in
    let rest : TextStands stored (at + 36 * (j + 1)) (flat_map extent_spelling extents) =
    TextStands-at stored _ _ (flat_map extent_spelling extents) next (TextStands-back stored start (head ++ mark) (flat_map extent_spelling extents) stands) in (
      IsGood-four stored start e.head (is_head pages j) (fit 0 e refl) (AreHeads-first pages j e extents heads) (TextStands-front stored start head mark first),
      (
        IsGood-bytes stored (at + (36 * j + 4)) 32 mark (λ bytes. true) eight refl second,
        extents-good stored pages at (j + 1) extents (λ i m is. marks (suc i) m is) (λ i extent is. fit (suc i) extent is) (AreHeads-rest pages j e extents heads) rest,
      ),
    )

-- where there is a tail, and where there is none
pub tail_fields-none : (pages at size : ℕ) → HasTail size None → tail_fields pages at size ≡ []
tail_fields-none pages at size has =
    elim (cases_lt 0 (size % page_bytes)) [
      | inl some ↦ absurd (grind (arith, has.1 some))
      | inr none ↦ cond-true (size % page_bytes == 0) _ _ (eq-eqb (size % page_bytes) 0 (omega arith))
    ]

pub tail_fields-some : (pages at size page : ℕ) → HasTail size (Some page) → tail_fields pages at size ≡ record { at = at; bytes = 4; rule = Number w32 (λ n. nat_lt n pages) } ∷ []
tail_fields-some pages at size page has =
    cond-false (size % page_bytes == 0) _ _ (false_from_ne_true _ (λ none. absurd (omega (arith, has.0 refl, eqb-true (size % page_bytes) 0 none))))

-- the field of the tail, from what stands there
tail-good : (stored : List ℕ) (pages at size : ℕ) (tail : Option ℕ) → pages ≤ 2 ^ 32 → HasTail size tail → IfSome tail (λ page. page < pages)
    → TextStands stored at (tail_spelling tail) → AreGood stored (tail_fields pages at size)
tail-good stored pages at size None most has below stands = rw (tail_fields-none pages at size has) tt
tail-good stored pages at size (Some page) most has below stands =
    rw (tail_fields-some pages at size page has)
    (IsGood-four stored at page (λ n. nat_lt n pages) (omega arith) (lt-ltb page pages below) stands, tt)

-- the fields, from the key's length and the size
abbrev fields_from : Rules → ℕ → ℕ → ℕ → ℕ → List Field
fields_from rules pages key size extents =
    ruled_key_fields rules.key key ++ (content_fields rules.least rules.most (1 + key) size ++ places_fields pages (1 + key + 76) size extents)

-- the size that is told where a tuple stands
told_size-stands : (stored key : List ℕ) (state : State) → told_key stored ≡ length key → state.size ≤ greatest_size
    → TextStands stored (1 + length key) (fields_spelling state) → told_size stored ≡ state.size
told_size-stands stored key state told most stands =
    let size : List ℕ = to_be_bytes w32 state.size in
    let born : List ℕ = to_be_bytes w64 state.born in
    let front = TextStands-front stored (1 + length key) size born
    (TextStands-front stored (1 + length key) (size ++ born) state.digest (TextStands-front stored (1 + length key) (size ++ born ++ state.digest) state.prefix stands)) in
    ap (λ (n : ℕ). told_four stored (1 + n)) told ∙ told_four-stands stored (1 + length key) state.size (omega (arith, most)) front

-- each head of a tuple is one
heads-tuple : (pages : ℕ) (key : List ℕ) (state : State) → IsTuple pages key state → AreHeads pages 0 state.extents
heads-tuple pages key state tuple i extent is =
    let zero_first : 0 + i ≡ i = omega arith in
    let within : i < length state.extents = slice_get_within state.extents i extent is in
    let head : slice_index (heads_of state.extents) i ≡ extent.head =
    get_or-map (λ (e : Extent). e.head) state.extents i extent 0 within ∙ ap (λ (e : Extent). e.head) (get_or_from_slice_get state.extents i extent extent is) in
    let aligned : extent.head % pages_of_extent i ≡ 0 =
    ap (λ (n : ℕ). n % pages_of_extent i) (sym head) ∙ tuple.stands.heads i (omega (arith, within, length-map state.extents (λ (e : Extent). e.head))) in
    rw zero_first (and_from _ _ (eq-eqb (extent.head % pages_of_extent i) 0 aligned) (le-leb (extent.head + pages_of_extent i) pages (tuple.extents i extent is)))

-- where a tuple stands, with the offsets of its parts
record Parts (stored key : List ℕ) (state : State) : Type 0 where
  front : TextStands stored 0 (key_spelling key)
  content : TextStands stored (1 + length key) (fields_spelling state)
  extents : TextStands stored (1 + length key + 76) (flat_map extent_spelling state.extents)
  tail : TextStands stored (1 + length key + 76 + 36 * length state.extents) (tail_spelling state.tail)

Parts-stands : (stored key : List ℕ) (state : State) → IsState state → TextStands stored 0 (spelling key state) → Parts stored key state
Parts-stands stored key state is stands =
    let at : ℕ = 1 + length key in
    let body : TextStands stored at (state_spelling state) =
    TextStands-at stored _ at (state_spelling state) (omega arith) (TextStands-back stored 0 (key_spelling key) (state_spelling state) stands) in
    let long : length (fields_spelling state) ≡ 76 = length-fields_spelling state is.digest is.prefix.bytes in
    let places : TextStands stored (at + 76) (places_spelling state.extents state.tail) =
    TextStands-at stored _ _ (places_spelling state.extents state.tail) (ap (λ (n : ℕ). at + n) long) (TextStands-back stored at (fields_spelling state) (places_spelling state.extents state.tail) body) in
    let count : length (flat_map extent_spelling state.extents) ≡ 36 * length state.extents = length-extents_spelling state.extents is.marks in
    record {
      front = TextStands-front stored 0 (key_spelling key) (state_spelling state) stands;
      content = TextStands-front stored at (fields_spelling state) (places_spelling state.extents state.tail) body;
      extents = TextStands-front stored (at + 76) (flat_map extent_spelling state.extents) (tail_spelling state.tail) places;
      tail = TextStands-at stored _ _ (tail_spelling state.tail) (ap (λ (n : ℕ). at + 76 + n) count)
          (TextStands-back stored (at + 76) (flat_map extent_spelling state.extents) (tail_spelling state.tail) places);
    }

-- the parts of a tuple at the front
Parts-IsAtFront : (pages : ℕ) (stored key : List ℕ) (state : State) → IsAtFront pages stored key state → Parts stored key state
Parts-IsAtFront pages stored key state front =
    Parts-stands stored key state front.tuple.stands (TextStands-start stored (spelling key state) front.rest front.stored_is)

told_size-IsAtFront : (pages : ℕ) (stored key : List ℕ) (state : State) → IsAtFront pages stored key state → told_size stored ≡ state.size
told_size-IsAtFront pages stored key state front =
    let parts = Parts-IsAtFront pages stored key state front in
    told_size-stands stored key state (told_key-stands stored key parts.front) front.tuple.stands.size parts.content

-- Where a tuple stands at the front that keeps the rules, all of its fields are good.
pub AreGood-IsAtFront : (rules : Rules) (pages : ℕ) (stored key : List ℕ) (state : State) → pages ≤ 2 ^ 32 → IsAtFront pages stored key state
    → KeepsRules rules key state → AreGood stored (tuple_fields rules pages stored (length state.extents))
AreGood-IsAtFront rules pages stored key state most front keeps =
    let tuple : IsTuple pages key state = front.tuple in
    let parts : Parts stored key state = Parts-IsAtFront pages stored key state front in
    let at : ℕ = 1 + length key in
    let none_before : at + 76 ≡ at + 76 + 36 * 0 = omega arith in
    let first = ruled_key-good rules.key stored key tuple.named keeps.key_may parts.front in
    let second = content-good stored at rules.least rules.most state tuple.stands keeps.from_least keeps.to_most parts.content in
    let third = extents-good stored pages (at + 76) 0 state.extents tuple.stands.marks (heads-fit pages key state most tuple) (heads-tuple pages key state tuple)
    (TextStands-at stored _ _ (flat_map extent_spelling state.extents) none_before parts.extents) in
    let fourth = tail-good stored pages (at + 76 + 36 * length state.extents) state.size state.tail most tuple.stands.tail tuple.tail parts.tail in
    let behind : List Field = places_fields pages (at + 76) state.size (length state.extents) in
    let places : AreGood stored behind = AreGood-append stored _ _ third fourth in
    let content : List Field = content_fields rules.least rules.most at state.size in
    let fields : AreGood stored (content ++ behind) = AreGood-append stored content behind second places in
    let all : AreGood stored (fields_from rules pages (length key) state.size (length state.extents)) =
    AreGood-append stored (ruled_key_fields rules.key (length key)) (content ++ behind) first fields in
    let key_told : told_key stored ≡ length key = told_key-stands stored key parts.front in
    let size_told : told_size stored ≡ state.size = told_size-IsAtFront pages stored key state front in
    AreGood-same stored _ _
    (ap (λ (n : ℕ). fields_from rules pages n state.size (length state.extents)) (sym key_told)
    ∙ ap (λ (n : ℕ). fields_from rules pages (told_key stored) n (length state.extents)) (sym size_told)) all

-- Where a tuple stands at the front that keeps the rules, there is no bad one.
pub IsAtFront-not_bad : (rules : Rules) (pages : ℕ) (stored key : List ℕ) (state : State) (at : ℕ) → pages ≤ 2 ^ 32 → IsAtFront pages stored key state
    → KeepsRules rules key state → IsBadTuple rules pages stored at → ⊥
IsAtFront-not_bad rules pages stored key state at most front keeps bad =
    let size : told_size stored ≡ state.size = told_size-IsAtFront pages stored key state front in
    let has : HasExtents (told_size stored) bad.extents = bad.counted (omega (arith, size, front.tuple.stands.size)) in
    let count : bad.extents ≡ length state.extents = count-same state.size _ _ (rw size at has) front.tuple.stands.extents in
    AreGood-none_broken stored (tuple_fields rules pages stored bad.extents) at
    (AreGood-same stored _ _ (ap (tuple_fields rules pages stored) (sym count)) (AreGood-IsAtFront rules pages stored key state most front keeps)) bad.first

-- every tuple keeps the rules of any tuple
pub KeepsRules-any : (pages : ℕ) (key : List ℕ) (state : State) → IsTuple pages key state → KeepsRules any_tuple key state
KeepsRules-any pages key state tuple = record { key_may = refl; from_least = tuple.stands.born.least; to_most = tuple.stands.born.most }
