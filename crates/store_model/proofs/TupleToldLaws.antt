-- Laws of the fields of a stored tuple: where a key stands and all the fields behind it are good, the tuple that they tell stands
-- there.
use Rattle.std.proofs.Common.{◌≡◌, ℕ, zero, suc, ◌+◌, ◌*◌, ◌%◌, ◌<◌, ◌≤◌, inl, inr, true, List, [], ◌∷◌, ◌++◌, length, take, drop, get_or, set, refl, sym, ap, ◌∙◌, arith, length-append, length-drop, Option, Some, None}
use Rattle.std.specs.Prelude.{IfSome, nat_le}
use Rattle.std.specs.Int.{w32, w64, to_be_bytes}
use Rattle.std.specs.List.{flat_map, range_with_len}
use Rattle.std.proofs.lemmas.Bool.{and_parts, eqb-true, leb-true, ltb-true}
use Rattle.std.proofs.lemmas.Grind.{flat_map-append}
use Rattle.std.proofs.lemmas.List.{get_or-map, length-map, length-take-le, map-id, take_more_set}
use Rattle.std.proofs.lemmas.List.FromFn.{map-range_with_len_more}
use Rattle.std.proofs.lemmas.Option.{slice_get-get_or}
use Rattle.store_model.specs.Field.{AreGood, Field, told_four}
use Rattle.store_model.specs.Hash.{bytes_of_state}
use Rattle.store_model.specs.Shape.{greatest_size, pages_of_extent}
use Rattle.store_model.specs.State.{greatest_number, AreAligned, AreMarks, Extent, HasExtents, HasTail, IsState, State, heads_of, marks_of}
use Rattle.store_model.specs.Tuple.{IsAtFront, IsKeyAtFront, extent_spelling, fields_spelling, key_spelling, places_spelling, spelling, state_spelling, tail_spelling}
use Rattle.store_model.specs.TupleFields.{state_fields, AreExtentsTold, IsExtentTold, fields_at, content_fields, extent_fields, is_filled, tail_fields, told_size}
use Rattle.store_model.proofs.FieldLaws.{TextStands-at, AreBytes, AreGood-back, AreGood-front, TextStands, TextStands-append, TextStands-bytes, TextStands-eight, TextStands-four, TextStands-none, TextStands-rest, take-plus, told_eight}
use Rattle.store_model.proofs.StateLaws.{slice_get-last, length-bytes_of_state, length-extents_spelling, length-fields_spelling}
use Rattle.store_model.proofs.KeyFieldLaws.{TextStands-IsKeyAtFront, fields_at-key}
use Rattle.store_model.proofs.TupleFieldLaws.{AreHeads, tail_fields-some, IsPrefix-is_filled}

-- the first of the extents that are told, and the rest of them
AreExtentsTold-first : (stored : List ℕ) (at : ℕ) (e : Extent) (extents : List Extent) → AreExtentsTold stored at (e ∷ extents) → IsExtentTold stored at e
AreExtentsTold-first stored at e extents told = let same : at + 36 * 0 ≡ at = omega arith in rw same at (told 0 e refl)

AreExtentsTold-rest : (stored : List ℕ) (at : ℕ) (e : Extent) (extents : List Extent) → AreExtentsTold stored at (e ∷ extents) → AreExtentsTold stored (at + 36) extents
AreExtentsTold-rest stored at e extents told i extent is =
    let same : at + 36 * suc i ≡ at + 36 + 36 * i = omega arith in rw same at (told (suc i) extent is)

-- one more extent
pub AreExtentsTold-next : (stored : List ℕ) (at : ℕ) (extents : List Extent) (extent : Extent) → AreExtentsTold stored at extents
    → IsExtentTold stored (at + 36 * length extents) extent → AreExtentsTold stored at (extents ++ extent ∷ [])
AreExtentsTold-next stored at extents extent before last i e is =
    elim (slice_get-last extents extent e i is) [
      | inl earlier ↦ before i e earlier
      | inr here ↦ rw (here.0, ← here.1) last
    ]

-- the fields of one more extent
pub extent_fields-next : (pages at n : ℕ) → flat_map (extent_fields pages at) (range_with_len 0 (n + 1)) ≡ flat_map (extent_fields pages at) (range_with_len 0 n) ++ extent_fields pages at n
extent_fields-next pages at n =
    let next : range_with_len 0 (n + 1) ≡ range_with_len 0 n ++ n ∷ [] =
    sym (map-id (range_with_len 0 (n + 1))) ∙ map-range_with_len_more (λ (i : ℕ). i) 0 n n (omega arith) ∙ ap (λ (is : List ℕ). is ++ n ∷ []) (map-id (range_with_len 0 n)) in
    ap (flat_map (extent_fields pages at)) next ∙ flat_map-append (extent_fields pages at) (range_with_len 0 n) (n ∷ [])

-- the head of each extent that is told is one, where the fields are good
heads-told : (stored : List ℕ) (pages from j at : ℕ) (extents : List Extent) → at ≡ from + 36 * j → AreExtentsTold stored at extents
    → AreGood stored (flat_map (extent_fields pages from) (range_with_len j (length extents))) → AreHeads pages j extents
heads-told stored pages from j at [] start told good i extent is = absurd (grind arith)
heads-told stored pages from j at (e ∷ extents) start told good zero extent is =
    let same : j + 0 ≡ j = omega arith in
    let first : e ≡ extent = cc in
    let head : e.head ≡ told_four stored (from + 36 * j) = (AreExtentsTold-first stored at e extents told).head ∙ ap (told_four stored) start in
    rw (same, ← first, head) good.0.kept
heads-told stored pages from j at (e ∷ extents) start told good (suc i) extent is =
    let same : j + suc i ≡ j + 1 + i = omega arith in
    rw same (heads-told stored pages from (j + 1) (at + 36) extents (omega arith) (AreExtentsTold-rest stored at e extents told) good.1.1 i extent is)

-- the extents that are told stand there, where the fields are good
extents-stand : (stored : List ℕ) (pages from j at : ℕ) (extents : List Extent) → AreBytes stored → at ≤ length stored → at ≡ from + 36 * j → AreExtentsTold stored at extents
    → AreGood stored (flat_map (extent_fields pages from) (range_with_len j (length extents))) → TextStands stored at (flat_map extent_spelling extents)
extents-stand stored pages from j at [] bytes within start told good = TextStands-none stored at within
extents-stand stored pages from j at (e ∷ extents) bytes within start told good =
    let first : IsExtentTold stored at e = AreExtentsTold-first stored at e extents told in
    let head : List ℕ = to_be_bytes w32 e.head in
    let mark : List ℕ = bytes_of_state e.mark in
    let eight : length mark ≡ 32 = omega (arith, length-bytes_of_state e.mark, first.sound.eight) in
    let here : TextStands stored at head = TextStands-four stored at e.head bytes (omega (arith, good.0.whole)) first.head in
    let there : TextStands stored (at + 4) mark = TextStands-bytes stored (at + 4) 32 mark (omega (arith, good.1.0.whole)) first.mark in
    let one : TextStands stored at (head ++ mark) = TextStands-append stored at head mark here there in
    let long : at + 36 ≡ at + length (head ++ mark) = omega (arith, length-append head mark) in
    let rest : TextStands stored (at + 36) (flat_map extent_spelling extents) =
    extents-stand stored pages from (j + 1) (at + 36) extents bytes (omega (arith, there.whole)) (omega arith) (AreExtentsTold-rest stored at e extents told) good.1.1 in
    TextStands-append stored at (head ++ mark) (flat_map extent_spelling extents) one (TextStands-at stored _ _ (flat_map extent_spelling extents) long rest)

-- the marks that are told are marks
marks-told : (stored : List ℕ) (at : ℕ) (extents : List Extent) → AreExtentsTold stored at extents → AreMarks (marks_of extents)
marks-told stored at (e ∷ extents) told zero mark is = let same : e.mark ≡ mark = cc in rw same at (AreExtentsTold-first stored at e extents told).sound
marks-told stored at (e ∷ extents) told (suc i) mark is = marks-told stored (at + 36) extents (AreExtentsTold-rest stored at e extents told) i mark is
marks-told stored at [] told i mark is = absurd (grind arith)

-- the words of a mark, one more
pub bytes_of_state-next : (words bytes : List ℕ) (i n : ℕ) → i < length words → bytes_of_state (take i words) ≡ take (4 * i) bytes
    → to_be_bytes w32 n ≡ take 4 (drop (4 * i) bytes) → bytes_of_state (take (i + 1) (set words i n)) ≡ take (4 * (i + 1)) bytes
unfolding bytes_of_state
bytes_of_state-next words bytes i n within before here =
    let four : 4 * (i + 1) ≡ 4 * i + 4 = omega arith in
    ap (flat_map (to_be_bytes w32)) (take_more_set words i n within) ∙ flat_map-append (to_be_bytes w32) (take i words) (n ∷ [])
    ∙ ap (λ (xs : List ℕ). xs ++ to_be_bytes w32 n) before ∙ ap (λ (xs : List ℕ). take (4 * i) bytes ++ xs) here
    ∙ sym (take-plus (4 * i) 4 bytes) ∙ ap (λ (m : ℕ). take m bytes) (sym four)

pub bytes_of_state-none : bytes_of_state [] ≡ []
unfolding bytes_of_state
bytes_of_state-none = refl

-- the tail that the bytes at an offset tell, where the size has one
pub record IsTailTold (stored : List ℕ) (at size : ℕ) (tail : Option ℕ) : Type 0 where
  pub has : HasTail size tail
  pub page : IfSome tail (λ page. page ≡ told_four stored at)

-- the tail that is told stands there, and is among the pages, where its field is good
tail-stands : (stored : List ℕ) (pages at size : ℕ) (tail : Option ℕ) → AreBytes stored → at ≤ length stored → IsTailTold stored at size tail
    → AreGood stored (tail_fields pages at size) → TextStands stored at (tail_spelling tail)
tail-stands stored pages at size None bytes within told good = TextStands-none stored at within
tail-stands stored pages at size (Some page) bytes within told good =
    TextStands-four stored at page bytes (rw (tail_fields-some pages at size page told.has) at good).0.whole told.page

tail-below : (stored : List ℕ) (pages at size : ℕ) (tail : Option ℕ) → IsTailTold stored at size tail
    → AreGood stored (tail_fields pages at size) → IfSome tail (λ page. page < pages)
tail-below stored pages at size None told good = tt
tail-below stored pages at size (Some page) told good =
    let kept = (rw (tail_fields-some pages at size page told.has) at good).0.kept in
    rw told.page (ltb-true (told_four stored at) pages kept)

-- what the bytes tell of a state, whose fields begin at an offset
pub record IsTold (stored : List ℕ) (at : ℕ) (state : State) : Type 0 where
  pub size : state.size ≡ told_four stored at
  pub born : state.born ≡ told_eight stored (at + 4)
  pub digest : state.digest ≡ take 32 (drop (at + 12) stored)
  pub prefix : state.prefix ≡ take 32 (drop (at + 44) stored)
  pub extents : AreExtentsTold stored (at + 76) state.extents
  pub tail : IsTailTold stored (at + 76 + 36 * length state.extents) state.size state.tail

-- the fields of a state are good, group by group
pub record AreAllGood (least most pages : ℕ) (stored : List ℕ) (at size extents : ℕ) : Type 0 where
  pub content : AreGood stored (content_fields least most at size)
  pub places : AreGood stored (flat_map (extent_fields pages (at + 76)) (range_with_len 0 extents))
  pub tail : AreGood stored (tail_fields pages (at + 76 + 36 * extents) size)

-- what is told before the extents stands there
content-stands : (stored : List ℕ) (at least most : ℕ) (state : State) → AreBytes stored → IsTold stored at state
    → AreGood stored (content_fields least most at state.size) → TextStands stored at (fields_spelling state)
content-stands stored at least most state bytes told good =
    let size : List ℕ = to_be_bytes w32 state.size in
    let born : List ℕ = to_be_bytes w64 state.born in
    let first : TextStands stored at size = TextStands-four stored at state.size bytes good.0.whole told.size in
    let second : TextStands stored (at + 4) born = TextStands-eight stored (at + 4) state.born bytes good.1.0.whole told.born in
    let third : TextStands stored (at + 12) state.digest = TextStands-bytes stored (at + 12) 32 state.digest good.1.1.0.whole told.digest in
    let fourth : TextStands stored (at + 44) state.prefix = TextStands-bytes stored (at + 44) 32 state.prefix good.1.1.1.0.whole told.prefix in
    let long : length state.digest ≡ 32 = ap length told.digest ∙ length-take-le 32 (drop (at + 12) stored) (omega (arith, good.1.1.0.whole, length-drop (at + 12) stored)) in
    let two = TextStands-append stored at size born first second in
    let three = TextStands-append stored at (size ++ born) state.digest two third in
    let end : at + 44 ≡ at + length (size ++ born ++ state.digest) = omega (arith, length-append (size ++ born) state.digest, long) in
    TextStands-append stored at (size ++ born ++ state.digest) state.prefix three (TextStands-at stored _ _ state.prefix end fourth)

-- extents whose heads are good stand at multiples of their pages
AreAligned-heads : (pages : ℕ) (extents : List Extent) → AreHeads pages 0 extents → AreAligned (heads_of extents)
AreAligned-heads pages extents heads i below =
    let none : Extent = record { head = 0; mark = [] } in
    let within : i < length extents = omega (arith, below, length-map extents (λ (e : Extent). e.head)) in
    let extent : Extent = get_or extents i none in
    let same : 0 + i ≡ i = omega arith in
    let head = and_parts _ _ (rw same at (heads i extent (slice_get-get_or extents i none within))) in
    ap (λ (n : ℕ). n % pages_of_extent i) (get_or-map (λ (e : Extent). e.head) extents i none 0 within) ∙ eqb-true (extent.head % pages_of_extent i) 0 head.0

-- the number is one of those that the field may have
pub IsWithin-told : (stored : List ℕ) (at least most pages : ℕ) (state : State) → IsTold stored at state
    → AreAllGood least most pages stored at state.size (length state.extents) → (least ≤ state.born) × (state.born ≤ most)
IsWithin-told stored at least most pages state told good =
    let born : (nat_le least (told_eight stored (at + 4)) ≡ true) × (nat_le (told_eight stored (at + 4)) most ≡ true) = and_parts _ _ good.content.1.0.kept in
    rw told.born (leb-true least (told_eight stored (at + 4)) born.0, leb-true (told_eight stored (at + 4)) most born.1)

-- the state that is told is one
IsState-told : (stored : List ℕ) (at least most pages : ℕ) (state : State) → 1 ≤ least → most ≤ greatest_number → IsTold stored at state
    → HasExtents state.size (length state.extents) → AreAllGood least most pages stored at state.size (length state.extents) → IsState state
IsState-told stored at least most pages state low high told has good =
    let content = good.content in
    let born = IsWithin-told stored at least most pages state told good in
    let digest : length (take 32 (drop (at + 12) stored)) ≡ 32 = length-take-le 32 (drop (at + 12) stored) (omega (arith, content.1.1.0.whole, length-drop (at + 12) stored)) in
    let prefix : length (take 32 (drop (at + 44) stored)) ≡ 32 = length-take-le 32 (drop (at + 44) stored) (omega (arith, content.1.1.1.0.whole, length-drop (at + 44) stored)) in
    let heads : AreHeads pages 0 state.extents = heads-told stored pages (at + 76) 0 (at + 76) state.extents (omega arith) told.extents good.places in
    record {
      size = rw told.size (leb-true (told_four stored at) greatest_size content.0.kept);
      born = record { least = omega (arith, low, born.0); most = omega (arith, high, born.1) };
      digest = ap length told.digest ∙ digest;
      prefix = IsPrefix-is_filled state.size state.prefix (ap length told.prefix ∙ prefix) (ap (is_filled state.size) told.prefix ∙ content.1.1.1.0.kept);
      extents = has;
      heads = AreAligned-heads pages state.extents heads;
      marks = marks-told stored (at + 76) state.extents told.extents;
      tail = told.tail.has;
    }

-- Where a key stands at the front and the fields behind it are good, group by group, the tuple that they tell stands there.
pub IsAtFront-told : (stored key : List ℕ) (at least most pages : ℕ) (state : State) → AreBytes stored → 1 ≤ least → most ≤ greatest_number
    → IsKeyAtFront stored key → at ≡ 1 + length key → IsTold stored at state → HasExtents state.size (length state.extents)
    → AreAllGood least most pages stored at state.size (length state.extents) → IsAtFront pages stored key state
IsAtFront-told stored key at least most pages state bytes low high front start told has good =
    let is : IsState state = IsState-told stored at least most pages state low high told has good in
    let heads : AreHeads pages 0 state.extents = heads-told stored pages (at + 76) 0 (at + 76) state.extents (omega arith) told.extents good.places in
    let text : TextStands stored 0 (key_spelling key) = TextStands-IsKeyAtFront stored key front in
    let content : TextStands stored at (fields_spelling state) = content-stands stored at least most state bytes told good.content in
    let long : length (fields_spelling state) ≡ 76 = length-fields_spelling state is.digest is.prefix.bytes in
    let within : at + 76 ≤ length stored = omega (arith, content.whole, long) in
    let extents : TextStands stored (at + 76) (flat_map extent_spelling state.extents) =
    extents-stand stored pages (at + 76) 0 (at + 76) state.extents bytes within (omega arith) told.extents good.places in
    let count : length (flat_map extent_spelling state.extents) ≡ 36 * length state.extents = length-extents_spelling state.extents is.marks in
    let end : at + 76 + 36 * length state.extents ≡ at + 76 + length (flat_map extent_spelling state.extents) = omega (arith, count) in
    let tail : TextStands stored (at + 76 + 36 * length state.extents) (tail_spelling state.tail) =
    tail-stands stored pages (at + 76 + 36 * length state.extents) state.size state.tail bytes (omega (arith, extents.whole, count)) told.tail good.tail in
    let places = TextStands-append stored (at + 76) (flat_map extent_spelling state.extents) (tail_spelling state.tail) extents (TextStands-at stored _ _ (tail_spelling state.tail) end tail) in
    let body : TextStands stored at (state_spelling state) =
    TextStands-append stored at (fields_spelling state) (places_spelling state.extents state.tail) content (TextStands-at stored _ _ (places_spelling state.extents state.tail) (ap (λ (n : ℕ). at + n) (sym long)) places) in
    let all : TextStands stored 0 (spelling key state) =
    TextStands-append stored 0 (key_spelling key) (state_spelling state) text (TextStands-at stored _ _ (state_spelling state) (omega (arith, start)) body) in
    record {
      tuple = record {
        named = front.named;
        stands = is;
        extents = λ i extent among.
            let same : 0 + i ≡ i = omega arith in
            let head = and_parts _ _ (rw same at (heads i extent among)) in
            leb-true (extent.head + pages_of_extent i) pages head.1;
        tail = tail-below stored pages (at + 76 + 36 * length state.extents) state.size state.tail told.tail good.tail;
      };
      rest = drop (length (spelling key state)) stored;
      stored_is = TextStands-rest stored (spelling key state) all;
    }

-- the fields of a state, group by group
AreAllGood-fields : (least most pages : ℕ) (stored : List ℕ) (extents : ℕ) → AreGood stored (state_fields least most pages stored extents)
    → AreAllGood least most pages stored (fields_at stored) (told_size stored) extents
AreAllGood-fields least most pages stored extents good =
    let content : List Field = content_fields least most (fields_at stored) (told_size stored) in
    let heads : List Field = flat_map (extent_fields pages (fields_at stored + 76)) (range_with_len 0 extents) in
    let end : List Field = tail_fields pages (fields_at stored + 76 + 36 * extents) (told_size stored) in
    let places = AreGood-back stored content (heads ++ end) good in
    record {
      content = AreGood-front stored content (heads ++ end) good;
      places = AreGood-front stored heads end places;
      tail = AreGood-back stored heads end places;
    }

-- Where a key stands at the front and all the fields behind it are good, the tuple that they tell stands there.
pub IsAtFront-AreGood : (least most pages : ℕ) (stored key : List ℕ) (state : State) → AreBytes stored → 1 ≤ least → most ≤ greatest_number
    → IsKeyAtFront stored key → IsTold stored (fields_at stored) state → HasExtents state.size (length state.extents)
    → AreGood stored (state_fields least most pages stored (length state.extents)) → IsAtFront pages stored key state
IsAtFront-AreGood least most pages stored key state bytes low high front told has good =
    let groups : AreAllGood least most pages stored (fields_at stored) state.size (length state.extents) =
    rw told.size (AreAllGood-fields least most pages stored (length state.extents) good) in
    IsAtFront-told stored key (fields_at stored) least most pages state bytes low high front (sym (fields_at-key stored key front)) told has groups
