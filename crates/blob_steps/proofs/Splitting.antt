-- The lines of a script of which the first bytes were read.
use Rattle.std.proofs.lemmas.Bool.Decides.{nat_tests}
use Rattle.std.proofs.Common.{◌≡◌, ◌==◌, ℕ, ◌+◌, ◌-◌, ◌<◌, ◌≤◌, true, false, List, [], ◌∷◌, ◌++◌, length, take, drop, get_or, Option, Some, None, refl, sym, ◌∙◌, ap, arith, append_assoc, append-nil, length-append, suc, subst}
use Rattle.std.specs.List.{All, before_first, after_first, position, position_or_len, slice_split, onto_first}
use Rattle.std.specs.Io.KnownBytes.{prepend_known, Consumes, Keeps, IsAtEnd}
use Rattle.std.proofs.KnownBytes.{Consumes-trans, Consumes-kept}
use Rattle.std.proofs.lemmas.List.{get_or-take, length-take, take_all, drop_all, drop-drop, drop-take, nil_from_length}
use Rattle.std.proofs.lemmas.List.Elements.{All-from_get_or, All-append, All-same}
use Rattle.std.proofs.lemmas.List.Quantifiers.{position-Some}
use Rattle.std.proofs.lemmas.List.Splits.{slice_split_at, slice_split_none, slice_split-cons_no, length-slice_split}
use Rattle.std.proofs.lemmas.List.Sums.{fails_before_first, passes_at_first, split_at_first, position_or_len_is}
use Rattle.store_model.specs.Script.{without_empty_rest, lines_of}
use Rattle.blob_steps.specs.Lines.{is_line_end, LineTaken, NoLine, LongLine}

-- no byte of these ends a line
abbrev pub NoEnd : List ℕ → Type 0
NoEnd bytes = All (λ byte. is_line_end byte ≡ false) bytes

-- what stands before the first line end has none
pub NoEnd-before_first : (ahead : List ℕ) → NoEnd (before_first is_line_end ahead)
NoEnd-before_first ahead =
    let at = position_or_len is_line_end ahead in
    All-from_get_or (λ byte. is_line_end byte ≡ false) (take at ahead) 0
    (λ k below.
    let within : k < at = omega (arith, length-take at ahead) in
    ap is_line_end (get_or-take at ahead k 0 within) ∙ fails_before_first is_line_end ahead k 0 within)

-- these bytes of a script's first line were read, and no end of a line
pub record Reading (old new : Option (List ℕ)) (line : List ℕ) : Type 0 where
  pub taken : Consumes old new line
  pub plain : NoEnd line

-- bytes ahead, taken from their front
pub Consumes-ahead : (left : Option (List ℕ)) (ahead part rest : List ℕ) → ahead ≡ part ++ rest → Consumes (prepend_known ahead left) (prepend_known rest left) part
Consumes-ahead None ahead part rest e = tt
Consumes-ahead (Some x) ahead part rest e = ap (λ l. l ++ x) e ∙ append_assoc part rest x

-- more bytes came ahead
pub Reading-kept : (old now new : Option (List ℕ)) (line : List ℕ) → Reading old now line → Keeps now new → Reading old new line
Reading-kept old now new line reading kept = record { taken = Consumes-kept old now new line reading.taken kept; plain = reading.plain }

-- all that is ahead was read, without an end of a line
pub Reading-more : (old left : Option (List ℕ)) (ahead line more rest : List ℕ) → Reading old (prepend_known ahead left) line → length ahead ≤ position_or_len is_line_end ahead
    → more ≡ line ++ before_first is_line_end ahead → rest ≡ after_first is_line_end ahead → Reading old (prepend_known rest left) more
Reading-more old left ahead line more rest reading none grown gone =
    let front = before_first is_line_end ahead in
    let empty : rest ≡ [] = gone ∙ drop_all (position_or_len is_line_end ahead + 1) ahead (omega arith) in
    let whole : ahead ≡ front ++ rest = sym (ap (λ l. front ++ l) empty ∙ append-nil front ∙ take_all (position_or_len is_line_end ahead) ahead none) in
    record {
      taken = subst (λ l. Consumes old (prepend_known rest left) l) (sym grown)
          (Consumes-trans old (prepend_known ahead left) (prepend_known rest left) line front reading.taken (Consumes-ahead left ahead front rest whole));
      plain = All-same (λ byte. is_line_end byte ≡ false) more (line ++ front) grown
          (All-append (λ byte. is_line_end byte ≡ false) line front reading.plain (NoEnd-before_first ahead));
    }

first_of : (parts : List (List ℕ)) → 0 < length parts → (part : List ℕ) × (others : List (List ℕ)) × (parts ≡ part ∷ others)
first_of [] some = absurd (omega arith)
first_of (part ∷ others) some = (part, others, refl)

some_parts : (bytes : List ℕ) → 0 < length (slice_split is_line_end bytes)
some_parts bytes = omega (arith, length-slice_split is_line_end bytes)

without_first : (line : List ℕ) (parts : List (List ℕ)) → 0 < length parts → without_empty_rest (line ∷ parts) ≡ line ∷ without_empty_rest parts
without_first line [] some = absurd (omega arith)
without_first [] (part ∷ parts) some = refl
without_first (byte ∷ bytes) (part ∷ parts) some = refl

-- bytes that end no line stand in front of the first part
split_behind : (line rest part : List ℕ) (parts : List (List ℕ)) → NoEnd line → slice_split is_line_end rest ≡ part ∷ parts → slice_split is_line_end (line ++ rest) ≡ (line ++ part) ∷ parts
split_behind [] rest part parts plain e = e
split_behind (byte ∷ bytes) rest part parts plain e =
    slice_split-cons_no is_line_end byte (bytes ++ rest) (plain 0 0 (omega arith))
    ∙ ap (onto_first byte) (split_behind bytes rest part parts (λ k d below. plain (suc k) d (omega arith)) e)

-- a line that ended
pub lines_of-ended : (script line rest : List ℕ) (byte : ℕ) → script ≡ line ++ byte ∷ rest → NoEnd line → is_line_end byte ≡ true → lines_of script ≡ line ∷ lines_of rest
lines_of-ended script line rest byte e plain ends =
    ap lines_of e ∙ ap without_empty_rest (slice_split_at is_line_end line byte rest plain ends) ∙ without_first line (slice_split is_line_end rest) (some_parts rest)

-- a line that the script's end ended
pub lines_of-last : (line : List ℕ) → NoEnd line → 0 < length line → lines_of line ≡ line ∷ []
lines_of-last [] plain some = absurd (omega arith)
lines_of-last (byte ∷ bytes) plain some = ap without_empty_rest (slice_split_none is_line_end (byte ∷ bytes) plain)

without_begun : (byte : ℕ) (bytes : List ℕ) (parts : List (List ℕ)) → without_empty_rest ((byte ∷ bytes) ∷ parts) ≡ (byte ∷ bytes) ∷ without_empty_rest parts
without_begun byte bytes [] = refl
without_begun byte bytes (part ∷ parts) = refl

-- a line of which some bytes were read
lines_of-begun : (line rest : List ℕ) → NoEnd line → 0 < length line → (part : List ℕ) × (lines : List (List ℕ)) × (lines_of (line ++ rest) ≡ (line ++ part) ∷ lines)
lines_of-begun [] rest plain some = absurd (omega arith)
lines_of-begun (byte ∷ bytes) rest plain some =
    let first = first_of (slice_split is_line_end rest) (some_parts rest) in (
      first.0,
      without_empty_rest first.1,
      ap without_empty_rest (split_behind (byte ∷ bytes) rest first.0 first.1 plain first.2) ∙ without_begun byte (bytes ++ first.0) first.1,
    )

-- the line's end was found
pub LineTaken-ended : (old left : Option (List ℕ)) (ahead line more rest : List ℕ) → Reading old (prepend_known ahead left) line → position_or_len is_line_end ahead < length ahead
    → more ≡ line ++ before_first is_line_end ahead → rest ≡ after_first is_line_end ahead → LineTaken old more (prepend_known rest left)
LineTaken-ended None left ahead line more rest reading found grown gone = tt
LineTaken-ended (Some x) None ahead line more rest reading found grown gone = absurd reading.taken
LineTaken-ended (Some x) (Some y) ahead line more rest reading found grown gone =
    let byte = get_or ahead (position_or_len is_line_end ahead) 0 in
    let front = before_first is_line_end ahead in
    let back = after_first is_line_end ahead in
    let cut : x ≡ (line ++ front) ++ byte ∷ (back ++ y) =
    reading.taken ∙ ap (λ l. line ++ (l ++ y)) (split_at_first is_line_end ahead 0 found)
    ∙ ap (λ l. line ++ l) (append_assoc front (byte ∷ back) y) ∙ sym (append_assoc line front (byte ∷ (back ++ y))) in
    lines_of-ended x (line ++ front) (back ++ y) byte cut (All-append (λ b. is_line_end b ≡ false) line front reading.plain (NoEnd-before_first ahead)) (passes_at_first is_line_end ahead 0 found)
    ∙ ap (λ l. l ∷ lines_of (back ++ y)) (sym grown) ∙ ap (λ l. more ∷ lines_of (l ++ y)) (sym gone)

-- a length that a test finds to be none
pub some_bytes : (n : ℕ) → false ≡ (n == 0) → 0 < n
some_bytes n e = grind (arith, nat_tests)

-- the script ended behind some bytes
pub LineTaken-last : (old new : Option (List ℕ)) (line : List ℕ) → Reading old new line → IsAtEnd new → 0 < length line → LineTaken old line new
LineTaken-last None new line reading end some = tt
LineTaken-last (Some x) None line reading end some = absurd reading.taken
LineTaken-last (Some x) (Some y) line reading end some =
    ap lines_of (reading.taken ∙ ap (λ l. line ++ l) end ∙ append-nil line) ∙ lines_of-last line reading.plain some ∙ ap (λ l. line ∷ lines_of l) (sym end)

-- the script had ended
pub NoLine-ended : (old new : Option (List ℕ)) (line : List ℕ) → Reading old new line → IsAtEnd new → length line ≡ 0 → NoLine old
NoLine-ended None new line reading end none = tt
NoLine-ended (Some x) None line reading end none = absurd reading.taken
NoLine-ended (Some x) (Some y) line reading end none = ap lines_of (reading.taken ∙ ap (λ l. line ++ l) end ∙ append-nil line ∙ nil_from_length line none)

-- more bytes of the line were read than a line may have
pub LongLine-begun : (old new : Option (List ℕ)) (line : List ℕ) → Reading old new line → 65536 < length line → LongLine old
LongLine-begun None new line reading long = tt
LongLine-begun (Some x) None line reading long = absurd reading.taken
LongLine-begun (Some x) (Some y) line reading long =
    let begun = lines_of-begun line y reading.plain (omega arith) in
    (line ++ begun.0, begun.1, ap lines_of reading.taken ∙ begun.2, omega (arith, length-append line begun.0))

-- a line that ended has more bytes than a line may have
pub LongLine-ended : (old new : Option (List ℕ)) (line : List ℕ) → LineTaken old line new → 65536 < length line → LongLine old
LongLine-ended None new line taken long = tt
LongLine-ended (Some x) None line taken long = absurd taken
LongLine-ended (Some x) (Some y) line taken long = (line, lines_of y, taken, long)

-- where a search found the first line end
pub position_at : (ahead : List ℕ) (at : ℕ) → Some at ≡ position is_line_end ahead → (at ≡ position_or_len is_line_end ahead) × (at < length ahead)
position_at ahead at found =
    let there = position-Some is_line_end ahead at 0 (sym found) in
    (sym (position_or_len_is is_line_end ahead at 0 (omega (arith, there.0)) there.2 (λ _. there.1)), there.0)

-- what is ahead, with its first bytes gone
pub drop-ahead : («from» to n : ℕ) (piece : List ℕ) → «from» + n ≤ to → take (to - («from» + n)) (drop («from» + n) piece) ≡ drop n (take (to - «from») (drop «from» piece))
drop-ahead «from» to n piece within =
    let rest = to - («from» + n) in
    let e : to - «from» ≡ n + rest = omega arith in
    sym (ap (λ k. drop n (take k (drop «from» piece))) e ∙ drop-take n rest (drop «from» piece) ∙ ap (take rest) (drop-drop n «from» piece))
