-- Numbers that words spell, words that are cut at a colon, and words that are no action.
use Rattle.std.proofs.Common.{◌≡◌, ℕ, ◌+◌, ◌^◌, ◌<◌, ◌≤◌, ◌==◌, inl, inr, List, [], ◌∷◌, length, get_or, take, drop, Option, Some, None, option_map, option_and_then, bytes_eq, decimal, map, Bor, nat_lt, refl, sym, ◌∙◌, subst, arith}
use Rattle.std.specs.List.{slice_split, position, position_or_len, before_first, after_first}
use Rattle.std.specs.Str.Parse.{digits_value, AllDigits}
use Rattle.std.proofs.lemmas.Bool.{cases_lt, cond_both, eqb-true, le-ltb, lt-ltb, ltb-true}
use Rattle.std.proofs.lemmas.Fmt.{decimal_is_IsNumeral, digits_decimal}
use Rattle.std.proofs.lemmas.List.FromFn.{length-map-range_with_len}
use Rattle.std.proofs.lemmas.List.Splits.{length-slice_split, slice_split_first, slice_split_none}
use Rattle.std.proofs.lemmas.List.Sums.{fails_before_first, passes_at_first}
use Rattle.std.proofs.lemmas.Slice.Eq.{bytes_eq-Decides}
use Rattle.std.proofs.lemmas.Str.Parse.{IsNumeralModel, numerals_by_value, tells_digits, not_in_digits}
use Rattle.store_model.specs.Script.{action_of, number_below, made_bytes, made_content}

-- the number below the bound that a word spells
pub number_below_some : (bound n : ℕ) (word : List ℕ) → n < bound → bound ≤ 2 ^ 32 → word ≡ decimal n → Some n ≡ number_below bound word
number_below_some bound n word small most e =
    let value : digits_value 10 word ≡ n = subst (λ (w : List ℕ). digits_value 10 w ≡ n) (sym e) (decimal_is_IsNumeral n (omega arith)).1 in
    rw value (rw (lt-ltb n bound small) (rw ((bytes_eq-Decides word (decimal n)).1 e) refl))

-- a word that spells no number below the bound
pub number_below_none : (bound : ℕ) (word : List ℕ) → ((n : ℕ) → n < bound → word ≡ decimal n → ⊥) → None ≡ number_below bound word
number_below_none bound word free =
    cond_both (nat_lt (digits_value 10 word) bound) _ _ (λ (r : Option ℕ). None ≡ r)
    (λ below. cond_both (bytes_eq word (decimal (digits_value 10 word))) (Some (digits_value 10 word)) None (λ (r : Option ℕ). None ≡ r)
    (λ same. absurd (free (digits_value 10 word) (ltb-true (digits_value 10 word) bound below) ((bytes_eq-Decides word (decimal (digits_value 10 word))).0 same)))
    (λ _. refl))
    (λ _. refl)

-- the digits of a number, in std's words
own : IsNumeralModel (AllDigits 10) (digits_value 10)
own = numerals_by_value (AllDigits 10) tells_digits

-- a word with a colon spells no number
colon_no_number : (word : List ℕ) (i : ℕ) → i < length word → get_or word i 0 ≡ 58 → None ≡ number_below 256 word
colon_no_number word i within e =
    number_below_none 256 word (λ n small same.
    not_in_digits own (decimal n) 58 (digits_decimal own n (omega arith)) (λ range. omega (arith, range.1)) i
    (subst (λ (w : List ℕ). i < length w) same within) (subst (λ (w : List ℕ). get_or w i 0 ≡ 58) same e))

-- more than two words are no made content
more_words : (count first : List ℕ) (words : List (List ℕ)) → 0 < length words → None ≡ made_content (count ∷ first ∷ words)
more_words count first [] some = absurd (omega arith)
more_words count first (word ∷ words) some = refl

-- with no first byte there is no made content
pub no_first : (count : Option ℕ) → None ≡ option_and_then (λ (n : ℕ). option_map (made_bytes n) None) count
no_first None = refl
no_first (Some n) = refl

-- the made content of a count and of what stands behind its colon
pub made_content_rest : (count rest : List ℕ) → made_content (count ∷ slice_split (λ byte. byte == 58) rest)
    ≡ option_and_then (λ n. option_map (made_bytes n) (number_below 256 rest)) (number_below 4294967296 count)
made_content_rest count rest = elim (cases_lt (position_or_len (λ byte. byte == 58) rest) (length rest)) [
  | inl within ↦ rw (slice_split_first (λ byte. byte == 58) rest 0 within)
      (sym (more_words count (before_first (λ byte. byte == 58) rest) (slice_split (λ byte. byte == 58) (after_first (λ byte. byte == 58) rest))
      (omega (arith, length-slice_split (λ byte. byte == 58) (after_first (λ byte. byte == 58) rest))))
      ∙ rw (← colon_no_number rest (position_or_len (λ byte. byte == 58) rest) within
      (eqb-true (get_or rest (position_or_len (λ byte. byte == 58) rest) 0) 58 (passes_at_first (λ byte. byte == 58) rest 0 within)))
      (no_first (number_below 4294967296 count)))
  | inr past ↦ rw (slice_split_none (λ byte. byte == 58) rest (λ k d below. fails_before_first (λ byte. byte == 58) rest k d (omega arith))) refl
]

-- a text is cut at its first colon, or not at all
pub split_cut : (text : List ℕ) (i : ℕ) → position (λ byte. byte == 58) text ≡ Some i
    → slice_split (λ byte. byte == 58) text ≡ take i text ∷ slice_split (λ byte. byte == 58) (drop (i + 1) text)
split_cut text i at = elim (cases_lt (position_or_len (λ byte. byte == 58) text) (length text)) [
  | inl within ↦
      let here : Some (position_or_len (λ byte. byte == 58) text) ≡ Some i = rw (lt-ltb (position_or_len (λ byte. byte == 58) text) (length text) within) at at in
      let same : position_or_len (λ byte. byte == 58) text ≡ i = cc in
      rw (← same) (slice_split_first (λ byte. byte == 58) text 0 within)
  | inr past ↦
      let none : None ≡ Some i = rw (le-ltb (position_or_len (λ byte. byte == 58) text) (length text) past) at at in
      absurd cc
]

pub split_uncut : (text : List ℕ) → position (λ byte. byte == 58) text ≡ None → slice_split (λ byte. byte == 58) text ≡ text ∷ []
split_uncut text at = elim (cases_lt (position_or_len (λ byte. byte == 58) text) (length text)) [
  | inl within ↦
      let here : Some (position_or_len (λ byte. byte == 58) text) ≡ None = rw (lt-ltb (position_or_len (λ byte. byte == 58) text) (length text) within) at at in
      absurd cc
  | inr past ↦ slice_split_none (λ byte. byte == 58) text (λ k d below. fails_before_first (λ byte. byte == 58) text k d (omega arith))
]

-- a made content has as many bytes as are asked for
pub length-made_bytes : (count first : ℕ) → length (made_bytes count first) ≡ count
length-made_bytes count first = length-map-range_with_len _ 0 count

-- more than four words are no action
pub no_action_more : (words : List (Bor (List ℕ))) → 5 ≤ length words → None ≡ action_of (map {A = Bor (List ℕ)} {B = List ℕ} (λ word. word.now) words)
no_action_more [] many = absurd (omega arith)
no_action_more (a ∷ []) many = absurd (omega arith)
no_action_more (a ∷ b ∷ []) many = absurd (omega arith)
no_action_more (a ∷ b ∷ c ∷ []) many = absurd (omega arith)
no_action_more (a ∷ b ∷ c ∷ d ∷ []) many = absurd (omega arith)
no_action_more (a ∷ b ∷ c ∷ d ∷ e ∷ words) many = refl
