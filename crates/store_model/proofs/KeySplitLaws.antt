-- Laws of keys: a text is a key exactly where it is split at a slash, with the right numbers of characters around it.
use Rattle.std.proofs.Common.{◌≡◌, ℕ, ◌+◌, ◌-◌, ◌<◌, ◌≤◌, true, false, Bool, ◌&&◌, leb, List, length, take, drop, get_or, sym, ◌∙◌, ap, arith}
use Rattle.std.proofs.lemmas.Bool.{and_from, and_parts, leb-true, le-leb}
use Rattle.std.proofs.lemmas.List.{get_or-take, get_or-drop, length-take-le}
use Rattle.std.proofs.Math.ListN.{length-drop}
use Rattle.std.proofs.lemmas.List.Elements.{All-get_or, All-from_get_or}
use Rattle.std.proofs.lemmas.List.Sums.{AllPass-from_list_all, list_all-from_AllPass, position_or_len_is, passes_at_first}
use Rattle.std.specs.List.{position_or_len, list_all}
use Rattle.std.proofs.lemmas.Bool.Decides.{nat_tests}
use Rattle.store_model.specs.Key.{is_key, is_key_character, is_slash, is_part, relation_of, name_of}

-- The first slash stands at this place, with the right numbers of key characters before and after it.
pub record SplitsAt (text : List ℕ) (at : ℕ) : Type 0 where
  pub slash : get_or text at 0 ≡ 47
  pub some_relation : 1 ≤ at
  pub most_relation : at ≤ 16
  pub some_name : at + 2 ≤ length text
  pub most_name : length text ≤ at + 48
  pub before : (k : ℕ) → k < at → is_key_character (get_or text k 0) ≡ true
  pub after : (k : ℕ) → at < k → k < length text → is_key_character (get_or text k 0) ≡ true

-- a key character is no slash
pub no_slash : (c : ℕ) → is_key_character c ≡ true → is_slash c ≡ false
no_slash c h = grind (arith, nat_tests)

slash_is : (c : ℕ) → is_slash c ≡ true → c ≡ 47
slash_is c h = grind (arith, nat_tests)

is_slash_at : (c : ℕ) → c ≡ 47 → is_slash c ≡ true
is_slash_at c h = grind (arith, nat_tests)

-- what holds at a place of one text holds at the same byte of another
pub same_byte : (a b : ℕ) → a ≡ b → is_key_character b ≡ true → is_key_character a ≡ true
same_byte a b e h = ap is_key_character e ∙ h

-- a test of the first length, of the second, and of each character
three_parts : (a b c : Bool) → ((a && b) && c) ≡ true → (a ≡ true) × (b ≡ true) × (c ≡ true)
three_parts a b c h = let p = and_parts (a && b) c h in let q = and_parts a b p.0 in (q.0, q.1, p.1)

part_true : (most : ℕ) (part : List ℕ) → is_part most part ≡ true → (1 ≤ length part) × (length part ≤ most) × ((k : ℕ) → k < length part → is_key_character (get_or part k 0) ≡ true)
part_true most part h =
    let p = three_parts (leb 1 (length part)) (leb (length part) most) (list_all is_key_character part) h in (
      leb-true 1 (length part) p.0,
      leb-true (length part) most p.1,
      λ k below. All-get_or (λ x. is_key_character x ≡ true) part k 0 below (AllPass-from_list_all is_key_character part p.2),
    )

part_is : (most : ℕ) (part : List ℕ) → 1 ≤ length part → length part ≤ most → ((k : ℕ) → k < length part → is_key_character (get_or part k 0) ≡ true) → is_part most part ≡ true
part_is most part some few each =
    and_from (leb 1 (length part) && leb (length part) most) (list_all is_key_character part)
    (and_from (leb 1 (length part)) (leb (length part) most) (le-leb 1 (length part) some) (le-leb (length part) most few))
    (list_all-from_AllPass is_key_character part (All-from_get_or (λ x. is_key_character x ≡ true) part 0 each))

-- where the first slash stands
pub first_slash : (text : List ℕ) (at : ℕ) → SplitsAt text at → position_or_len is_slash text ≡ at
first_slash text at s =
    position_or_len_is is_slash text at 0 (omega arith) (λ k below. no_slash _ (s.before k below)) (λ _. is_slash_at _ s.slash)

relation_part : (text : List ℕ) (at : ℕ) → SplitsAt text at → is_part 16 (take at text) ≡ true
relation_part text at s =
    let len : length (take at text) ≡ at = length-take-le at text (omega arith) in
    part_is 16 (take at text) (omega arith) (omega arith)
    (λ k below. let lt : k < at = omega arith in same_byte _ _ (get_or-take at text k 0 lt) (s.before k lt))

name_part : (text : List ℕ) (at : ℕ) → SplitsAt text at → is_part 47 (drop (at + 1) text) ≡ true
name_part text at s =
    let len : length (drop (at + 1) text) ≡ length text - (at + 1) = length-drop (at + 1) text in
    part_is 47 (drop (at + 1) text) (omega arith) (omega arith)
    (λ k below. same_byte _ _ (get_or-drop (at + 1) text k 0) (s.after (at + 1 + k) (omega arith) (omega arith)))

-- a text that is split so is a key
pub is_key-from_split : (text : List ℕ) (at : ℕ) → SplitsAt text at → is_key text ≡ true
is_key-from_split text at s = rw (first_slash text at s) (and_from (is_part 16 (take at text)) (is_part 47 (drop (at + 1) text)) (relation_part text at s) (name_part text at s))

-- a key is split at its first slash
pub splits_at-key : (text : List ℕ) → is_key text ≡ true → SplitsAt text (position_or_len is_slash text)
splits_at-key text h =
    let at = position_or_len is_slash text in
    let p = and_parts (is_part 16 (relation_of text)) (is_part 47 (name_of text)) h in
    let relation = part_true 16 (relation_of text) p.0 in
    let name = part_true 47 (name_of text) p.1 in
    let name_len : length (name_of text) ≡ length text - (at + 1) = length-drop (at + 1) text in
    let within : at + 2 ≤ length text = omega (arith, name.0) in
    let relation_len : length (relation_of text) ≡ at = length-take-le at text (omega arith) in
    record {
      slash = slash_is _ (passes_at_first is_slash text 0 (omega arith));
      some_relation = omega (arith, relation.0);
      most_relation = omega (arith, relation.1);
      some_name = within;
      most_name = omega (arith, name.1);
      before = λ k below. same_byte _ _ (sym (get_or-take at text k 0 below)) (relation.2 k (omega arith));
      after = λ k above below.
          let e : at + 1 + (k - (at + 1)) ≡ k = omega arith in
          same_byte _ _ (ap (λ i. get_or text i 0) (sym e) ∙ sym (get_or-drop (at + 1) text (k - (at + 1)) 0)) (name.2 (k - (at + 1)) (omega arith));
    }
