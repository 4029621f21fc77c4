-- Which texts are keys, place by place.
use Rattle.std.proofs.Common.{◌≡◌, ℕ, ◌+◌, ◌<◌, ◌≤◌, true, false, List, length, get_or, refl, sym, ◌∙◌, ap, arith, zero-add, Some}
use Rattle.std.proofs.lemmas.Bool.{lt-ltb}
use Rattle.std.specs.List.{position_or_len, position}
use Rattle.store_model.specs.Key.{is_key, is_key_character, is_slash}
use Rattle.store_model.proofs.KeySplitLaws.{same_byte, splits_at-key}
use Rattle.store_model.proofs.KeyTextLaws.{RelationRead}

-- what was read from the front on
pub relation_read : (text : List ℕ) (relation : ℕ) → 0 + relation ≤ length text → relation ≤ 16 → ((k : ℕ) → k < relation → is_key_character (get_or text (0 + k) 0) ≡ true)
    → (0 + relation < length text → relation < 16 → is_key_character (get_or text (0 + relation) 0) ≡ false) → RelationRead text relation
relation_read text relation within most each last = record {
  within = omega arith;
  most = most;
  each = λ k below. same_byte _ _ (ap (λ i. get_or text i 0) (sym (zero-add k))) (each k below);
  last = λ has few. ap (λ i. is_key_character (get_or text i 0)) (sym (zero-add relation)) ∙ last (omega arith) few;
}

-- how long a key is
pub length-key : (text : List ℕ) → is_key text ≡ true → length text ≤ 64
length-key text h = let s = splits_at-key text h in omega (arith, s.most_relation, s.most_name)

-- a key has a slash
pub slash_within : (text : List ℕ) → is_key text ≡ true → position_or_len is_slash text + 2 ≤ length text
slash_within text h = (splits_at-key text h).some_name

-- where it stands, as a search gives it
pub position-slash : (text : List ℕ) → is_key text ≡ true → position is_slash text ≡ Some (position_or_len is_slash text)
position-slash text h =
    let within = slash_within text h in
    rw (lt-ltb (position_or_len is_slash text) (length text) (omega arith)) refl
