-- Keys: the names of objects, as texts.
use Rattle.std.specs.Prelude.{ℕ, ◌+◌, ◌<◌, ◌≤◌, ◌≡◌, Bool, false, ◌&&◌, ◌||◌, ◌==◌, nat_le, IsTrue, List, ◌++◌, length, take, Option, Some, None, if◌then◌else◌}
use Rattle.std.specs.List.{before_first, after_first, list_all}
use Rattle.std.specs.Ordering.{nat_cmp}
use Rattle.std.specs.declared.cmp.Ordering.{Ordering}
use Rattle.std.specs.Cmp.Lexicographic.{slice_cmp}

-- the order of keys: that of their bytes
abbrev pub key_order : List ℕ → List ℕ → Ordering
key_order = slice_cmp nat_cmp

-- a lower case letter, a digit, `.`, `_` or `-`
abbrev pub is_key_character : ℕ → Bool
is_key_character c = (nat_le 97 c && nat_le c 122) || (nat_le 48 c && nat_le c 57) || c == 46 || c == 95 || c == 45

-- the byte `/`
abbrev pub is_slash : ℕ → Bool
is_slash c = c == 47

-- one to `most` characters
abbrev pub is_part : ℕ → List ℕ → Bool
is_part most part = nat_le 1 (length part) && nat_le (length part) most && list_all is_key_character part

-- what stands before the first slash
abbrev pub relation_of : List ℕ → List ℕ
relation_of text = before_first is_slash text

-- what stands after the first slash
abbrev pub name_of : List ℕ → List ℕ
name_of text = after_first is_slash text

-- a relation of 1 to 16 characters, a slash, and a name of 1 to 47 characters
abbrev pub is_key : List ℕ → Bool
is_key text = is_part 16 (relation_of text) && is_part 47 (name_of text)

-- the key that a text is, where it is one
abbrev pub key_of : List ℕ → Option (List ℕ)
key_of text = if is_key text then Some text else None

-- some key begins with this text
abbrev pub BeginsKey : List ℕ → Type 0
BeginsKey text = (more : List ℕ) × IsTrue (is_key (text ++ more))

-- The text is no key, and this is the first place that shows it: what stands before it begins a key, and with the
-- byte there it doesn't. Where all of the text begins a key, the place is its length.
pub record IsBadAt (text : List ℕ) (at : ℕ) : Type 0 where
  pub no_key : is_key text ≡ false
  pub within : at ≤ length text
  pub before : BeginsKey (take at text)
  pub here : at < length text → ¬ BeginsKey (take (at + 1) text)
