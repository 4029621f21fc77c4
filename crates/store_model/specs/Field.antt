-- The fields of a stored form: one behind the other, each with a rule. What is no such form is told by the first of its
-- fields that is cut short or breaks its rule.
use Rattle.std.specs.Prelude.{◌≡◌, ℕ, ◌+◌, ◌<◌, ◌≤◌, ◌⊎◌, Bool, false, IsTrue, List, ◌∷◌, ◌++◌, length, take, drop, Contains}
use Rattle.std.specs.Int.{Width, from_be_bytes, w32}
use Rattle.std.specs.List.{AllByRecursion}
use Rattle.store_model.specs.Key.{is_key, IsBadAt}

-- What the bytes of a field must be: a key, a number of some width (its high byte first) that passes a test, or bytes
-- that do.
pub data Rule : Type 0 where
  KeyText : Rule
  Number : Width → (ℕ → Bool) → Rule
  Bytes : (List ℕ → Bool) → Rule

-- a field: its offset, how many bytes it has, and its rule
pub record Field : Type 0 where
  pub at : ℕ
  pub bytes : ℕ
  pub rule : Rule

-- whether bytes keep a rule
abbrev pub keeps : Rule → List ℕ → Bool
keeps KeyText bytes = is_key bytes
keeps (Number width test) bytes = test (from_be_bytes width bytes)
keeps (Bytes test) bytes = test bytes

-- Where in a field bytes that break its rule are named: a key at its first bad place, and all others at their first
-- byte.
abbrev pub IsNamed : Rule → List ℕ → ℕ → Type 0
IsNamed KeyText bytes place = IsBadAt bytes place
IsNamed (Number width test) bytes place = place ≡ 0
IsNamed (Bytes test) bytes place = place ≡ 0

-- the number that the four bytes at an offset tell
abbrev pub told_four : List ℕ → ℕ → ℕ
told_four stored at = from_be_bytes w32 (take 4 (drop at stored))

-- the bytes of a field
abbrev pub field_bytes : List ℕ → Field → List ℕ
field_bytes stored field = take field.bytes (drop field.at stored)

-- the field is there whole
abbrev pub IsThere : List ℕ → Field → Type 0
IsThere stored field = field.at + field.bytes ≤ length stored

-- the field is there whole and keeps its rule
pub record IsGood (stored : List ℕ) (field : Field) : Type 0 where
  pub whole : IsThere stored field
  pub kept : IsTrue (keeps field.rule (field_bytes stored field))

-- all of the fields are good
abbrev pub AreGood : List ℕ → List Field → Type 0
AreGood stored fields = AllByRecursion (IsGood stored) fields

-- the field is cut short, and named by its first byte
pub record IsCutShort (stored : List ℕ) (field : Field) (at : ℕ) : Type 0 where
  pub short : length stored < field.at + field.bytes
  pub named : at ≡ field.at

-- the field is there whole and breaks its rule
pub record BreaksRule (stored : List ℕ) (field : Field) (at : ℕ) : Type 0 where
  pub whole : IsThere stored field
  pub broken : keeps field.rule (field_bytes stored field) ≡ false
  pub place : ℕ
  pub named : IsNamed field.rule (field_bytes stored field) place
  pub at_is : at ≡ field.at + place

-- the field is cut short or breaks its rule, and this offset names it
abbrev pub IsBroken : List ℕ → Field → ℕ → Type 0
IsBroken stored field at = IsCutShort stored field at ⊎ BreaksRule stored field at

-- The first of these fields that is cut short or breaks its rule is named by this offset; the ones before it are good.
pub record IsFirstBroken (stored : List ℕ) (fields : List Field) (at : ℕ) : Type 0 where
  pub before : List Field
  pub field : Field
  pub behind : List Field
  pub fields_are : fields ≡ before ++ field ∷ behind
  pub good : (one : Field) → Contains before one → IsGood stored one
  pub bad : IsBroken stored field at
