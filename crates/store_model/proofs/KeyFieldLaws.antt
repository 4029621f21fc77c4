-- Laws of the fields of a stored key: where a key stands at the front all of them are good, and where all of them are good the key
-- that they tell stands there.
use Rattle.std.proofs.Common.{◌≡◌, ℕ, Bool, false, suc, ◌+◌, ◌≤◌, List, [], ◌∷◌, length, take, drop, get_or, sym, ap, ◌∙◌, arith, length-drop}
use Rattle.std.specs.Prelude.{IsTrue}
use Rattle.std.specs.Int.{w8, from_be_bytes}
use Rattle.std.specs.List.{position_or_len}
use Rattle.std.proofs.lemmas.Bool.{and_from, and_parts, le-leb, leb-true}
use Rattle.std.proofs.lemmas.List.{length-take, length-take-le}
use Rattle.store_model.specs.Field.{AreGood, IsGood, Bytes, Field, IsBroken, IsFirstBroken}
use Rattle.store_model.specs.Key.{is_key, is_slash}
use Rattle.store_model.specs.Tuple.{IsKeyAtFront, key_spelling}
use Rattle.store_model.specs.TupleFields.{ruled_key_fields, fields_at, is_within, key_fields, told_key}
use Rattle.store_model.proofs.FieldLaws.{IsBroken-bytes, AreGood-append, AreGood-none_broken, IsFirstBroken-back, IsFirstBroken-front, IsFirstBroken-here, IsGood-bytes, TextStands, TextStands-back, TextStands-front, TextStands-rest, TextStands-start}

-- a key has 3 to 64 bytes
pub is_key-length : (key : List ℕ) → IsTrue (is_key key) → IsTrue (is_within 3 64 (length key))
is_key-length key named =
    let first : ℕ = position_or_len is_slash key in
    let both = and_parts _ _ named in
    let relation = and_parts _ _ (and_parts _ _ both.0).0 in
    let name = and_parts _ _ (and_parts _ _ both.1).0 in
    let some : 1 ≤ length (take first key) = leb-true 1 (length (take first key)) relation.0 in
    let most : length (take first key) ≤ 16 = leb-true (length (take first key)) 16 relation.1 in
    let more : 1 ≤ length (drop (first + 1) key) = leb-true 1 (length (drop (first + 1) key)) name.0 in
    let last : length (drop (first + 1) key) ≤ 47 = leb-true (length (drop (first + 1) key)) 47 name.1 in
    let front = length-take first key in
    let back = length-drop (first + 1) key in
    and_from _ _ (le-leb 3 (length key) (omega arith)) (le-leb (length key) 64 (omega arith))

-- the key's length and the key, from what stands at the front
key-good : (stored key : List ℕ) → IsTrue (is_key key) → TextStands stored 0 (key_spelling key) → AreGood stored (key_fields (length key))
key-good stored key named stands =
    let number : TextStands stored 0 (length key ∷ []) = TextStands-front stored 0 (length key ∷ []) key stands in
    let text : TextStands stored 1 key = TextStands-back stored 0 (length key ∷ []) key stands in (
      record { whole = number.whole; kept = ap (λ (bytes : List ℕ). is_within 3 64 (from_be_bytes w8 bytes)) number.bytes ∙ is_key-length key named },
      (record { whole = text.whole; kept = ap is_key text.bytes ∙ named }, tt),
    )

pub told_key-stands : (stored key : List ℕ) → TextStands stored 0 (key_spelling key) → told_key stored ≡ length key
told_key-stands [] key stands = absurd (omega (arith, stands.whole))
told_key-stands (byte ∷ stored) key stands = ap (λ (bytes : List ℕ). get_or bytes 0 0) stands.bytes

-- the field in which the rule of keys is judged
abbrev pub rule_field : (List ℕ → Bool) → ℕ → Field
rule_field may_stand key = record { at = 0; bytes = 1 + key; rule = Bytes (λ bytes. may_stand (drop 1 bytes)) }

-- these, and the rule of keys
pub ruled_key-good : (may_stand : List ℕ → Bool) (stored key : List ℕ) → IsTrue (is_key key) → IsTrue (may_stand key) → TextStands stored 0 (key_spelling key)
    → AreGood stored (ruled_key_fields may_stand (length key))
ruled_key-good may_stand stored key named may stands =
    let rule : IsGood stored (rule_field may_stand (length key)) =
    IsGood-bytes stored 0 (1 + length key) (key_spelling key) (λ bytes. may_stand (drop 1 bytes)) (omega arith) may stands in
    AreGood-append stored (key_fields (length key)) (rule_field may_stand (length key) ∷ []) (key-good stored key named stands) (rule, tt)

-- a key at the front stands there with its length
pub TextStands-IsKeyAtFront : (stored key : List ℕ) → IsKeyAtFront stored key → TextStands stored 0 (key_spelling key)
TextStands-IsKeyAtFront stored key front = TextStands-start stored (key_spelling key) front.rest front.stored_is

-- the key's length is the one that is told
pub told_key-IsKeyAtFront : (stored key : List ℕ) → IsKeyAtFront stored key → told_key stored ≡ length key
told_key-IsKeyAtFront stored key front = told_key-stands stored key (TextStands-IsKeyAtFront stored key front)

-- Where a key stands at the front, its length and the key itself are good.
pub AreGood-key : (stored key : List ℕ) → IsKeyAtFront stored key → AreGood stored (key_fields (told_key stored))
AreGood-key stored key front =
    rw (told_key-IsKeyAtFront stored key front) (key-good stored key front.named (TextStands-IsKeyAtFront stored key front))

-- Where a key stands at the front that the rule lets stand, its fields are good.
pub AreGood-IsKeyAtFront : (may_stand : List ℕ → Bool) (stored key : List ℕ) → IsKeyAtFront stored key → IsTrue (may_stand key)
    → AreGood stored (ruled_key_fields may_stand (told_key stored))
AreGood-IsKeyAtFront may_stand stored key front may =
    rw (told_key-IsKeyAtFront stored key front)
    (ruled_key-good may_stand stored key front.named may (TextStands-IsKeyAtFront stored key front))

-- Where a key stands at the front that the rule lets stand, it's not broken.
pub IsKeyAtFront-not_broken : (may_stand : List ℕ → Bool) (stored key : List ℕ) (at : ℕ) → IsKeyAtFront stored key → IsTrue (may_stand key)
    → IsFirstBroken stored (ruled_key_fields may_stand (told_key stored)) at → ⊥
IsKeyAtFront-not_broken may_stand stored key at front stands broken =
    AreGood-none_broken stored _ at (AreGood-IsKeyAtFront may_stand stored key front stands) broken

-- the key that is told stands at the front
key-stands : (stored key : List ℕ) → AreGood stored (key_fields (told_key stored)) → key ≡ take (told_key stored) (drop 1 stored) → TextStands stored 0 (key_spelling key)
key-stands [] key good is = absurd (omega (arith, good.0.whole))
key-stands (byte ∷ stored) key good is =
    let long : length key ≡ byte = ap length is ∙ length-take-le byte stored (omega (arith, good.1.0.whole)) in
    record {
      whole = omega (arith, good.1.0.whole);
      bytes = ap (λ (n : ℕ). take (suc n) (byte ∷ stored)) long ∙ ap (λ (text : List ℕ). byte ∷ text) (sym is) ∙ ap (λ (n : ℕ). n ∷ key) (sym long);
    }

-- Where the key's fields are good, the key that they tell stands at the front.
pub IsKeyAtFront-told : (stored key : List ℕ) → AreGood stored (key_fields (told_key stored)) → key ≡ take (told_key stored) (drop 1 stored)
    → IsKeyAtFront stored key
IsKeyAtFront-told stored key good is =
    record {
      named = ap is_key is ∙ good.1.0.kept;
      rest = drop (length (key_spelling key)) stored;
      stored_is = TextStands-rest stored (key_spelling key) (key-stands stored key good is);
    }

-- where the fields behind the key begin
pub fields_at-key : (stored key : List ℕ) → IsKeyAtFront stored key → 1 + length key ≡ fields_at stored
fields_at-key stored key front = ap (λ (n : ℕ). 1 + n) (sym (told_key-IsKeyAtFront stored key front))

-- what is broken in a key is so under every rule of keys
pub IsFirstBroken-ruled_key : (may_stand : List ℕ → Bool) (stored : List ℕ) (place : ℕ) → IsFirstBroken stored (key_fields (told_key stored)) place
    → IsFirstBroken stored (ruled_key_fields may_stand (told_key stored)) place
IsFirstBroken-ruled_key may_stand stored place first =
    IsFirstBroken-front stored (key_fields (told_key stored)) (rule_field may_stand (told_key stored) ∷ []) place first

-- A key at the front that the rule refuses is named by its length.
pub IsFirstBroken-refused : (may_stand : List ℕ → Bool) (stored key : List ℕ) → IsKeyAtFront stored key → may_stand key ≡ false
    → IsFirstBroken stored (ruled_key_fields may_stand (told_key stored)) 0
IsFirstBroken-refused may_stand stored key front refused =
    let told : told_key stored ≡ length key = told_key-IsKeyAtFront stored key front in
    let stands : TextStands stored 0 (key_spelling key) = TextStands-IsKeyAtFront stored key front in
    let broken : IsBroken stored (rule_field may_stand (length key)) 0 =
    IsBroken-bytes stored 0 (1 + length key) (key_spelling key) (λ bytes. may_stand (drop 1 bytes)) (omega arith) refused stands in
    rw told
    (IsFirstBroken-back stored (key_fields (length key)) (rule_field may_stand (length key) ∷ []) 0 (key-good stored key front.named stands)
    (IsFirstBroken-here stored (rule_field may_stand (length key)) [] 0 broken))
