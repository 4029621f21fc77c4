-- Laws of the offsets that name broken fields: they lie within the bytes, where each field begins within those before it.
use Rattle.std.proofs.Common.{◌≡◌, ℕ, zero, suc, ◌+◌, ◌*◌, ◌%◌, ◌≤◌, inl, inr, Bool, true, false, List, [], ◌∷◌, ◌++◌, length, take, drop, refl, sym, subst, arith, add-one, length-drop, length-take}
use Rattle.std.specs.Prelude.{Contains, ◌==◌, if◌then◌else◌}
use Rattle.std.specs.List.{All, flat_map, range_with_len}
use Rattle.std.proofs.lemmas.List.Elements.{All-contains_itself, All-head, All-tail, All-weaker}
use Rattle.store_model.specs.Disk.{page_bytes}
use Rattle.store_model.specs.Field.{Bytes, Field, IsBroken, IsFirstBroken, IsGood, IsNamed, KeyText, Number, Rule}
use Rattle.store_model.specs.TupleFields.{IsBadTuple, Rules, content_fields, extent_fields, ruled_key_fields, tail_fields, told_key, told_size, tuple_fields}
use Rattle.store_model.proofs.TupleToldLaws.{extent_fields-next}

-- Each field begins where the one before it ends, or before that.
abbrev pub Joins : ℕ → List Field → ℕ → Type 0
Joins from [] to = from ≡ to
Joins from (field ∷ fields) to = (field.at ≤ from) × Joins (field.at + field.bytes) fields to

-- fields behind others
pub Joins-append : (from mid to : ℕ) (a b : List Field) → Joins from a mid → Joins mid b to → Joins from (a ++ b) to
Joins-append from mid to [] b one other = subst (λ (n : ℕ). Joins n b to) (sym one) other
Joins-append from mid to (field ∷ a) b one other = (one.0, Joins-append (field.at + field.bytes) mid to a b one.1 other)

-- a place in a field is one of its bytes, or its end
named-within : (rule : Rule) (bytes : List ℕ) (place : ℕ) → IsNamed rule bytes place → place ≤ length bytes
named-within KeyText bytes place named = named.within
named-within (Number width test) bytes place named = omega (arith, named)
named-within (Bytes test) bytes place named = omega (arith, named)

-- a broken field that begins within the bytes is named within them
broken-within : (stored : List ℕ) (field : Field) (at : ℕ) → field.at ≤ length stored → IsBroken stored field at → at ≤ length stored
broken-within stored field at begins (inl short) = omega (arith, short.named, begins)
broken-within stored field at begins (inr breaks) =
    omega (
      arith,
      breaks.at_is,
      breaks.whole,
      named-within field.rule (take field.bytes (drop field.at stored)) breaks.place breaks.named,
      length-take field.bytes (drop field.at stored),
      length-drop field.at stored,
    )

-- good fields, and one that is broken behind them
joined-within : (stored : List ℕ) (before : List Field) (field : Field) (behind : List Field) (from to at : ℕ) → from ≤ length stored
    → Joins from (before ++ field ∷ behind) to → All (IsGood stored) before → IsBroken stored field at → at ≤ length stored
joined-within stored [] field behind from to at begun joins good bad = broken-within stored field at (omega (arith, begun, joins.0)) bad
joined-within stored (one ∷ before) field behind from to at begun joins good bad =
    joined-within stored before field behind (one.at + one.bytes) to at (All-head (IsGood stored) one before good).whole joins.1
    (All-tail (IsGood stored) one before good) bad

-- the first broken field of some that join is named within the bytes
pub IsFirstBroken-within : (stored : List ℕ) (fields : List Field) (to at : ℕ) → Joins 0 fields to → IsFirstBroken stored fields at → at ≤ length stored
IsFirstBroken-within stored fields to at joins first =
    joined-within stored first.before first.field first.behind 0 to at (omega arith) (subst (λ (fs : List Field). Joins 0 fs to) first.fields_are joins)
    (All-weaker (Contains first.before) (IsGood stored) first.good first.before (All-contains_itself first.before)) first.bad

-- the fields of a key join
Joins-key : (may_stand : List ℕ → Bool) (key : ℕ) → Joins 0 (ruled_key_fields may_stand key) (1 + key)
Joins-key may_stand key = (omega arith, (omega arith, (omega arith, omega arith)))

-- so do those before the extents
Joins-content : (least most at size : ℕ) → Joins at (content_fields least most at size) (at + 76)
Joins-content least most at size = (omega arith, (omega arith, (omega arith, (omega arith, omega arith))))

-- and those of extents
Joins-extents : (pages at extents : ℕ) → Joins at (flat_map (extent_fields pages at) (range_with_len 0 extents)) (at + 36 * extents)
Joins-extents pages at zero = omega arith
Joins-extents pages at (suc extents) =
    let before : List Field = flat_map (extent_fields pages at) (range_with_len 0 extents) in
    let one : Joins (at + 36 * extents) (extent_fields pages at extents) (at + 36 * (extents + 1)) = (omega arith, (omega arith, omega arith)) in
    subst (λ (n : ℕ). Joins at (flat_map (extent_fields pages at) (range_with_len 0 n)) (at + 36 * n)) (add-one extents)
    (subst (λ (fs : List Field). Joins at fs (at + 36 * (extents + 1))) (sym (extent_fields-next pages at extents))
    (Joins-append at (at + 36 * extents) (at + 36 * (extents + 1)) before (extent_fields pages at extents) (Joins-extents pages at extents) one))

-- and the tail, where there is one
Joins-tail : (pages at size : ℕ) → (to : ℕ) × Joins at (tail_fields pages at size) to
Joins-tail pages at size =
    elim (size % page_bytes == 0) as (λ none. (to : ℕ) × Joins at (if none then [] else tail_field) to) [
      | true ↦ (at, refl)
      | false ↦ (at + 4, (omega arith, refl))
    ] where
      tail_field : List Field
      tail_field = tail_fields pages at 1

-- The offset of a bad tuple lies within the bytes.
pub IsBadTuple-within : (rules : Rules) (pages : ℕ) (stored : List ℕ) (at : ℕ) → IsBadTuple rules pages stored at → at ≤ length stored
IsBadTuple-within rules pages stored at bad =
    let key : ℕ = 1 + told_key stored in
    let size : ℕ = told_size stored in
    let content : List Field = content_fields rules.least rules.most key size in
    let extents : List Field = flat_map (extent_fields pages (key + 76)) (range_with_len 0 bad.extents) in
    let tail : List Field = tail_fields pages (key + 76 + 36 * bad.extents) size in
    let end = Joins-tail pages (key + 76 + 36 * bad.extents) size in
    IsFirstBroken-within stored (tuple_fields rules pages stored bad.extents) end.0 at
    (Joins-append 0 key end.0 (ruled_key_fields rules.key (told_key stored)) (content ++ (extents ++ tail)) (Joins-key rules.key (told_key stored))
    (Joins-append key (key + 76) end.0 content (extents ++ tail) (Joins-content rules.least rules.most key size)
    (Joins-append (key + 76) (key + 76 + 36 * bad.extents) end.0 extents tail (Joins-extents pages (key + 76) bad.extents) end.1)))
    bad.first
