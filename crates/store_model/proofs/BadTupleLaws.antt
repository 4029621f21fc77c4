-- Laws of bytes at whose front no tuple stands: which of the fields is the first that is broken.
use Rattle.std.proofs.Common.{◌≡◌, ℕ, false, zero, suc, ◌+◌, ◌*◌, ◌%◌, ◌/◌, ◌<◌, ◌≤◌, inl, inr, List, [], ◌∷◌, ◌++◌, refl, ap, subst, ◌∙◌, arith, add-one}
use Rattle.std.specs.Prelude.{IsTrue, nat_lt, ◌==◌}
use Rattle.std.specs.Int.{w32}
use Rattle.std.specs.List.{flat_map, range_with_len}
use Rattle.std.proofs.lemmas.Bool.{cases_lt, cond-false, eqb-true, false_from_ne_true}
use Rattle.store_model.specs.Disk.{page_bytes}
use Rattle.store_model.specs.Field.{AreGood, Field, IsBroken, Number, IsFirstBroken, told_four}
use Rattle.store_model.specs.Shape.{greatest_size, held_by}
use Rattle.store_model.specs.State.{HasExtents}
use Rattle.store_model.specs.Tuple.{IsKeyAtFront}
use Rattle.store_model.specs.TupleFields.{Rules, ruled_key_fields, state_fields, IsBadState, IsBadTuple, fields_at, content_fields, extent_fields, key_fields, places_fields, tail_fields, told_key, told_size}
use Rattle.store_model.proofs.FieldLaws.{IsFirstBroken-back, IsFirstBroken-front, IsFirstBroken-here}
use Rattle.store_model.proofs.ShapeLaws.{held_by-all, held_by-mono}
use Rattle.store_model.proofs.KeyFieldLaws.{IsFirstBroken-ruled_key, AreGood-IsKeyAtFront, IsFirstBroken-refused}
use Rattle.store_model.proofs.TupleToldLaws.{extent_fields-next}

-- The first so many extents are good, and a field of the next is broken: it is the first that is, however many follow.
pub IsFirstBroken-extents : (stored : List ℕ) (pages at i count place : ℕ) → i < count
    → AreGood stored (flat_map (extent_fields pages at) (range_with_len 0 i)) → IsFirstBroken stored (extent_fields pages at i) place
    → IsFirstBroken stored (flat_map (extent_fields pages at) (range_with_len 0 count)) place
IsFirstBroken-extents stored pages at i zero place below good first = absurd (omega arith)
IsFirstBroken-extents stored pages at i (suc count) place below good first =
    let fields : List Field = flat_map (extent_fields pages at) (range_with_len 0 count) in
    let next : IsFirstBroken stored (fields ++ extent_fields pages at count) place =
    elim (cases_lt i count) [
      | inl earlier ↦ IsFirstBroken-front stored fields (extent_fields pages at count) place (IsFirstBroken-extents stored pages at i count place earlier good first)
      | inr last ↦ (
          let same : i ≡ count = omega arith in
          IsFirstBroken-back stored fields (extent_fields pages at count) place (rw same at good) (rw same at first)
          )
    ] in
    subst (λ (n : ℕ). IsFirstBroken stored (flat_map (extent_fields pages at) (range_with_len 0 n)) place) (add-one count)
    (rw (extent_fields-next pages at count) next)

-- the tail is broken, where the size has one
pub IsFirstBroken-tail : (stored : List ℕ) (pages at size place : ℕ) → (size % page_bytes ≡ 0 → ⊥)
    → IsBroken stored (record { at = at; bytes = 4; rule = Number w32 (λ n. nat_lt n pages) }) place → IsFirstBroken stored (tail_fields pages at size) place
IsFirstBroken-tail stored pages at size place some broken =
    let page : Field = record { at = at; bytes = 4; rule = Number w32 (λ n. nat_lt n pages) } in
    rw (cond-false (size % page_bytes == 0) [] (page ∷ []) (false_from_ne_true _ (λ none. some (eqb-true (size % page_bytes) 0 none))))
    (IsFirstBroken-here stored page [] place broken)

-- each size has some number of extents, where extents enough hold its full pages
extents-some : (size most : ℕ) → size / page_bytes ≤ held_by most → (n : ℕ) × HasExtents size n
extents-some size zero holds = (0, record { full = refl; tail = refl; held = holds; least = λ n below. absurd (omega arith) })
extents-some size (suc most) holds =
    elim (cases_lt (held_by most) (size / page_bytes)) [
      | inl fewer ↦ (suc most, record { full = refl; tail = refl; held = holds; least = λ n below. omega (arith, fewer, held_by-mono n most (omega arith)) })
      | inr enough ↦ extents-some size most enough
    ]

-- a number of extents that is that of a size, where it is one
pub extents-told : (size : ℕ) → (n : ℕ) × (size ≤ greatest_size → HasExtents size n)
extents-told size =
    elim (cases_lt greatest_size size) [
      | inl more ↦ (0, λ fits. absurd (omega arith))
      | inr fits ↦ (let some = extents-some size 127 (omega (arith, held_by-all, fits)) in (some.0, λ within. some.1))
    ]

-- no state, where a field before the extents is broken
pub IsBadState-content : (least most pages : ℕ) (stored : List ℕ) (at place : ℕ) → at ≡ fields_at stored
    → IsFirstBroken stored (content_fields least most at (told_four stored at)) place → IsBadState least most pages stored place
IsBadState-content least most pages stored at place start first =
    let some = extents-told (told_size stored) in
    let content : List Field = content_fields least most (fields_at stored) (told_size stored) in
    record {
      extents = some.0;
      counted = some.1;
      first = IsFirstBroken-front stored content (places_fields pages (fields_at stored + 76) (told_size stored) some.0) place (rw start at first);
    }

-- no state, where an extent is broken
pub IsBadState-extents : (least most pages : ℕ) (stored : List ℕ) (at size extents place : ℕ) → at ≡ fields_at stored → size ≡ told_four stored at
    → HasExtents size extents → AreGood stored (content_fields least most at size)
    → IsFirstBroken stored (flat_map (extent_fields pages (at + 76)) (range_with_len 0 extents)) place → IsBadState least most pages stored place
IsBadState-extents least most pages stored at size extents place start told has content first =
    let size_is : size ≡ told_size stored = told ∙ ap (told_four stored) start in
    let fields : List Field = content_fields least most (fields_at stored) (told_size stored) in
    let heads : List Field = flat_map (extent_fields pages (fields_at stored + 76)) (range_with_len 0 extents) in
    let end : List Field = tail_fields pages (fields_at stored + 76 + 36 * extents) (told_size stored) in
    let good : AreGood stored fields = rw (start, size_is) at content in
    let here : IsFirstBroken stored heads place = rw start at first in
    record {
      extents = extents;
      counted = λ fits. rw size_is at has;
      first = IsFirstBroken-back stored fields (heads ++ end) place good (IsFirstBroken-front stored heads end place here);
    }

-- no state, where the tail is broken
pub IsBadState-tail : (least most pages : ℕ) (stored : List ℕ) (at size extents place : ℕ) → at ≡ fields_at stored → size ≡ told_four stored at
    → HasExtents size extents → AreGood stored (content_fields least most at size)
    → AreGood stored (flat_map (extent_fields pages (at + 76)) (range_with_len 0 extents))
    → IsFirstBroken stored (tail_fields pages (at + 76 + 36 * extents) size) place → IsBadState least most pages stored place
IsBadState-tail least most pages stored at size extents place start told has content places first =
    let size_is : size ≡ told_size stored = told ∙ ap (told_four stored) start in
    let fields : List Field = content_fields least most (fields_at stored) (told_size stored) in
    let heads : List Field = flat_map (extent_fields pages (fields_at stored + 76)) (range_with_len 0 extents) in
    let end : List Field = tail_fields pages (fields_at stored + 76 + 36 * extents) (told_size stored) in
    let good : AreGood stored fields = rw (start, size_is) at content in
    let before : AreGood stored heads = rw start at places in
    let here : IsFirstBroken stored end place = rw (start, size_is) at first in
    record {
      extents = extents;
      counted = λ fits. rw size_is at has;
      first = IsFirstBroken-back stored fields (heads ++ end) place good (IsFirstBroken-back stored heads end place before here);
    }

-- no tuple, where a field of the key is broken, or the rule of keys
pub IsBadTuple-ruled_key : (rules : Rules) (pages : ℕ) (stored : List ℕ) (place : ℕ) → IsFirstBroken stored (ruled_key_fields rules.key (told_key stored)) place
    → IsBadTuple rules pages stored place
IsBadTuple-ruled_key rules pages stored place first =
    let some = extents-told (told_size stored) in
    record {
      extents = some.0;
      counted = some.1;
      first = IsFirstBroken-front stored (ruled_key_fields rules.key (told_key stored)) (state_fields rules.least rules.most pages stored some.0) place first;
    }

-- no tuple, where the key's length or the key is broken
pub IsBadTuple-key : (rules : Rules) (pages : ℕ) (stored : List ℕ) (place : ℕ) → IsFirstBroken stored (key_fields (told_key stored)) place
    → IsBadTuple rules pages stored place
IsBadTuple-key rules pages stored place first =
    IsBadTuple-ruled_key rules pages stored place (IsFirstBroken-ruled_key rules.key stored place first)

-- no tuple, where a key stands that the rule refuses
pub IsBadTuple-refused : (rules : Rules) (pages : ℕ) (stored key : List ℕ) → IsKeyAtFront stored key → rules.key key ≡ false → IsBadTuple rules pages stored 0
IsBadTuple-refused rules pages stored key front refused =
    IsBadTuple-ruled_key rules pages stored 0 (IsFirstBroken-refused rules.key stored key front refused)

-- no tuple, where behind a key that may stand there is no state
pub IsBadTuple-state : (rules : Rules) (pages : ℕ) (stored key : List ℕ) (place : ℕ) → IsKeyAtFront stored key → IsTrue (rules.key key)
    → IsBadState rules.least rules.most pages stored place → IsBadTuple rules pages stored place
IsBadTuple-state rules pages stored key place front may bad =
    record {
      extents = bad.extents;
      counted = bad.counted;
      first = IsFirstBroken-back stored (ruled_key_fields rules.key (told_key stored)) (state_fields rules.least rules.most pages stored bad.extents) place
          (AreGood-IsKeyAtFront rules.key stored key front may) bad.first;
    }
