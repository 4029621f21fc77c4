-- Bytes have a tuple at their front that keeps the rules, or a first field of one that is broken.
use Rattle.std.proofs.Common.{◌≡◌, ℕ, zero, suc, ◌+◌, ◌*◌, ◌%◌, ◌^◌, ◌<◌, ◌≤◌, ◌⊎◌, inl, inr, Bool, List, [], ◌∷◌, ◌++◌, length, take, drop, refl, sym, ap, subst, ◌∙◌, add-one, arith, length-append, length-drop, Option, Some, None}
use Rattle.std.specs.Prelude.{IsTrue, nat_le, slice_index}
use Rattle.std.specs.Int.{w32, to_be_bytes}
use Rattle.std.specs.List.{flat_map, range_with_len}
use Rattle.std.proofs.lemmas.Bool.{and_parts, cases_lt, leb-true}
use Rattle.std.proofs.lemmas.List.{drop-take, length-take-le, take-append-drop}
use Rattle.store_model.specs.Disk.{page_bytes}
use Rattle.store_model.specs.Field.{AreGood, Field, IsFirstBroken, told_four}
use Rattle.store_model.specs.Hash.{bytes_of_state}
use Rattle.store_model.specs.Shape.{greatest_size}
use Rattle.store_model.specs.State.{Extent, HasExtents, IsMark, State, greatest_number}
use Rattle.store_model.specs.Tuple.{IsAtFront, IsKeyAtFront}
use Rattle.store_model.specs.TupleFields.{AreExtentsTold, IsBadTuple, IsExtentTold, Rules, content_fields, extent_fields, fields_at, key_fields, places_fields, ruled_key_fields, state_fields, tail_fields, told_key, told_size, tuple_fields}
use Rattle.store_model.proofs.BadTupleLaws.{extents-told}
use Rattle.store_model.proofs.ByteLaws.{AreBytes-drop, AreBytes-take, four-low}
use Rattle.store_model.proofs.FieldCaseLaws.{AreGood-or_broken}
use Rattle.store_model.proofs.FieldLaws.{AreBytes, AreGood-back, AreGood-front, AreGood-same, TextStands-four, told_eight}
use Rattle.store_model.proofs.KeyFieldLaws.{IsKeyAtFront-told, rule_field}
use Rattle.store_model.proofs.TupleFieldLaws.{KeepsRules}
use Rattle.store_model.proofs.TupleToldLaws.{AreExtentsTold-next, IsAtFront-AreGood, IsTailTold, IsTold, bytes_of_state-none, extent_fields-next}

-- The words that bytes tell, four by four.
record AreWords (bytes words : List ℕ) (n : ℕ) : Type 0 where
  many : length words ≡ n
  low : (k : ℕ) → slice_index words k < 2 ^ 32
  spelled : bytes_of_state words ≡ bytes

more-low : (word : ℕ) (words : List ℕ) → word < 2 ^ 32 → ((k : ℕ) → slice_index words k < 2 ^ 32) → (k : ℕ) → slice_index (word ∷ words) k < 2 ^ 32
more-low word words first others zero = first
more-low word words first others (suc k) = others k

no-bytes : (bytes : List ℕ) → length bytes ≡ 0 → [] ≡ bytes
no-bytes [] none = refl
no-bytes (byte ∷ bytes) none = absurd (omega (arith, none))

one-word : (word : ℕ) (words : List ℕ) → bytes_of_state (word ∷ words) ≡ to_be_bytes w32 word ++ bytes_of_state words
unfolding bytes_of_state
one-word word words = refl

words-told : (n : ℕ) (bytes : List ℕ) → AreBytes bytes → length bytes ≡ 4 * n → (words : List ℕ) × AreWords bytes words n
words-told zero bytes are long =
    ([], record { many = refl; low = λ k. omega arith; spelled = bytes_of_state-none ∙ no-bytes bytes (omega (arith, long)) })
words-told (suc n) bytes are long =
    let word : ℕ = told_four bytes 0 in
    let here : take 4 bytes ≡ to_be_bytes w32 word = (TextStands-four bytes 0 word are (omega (arith, long)) refl).bytes in
    let rest = words-told n (drop 4 bytes) (AreBytes-drop bytes 4 are) (omega (arith, long, length-drop 4 bytes)) in (
      word ∷ rest.0,
      record {
        many = ap suc rest.1.many;
        low = more-low word rest.0 (four-low (take 4 bytes) (AreBytes-take bytes 4 are)) rest.1.low;
        spelled = one-word word rest.0 ∙ ap (λ (xs : List ℕ). to_be_bytes w32 word ++ xs) rest.1.spelled
            ∙ ap (λ (xs : List ℕ). xs ++ drop 4 bytes) (sym here) ∙ take-append-drop 4 bytes;
      },
    )

-- the mark that 32 bytes tell
mark-told : (bytes : List ℕ) → AreBytes bytes → length bytes ≡ 32 → (mark : List ℕ) × IsMark mark × (bytes_of_state mark ≡ bytes)
mark-told bytes are long =
    let words = words-told 8 bytes are (omega (arith, long)) in
    (words.0, record { eight = words.1.many; words = words.1.low }, words.1.spelled)

-- the extent that good fields tell
extent-told : (stored : List ℕ) (pages at n : ℕ) → AreBytes stored → AreGood stored (extent_fields pages at n)
    → (extent : Extent) × IsExtentTold stored (at + 36 * n) extent
extent-told stored pages at n bytes good =
    let start : ℕ = at + (36 * n + 4) in
    let part : List ℕ = take 32 (drop start stored) in
    let long : length part ≡ 32 = length-take-le 32 (drop start stored) (omega (arith, good.1.0.whole, length-drop start stored)) in
    let mark = mark-told part (AreBytes-take (drop start stored) 32 (AreBytes-drop stored start bytes)) long in
    let same : start ≡ at + 36 * n + 4 = omega arith in (
      record { head = told_four stored (at + 36 * n); mark = mark.0 },
      record { head = refl; mark = mark.2 ∙ ap (λ (p : ℕ). take 32 (drop p stored)) same; sound = mark.1 },
    )

-- the extents that good fields tell
extents-some : (stored : List ℕ) (pages at n : ℕ) → AreBytes stored → AreGood stored (flat_map (extent_fields pages at) (range_with_len 0 n))
    → (extents : List Extent) × (length extents ≡ n) × AreExtentsTold stored at extents
extents-some stored pages at zero bytes good = ([], refl, λ i extent is. absurd (cc is))
extents-some stored pages at (suc n) bytes good =
    let before : List Field = flat_map (extent_fields pages at) (range_with_len 0 n) in
    let next : flat_map (extent_fields pages at) (range_with_len 0 (suc n)) ≡ before ++ extent_fields pages at n =
    ap (λ (m : ℕ). flat_map (extent_fields pages at) (range_with_len 0 m)) (sym (add-one n)) ∙ extent_fields-next pages at n in
    let all : AreGood stored (before ++ extent_fields pages at n) = AreGood-same stored _ _ next good in
    let rest = extents-some stored pages at n bytes (AreGood-front stored before (extent_fields pages at n) all) in
    let last = extent-told stored pages at n bytes (AreGood-back stored before (extent_fields pages at n) all) in (
      rest.0 ++ last.0 ∷ [],
      omega (arith, length-append rest.0 (last.0 ∷ []), rest.1),
      AreExtentsTold-next stored at rest.0 last.0 rest.2 (subst (λ (m : ℕ). IsExtentTold stored (at + 36 * m) last.0) (sym rest.1) last.1),
    )

-- the tail, where the size has one
tail-some : (stored : List ℕ) (at size : ℕ) → (tail : Option ℕ) × IsTailTold stored at size tail
tail-some stored at size =
    elim (cases_lt 0 (size % page_bytes)) [
      | inl some ↦ (Some (told_four stored at), record { has = (λ is. some, λ over. refl); page = refl })
      | inr none ↦ (None, record { has = (λ is. absurd (cc is), λ over. absurd (omega (arith, over, none))); page = tt })
    ]

-- A state that good fields tell, with so many extents.
record StateTold (stored : List ℕ) (n : ℕ) : Type 0 where
  state : State
  told : IsTold stored (fields_at stored) state
  has : HasExtents state.size (length state.extents)
  many : length state.extents ≡ n

state-told : (least most pages : ℕ) (stored : List ℕ) (n : ℕ) → AreBytes stored → HasExtents (told_size stored) n
    → AreGood stored (state_fields least most pages stored n) → StateTold stored n
state-told least most pages stored n bytes has good =
    let at : ℕ = fields_at stored in
    let size : ℕ = told_size stored in
    let content : List Field = content_fields least most at size in
    let heads : List Field = flat_map (extent_fields pages (at + 76)) (range_with_len 0 n) in
    let end : List Field = tail_fields pages (at + 76 + 36 * n) size in
    let extents = extents-some stored pages (at + 76) n bytes (AreGood-front stored heads end (AreGood-back stored content (heads ++ end) good)) in
    let tail = tail-some stored (at + 76 + 36 * length extents.0) size in
    record {
      state = record {
        size = size;
        born = told_eight stored (at + 4);
        digest = take 32 (drop (at + 12) stored);
        prefix = take 32 (drop (at + 44) stored);
        extents = extents.0;
        tail = tail.0;
      };
      told = record { size = refl; born = refl; digest = refl; prefix = refl; extents = extents.2; tail = tail.1 };
      has = subst (HasExtents size) (sym extents.1) has;
      many = extents.1;
    }

-- A tuple at the front of bytes that keeps the rules.
pub record HasTuple (rules : Rules) (pages : ℕ) (stored : List ℕ) : Type 0 where
  pub key : List ℕ
  pub state : State
  pub front : IsAtFront pages stored key state
  pub keeps : KeepsRules rules key state

-- A key at the front of bytes that may stand there.
pub record HasKey (may_stand : List ℕ → Bool) (stored : List ℕ) : Type 0 where
  pub key : List ℕ
  pub front : IsKeyAtFront stored key
  pub may : IsTrue (may_stand key)

-- where the key's fields and its rule are good
HasKey-good : (may_stand : List ℕ → Bool) (stored : List ℕ) → AreGood stored (ruled_key_fields may_stand (told_key stored)) → HasKey may_stand stored
HasKey-good may_stand stored good =
    let n : ℕ = told_key stored in
    let rule : AreGood stored (rule_field may_stand n ∷ []) = AreGood-back stored (key_fields n) (rule_field may_stand n ∷ []) good in
    record {
      key = take n (drop 1 stored);
      front = IsKeyAtFront-told stored (take n (drop 1 stored)) (AreGood-front stored (key_fields n) (rule_field may_stand n ∷ []) good) refl;
      may = ap may_stand (sym (drop-take 1 n stored)) ∙ rule.0.kept;
    }

-- A key stands at the front that may, or a field of it is the first that is broken.
pub HasKey-or_broken : (may_stand : List ℕ → Bool) (stored : List ℕ)
    → HasKey may_stand stored ⊎ ((at : ℕ) × IsFirstBroken stored (ruled_key_fields may_stand (told_key stored)) at)
HasKey-or_broken may_stand stored =
    elim (AreGood-or_broken stored (ruled_key_fields may_stand (told_key stored))) [
      | inl good ↦ inl (HasKey-good may_stand stored good)
      | inr first ↦ inr first
    ]

-- where all fields of a tuple are good
HasTuple-good : (rules : Rules) (pages : ℕ) (stored : List ℕ) (n : ℕ) → AreBytes stored → 1 ≤ rules.least → rules.most ≤ greatest_number
    → (told_size stored ≤ greatest_size → HasExtents (told_size stored) n) → AreGood stored (tuple_fields rules pages stored n) → HasTuple rules pages stored
HasTuple-good rules pages stored n bytes low high counted good =
    let keys : List Field = ruled_key_fields rules.key (told_key stored) in
    let fields : List Field = state_fields rules.least rules.most pages stored n in
    let content : List Field = content_fields rules.least rules.most (fields_at stored) (told_size stored) in
    let key = HasKey-good rules.key stored (AreGood-front stored keys fields good) in
    let behind : AreGood stored fields = AreGood-back stored keys fields good in
    let first : AreGood stored content = AreGood-front stored content (places_fields pages (fields_at stored + 76) (told_size stored) n) behind in
    let told = state-told rules.least rules.most pages stored n bytes (counted (leb-true (told_size stored) greatest_size first.0.kept)) behind in
    let born = and_parts (nat_le rules.least (told_eight stored (fields_at stored + 4))) (nat_le (told_eight stored (fields_at stored + 4)) rules.most) first.1.0.kept in
    record {
      key = key.key;
      state = told.state;
      front = IsAtFront-AreGood rules.least rules.most pages stored key.key told.state bytes low high key.front told.told told.has
          (subst (λ (m : ℕ). AreGood stored (state_fields rules.least rules.most pages stored m)) (sym told.many) behind);
      keeps = record {
        key_may = key.may;
        from_least = rw told.told.born (leb-true rules.least (told_eight stored (fields_at stored + 4)) born.0);
        to_most = rw told.told.born (leb-true (told_eight stored (fields_at stored + 4)) rules.most born.1);
      };
    }

-- A tuple stands at the front that keeps the rules, or a field is the first that is broken.
pub HasTuple-or_bad : (rules : Rules) (pages : ℕ) (stored : List ℕ) → AreBytes stored → 1 ≤ rules.least → rules.most ≤ greatest_number
    → HasTuple rules pages stored ⊎ ((at : ℕ) × IsBadTuple rules pages stored at)
HasTuple-or_bad rules pages stored bytes low high =
    let some = extents-told (told_size stored) in
    elim (AreGood-or_broken stored (tuple_fields rules pages stored some.0)) [
      | inl good ↦ inl (HasTuple-good rules pages stored some.0 bytes low high some.1 good)
      | inr first ↦ inr (first.0, record { extents = some.0; counted = some.1; first = first.1 })
    ]
