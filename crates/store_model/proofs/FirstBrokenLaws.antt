-- Laws of broken fields: the first of some fields that is broken is named by one offset.
use Rattle.std.proofs.Common.{◌≡◌, ℕ, ◌+◌, ◌<◌, ◌≤◌, inl, inr, List, [], ◌∷◌, ◌++◌, take, drop, sym, ap, ◌∙◌, subst, arith, append_assoc}
use Rattle.std.specs.Prelude.{Contains, IsTrue}
use Rattle.std.specs.List.{All}
use Rattle.std.proofs.lemmas.Bool.{cases_lt}
use Rattle.std.proofs.lemmas.List.{append-nil, take-append-drop, take-take}
use Rattle.std.proofs.lemmas.List.Elements.{All-contains_itself, All-head, All-tail, All-weaker}
use Rattle.store_model.specs.Field.{AreGood, Bytes, Field, IsBroken, IsFirstBroken, IsGood, IsNamed, KeyText, Number, Rule}
use Rattle.store_model.specs.Key.{BeginsKey, IsBadAt, is_key}
use Rattle.store_model.specs.Shape.{greatest_size}
use Rattle.store_model.specs.TupleFields.{IsBadTuple, Rules, content_fields, fields_at, places_fields, ruled_key_fields, told_key, told_size, tuple_fields}
use Rattle.store_model.proofs.FieldLaws.{AreGood-back, AreGood-none_broken, IsGood-not_broken}
use Rattle.store_model.proofs.HalfReadingLaws.{le-told}
use Rattle.store_model.proofs.TupleLaws.{count-same}

-- what begins a key, its front begins too
begins-shorter : (text : List ℕ) (m n : ℕ) → m ≤ n → BeginsKey (take n text) → BeginsKey (take m text)
begins-shorter text m n less begins =
    let whole : take n text ≡ take m text ++ drop m (take n text) =
    sym (take-append-drop m (take n text)) ∙ ap (λ (xs : List ℕ). xs ++ drop m (take n text)) (take-take m n text less) in (
      drop m (take n text) ++ begins.0,
      subst (λ (xs : List ℕ). IsTrue (is_key xs)) (ap (λ (xs : List ℕ). xs ++ begins.0) whole ∙ append_assoc (take m text) (drop m (take n text)) begins.0) begins.1,
    )

-- a text has no first bad place before another
bad-not_before : (text : List ℕ) (a b : ℕ) → IsBadAt text a → IsBadAt text b → a < b → ⊥
bad-not_before text a b one other less =
    one.here (omega (arith, less, other.within)) (begins-shorter text (a + 1) b (omega (arith, less)) other.before)

-- the first bad place of a text is one
bad-one : (text : List ℕ) (a b : ℕ) → IsBadAt text a → IsBadAt text b → a ≡ b
bad-one text a b one other = elim (cases_lt a b) [
  | inl less ↦ absurd (bad-not_before text a b one other less)
  | inr from ↦ elim (cases_lt b a) [
    | inl less ↦ absurd (bad-not_before text b a other one less)
    | inr to ↦ omega (arith, from, to)
  ]
]

-- a field is named at one place
named-one : (rule : Rule) (bytes : List ℕ) (a b : ℕ) → IsNamed rule bytes a → IsNamed rule bytes b → a ≡ b
named-one KeyText bytes a b one other = bad-one bytes a b one other
named-one (Number width test) bytes a b one other = one ∙ sym other
named-one (Bytes test) bytes a b one other = one ∙ sym other

-- and a broken field by one offset
broken-one : (stored : List ℕ) (field : Field) (a b : ℕ) → IsBroken stored field a → IsBroken stored field b → a ≡ b
broken-one stored field a b (inl one) (inl other) = one.named ∙ sym other.named
broken-one stored field a b (inl one) (inr other) = absurd (omega (arith, one.short, other.whole))
broken-one stored field a b (inr one) (inl other) = absurd (omega (arith, one.whole, other.short))
broken-one stored field a b (inr one) (inr other) =
    let same : one.place ≡ other.place = named-one field.rule (take field.bytes (drop field.at stored)) one.place other.place one.named other.named in
    omega (arith, one.at_is, other.at_is, same)

-- the first fields of two lists
first-of : (x y : Field) (xs ys : List Field) → x ∷ xs ≡ y ∷ ys → (x ≡ y) × (xs ≡ ys)
first-of x y xs ys same = let head : x ≡ y = cc in let tail : xs ≡ ys = cc in (head, tail)

-- Two lists that begin alike, with a field that isn't good: the first broken one of both is the same.
parts-one : (stored : List ℕ) (front a b : List Field) (before other : List Field) (field g : Field) (behind more : List Field) (p q : ℕ)
    → front ++ a ≡ before ++ field ∷ behind → front ++ b ≡ other ++ g ∷ more → All (IsGood stored) before → All (IsGood stored) other
    → IsBroken stored field p → IsBroken stored g q → (AreGood stored front → ⊥) → p ≡ q
parts-one stored [] a b before other field g behind more p q one two good fine bad worse some = absurd (some tt)
parts-one stored (f ∷ front) a b [] [] field g behind more p q one two good fine bad worse some =
    let same : field ≡ g = sym (first-of f field (front ++ a) behind one).0 ∙ (first-of f g (front ++ b) more two).0 in
    broken-one stored field p q bad (subst (λ (h : Field). IsBroken stored h q) (sym same) worse)
parts-one stored (f ∷ front) a b [] (o ∷ other) field g behind more p q one two good fine bad worse some =
    let same : o ≡ field = sym (first-of f o (front ++ b) (other ++ g ∷ more) two).0 ∙ (first-of f field (front ++ a) behind one).0 in
    absurd (IsGood-not_broken stored field p (subst (IsGood stored) same (All-head (IsGood stored) o other fine)) bad)
parts-one stored (f ∷ front) a b (o ∷ before) [] field g behind more p q one two good fine bad worse some =
    let same : o ≡ g = sym (first-of f o (front ++ a) (before ++ field ∷ behind) one).0 ∙ (first-of f g (front ++ b) more two).0 in
    absurd (IsGood-not_broken stored g q (subst (IsGood stored) same (All-head (IsGood stored) o before good)) worse)
parts-one stored (f ∷ front) a b (o ∷ before) (u ∷ other) field g behind more p q one two good fine bad worse some =
    let mine = first-of f o (front ++ a) (before ++ field ∷ behind) one in
    let theirs = first-of f u (front ++ b) (other ++ g ∷ more) two in
    let here : IsGood stored f = subst (IsGood stored) (sym mine.0) (All-head (IsGood stored) o before good) in
    parts-one stored front a b before other field g behind more p q mine.1 theirs.1 (All-tail (IsGood stored) o before good) (All-tail (IsGood stored) u other fine)
    bad worse (λ rest. some (here, rest))

-- all the fields before the first broken one are good
before-good : (stored : List ℕ) (fields : List Field) (at : ℕ) (first : IsFirstBroken stored fields at) → All (IsGood stored) first.before
before-good stored fields at first = All-weaker (Contains first.before) (IsGood stored) first.good first.before (All-contains_itself first.before)

pub IsFirstBroken-front_one : (stored : List ℕ) (front a b : List Field) (p q : ℕ) → IsFirstBroken stored (front ++ a) p → IsFirstBroken stored (front ++ b) q
    → (AreGood stored front → ⊥) → p ≡ q
IsFirstBroken-front_one stored front a b p q one other some =
    parts-one stored front a b one.before other.before one.field other.field one.behind other.behind p q one.fields_are other.fields_are
    (before-good stored (front ++ a) p one) (before-good stored (front ++ b) q other) one.bad other.bad some

-- The first broken one of some fields is named by one offset.
pub IsFirstBroken-one : (stored : List ℕ) (fields : List Field) (p q : ℕ) → IsFirstBroken stored fields p → IsFirstBroken stored fields q → p ≡ q
IsFirstBroken-one stored fields p q one other =
    IsFirstBroken-front_one stored fields [] [] p q
    (subst (λ (fs : List Field). IsFirstBroken stored fs p) (sym (append-nil fields)) one)
    (subst (λ (fs : List Field). IsFirstBroken stored fs q) (sym (append-nil fields)) other)
    (λ good. AreGood-none_broken stored fields p good one)

-- A tuple that is bad is named by one offset.
pub IsBadTuple-one : (rules : Rules) (pages : ℕ) (stored : List ℕ) (p q : ℕ) → IsBadTuple rules pages stored p → IsBadTuple rules pages stored q → p ≡ q
IsBadTuple-one rules pages stored p q one other =
    let size : ℕ = told_size stored in
    let at : ℕ = fields_at stored in
    let key : List Field = ruled_key_fields rules.key (told_key stored) in
    let content : List Field = content_fields rules.least rules.most at size in
    let places = λ (extents : ℕ). places_fields pages (at + 76) size extents in
    elim (cases_lt greatest_size size) [
      | inl more ↦
          IsFirstBroken-front_one stored (key ++ content) (places one.extents) (places other.extents) p q
          (subst (λ (fs : List Field). IsFirstBroken stored fs p) (sym (append_assoc key content (places one.extents))) one.first)
          (subst (λ (fs : List Field). IsFirstBroken stored fs q) (sym (append_assoc key content (places other.extents))) other.first)
          (λ good. absurd (omega (arith, more, le-told size greatest_size (AreGood-back stored key content good).0.kept)))
      | inr fits ↦ (
          let same : one.extents ≡ other.extents = count-same size one.extents other.extents (one.counted fits) (other.counted fits) in
          IsFirstBroken-one stored (tuple_fields rules pages stored one.extents) p q one.first
          (subst (λ (n : ℕ). IsFirstBroken stored (tuple_fields rules pages stored n) q) (sym same) other.first))
    ]
