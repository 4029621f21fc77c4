-- Laws of the reading of a half: it is found in one way, and a half that is found isn't refused.
use Rattle.std.proofs.Common.{◌≡◌, ℕ, ◌^◌, ◌<◌, ◌≤◌, inl, inr, List, [], ◌∷◌, ◌++◌, length, drop, refl, sym, ap, ◌∙◌, subst, arith, append_assoc, length-append}
use Rattle.std.specs.Prelude.{IsTrue}
use Rattle.std.specs.List.{All}
use Rattle.std.specs.Ordering.{is_lt}
use Rattle.std.specs.FinMap.{FinMap, entries}
use Rattle.std.proofs.lemmas.List.{append-nil}
use Rattle.std.proofs.lemmas.List.Elements.{All-head, All-tail}
use Rattle.store_model.specs.Disk.{Image}
use Rattle.store_model.specs.HalfFields.{first_fields, other_fields, told_last, told_layout}
use Rattle.store_model.specs.HalfRefusals.{AreTuples, BadHalf, BadTuple, DoTuplesRise, EndsEarly, FindsHalf, HalfRefusal, HasHeader, IsRefusedTuple, RefusesHalf, TooSmall, may_follow, rules_behind, stored_states, tuples_bytes}
use Rattle.store_model.specs.Key.{key_order}
use Rattle.store_model.specs.Layout.{Layout, data_pages, header_page}
use Rattle.store_model.specs.State.{State}
use Rattle.store_model.specs.Tuple.{IsAtFront, IsTuple, spelling}
use Rattle.store_model.specs.TupleFields.{IsBadTuple}
use Rattle.store_model.proofs.FieldLaws.{AreGood-none_broken}
use Rattle.store_model.proofs.HalfLaws.{same-entries}
use Rattle.store_model.proofs.HalfReadingLaws.{IsLayout-told}
use Rattle.store_model.proofs.HalfToldLaws.{FindsHalf-told, IsTold}
use Rattle.store_model.proofs.TupleFieldLaws.{IsAtFront-not_bad, KeepsRules}
use Rattle.store_model.proofs.TupleLaws.{spelling-unique}
use Rattle.store_model.proofs.TupleListLaws.{AreTuples-rest, rise-first, rise-tail}

-- a key with its state
abbrev Tuple : Type 0
Tuple = List ℕ × State

-- a tuple among so many data pages
abbrev Among : ℕ → Tuple → Type 0
Among pages one = IsTuple pages one.0 one.1

-- Of two lists of tuples at the front of the same bytes the longer one begins with the other.
prefix-same : (pages : ℕ) (xs ys : List Tuple) (x y : List ℕ) → pages ≤ 2 ^ 32 → length xs ≤ length ys → All (Among pages) xs → All (Among pages) ys
    → tuples_bytes xs ++ x ≡ tuples_bytes ys ++ y → (zs : List Tuple) × (ys ≡ xs ++ zs) × (x ≡ tuples_bytes zs ++ y)
prefix-same pages [] ys x y most few one other same = (ys, refl, same)
prefix-same pages (a ∷ xs) [] x y most few one other same = absurd (omega (arith, few))
prefix-same pages (a ∷ xs) (b ∷ ys) x y most few one other same =
    let moved : spelling a.0 a.1 ++ (tuples_bytes xs ++ x) ≡ spelling b.0 b.1 ++ (tuples_bytes ys ++ y) =
    sym (append_assoc (spelling a.0 a.1) (tuples_bytes xs) x) ∙ same ∙ append_assoc (spelling b.0 b.1) (tuples_bytes ys) y in
    let first = spelling-unique pages a.0 b.0 a.1 b.1 (tuples_bytes xs ++ x) (tuples_bytes ys ++ y) most (All-head (Among pages) a xs one) (All-head (Among pages) b ys other) moved in
    let head : b ≡ a = ap (λ (k : List ℕ). (k, b.1)) (sym first.0) ∙ ap (λ (s : State). (a.0, s)) (sym first.1) in
    let rest = prefix-same pages xs ys x y most (omega (arith, few)) (All-tail (Among pages) a xs one) (All-tail (Among pages) b ys other) first.2 in
    (rest.0, ap (λ (c : Tuple). c ∷ ys) head ∙ ap (λ (cs : List Tuple). a ∷ cs) rest.1, rest.2)

pub AreTuples-prefix : (pages last : ℕ) (stored : List ℕ) (xs ys : List Tuple) (one : AreTuples pages last stored xs) (other : AreTuples pages last stored ys)
    → pages ≤ 2 ^ 32 → length xs ≤ length ys → (zs : List Tuple) × (ys ≡ xs ++ zs) × (one.rest ≡ tuples_bytes zs ++ other.rest)
AreTuples-prefix pages last stored xs ys one other most few =
    prefix-same pages xs ys one.rest other.rest most few one.each other.each (sym one.stored_is ∙ other.stored_is)

-- no tuples of none
none-left : (xs zs : List Tuple) → length (xs ++ zs) ≤ length xs → zs ≡ []
none-left xs [] few = refl
none-left xs (z ∷ zs) few = absurd (omega (arith, few, length-append xs (z ∷ zs)))

-- lists of one length are one
pub AreTuples-one : (pages last : ℕ) (stored : List ℕ) (xs ys : List Tuple) → AreTuples pages last stored xs → AreTuples pages last stored ys
    → pages ≤ 2 ^ 32 → length xs ≡ length ys → xs ≡ ys
AreTuples-one pages last stored xs ys one other most long =
    let longer = AreTuples-prefix pages last stored xs ys one other most (omega (arith, long)) in
    let none : longer.0 ≡ [] = none-left xs longer.0 (omega (arith, ap length longer.1, long)) in
    sym (longer.1 ∙ ap (λ (zs : List Tuple). xs ++ zs) none ∙ append-nil xs)

-- what holds of all holds of one in the middle
all-middle : (P : Tuple → Type 0) (xs : List Tuple) (next : Tuple) (more : List Tuple) → All P (xs ++ next ∷ more) → P next
all-middle P [] next more all = All-head P next more all
all-middle P (x ∷ xs) next more all = all-middle P xs next more (All-tail P x (xs ++ next ∷ more) all)

-- the key of one in the middle may follow those before it
rise-follows : (xs : List Tuple) (next : Tuple) (more : List Tuple) → DoTuplesRise (xs ++ next ∷ more) → IsTrue (may_follow xs next.0)
rise-follows [] next more rise = refl
rise-follows (x ∷ []) next more rise = ap is_lt (rise-first x next more rise)
rise-follows (x ∷ y ∷ xs) next more rise = rise-follows (y ∷ xs) next more (rise-tail x (y ∷ xs ++ next ∷ more) rise)

-- Behind fewer of the tuples stands the next of them, which is never bad.
pub AreTuples-not_bad : (pages last : ℕ) (stored : List ℕ) (xs ys : List Tuple) (at : ℕ) → AreTuples pages last stored xs → AreTuples pages last stored ys
    → pages ≤ 2 ^ 32 → length xs < length ys → IsBadTuple (rules_behind xs last) pages (drop (length (tuples_bytes xs)) stored) at → ⊥
AreTuples-not_bad pages last stored xs ys at one other most few bad =
    let longer = AreTuples-prefix pages last stored xs ys one other most (omega (arith, few)) in
    next-good longer.0 longer.1 longer.2 where
      next-good : (zs : List Tuple) → ys ≡ xs ++ zs → one.rest ≡ tuples_bytes zs ++ other.rest → ⊥
      next-good [] same rest = absurd (omega (arith, few, ap length same, ap length (append-nil xs)))
      next-good (next ∷ more) same rest =
          let each : All (Among pages) (xs ++ next ∷ more) = subst (λ (ts : List Tuple). All (Among pages) ts) same other.each in
          let born : All (λ (t : Tuple). t.1.born ≤ last) (xs ++ next ∷ more) = subst (λ (ts : List Tuple). All (λ (t : Tuple). t.1.born ≤ last) ts) same other.born in
          let tuple : IsTuple pages next.0 next.1 = all-middle (Among pages) xs next more each in
          let front : IsAtFront pages (drop (length (tuples_bytes xs)) stored) next.0 next.1 = record {
            tuple = tuple;
            rest = tuples_bytes more ++ other.rest;
            stored_is = AreTuples-rest pages last stored xs one ∙ rest ∙ append_assoc (spelling next.0 next.1) (tuples_bytes more) other.rest;
          } in
          let keeps : KeepsRules (rules_behind xs last) next.0 next.1 = record {
            key_may = rise-follows xs next more (subst (λ (ts : List Tuple). DoTuplesRise ts) same other.rise);
            from_least = tuple.stands.born.least;
            to_most = all-middle (λ (t : Tuple). t.1.born ≤ last) xs next more born;
          } in
          IsAtFront-not_bad (rules_behind xs last) pages (drop (length (tuples_bytes xs)) stored) next.0 next.1 at most front keeps bad

-- pages have numbers of four bytes
pub pages-few : (pages : ℕ) (image : Image) (half : ℕ) → HasHeader pages image half → data_pages (told_layout (image (header_page half))) ≤ 2 ^ 32
pages-few pages image half has = omega (arith, (IsLayout-told (image (header_page half)) has.layout.first).most_units)

-- A half has one layout, one last number and one map of states.
pub FindsHalf-one : (pages : ℕ) (image : Image) (half : ℕ) (l m : Layout) (n k : ℕ) (s t : FinMap key_order State)
    → FindsHalf pages image half l n s → FindsHalf pages image half m k t → (l ≡ m) × (n ≡ k) × (s ≡ t)
FindsHalf-one pages image half l m n k s t mine theirs =
    let header : List ℕ = image (header_page half) in
    let one : IsTold pages image half l n s = FindsHalf-told pages image half l n s mine in
    let other : IsTold pages image half m k t = FindsHalf-told pages image half m k t theirs in
    let same : entries s ≡ entries t =
    AreTuples-one (data_pages (told_layout header)) (told_last header) (stored_states image half) (entries s) (entries t) one.are other.are
    (pages-few pages image half one.header) (one.counted ∙ sym other.counted) in
    (sym one.layout_is ∙ other.layout_is, sym one.last_is ∙ other.last_is, same-entries s t same)

-- A half that is found isn't refused.
pub FindsHalf-not_refused : (pages : ℕ) (image : Image) (half : ℕ) (layout : Layout) (last : ℕ) (states : FinMap key_order State) (refusal : HalfRefusal)
    → FindsHalf pages image half layout last states → RefusesHalf pages image half refusal → ⊥
FindsHalf-not_refused pages image half layout last states (TooSmall need have) finds refused =
    let told = FindsHalf-told pages image half layout last states finds in
    absurd (omega (arith, refused.1, refused.3, told.header.layout.fits))
FindsHalf-not_refused pages image half layout last states (BadHalf at) finds (inl first) =
    AreGood-none_broken (image (header_page half)) first_fields at (FindsHalf-told pages image half layout last states finds).header.layout.first first
FindsHalf-not_refused pages image half layout last states (BadHalf at) finds (inr (inl others)) =
    AreGood-none_broken (image (header_page half)) (other_fields (image (header_page half))) at
    (FindsHalf-told pages image half layout last states finds).header.others others.1
FindsHalf-not_refused pages image half layout last states (BadHalf at) finds (inr (inr ends)) =
    let header : List ℕ = image (header_page half) in
    let told = FindsHalf-told pages image half layout last states finds in
    let early : EndsEarly image half = ends.1 in
    let same : early.tuples ≡ entries states =
    AreTuples-one (data_pages (told_layout header)) (told_last header) (stored_states image half) early.tuples (entries states) early.are told.are
    (pages-few pages image half told.header) (early.count ∙ sym told.counted) in
    absurd (omega (arith, early.early, ap (λ (ts : List Tuple). length (tuples_bytes ts)) same, ap length told.all, told.long))
FindsHalf-not_refused pages image half layout last states (BadTuple at) finds refused =
    let header : List ℕ = image (header_page half) in
    let told = FindsHalf-told pages image half layout last states finds in
    let bad : IsRefusedTuple image half at = refused.1 in
    AreTuples-not_bad (data_pages (told_layout header)) (told_last header) (stored_states image half) bad.tuples (entries states) bad.place bad.are told.are
    (pages-few pages image half told.header) (omega (arith, bad.few, told.counted)) bad.bad
