-- What is kept of a vault tells one opened store, one list of frames and one frame that was lost, or none.
use Rattle.std.proofs.Common.{◌≡◌, ℕ, suc, ◌+◌, ◌^◌, ◌≤◌, List, [], ◌∷◌, ◌++◌, length, map, Some, inl, inr, refl, sym, ap, ◌∙◌, subst, arith}
use Rattle.std.specs.Prelude.{slice_get}
use Rattle.std.specs.List.{All, flat_map}
use Rattle.std.specs.FinMap.{entries}
use Rattle.std.proofs.lemmas.List.{append-nil}
use Rattle.std.proofs.lemmas.List.Elements.{All-append, All-head, All-nil, All-tail}
use Rattle.store_model.specs.Frame.{DoNumbersGoOn, Entry, IsEntry, IsFrame, body_spelling, entry_spelling}
use Rattle.store_model.specs.Half.{IsHalf, tuples_spelling}
use Rattle.store_model.specs.Keeps.{HasFrames, IsLost, Kept}
use Rattle.store_model.specs.Layout.{Layout, data_pages}
use Rattle.store_model.specs.Reading.{Found, last_number}
use Rattle.store_model.specs.State.{State}
use Rattle.store_model.specs.Tuple.{IsTuple, spelling}
use Rattle.store_model.proofs.FrameLaws.{Spells-one, entry-same}
use Rattle.store_model.proofs.HalfLaws.{half-tuples, same-entries}
use Rattle.store_model.proofs.NumberLaws.{numbers-behind}
use Rattle.store_model.proofs.TupleLaws.{spelling-unique}

-- Tuples are told by their spellings, one behind the other,
tuples-one : (pages : ℕ) (xs ys : List (List ℕ × State)) → pages ≤ 2 ^ 32 → ((i : ℕ) (one : List ℕ × State) → slice_get xs i ≡ Some one → IsTuple pages one.0 one.1)
    → ((i : ℕ) (one : List ℕ × State) → slice_get ys i ≡ Some one → IsTuple pages one.0 one.1)
    → flat_map (λ (one : List ℕ × State). spelling one.0 one.1) xs ≡ flat_map (λ (one : List ℕ × State). spelling one.0 one.1) ys → xs ≡ ys
tuples-one pages [] [] most one other same = refl
tuples-one pages [] (b ∷ ys) most one other same = absurd (cc same)
tuples-one pages (a ∷ xs) [] most one other same = absurd (cc same)
tuples-one pages (a ∷ xs) (b ∷ ys) most one other same =
    let first = spelling-unique pages a.0 b.0 a.1 b.1 _ _ most (one 0 a refl) (other 0 b refl) same in
    let head : a ≡ b = ap (λ (k : List ℕ). (k, a.1)) first.0 ∙ ap (λ (s : State). (b.0, s)) first.1 in
    let rest = tuples-one pages xs ys most (λ i c is. one (suc i) c is) (λ i c is. other (suc i) c is) first.2 in
    ap (λ (c : List ℕ × State). c ∷ xs) head ∙ ap (λ (cs : List (List ℕ × State)). b ∷ cs) rest

-- and so are the states of a half.
states-one : (a b : Found) → a.layout ≡ b.layout → IsHalf a.layout a.last a.states → IsHalf b.layout b.last b.states → tuples_spelling a.states ≡ tuples_spelling b.states
    → a.states ≡ b.states
states-one a b layout one other same =
    same-entries a.states b.states
    (tuples-one (data_pages a.layout) (entries a.states) (entries b.states) (omega (arith, one.sound.most_units)) (half-tuples a.layout a.last a.states one)
    (λ i c is. subst (λ (l : Layout). IsTuple (data_pages l) c.0 c.1) (sym layout) (half-tuples b.layout b.last b.states other i c is)) same)

-- Entries are told by their spellings.
entries-one : (pages : ℕ) (es ds : List Entry) → pages ≤ 2 ^ 32 → All (IsEntry pages) es → All (IsEntry pages) ds → map entry_spelling es ≡ map entry_spelling ds → es ≡ ds
entries-one pages [] [] most one other same = refl
entries-one pages [] (d ∷ ds) most one other same = absurd (cc same)
entries-one pages (e ∷ es) [] most one other same = absurd (cc same)
entries-one pages (e ∷ es) (d ∷ ds) most one other same =
    let first : entry_spelling e ≡ entry_spelling d = cc same in
    let behind : map entry_spelling es ≡ map entry_spelling ds = cc same in
    let alone : entry_spelling e ++ [] ≡ entry_spelling d ++ [] = append-nil (entry_spelling e) ∙ first ∙ sym (append-nil (entry_spelling d)) in
    let head : e ≡ d = (entry-same pages e d [] [] most (All-head (IsEntry pages) e es one) (All-head (IsEntry pages) d ds other) alone).0 in
    let rest : es ≡ ds = entries-one pages es ds most (All-tail (IsEntry pages) e es one) (All-tail (IsEntry pages) d ds other) behind in
    ap (λ (x : Entry). x ∷ es) head ∙ ap (λ (xs : List Entry). d ∷ xs) rest

-- all entries of frames, one frame behind the other
abbrev all_of : List (List Entry) → List Entry
all_of frames = flat_map (λ (es : List Entry). es) frames

entries-each : (pages : ℕ) (frames : List (List Entry)) → All (IsFrame pages) frames → All (IsEntry pages) (all_of frames)
entries-each pages [] all = All-nil (IsEntry pages)
entries-each pages (frame ∷ frames) all =
    All-append (IsEntry pages) frame (all_of frames) (All-head (IsFrame pages) frame frames all).each (entries-each pages frames (All-tail (IsFrame pages) frame frames all))

-- the last number of entries that go on tells how many they are
last-long : (e : Entry) (es : List Entry) → DoNumbersGoOn (e ∷ es) → last_number e.number es ≡ e.number + length es
last-long e [] on = omega arith
last-long e (next ∷ es) on = omega (arith, last-long next es (numbers-behind e (next ∷ es) on), on 0 e next refl refl)

-- lists of one length at the front of one list are one, and so is what stands behind them
front-one : (a b x y : List Entry) → length a ≡ length b → a ++ x ≡ b ++ y → (a ≡ b) × (x ≡ y)
front-one [] [] x y long same = (refl, same)
front-one [] (f ∷ b) x y long same = absurd (omega (arith, long))
front-one (e ∷ a) [] x y long same = absurd (omega (arith, long))
front-one (e ∷ a) (f ∷ b) x y long same =
    let head : e ≡ f = cc same in
    let rest = front-one a b x y (omega (arith, long)) (let behind : a ++ x ≡ b ++ y = cc same in behind) in
    (ap (λ (g : Entry). g ∷ a) head ∙ ap (λ (es : List Entry). f ∷ es) rest.0, rest.1)

-- So the frame at the front of some entries is told by its last number.
frame-one : (pages : ℕ) (a b x y : List Entry) → IsFrame pages a → IsFrame pages b → last_number 0 a ≡ last_number 0 b → a ++ x ≡ b ++ y → (a ≡ b) × (x ≡ y)
frame-one pages [] b x y one other last same = absurd (omega (arith, one.some))
frame-one pages (e ∷ a) [] x y one other last same = absurd (omega (arith, other.some))
frame-one pages (e ∷ a) (f ∷ b) x y one other last same =
    let head : e ≡ f = cc same in
    front-one (e ∷ a) (f ∷ b) x y (omega (arith, last, last-long e a one.numbers, last-long f b other.numbers, ap (λ (g : Entry). g.number) head)) same

frames-apart : (pages : ℕ) (fs gs : List (List Entry)) → All (IsFrame pages) fs → All (IsFrame pages) gs → all_of fs ≡ all_of gs
    → map (last_number 0) fs ≡ map (last_number 0) gs → fs ≡ gs
frames-apart pages [] [] one other same last = refl
frames-apart pages [] (g ∷ gs) one other same last = absurd (cc last)
frames-apart pages (f ∷ fs) [] one other same last = absurd (cc last)
frames-apart pages (f ∷ fs) (g ∷ gs) one other same last =
    let number : last_number 0 f ≡ last_number 0 g = cc last in
    let numbers : map (last_number 0) fs ≡ map (last_number 0) gs = cc last in
    let first = frame-one pages f g (all_of fs) (all_of gs) (All-head (IsFrame pages) f fs one) (All-head (IsFrame pages) g gs other) number same in
    let rest = frames-apart pages fs gs (All-tail (IsFrame pages) f fs one) (All-tail (IsFrame pages) g gs other) first.1 numbers in
    ap (λ (h : List Entry). h ∷ fs) first.0 ∙ ap (λ (hs : List (List Entry)). g ∷ hs) rest

-- a body tells one frame that was lost
lost-one : (pages : ℕ) (failed : List ℕ) (a b : List (List Entry)) → pages ≤ 2 ^ 32 → IsLost pages failed a → IsLost pages failed b → a ≡ b
lost-one pages failed a b most (inl one) (inl other) = one.1 ∙ sym other.1
lost-one pages failed a b most (inl one) (inr (es, is, spells)) =
    let wrong : body_spelling es ≡ [] = sym spells.bytes_are ∙ one.0 in absurd (cc wrong)
lost-one pages failed a b most (inr (es, is, spells)) (inl other) =
    let wrong : body_spelling es ≡ [] = sym spells.bytes_are ∙ other.0 in absurd (cc wrong)
lost-one pages failed a b most (inr (es, is, spells)) (inr (ds, at, spells_too)) =
    is ∙ ap (λ (xs : List Entry). xs ∷ []) (Spells-one pages failed es ds most spells spells_too) ∙ sym at

-- What is kept tells one opened store, one list of frames, and one that was lost.
pub HasFrames-one : (layout : Layout) (kept : Kept) (a b : Found) (fs gs ls ms : List (List Entry)) → HasFrames layout kept a fs ls → HasFrames layout kept b gs ms
    → (a ≡ b) × (fs ≡ gs) × (ls ≡ ms)
HasFrames-one layout kept a b fs gs ls ms one other =
    let pages : ℕ = data_pages layout in
    let layouts : a.layout ≡ b.layout = one.layout_is ∙ sym other.layout_is in
    let last : a.last ≡ b.last = sym one.last_is ∙ other.last_is in
    let states : a.states ≡ b.states = states-one a b layouts one.half other.half (sym one.states_are ∙ other.states_are) in
    let most : pages ≤ 2 ^ 32 = omega (arith, one.half.sound.most_units, ap data_pages one.layout_is) in
    let same : all_of fs ≡ all_of gs =
    entries-one pages (all_of fs) (all_of gs) most (entries-each pages fs one.each) (entries-each pages gs other.each) (sym one.forms ∙ other.forms) in (
      (λ i. record { layout = layouts i; last = last i; states = states i }),
      frames-apart pages fs gs one.each other.each same (sym one.groups ∙ other.groups),
      lost-one pages kept.failed ls ms most one.lost_is other.lost_is,
    )
