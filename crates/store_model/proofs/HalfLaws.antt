-- Laws of stored halves: the layout, the last number and the states that a half spells are the only ones.
use Rattle.std.proofs.Common.{◌≡◌, ℕ, suc, ◌^◌, ◌<◌, ◌≤◌, List, [], ◌∷◌, ◌++◌, length, Some, refl, sym, ap, subst, ◌∙◌, arith, length-append}
use Rattle.std.specs.Prelude.{codes, slice_get}
use Rattle.std.specs.Int.{w32, w64, to_be_bytes}
use Rattle.std.specs.List.{flat_map}
use Rattle.std.specs.FinMap.{FinMap, entries, entries_sorted, get-entries, len, len-entries, same_map}
use Rattle.std.specs.FinMap.Entries.{find}
use Rattle.std.proofs.lemmas.List.{append_assoc}
use Rattle.store_model.specs.Half.{IsHalf, SpellsHalf, header_spelling, tuples_spelling}
use Rattle.store_model.specs.Key.{key_order}
use Rattle.store_model.specs.Layout.{Layout, data_pages}
use Rattle.store_model.specs.State.{State}
use Rattle.store_model.specs.Tuple.{IsTuple, spelling}
use Rattle.store_model.proofs.SortedLaws.{find-at, keys_exact, keys_total}
use Rattle.store_model.proofs.TupleLaws.{eight-same, four-same, spelling-unique, split-same}

-- tuples one behind the other, as many of them
abbrev tuples_of : List (List ℕ × State) → List ℕ
tuples_of tuples = flat_map (λ one. spelling one.0 one.1) tuples

pub tuples-unique : (pages : ℕ) (xs ys : List (List ℕ × State)) (x y : List ℕ) → pages ≤ 2 ^ 32 → length xs ≡ length ys
    → ((i : ℕ) (one : List ℕ × State) → slice_get xs i ≡ Some one → IsTuple pages one.0 one.1) → ((i : ℕ) (one : List ℕ × State) → slice_get ys i ≡ Some one → IsTuple pages one.0 one.1)
    → tuples_of xs ++ x ≡ tuples_of ys ++ y → (xs ≡ ys) × (x ≡ y)
tuples-unique pages [] [] x y most long one other same = (refl, same)
tuples-unique pages [] (b ∷ ys) x y most long one other same = absurd (omega (arith, long))
tuples-unique pages (a ∷ xs) [] x y most long one other same = absurd (omega (arith, long))
tuples-unique pages (a ∷ xs) (b ∷ ys) x y most long one other same =
    let moved : spelling a.0 a.1 ++ (tuples_of xs ++ x) ≡ spelling b.0 b.1 ++ (tuples_of ys ++ y) =
    sym (append_assoc (spelling a.0 a.1) (tuples_of xs) x) ∙ same ∙ append_assoc (spelling b.0 b.1) (tuples_of ys) y in
    let first = spelling-unique pages a.0 b.0 a.1 b.1 (tuples_of xs ++ x) (tuples_of ys ++ y) most (one 0 a refl) (other 0 b refl) moved in
    let head : a ≡ b = ap (λ (k : List ℕ). (k, a.1)) first.0 ∙ ap (λ (s : State). (b.0, s)) first.1 in
    let rest = tuples-unique pages xs ys x y most (omega (arith, long)) (λ i c is. one (suc i) c is) (λ i c is. other (suc i) c is) first.2 in
    (ap (λ (c : List ℕ × State). c ∷ xs) head ∙ ap (λ (cs : List (List ℕ × State)). b ∷ cs) rest.0, rest.1)

-- each tuple takes a byte at least
tuples-long : (xs : List (List ℕ × State)) → length xs ≤ length (tuples_of xs)
tuples-long [] = omega arith
tuples-long (a ∷ xs) = omega (arith, tuples-long xs, length-append (spelling a.0 a.1) (tuples_of xs), one-long a.0 a.1) where
  one-long : (k : List ℕ) (s : State) → 1 ≤ length (spelling k s)
  one-long k s = omega arith

-- maps of the same entries are one
pub same-entries : (m n : FinMap key_order State) → entries m ≡ entries n → m ≡ n
same-entries m n same =
    same_map keys_total keys_exact m n (λ q. get-entries m q ∙ ap (λ (es : List (List ℕ × State)). find key_order q es) same ∙ sym (get-entries n q))

-- the tuples of a half
pub half-tuples : (layout : Layout) (last : ℕ) (states : FinMap key_order State) → IsHalf layout last states
    → (i : ℕ) (one : List ℕ × State) → slice_get (entries states) i ≡ Some one → IsTuple (data_pages layout) one.0 one.1
half-tuples layout last states half i one is =
    half.tuples one.0 one.1 (get-entries states one.0 ∙ find-at (entries states) i one.0 one (entries_sorted states) is refl)

pub half-few : (layout : Layout) (last : ℕ) (states : FinMap key_order State) → IsHalf layout last states → len states < 2 ^ 32
half-few layout last states half = omega (arith, tuples-long (entries states), len-entries states, half.room, half.sound.most_room)

-- the header, field behind field
abbrev fields_of : Layout → ℕ → ℕ → ℕ → List ℕ → List ℕ
fields_of layout last count bytes rest =
    codes "BLOBHALF" ++ (to_be_bytes w32 1 ++ (to_be_bytes w32 layout.units ++ (to_be_bytes w32 layout.room ++ (to_be_bytes w64 last ++ (to_be_bytes w32 count ++ (to_be_bytes w32 bytes ++ rest))))))

header-moved : (layout : Layout) (last count bytes : ℕ) (rest : List ℕ) → header_spelling layout last count bytes ++ rest ≡ fields_of layout last count bytes rest
header-moved layout last count bytes rest =
    let text : List ℕ = codes "BLOBHALF" in
    let version : List ℕ = to_be_bytes w32 1 in
    let units : List ℕ = to_be_bytes w32 layout.units in
    let room : List ℕ = to_be_bytes w32 layout.room in
    let number : List ℕ = to_be_bytes w64 last in
    let some : List ℕ = to_be_bytes w32 count in
    let long : List ℕ = to_be_bytes w32 bytes in
    append_assoc (text ++ version ++ units ++ room ++ number ++ some) long rest
    ∙ append_assoc (text ++ version ++ units ++ room ++ number) some (long ++ rest)
    ∙ append_assoc (text ++ version ++ units ++ room) number (some ++ (long ++ rest))
    ∙ append_assoc (text ++ version ++ units) room (number ++ (some ++ (long ++ rest)))
    ∙ append_assoc (text ++ version) units (room ++ (number ++ (some ++ (long ++ rest))))
    ∙ append_assoc text version (units ++ (room ++ (number ++ (some ++ (long ++ rest)))))

-- A header and an area spell one layout, one last number and one map of states.
pub SpellsHalf-one : (header area : List ℕ) (l m : Layout) (n k : ℕ) (s t : FinMap key_order State) → SpellsHalf header area l n s → SpellsHalf header area m k t
    → (l ≡ m) × (n ≡ k) × (s ≡ t)
SpellsHalf-one header area l m n k s t one other =
    let moved : fields_of l n (len s) (length (tuples_spelling s)) one.header_rest ≡ fields_of m k (len t) (length (tuples_spelling t)) other.header_rest =
    sym (header-moved l n (len s) (length (tuples_spelling s)) one.header_rest) ∙ sym one.header_is ∙ other.header_is
    ∙ header-moved m k (len t) (length (tuples_spelling t)) other.header_rest in
    let text = split-same (codes "BLOBHALF") (codes "BLOBHALF") _ _ refl moved in
    let version = split-same (to_be_bytes w32 1) (to_be_bytes w32 1) _ _ refl text.1 in
    let units = split-same (to_be_bytes w32 l.units) (to_be_bytes w32 m.units) _ _ refl version.1 in
    let room = split-same (to_be_bytes w32 l.room) (to_be_bytes w32 m.room) _ _ refl units.1 in
    let number = split-same (to_be_bytes w64 n) (to_be_bytes w64 k) _ _ refl room.1 in
    let count = split-same (to_be_bytes w32 (len s)) (to_be_bytes w32 (len t)) _ _ refl number.1 in
    let same_units : l.units ≡ m.units = four-same l.units m.units (omega (arith, one.half.sound.most_units)) (omega (arith, other.half.sound.most_units)) units.0 in
    let same_room : l.room ≡ m.room = four-same l.room m.room (omega (arith, one.half.sound.most_room)) (omega (arith, other.half.sound.most_room)) room.0 in
    let layout : l ≡ m = ap (λ (u : ℕ). record { units = u; room = l.room }) same_units ∙ ap (λ (r : ℕ). record { units = m.units; room = r }) same_room in
    let last : n ≡ k = eight-same n k (omega (arith, one.half.most)) (omega (arith, other.half.most)) number.0 in
    let counts : len s ≡ len t = four-same (len s) (len t) (half-few l n s one.half) (half-few m k t other.half) count.0 in
    let long : length (entries s) ≡ length (entries t) = sym (len-entries s) ∙ counts ∙ len-entries t in
    let pages : data_pages l ≤ 2 ^ 32 = omega (arith, one.half.sound.most_units) in
    let tuples = tuples-unique (data_pages l) (entries s) (entries t) one.area_rest other.area_rest pages long (half-tuples l n s one.half)
    (λ i c is. subst (λ (o : Layout). IsTuple (data_pages o) c.0 c.1) (sym layout) (half-tuples m k t other.half i c is)) (sym one.area_is ∙ other.area_is) in
    (layout, last, same-entries s t tuples.0)
