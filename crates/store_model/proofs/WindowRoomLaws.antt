-- A half has room for the states behind whichever of a frame's entries where it has room for them grown by each entry that makes
-- them grow: as no key stands in two of the entries, each makes them grow alike, whichever of the others are kept.
use Rattle.std.proofs.Common.{◌≡◌, ℕ, ◌+◌, ◌*◌, ◌≤◌, cond, List, [], ◌∷◌, length, map, Option, Some, None, inl, inr, refl, sym, ap, ◌∙◌, arith}
use Rattle.std.specs.Prelude.{Contains, fold}
use Rattle.std.specs.List.{sum_by}
use Rattle.std.specs.FinMap.{FinMap, entries, get, get-insert, get-remove}
use Rattle.std.specs.Ordering.{eq_by_cmp}
use Rattle.std.proofs.lemmas.List.Concat.{length-flat_map}
use Rattle.std.proofs.lemmas.List.Sums.{sum_by-cons}
use Rattle.store_model.specs.Disk.{page_bytes}
use Rattle.store_model.specs.Frame.{AreKeysApart, Del, Entry, Set, Write, key_of_write}
use Rattle.store_model.specs.Half.{tuples_spelling}
use Rattle.store_model.specs.Key.{key_order}
use Rattle.store_model.specs.Layout.{Layout}
use Rattle.store_model.specs.Reading.{with_entries, with_entry, with_write}
use Rattle.store_model.specs.State.{State}
use Rattle.store_model.specs.Tuple.{spelling}
use Rattle.store_model.specs.Windows.{HasRoomFor, IsPartOf, growth_by}
use Rattle.store_model.proofs.EntryLaws.{part_of, sum_entries, sum-insert}
use Rattle.store_model.proofs.RemovalLaws.{sum-remove}
use Rattle.store_model.proofs.SetLaws.{Names, among-behind, among-first, apart-behind, apart-first, writes-other}
use Rattle.store_model.proofs.SortedLaws.{keys_total}

-- how many bytes a tuple has, and those of states
abbrev tuple_bytes : List ℕ → State → ℕ
tuple_bytes key state = length (spelling key state)

abbrev all_bytes : FinMap key_order State → ℕ
all_bytes states = length (tuples_spelling states)

bytes-sum : (states : FinMap key_order State) → all_bytes states ≡ sum_entries tuple_bytes states
bytes-sum states = length-flat_map (λ (e : List ℕ × State). spelling e.0 e.1) (entries states)

-- what a write adds, and what it takes away
abbrev new_bytes : Write → ℕ
new_bytes (Set key state) = tuple_bytes key state
new_bytes (Del key) = 0

abbrev old_bytes : FinMap key_order State → Write → ℕ
old_bytes states one = part_of tuple_bytes (key_of_write one) (get states (key_of_write one))

write-bytes : (states : FinMap key_order State) (one : Write) → all_bytes (with_write states one) + old_bytes states one ≡ all_bytes states + new_bytes one
write-bytes states (Set key state) =
    omega (arith, sum-insert tuple_bytes states key state, bytes-sum states, bytes-sum (with_write states (Set key state)))
write-bytes states (Del key) = omega (arith, sum-remove tuple_bytes states key, bytes-sum states, bytes-sum (with_write states (Del key)))

-- states have the same under each of some keys
abbrev AreSameAt : (List ℕ → Type 0) → FinMap key_order State → FinMap key_order State → Type 0
AreSameAt P now before = (key : List ℕ) → P key → get now key ≡ get before key

-- they have it behind a write too
write-same : (now before : FinMap key_order State) (one : Write) (key : List ℕ) → get now key ≡ get before key → get (with_write now one) key ≡ get (with_write before one) key
write-same now before (Set k state) key same =
    get-insert keys_total now k state key ∙ ap (λ (o : Option State). cond (eq_by_cmp key_order key k) (Some state) o) same
    ∙ sym (get-insert keys_total before k state key)
write-same now before (Del k) key same =
    get-remove keys_total now k key ∙ ap (λ (o : Option State). cond (eq_by_cmp key_order key k) None o) same ∙ sym (get-remove keys_total before k key)

-- Writes make states grow alike that have the same under the keys written.
writes-grow : (now before : FinMap key_order State) (writes : List Write) → AreSameAt (Names writes) now before
    → all_bytes (fold with_write now writes) + all_bytes before ≡ all_bytes now + all_bytes (fold with_write before writes)
writes-grow now before [] same = refl
writes-grow now before (one ∷ writes) same =
    let key : List ℕ = key_of_write one in
    let here : get now key ≡ get before key = same key (0, omega arith, refl) in
    omega (
      arith,
      write-bytes now one,
      write-bytes before one,
      ap (part_of tuple_bytes key) here,
      writes-grow (with_write now one) (with_write before one) writes
          (λ k named. write-same now before one k (same k (among-behind key (map key_of_write writes) k named))),
    )

-- the keys that some of the entries name
abbrev NamedBy : List Entry → List ℕ → Type 0
NamedBy entries key = (one : Entry) × (Contains entries one × Names one.writes key)

-- Some of a frame's entries make states grow by no more than each of all.
part-grow : (now before : FinMap key_order State) (entries part : List Entry) → AreKeysApart entries → AreSameAt (NamedBy entries) now before → IsPartOf part entries
    → all_bytes (with_entries now part) ≤ all_bytes now + sum_by (growth_by before) entries
part-grow now before [] part apart same is = omega (arith, ap (λ (es : List Entry). all_bytes (with_entries now es)) is)
part-grow now before (entry ∷ entries) part apart same (inl (rest, is, some)) =
    omega (
      arith,
      ap (λ (es : List Entry). all_bytes (with_entries now es)) is,
      writes-grow now before entry.writes (λ key named. same key (entry, (among-first entry entries, named))),
      part-grow (with_entry now entry) before entries rest (apart-behind entry entries apart) behind some,
      sum_by-cons (growth_by before) entry entries,
    ) where
      behind : AreSameAt (NamedBy entries) (with_entry now entry) before
      behind key (one, (among, named)) =
          writes-other now entry.writes key (λ here. apart-first entry entries key apart here one among named)
          ∙ same key (one, (among-behind entry entries one among, named))
part-grow now before (entry ∷ entries) part apart same (inr some) =
    omega (
      arith,
      part-grow now before entries part (apart-behind entry entries apart)
          (λ key by. same key (by.0, (among-behind entry entries by.0 by.1.0, by.1.1))) some,
      sum_by-cons (growth_by before) entry entries,
    )

-- So there's room where there is for the states and for what each entry makes them grow.
pub HasRoomFor-grown : (layout : Layout) (states : FinMap key_order State) (entries : List Entry) → AreKeysApart entries
    → length (tuples_spelling states) + sum_by (growth_by states) entries ≤ page_bytes * layout.room → HasRoomFor layout states entries
HasRoomFor-grown layout states entries apart room kept is = omega (arith, part-grow states states entries kept apart (λ key by. refl) is, room)
