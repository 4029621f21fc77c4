-- Laws of a half that is found: what its header tells, and the tuples that stand in its area.
use Rattle.std.proofs.Common.{◌≡◌, ℕ, suc, ◌+◌, ◌*◌, ◌^◌, ◌<◌, ◌≤◌, List, [], ◌∷◌, ◌++◌, length, take, codes, Some, refl, sym, ap, ◌∙◌, subst, arith}
use Rattle.std.specs.Prelude.{IsTrue, nat_le, slice_get, bytes_eq, ◌==◌}
use Rattle.std.specs.Int.{w32, w64, to_be_bytes}
use Rattle.std.specs.List.{All}
use Rattle.std.specs.FinMap.{FinMap, entries, entries_sorted, get-entries, len, len-entries}
use Rattle.std.proofs.lemmas.Bool.{le-leb}
use Rattle.std.proofs.lemmas.Bool.Decides.{nat_tests}
use Rattle.std.proofs.lemmas.List.{append-nil, take_at}
use Rattle.std.proofs.lemmas.List.Elements.{All-cons, All-nil}
use Rattle.store_model.specs.Disk.{Image, area_of, page_bytes}
use Rattle.store_model.specs.Field.{AreGood, told_four}
use Rattle.store_model.specs.Half.{IsHalf, header_spelling, tuples_spelling}
use Rattle.store_model.specs.HalfFields.{first_fields, other_fields, told_count, told_last, told_layout, told_length}
use Rattle.store_model.specs.HalfRefusals.{AreFirst, AreTuples, FindsHalf, HasHeader, stored_states, tuples_bytes}
use Rattle.store_model.specs.Key.{key_order}
use Rattle.store_model.specs.Layout.{Layout, data_pages, header_page, states_page, total_pages}
use Rattle.store_model.specs.State.{State, greatest_number}
use Rattle.store_model.specs.Tuple.{IsTuple}
use Rattle.store_model.specs.TupleFields.{is_within}
use Rattle.store_model.proofs.FieldLaws.{IsGood-bytes, IsGood-eight, IsGood-four, TextStands, TextStands-back, TextStands-front, TextStands-start, told_eight-stands, told_four-stands}
use Rattle.store_model.proofs.HalfLaws.{half-few, half-tuples}
use Rattle.store_model.proofs.SortedLaws.{find-at, sorted-at}

-- a key with its state
abbrev Tuple : Type 0
Tuple = List ℕ × State

-- the fields of a header, where they stand
record Fields (header : List ℕ) (layout : Layout) (last count bytes : ℕ) : Type 0 where
  pub text : TextStands header 0 (codes "BLOBHALF")
  pub version : TextStands header 8 (to_be_bytes w32 1)
  pub units : TextStands header 12 (to_be_bytes w32 layout.units)
  pub room : TextStands header 16 (to_be_bytes w32 layout.room)
  pub number : TextStands header 20 (to_be_bytes w64 last)
  pub many : TextStands header 28 (to_be_bytes w32 count)
  pub long : TextStands header 32 (to_be_bytes w32 bytes)

fields-stand : (header : List ℕ) (layout : Layout) (last count bytes : ℕ) → TextStands header 0 (header_spelling layout last count bytes)
    → Fields header layout last count bytes
fields-stand header layout last count bytes stands =
    let text : List ℕ = codes "BLOBHALF" in
    let one : List ℕ = to_be_bytes w32 1 in
    let units : List ℕ = to_be_bytes w32 layout.units in
    let room : List ℕ = to_be_bytes w32 layout.room in
    let number : List ℕ = to_be_bytes w64 last in
    let many : List ℕ = to_be_bytes w32 count in
    let long : List ℕ = to_be_bytes w32 bytes in
    let six = TextStands-front header 0 (text ++ one ++ units ++ room ++ number ++ many) long stands in
    let five = TextStands-front header 0 (text ++ one ++ units ++ room ++ number) many six in
    let four = TextStands-front header 0 (text ++ one ++ units ++ room) number five in
    let three = TextStands-front header 0 (text ++ one ++ units) room four in
    let two = TextStands-front header 0 (text ++ one) units three in
    record {
      text = TextStands-front header 0 text one two;
      version = TextStands-back header 0 text one two;
      units = TextStands-back header 0 (text ++ one) units three;
      room = TextStands-back header 0 (text ++ one ++ units) room four;
      number = TextStands-back header 0 (text ++ one ++ units ++ room) number five;
      many = TextStands-back header 0 (text ++ one ++ units ++ room ++ number) many six;
      long = TextStands-back header 0 (text ++ one ++ units ++ room ++ number ++ many) long stands;
    }

-- What a half that is found tells: its header is good and tells its layout, its last number and how many states there are, and
-- these are the tuples of its area.
pub record IsTold (pages : ℕ) (image : Image) (half : ℕ) (layout : Layout) (last : ℕ) (states : FinMap key_order State) : Type 0 where
  pub header : HasHeader pages image half
  pub layout_is : told_layout (image (header_page half)) ≡ layout
  pub last_is : told_last (image (header_page half)) ≡ last
  pub counted : length (entries states) ≡ told_count (image (header_page half))
  pub are : AreFirst image half (entries states)
  pub all : tuples_bytes (entries states) ≡ stored_states image half
  pub long : length (tuples_bytes (entries states)) ≡ told_length (image (header_page half))

within-true : (least most n : ℕ) → least ≤ n → n ≤ most → IsTrue (is_within least most n)
within-true least most n low high = grind (arith, nat_tests, low, high)

-- what holds at each index holds of each element
all-from : (P : Tuple → Type 0) (tuples : List Tuple) → ((i : ℕ) (one : Tuple) → slice_get tuples i ≡ Some one → P one) → All P tuples
all-from P [] each = All-nil P
all-from P (one ∷ tuples) each = All-cons P one tuples (each 0 one refl) (all-from P tuples (λ i other is. each (suc i) other is))

-- the entries of a half's states are tuples
entries-are : (layout : Layout) (last : ℕ) (states : FinMap key_order State) (stored rest : List ℕ) → IsHalf layout last states
    → stored ≡ tuples_bytes (entries states) ++ rest → AreTuples (data_pages layout) last stored (entries states)
entries-are layout last states stored rest half is = record {
  each = all-from (λ (one : Tuple). IsTuple (data_pages layout) one.0 one.1) (entries states) (half-tuples layout last states half);
  born = all-from (λ (one : Tuple). one.1.born ≤ last) (entries states)
      (λ i one at. half.born one.0 one.1 (get-entries states one.0 ∙ find-at (entries states) i one.0 one (entries_sorted states) at refl));
  rise = λ i one other at next. sorted-at (entries states) i (i + 1) one other (entries_sorted states) (omega arith) at next;
  rest = rest;
  stored_is = is;
}

-- a half that is found
pub FindsHalf-told : (pages : ℕ) (image : Image) (half : ℕ) (layout : Layout) (last : ℕ) (states : FinMap key_order State)
    → FindsHalf pages image half layout last states → IsTold pages image half layout last states
FindsHalf-told pages image half layout last states finds =
    let header : List ℕ = image (header_page half) in
    let is_half : IsHalf layout last states = finds.spells.half in
    let bytes : ℕ = length (tuples_spelling states) in
    let long_most : bytes < 2 ^ 32 = omega (arith, is_half.room, is_half.sound.most_room) in
    let many_most : len states < 2 ^ 32 = half-few layout last states is_half in
    let fields = fields-stand header layout last (len states) bytes (TextStands-start header (header_spelling layout last (len states) bytes) finds.spells.header_rest finds.spells.header_is) in
    let units : told_four header 12 ≡ layout.units = told_four-stands header 12 layout.units (omega (arith, is_half.sound.most_units)) fields.units in
    let room : told_four header 16 ≡ layout.room = told_four-stands header 16 layout.room (omega (arith, is_half.sound.most_room)) fields.room in
    let same : told_layout header ≡ layout = ap (λ (u : ℕ). record { units = u; room = told_four header 16 }) units ∙ ap (λ (r : ℕ). record { units = layout.units; room = r }) room in
    let number : told_last header ≡ last = told_eight-stands header 20 last (omega (arith, is_half.most)) fields.number in
    let many : told_count header ≡ len states = told_four-stands header 28 (len states) many_most fields.many in
    let long : told_length header ≡ bytes = told_four-stands header 32 bytes long_most fields.long in
    let stored : stored_states image half ≡ tuples_bytes (entries states) =
    ap (λ (l : Layout). take (told_length header) (area_of image (states_page l half) l.room)) same
    ∙ ap (λ (xs : List ℕ). take (told_length header) xs) finds.spells.area_is
    ∙ take_at (tuples_bytes (entries states)) finds.spells.area_rest (told_length header) (sym long) in
    let first : AreGood header first_fields = (
      IsGood-bytes header 0 8 (codes "BLOBHALF") (λ text. bytes_eq text (codes "BLOBHALF")) refl refl fields.text,
      (
        IsGood-four header 8 1 (λ version. version == 1) (omega arith) refl fields.version,
        (
          IsGood-four header 12 layout.units (is_within 1 16384) (omega (arith, is_half.sound.most_units)) (within-true 1 16384 layout.units is_half.sound.some_units is_half.sound.most_units) fields.units,
          (
            IsGood-four header 16 layout.room (is_within 1 1024) (omega (arith, is_half.sound.most_room)) (within-true 1 1024 layout.room is_half.sound.some_room is_half.sound.most_room) fields.room,
            tt,
          ),
        ),
      ),
    ) in
    let others : AreGood header (other_fields header) = (
      IsGood-eight header 20 last (λ n. nat_le n greatest_number) (omega (arith, is_half.most)) (le-leb last greatest_number is_half.most) fields.number,
      (
        IsGood-four header 32 bytes (λ n. nat_le n (page_bytes * told_four header 16)) long_most (le-leb bytes (page_bytes * told_four header 16) (omega (arith, is_half.room, room))) fields.long,
        tt,
      ),
    ) in
    record {
      header = record {
        layout = record { first = first; fits = subst (λ (l : Layout). total_pages l ≤ pages) (sym same) finds.fits };
        others = others;
      };
      layout_is = same;
      last_is = number;
      counted = sym (len-entries states) ∙ sym many;
      are = subst (λ (n : ℕ). AreTuples n (told_last header) (stored_states image half) (entries states)) (sym (ap data_pages same))
          (subst (λ (n : ℕ). AreTuples (data_pages layout) n (stored_states image half) (entries states)) (sym number)
          (entries-are layout last states (stored_states image half) [] is_half (stored ∙ append-nil-sym (tuples_bytes (entries states)))));
      all = sym stored;
      long = sym long;
    } where
      append-nil-sym : (xs : List ℕ) → xs ≡ xs ++ []
      append-nil-sym xs = sym (append-nil xs)
