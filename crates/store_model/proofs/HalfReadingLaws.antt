-- Laws of the reading of a half: the layout, the last number and the states that are found.
use Rattle.std.proofs.Common.{◌≡◌, ℕ, ◌*◌, ◌≤◌, inl, inr, Bool, true, false, cond, List, [], ◌∷◌, ◌++◌, length, take, drop, codes, Some, refl, sym, ap, ◌∙◌, subst, arith}
use Rattle.std.proofs.Math.Dec.{T}
use Rattle.std.specs.Prelude.{IsTrue, nat_le, ◌⊎◌}
use Rattle.std.specs.Int.{w32, w64, to_be_bytes}
use Rattle.std.specs.Cmp.Lexicographic.{same_text}
use Rattle.std.specs.List.{All}
use Rattle.std.specs.Ordering.{eq_by_cmp}
use Rattle.std.specs.FinMap.{FinMap, entries, entries-from_sorted, from_sorted, get-from_sorted, len, len-entries}
use Rattle.std.specs.FinMap.Entries.{find, is_sorted}
use Rattle.std.proofs.lemmas.Bool.{eqb-true}
use Rattle.std.proofs.lemmas.Bool.Decides.{nat_tests}
use Rattle.std.proofs.lemmas.List.{length-take-le, take-append-drop}
use Rattle.std.proofs.lemmas.List.Elements.{All-head, All-tail}
use Rattle.store_model.specs.Disk.{HasPages, Image, area_of, page_bytes}
use Rattle.store_model.specs.Field.{AreGood, told_four}
use Rattle.store_model.specs.Half.{header_spelling, tuples_spelling}
use Rattle.store_model.specs.HalfFields.{first_fields, other_fields, told_count, told_last, told_layout, told_length}
use Rattle.store_model.specs.HalfRefusals.{AreFirst, FindsHalf, HasHeader, stored_states, tuples_bytes}
use Rattle.store_model.specs.Key.{key_order}
use Rattle.store_model.specs.Layout.{IsLayout, Layout, data_pages, header_page, states_page}
use Rattle.store_model.specs.State.{State, greatest_number}
use Rattle.store_model.specs.Tuple.{IsTuple}
use Rattle.store_model.specs.TupleFields.{is_within}
use Rattle.store_model.proofs.AreaLaws.{length-area}
use Rattle.store_model.proofs.FieldLaws.{AreBytes, TextStands, TextStands-append, TextStands-eight, TextStands-four, TextStands-rest}
use Rattle.store_model.proofs.RemovalLaws.{tied}
use Rattle.store_model.proofs.TupleListLaws.{rise-sorted}

-- a number that is within limits
within-least : (least most n : ℕ) → IsTrue (is_within least most n) → least ≤ n
within-least least most n is = grind (arith, nat_tests, is)

within-most : (least most n : ℕ) → IsTrue (is_within least most n) → n ≤ most
within-most least most n is = grind (arith, nat_tests, is)

pub le-told : (m n : ℕ) → IsTrue (nat_le m n) → m ≤ n
le-told m n is = grind (arith, nat_tests, is)

-- the layout of a header is one
pub IsLayout-told : (header : List ℕ) → AreGood header first_fields → IsLayout (told_layout header)
IsLayout-told header good = record {
  some_units = within-least 1 16384 (told_four header 12) good.1.1.0.kept;
  most_units = within-most 1 16384 (told_four header 12) good.1.1.0.kept;
  some_room = within-least 1 1024 (told_four header 16) good.1.1.1.0.kept;
  most_room = within-most 1 1024 (told_four header 16) good.1.1.1.0.kept;
}

-- its last number, and its length
pub last-told : (header : List ℕ) → AreGood header (other_fields header) → told_last header ≤ greatest_number
last-told header good = le-told (told_last header) greatest_number good.0.kept

pub length-told : (header : List ℕ) → AreGood header (other_fields header) → told_length header ≤ page_bytes * (told_layout header).room
length-told header good = le-told (told_length header) (page_bytes * told_four header 16) good.1.0.kept

-- the fields of a good header are those that it tells
pub header-stands : (header : List ℕ) → AreBytes header → length header ≡ page_bytes → AreGood header first_fields
    → TextStands header 0 (header_spelling (told_layout header) (told_last header) (told_count header) (told_length header))
header-stands header bytes long good =
    let text : List ℕ = codes "BLOBHALF" in
    let one : List ℕ = to_be_bytes w32 1 in
    let units : List ℕ = to_be_bytes w32 (told_four header 12) in
    let room : List ℕ = to_be_bytes w32 (told_four header 16) in
    let last : List ℕ = to_be_bytes w64 (told_last header) in
    let count : List ℕ = to_be_bytes w32 (told_count header) in
    let size : List ℕ = to_be_bytes w32 (told_length header) in
    let begins : TextStands header 0 text =
    record { whole = omega (arith, long); bytes = same_text (take 8 (drop 0 header)) text (sym good.0.kept) } in
    let version = TextStands-four header 8 1 bytes (omega (arith, long)) (sym (eqb-true (told_four header 8) 1 good.1.0.kept)) in
    let two = TextStands-append header 0 text one begins version in
    let three = TextStands-append header 0 (text ++ one) units two (TextStands-four header 12 (told_four header 12) bytes (omega (arith, long)) refl) in
    let four = TextStands-append header 0 (text ++ one ++ units) room three (TextStands-four header 16 (told_four header 16) bytes (omega (arith, long)) refl) in
    let five = TextStands-append header 0 (text ++ one ++ units ++ room) last four (TextStands-eight header 20 (told_last header) bytes (omega (arith, long)) refl) in
    let six = TextStands-append header 0 (text ++ one ++ units ++ room ++ last) count five (TextStands-four header 28 (told_count header) bytes (omega (arith, long)) refl) in
    TextStands-append header 0 (text ++ one ++ units ++ room ++ last ++ count) size six (TextStands-four header 32 (told_length header) bytes (omega (arith, long)) refl)

-- a test tells one or the other
either : (b : Bool) → (b ≡ true) ⊎ (b ≡ false)
either true = inl refl
either false = inr refl

-- what holds of each entry holds of what is found
pub found-all : (P : List ℕ × State → Type 0) (es : List (List ℕ × State)) (key : List ℕ) (state : State) → All P es → find key_order key es ≡ Some state → P (key, state)
found-all P [] key state all is = absurd (cc is)
found-all P (e ∷ es) key state all is = elim (either (eq_by_cmp key_order key e.0)) [
  | inl ties ↦ (
      let same : key ≡ e.0 = tied key e.0 ties in
      let here : Some e.1 ≡ Some state = ap (λ (b : Bool). cond b (Some e.1) (find key_order key es)) (sym ties) ∙ is in
      let value : e.1 ≡ state = cc here in
      subst (λ (k : List ℕ). P (k, state)) (sym same) (subst (λ (s : State). P (e.0, s)) value (All-head P e es all)))
  | inr apart ↦
      found-all P es key state (All-tail P e es all) (ap (λ (b : Bool). cond b (Some e.1) (find key_order key es)) (sym apart) ∙ is)
]

-- how many bytes the states of a half take
pub length-stored_states : (pages : ℕ) (image : Image) (half : ℕ) → HasPages image → HasHeader pages image half
    → length (stored_states image half) ≡ told_length (image (header_page half))
length-stored_states pages image half whole has =
    let header : List ℕ = image (header_page half) in
    let first : ℕ = states_page (told_layout header) half in
    length-take-le (told_length header) (area_of image first (told_layout header).room)
    (omega (arith, length-area image first (told_layout header).room whole, length-told header has.others))

-- A good header, and as many tuples as it tells in all of the bytes that it tells: a half is found.
pub FindsHalf-read : (pages : ℕ) (image : Image) (half : ℕ) (tuples : List (List ℕ × State)) → HasPages image → HasHeader pages image half
    → AreFirst image half tuples → length tuples ≡ told_count (image (header_page half)) → tuples_bytes tuples ≡ stored_states image half
    → FindsHalf pages image half (told_layout (image (header_page half))) (told_last (image (header_page half))) (from_sorted {R = key_order} tuples)
FindsHalf-read pages image half tuples whole has are counted all =
    let header : List ℕ = image (header_page half) in
    let layout : Layout = told_layout header in
    let last : ℕ = told_last header in
    let states : FinMap key_order State = from_sorted {R = key_order} tuples in
    let sorted : T (is_sorted key_order tuples) = rise-sorted tuples are.rise in
    let entries_are : entries states ≡ tuples = entries-from_sorted key_order tuples sorted in
    let bytes_are : tuples_spelling states ≡ tuples_bytes tuples = ap (λ (es : List (List ℕ × State)). tuples_bytes es) entries_are in
    let long : length (tuples_spelling states) ≡ told_length header = ap length (bytes_are ∙ all) ∙ length-stored_states pages image half whole has in
    let many : len states ≡ told_count header = len-entries states ∙ ap length entries_are ∙ counted in
    let area : List ℕ = area_of image (states_page layout half) layout.room in
    record {
      fits = has.layout.fits;
      spells = record {
        half = record {
          sound = IsLayout-told header has.layout.first;
          most = last-told header has.others;
          tuples = λ key state is. found-all (λ (one : List ℕ × State). IsTuple (data_pages layout) one.0 one.1) tuples key state are.each
              (sym (get-from_sorted key_order tuples key sorted) ∙ is);
          born = λ key state is. found-all (λ (one : List ℕ × State). one.1.born ≤ last) tuples key state are.born
              (sym (get-from_sorted key_order tuples key sorted) ∙ is);
          room = omega (arith, long, length-told header has.others);
        };
        header_rest = drop (length (header_spelling layout last (told_count header) (told_length header))) header;
        header_is =
            TextStands-rest header (header_spelling layout last (told_count header) (told_length header))
            (header-stands header (whole (header_page half)).each (whole (header_page half)).whole has.layout.first)
            ∙ ap (λ (n : ℕ). header_spelling layout last n (told_length header) ++ drop (length (header_spelling layout last (told_count header) (told_length header))) header) (sym many)
            ∙ ap (λ (n : ℕ). header_spelling layout last (len states) n ++ drop (length (header_spelling layout last (told_count header) (told_length header))) header) (sym long);
        area_rest = drop (told_length header) area;
        area_is =
            sym (take-append-drop (told_length header) area)
            ∙ ap (λ (xs : List ℕ). xs ++ drop (told_length header) area) (sym all ∙ sym bytes_are);
      };
    }
