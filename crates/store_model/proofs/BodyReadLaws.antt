-- Laws of bodies that were read: good fields and as many entries as they tell, up to the end, are a body.
use Rattle.std.proofs.Common.{◌≡◌, ℕ, ◌+◌, ◌≤◌, ◌==◌, true, List, ◌∷◌, ◌++◌, length, take, drop, sym, ap, ◌∙◌, arith, codes}
use Rattle.std.specs.Prelude.{slice_index, nat_le}
use Rattle.std.specs.Int.{w32, to_be_bytes}
use Rattle.std.proofs.lemmas.Bool.{and_parts, eqb-true, leb-true}
use Rattle.std.proofs.lemmas.List.{append-nil, drop_all, drop_more, take-append-drop, drop-drop}
use Rattle.std.proofs.lemmas.Slice.Eq.{bytes_eq-Decides}
use Rattle.store_model.specs.BodyRefusals.{AreFirstEntries, front_fields, told_entries}
use Rattle.store_model.specs.Field.{AreGood, told_four}
use Rattle.store_model.specs.Frame.{Entry, Spells, body_bytes, entries_spelling}
use Rattle.store_model.specs.TupleFields.{is_within}
use Rattle.store_model.proofs.EntryReadLaws.{told-byte}
use Rattle.store_model.proofs.FieldLaws.{AreBytes, TextStands, TextStands-four}

-- what good fields tell stands before the entries
front-stands : (stored : List ℕ) → AreBytes stored → AreGood stored (front_fields stored)
    → stored ≡ codes "BLOBFRM1" ++ (to_be_bytes w32 (length stored) ++ told_entries stored ∷ drop 13 stored)
front-stands stored bytes good =
    let whole : 13 ≤ length stored = omega (arith, good.1.1.0.whole) in
    let text : take 8 stored ≡ codes "BLOBFRM1" = (bytes_eq-Decides (take 8 stored) (codes "BLOBFRM1")).0 good.0.kept in
    let long : told_four stored 8 ≡ length stored = eqb-true (told_four stored 8) (length stored) (and_parts (nat_le 13 (told_four stored 8)) (told_four stored 8 == length stored) good.1.0.kept).1 in
    let stands : TextStands stored 8 (to_be_bytes w32 (length stored)) = TextStands-four stored 8 (length stored) bytes good.1.0.whole (sym long) in
    let first : stored ≡ codes "BLOBFRM1" ++ drop 8 stored = sym (take-append-drop 8 stored) ∙ ap (λ (xs : List ℕ). xs ++ drop 8 stored) text in
    let second : drop 8 stored ≡ to_be_bytes w32 (length stored) ++ drop 12 stored =
    sym (take-append-drop 4 (drop 8 stored)) ∙ ap (λ (xs : List ℕ). xs ++ drop 4 (drop 8 stored)) stands.bytes
    ∙ ap (λ (xs : List ℕ). to_be_bytes w32 (length stored) ++ xs) (drop-drop 4 8 stored) in
    let third : drop 12 stored ≡ told_entries stored ∷ drop 13 stored = drop_more stored 12 0 (omega (arith, whole)) in
    first ∙ ap (λ (xs : List ℕ). codes "BLOBFRM1" ++ xs) (second ∙ ap (λ (xs : List ℕ). to_be_bytes w32 (length stored) ++ xs) third)

-- As many entries as are told stand up to the end: the bytes are their body.
pub Spells-read : (pages : ℕ) (stored : List ℕ) (entries : List Entry) (end : ℕ) → AreBytes stored → AreGood stored (front_fields stored)
    → AreFirstEntries pages entries → drop 13 stored ≡ entries_spelling entries ++ drop end stored → end ≡ 13 + length (entries_spelling entries)
    → length entries ≡ told_entries stored → end ≤ length stored → length stored ≤ end → Spells pages stored entries
Spells-read pages stored entries end bytes good are behind end_is count within all =
    let told : is_within 1 16 (slice_index stored 12) ≡ true = ap (is_within 1 16) (sym (told-byte stored 12 good.1.1.0.whole)) ∙ good.1.1.0.kept in
    let both = and_parts _ _ told in
    let least : 1 ≤ slice_index stored 12 = leb-true 1 (slice_index stored 12) both.0 in
    let most : slice_index stored 12 ≤ 16 = leb-true (slice_index stored 12) 16 both.1 in
    let rest : drop 13 stored ≡ entries_spelling entries =
    behind ∙ ap (λ (xs : List ℕ). entries_spelling entries ++ xs) (drop_all end stored all) ∙ append-nil (entries_spelling entries) in
    let long : length stored ≡ body_bytes entries = omega (arith, end_is, within, all) in
    record {
      frame = record {
        some = omega (arith, count, least);
        few = omega (arith, count, most);
        each = are.each;
        numbers = are.numbers;
        apart = are.apart;
      };
      bytes_are = front-stands stored bytes good
          ∙ ap (λ (n : ℕ). codes "BLOBFRM1" ++ (to_be_bytes w32 n ++ told_entries stored ∷ drop 13 stored)) long
          ∙ ap (λ (xs : List ℕ). codes "BLOBFRM1" ++ (to_be_bytes w32 (body_bytes entries) ++ told_entries stored ∷ xs)) rest
          ∙ ap (λ (n : ℕ). codes "BLOBFRM1" ++ (to_be_bytes w32 (body_bytes entries) ++ n ∷ entries_spelling entries)) (sym count);
    }
