-- Laws of the entries in a body: the entry that good fields and writes behind them tell, and one more entry behind others.
use Rattle.std.proofs.Common.{◌≡◌, ℕ, zero, suc, ◌+◌, ◌^◌, ◌<◌, ◌≤◌, ◌||◌, Bool, true, false, inl, inr, List, [], ◌∷◌, ◌++◌, length, map, take, drop, get_or, Some, refl, sym, ap, ◌∙◌, arith}
use Rattle.std.specs.Prelude.{slice_get, slice_index, bytes_eq, Contains, IsTrue, nat_le, nat_lt}
use Rattle.std.specs.Int.{w8, w64, from_be_bytes, to_be_bytes}
use Rattle.std.specs.List.{All, flat_map, list_any}
use Rattle.std.proofs.lemmas.Bool.{and_parts, both_ways, leb-true, ltb-true}
use Rattle.std.proofs.lemmas.List.{drop_more, take-append-drop, drop-drop}
use Rattle.std.proofs.lemmas.List.Elements.{All-append, All-cons}
use Rattle.std.proofs.lemmas.List.Folds.{list_any-append}
use Rattle.std.proofs.lemmas.Option.{slice_get_within}
use Rattle.std.proofs.lemmas.List.{get_or-map, length-map}
use Rattle.std.proofs.lemmas.Map.Views.{list_any-from_Contains}
use Rattle.std.specs.Cmp.Lexicographic.{nat_list_eq_equiv}
use Rattle.store_model.specs.BodyRefusals.{AreFirstEntries, AreFirstWrites, entry_fields, keys_in, may_number, stands_in, told_number, told_writes}
use Rattle.store_model.specs.Field.{AreGood}
use Rattle.store_model.specs.Frame.{Del, Entry, IsEntry, Write, entry_spelling, key_of_write, write_spelling}
use Rattle.store_model.proofs.FieldLaws.{AreBytes, TextStands, TextStands-eight}
use Rattle.store_model.proofs.FollowLaws.{DoNumbersGoOn-next}
use Rattle.store_model.proofs.FrameLaws.{entry-moved}
use Rattle.store_model.proofs.StateLaws.{slice_get-last}

-- the eight bytes of a number, and what is behind them
number-stands : (stored : List ℕ) (at n : ℕ) → AreBytes stored → at + 8 ≤ length stored → n ≡ from_be_bytes w64 (take 8 (drop at stored))
    → drop at stored ≡ to_be_bytes w64 n ++ drop (at + 8) stored
number-stands stored at n bytes whole told =
    let stands : TextStands stored at (to_be_bytes w64 n) = TextStands-eight stored at n bytes whole told in
    sym (take-append-drop 8 (drop at stored)) ∙ ap (λ (xs : List ℕ). xs ++ drop 8 (drop at stored)) stands.bytes
    ∙ ap (λ (xs : List ℕ). to_be_bytes w64 n ++ xs) (drop-drop 8 at stored)

-- what good fields tell stands before what is behind them
pub front-stands : (stored rest : List ℕ) (entry : Entry) → AreBytes stored → 18 ≤ length stored → entry.number ≡ told_number stored
    → entry.session ≡ slice_index stored 8 → entry.nth ≡ from_be_bytes w64 (take 8 (drop 9 stored)) → length entry.writes ≡ told_writes stored
    → drop 18 stored ≡ flat_map write_spelling entry.writes ++ rest → stored ≡ entry_spelling entry ++ rest
front-stands stored rest entry bytes whole number session nth count behind =
    let first : stored ≡ to_be_bytes w64 entry.number ++ drop 8 stored = number-stands stored 0 entry.number bytes (omega (arith, whole)) number in
    let second : drop 8 stored ≡ entry.session ∷ drop 9 stored =
    drop_more stored 8 0 (omega (arith, whole)) ∙ ap (λ (n : ℕ). n ∷ drop 9 stored) (sym session) in
    let third : drop 9 stored ≡ to_be_bytes w64 entry.nth ++ drop 17 stored = number-stands stored 9 entry.nth bytes (omega (arith, whole)) nth in
    let fourth : drop 17 stored ≡ length entry.writes ∷ drop 18 stored =
    drop_more stored 17 0 (omega (arith, whole)) ∙ ap (λ (n : ℕ). n ∷ drop 18 stored) (sym count) in
    let tail : drop 9 stored ≡ to_be_bytes w64 entry.nth ++ length entry.writes ∷ (flat_map write_spelling entry.writes ++ rest) =
    third ∙ ap (λ (xs : List ℕ). to_be_bytes w64 entry.nth ++ xs) (fourth ∙ ap (λ (xs : List ℕ). length entry.writes ∷ xs) behind) in
    first ∙ ap (λ (xs : List ℕ). to_be_bytes w64 entry.number ++ xs) (second ∙ ap (λ (xs : List ℕ). entry.session ∷ xs) tail) ∙ sym (entry-moved entry rest)

-- the number of one byte
pub told-byte : (stored : List ℕ) (at : ℕ) → at + 1 ≤ length stored → from_be_bytes w8 (take 1 (drop at stored)) ≡ slice_index stored at
told-byte stored at whole = ap (λ (xs : List ℕ). from_be_bytes w8 (take 1 xs)) (drop_more stored at 0 (omega (arith, whole)))

-- what good fields tell is an entry, with writes that may stand in it
pub IsEntry-told : (pages : ℕ) (before : List Entry) (stored : List ℕ) (entry : Entry) → AreGood stored (entry_fields before) → entry.number ≡ told_number stored
    → entry.session ≡ slice_index stored 8 → entry.nth ≡ from_be_bytes w64 (take 8 (drop 9 stored)) → entry.nth < 2 ^ 64 → length entry.writes ≡ told_writes stored
    → AreFirstWrites pages before entry.number entry.writes → IsEntry pages entry × IsTrue (may_number before entry.number)
IsEntry-told pages before stored entry good number session nth low count are =
    let kept = and_parts _ _ good.0.kept in
    let within = and_parts _ _ kept.0 in
    let below : nat_lt (slice_index stored 8) 16 ≡ true = ap (λ (n : ℕ). nat_lt n 16) (sym (told-byte stored 8 good.1.0.whole)) ∙ good.1.0.kept in
    let few : nat_le (slice_index stored 17) 16 ≡ true = ap (λ (n : ℕ). nat_le n 16) (sym (told-byte stored 17 good.1.1.1.0.whole)) ∙ good.1.1.1.0.kept in (
      record {
        number = rw number (record { least = leb-true 1 (told_number stored) within.0; most = leb-true (told_number stored) (2 ^ 62) within.1 });
        session = rw session (ltb-true (slice_index stored 8) 16 below);
        begun = rw nth (leb-true 1 (from_be_bytes w64 (take 8 (drop 9 stored))) good.1.1.0.kept);
        counted = low;
        few = rw count (leb-true (slice_index stored 17) 16 few);
        rise = are.rise;
        writes = are.each;
      },
      rw number kept.1,
    )

-- a key that an entry has stands among those of the entries
key-among : (entries : List Entry) (i : ℕ) (one : Entry) (key : List ℕ) → slice_get entries i ≡ Some one → Contains (map key_of_write one.writes) key
    → stands_in (keys_in entries) key ≡ true
key-among [] i one key is among = absurd (cc is)
key-among (entry ∷ entries) zero one key is among =
    let same : entry ≡ one = cc in
    let here : list_any (bytes_eq key) (map key_of_write entry.writes) ≡ true =
    ap (λ (e : Entry). list_any (bytes_eq key) (map key_of_write e.writes)) same ∙ list_any-from_Contains nat_list_eq_equiv key (map key_of_write one.writes) among in
    list_any-append (bytes_eq key) (map key_of_write entry.writes) (keys_in entries) ∙ ap (λ (b : Bool). b || list_any (bytes_eq key) (keys_in entries)) here
key-among (entry ∷ entries) (suc i) one key is among =
    list_any-append (bytes_eq key) (map key_of_write entry.writes) (keys_in entries)
    ∙ second (list_any (bytes_eq key) (map key_of_write entry.writes)) (stands_in (keys_in entries) key) (key-among entries i one key is among) where
      second : (a b : Bool) → b ≡ true → (a || b) ≡ true
      second true b is = refl
      second false b is = is

-- a key of writes that stand apart isn't among those
key-apart : (keys : List (List ℕ)) (writes : List Write) (key : List ℕ) → All (λ one. stands_in keys (key_of_write one) ≡ false) writes
    → Contains (map key_of_write writes) key → stands_in keys key ≡ false
key-apart keys writes key apart among =
    let none : Write = Del [] in
    let within : among.0 < length writes = omega (arith, among.1, length-map writes key_of_write) in
    let same : key_of_write (get_or writes among.0 none) ≡ key = sym (get_or-map key_of_write writes among.0 none key within) ∙ among.2 in
    ap (stands_in keys) (sym same) ∙ apart among.0 none within

-- one more entry, whose number follows and whose keys stand in none before
pub AreFirstEntries-next : (pages : ℕ) (entries : List Entry) (one : Entry) → AreFirstEntries pages entries → IsEntry pages one
    → IsTrue (may_number entries one.number) → All (λ write. stands_in (keys_in entries) (key_of_write write) ≡ false) one.writes
    → AreFirstEntries pages (entries ++ one ∷ [])
AreFirstEntries-next pages entries one are is may apart =
    record {
      each = All-append (IsEntry pages) entries (one ∷ []) are.each (All-cons (IsEntry pages) one [] is (λ i d within. absurd (omega (arith, within))));
      numbers = DoNumbersGoOn-next entries one are.numbers may;
      apart = λ i j a b key less first second mine theirs.
          elim (slice_get-last entries one b j second) [
            | inl earlier ↦ (
                elim (slice_get-last entries one a i first) [
                  | inl before ↦ are.apart i j a b key less before earlier mine theirs
                  | inr last ↦ absurd (omega (arith, less, last.0, slice_get_within entries j b earlier))
                ]
                )
            | inr last ↦ (
                elim (slice_get-last entries one a i first) [
                  | inl before ↦ both_ways _ (key-apart (keys_in entries) one.writes key apart (rw (← last.1) at theirs)) (key-among entries i a key before mine)
                  | inr here ↦ absurd (omega (arith, less, last.0, here.0))
                ]
                )
          ];
    }
