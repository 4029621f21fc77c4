-- Laws of what stands at the front of a body: fewer writes, or entries, than are spelled are the first of them.
use Rattle.std.proofs.Common.{◌≡◌, ℕ, ◌^◌, ◌<◌, ◌≤◌, List, [], ◌∷◌, ◌++◌, length, refl, sym, ap, ◌∙◌, arith, append_assoc}
use Rattle.std.specs.List.{All, flat_map}
use Rattle.std.proofs.lemmas.List.Elements.{All-head, All-tail}
use Rattle.store_model.specs.Frame.{Entry, IsEntry, IsWrite, Write, entries_spelling, entry_spelling, write_spelling}
use Rattle.store_model.proofs.FrameLaws.{entry-same, write-same}

-- one of the writes that are spelled, and what is around it
pub record IsNextWrite (pages number : ℕ) (writes before : List Write) (rest : List ℕ) : Type 0 where
  pub one : Write
  pub behind : List Write
  pub writes_are : writes ≡ before ++ one ∷ behind
  pub more : List ℕ
  pub rest_is : rest ≡ write_spelling one ++ more

-- Fewer writes that stand at the front of those that are spelled are the first of them.
pub writes-front : (pages m n : ℕ) (writes before : List Write) (x rest : List ℕ) → pages ≤ 2 ^ 32 → All (IsWrite pages m) writes → All (IsWrite pages n) before
    → length before < length writes → flat_map write_spelling writes ++ x ≡ flat_map write_spelling before ++ rest → IsNextWrite pages m writes before rest
writes-front pages m n [] before x rest most are first few same = absurd (omega (arith, few))
writes-front pages m n (w ∷ writes) [] x rest most are first few same =
    record {
      one = w;
      behind = writes;
      writes_are = refl;
      more = flat_map write_spelling writes ++ x;
      rest_is = sym same ∙ append_assoc (write_spelling w) (flat_map write_spelling writes) x;
    }
writes-front pages m n (w ∷ writes) (v ∷ before) x rest most are first few same =
    let moved : write_spelling w ++ (flat_map write_spelling writes ++ x) ≡ write_spelling v ++ (flat_map write_spelling before ++ rest) =
    sym (append_assoc (write_spelling w) (flat_map write_spelling writes) x) ∙ same ∙ append_assoc (write_spelling v) (flat_map write_spelling before) rest in
    let one = write-same pages m n w v (flat_map write_spelling writes ++ x) (flat_map write_spelling before ++ rest) most
    (All-head (IsWrite pages m) w writes are) (All-head (IsWrite pages n) v before first) moved in
    let next = writes-front pages m n writes before x rest most (All-tail (IsWrite pages m) w writes are) (All-tail (IsWrite pages n) v before first) (omega (arith, few)) one.1 in
    record {
      one = next.one;
      behind = next.behind;
      writes_are = ap (λ (z : Write). z ∷ writes) one.0 ∙ ap (λ (zs : List Write). v ∷ zs) next.writes_are;
      more = next.more;
      rest_is = next.rest_is;
    }

-- one of the entries that are spelled, and what is around it
pub record IsNextEntry (entries before : List Entry) (rest : List ℕ) : Type 0 where
  pub one : Entry
  pub behind : List Entry
  pub entries_are : entries ≡ before ++ one ∷ behind
  pub more : List ℕ
  pub rest_is : rest ≡ entry_spelling one ++ more

-- Fewer entries that stand at the front of those that are spelled are the first of them.
pub entries-front : (pages : ℕ) (entries before : List Entry) (x rest : List ℕ) → pages ≤ 2 ^ 32 → All (IsEntry pages) entries → All (IsEntry pages) before
    → length before < length entries → entries_spelling entries ++ x ≡ entries_spelling before ++ rest → IsNextEntry entries before rest
entries-front pages [] before x rest most are first few same = absurd (omega (arith, few))
entries-front pages (e ∷ entries) [] x rest most are first few same =
    record {
      one = e;
      behind = entries;
      entries_are = refl;
      more = entries_spelling entries ++ x;
      rest_is = sym same ∙ append_assoc (entry_spelling e) (entries_spelling entries) x;
    }
entries-front pages (e ∷ entries) (f ∷ before) x rest most are first few same =
    let moved : entry_spelling e ++ (entries_spelling entries ++ x) ≡ entry_spelling f ++ (entries_spelling before ++ rest) =
    sym (append_assoc (entry_spelling e) (entries_spelling entries) x) ∙ same ∙ append_assoc (entry_spelling f) (entries_spelling before) rest in
    let one = entry-same pages e f (entries_spelling entries ++ x) (entries_spelling before ++ rest) most
    (All-head (IsEntry pages) e entries are) (All-head (IsEntry pages) f before first) moved in
    let next = entries-front pages entries before x rest most (All-tail (IsEntry pages) e entries are) (All-tail (IsEntry pages) f before first) (omega (arith, few)) one.1 in
    record {
      one = next.one;
      behind = next.behind;
      entries_are = ap (λ (z : Entry). z ∷ entries) one.0 ∙ ap (λ (zs : List Entry). f ∷ zs) next.entries_are;
      more = next.more;
      rest_is = next.rest_is;
    }
