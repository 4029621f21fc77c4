-- Laws of bodies: bytes that spell entries have no field that is cut short or breaks its rule.
use Rattle.std.proofs.Common.{◌≡◌, ◌⊎◌, ℕ, zero, suc, ◌+◌, ◌^◌, ◌≤◌, ◌==◌, ◌&&◌, ◌||◌, Bool, true, false, inl, inr, List, [], ◌∷◌, ◌++◌, length, map, take, drop, get_or, Some, refl, sym, ap, ◌∙◌, arith, codes, length-append}
use Rattle.std.specs.Prelude.{slice_get, bytes_eq, Contains, IsTrue, nat_le}
use Rattle.std.specs.Int.{w32, to_be_bytes}
use Rattle.std.specs.List.{All, list_any}
use Rattle.std.proofs.lemmas.Bool.{and_from, eq-eqb, false_from_ne_true, le-leb}
use Rattle.std.proofs.lemmas.List.{append-nil, drop-drop, drop_at, get_or-drop, get_or-map, length-map, take_at}
use Rattle.std.proofs.lemmas.List.Folds.{list_any-append}
use Rattle.std.proofs.lemmas.Option.{slice_get_within}
use Rattle.std.proofs.lemmas.Slice.Eq.{bytes_eq-Decides}
use Rattle.store_model.specs.BodyRefusals.{HasMoreBytes, IsBadBody, IsRefusedEntry, front_fields, keys_in, may_number, stands_in, told_entries}
use Rattle.store_model.specs.Field.{AreGood}
use Rattle.store_model.specs.Frame.{AreKeysApart, DoNumbersGoOn, Entry, IsEntry, Spells, body_bytes, entries_spelling, key_of_write}
use Rattle.store_model.specs.TupleFields.{is_within}
use Rattle.store_model.proofs.BodySizeLaws.{body-fits}
use Rattle.store_model.proofs.FieldLaws.{AreGood-none_broken, IsGood-bytes, IsGood-four, TextStands}
use Rattle.store_model.proofs.FrameLaws.{entries-same}
use Rattle.store_model.proofs.FrontLaws.{entries-front}
use Rattle.store_model.proofs.RefusalLaws.{All-middle, IsEntry-not_bad, IsGood-byte}

-- one of two that hold
either : (a b : Bool) → (a || b) ≡ true → (a ≡ true) ⊎ (b ≡ true)
either true b is = inl refl
either false b is = inr is

-- a key that is found is there
contains-any : (keys : List (List ℕ)) (key : List ℕ) → list_any (bytes_eq key) keys ≡ true → Contains keys key
contains-any [] key is = absurd (cc is)
contains-any (one ∷ keys) key is =
    elim (either (bytes_eq key one) (list_any (bytes_eq key) keys) is) [
      | inl here ↦ (0, omega arith, sym ((bytes_eq-Decides key one).0 here))
      | inr later ↦ (let rest = contains-any keys key later in (suc rest.0, omega (arith, rest.1), rest.2))
    ]

-- an entry that has the key
record HasKey (entries : List Entry) (key : List ℕ) : Type 0 where
  at : ℕ
  one : Entry
  there : slice_get entries at ≡ Some one
  has : Contains (map key_of_write one.writes) key

key-entry : (entries : List Entry) (key : List ℕ) → stands_in (keys_in entries) key ≡ true → HasKey entries key
key-entry [] key is = absurd (cc is)
key-entry (e ∷ entries) key is =
    let keys : List (List ℕ) = map key_of_write e.writes in
    elim (either (list_any (bytes_eq key) keys) (stands_in (keys_in entries) key) (sym (list_any-append (bytes_eq key) keys (keys_in entries)) ∙ is)) [
      | inl here ↦ record { at = 0; one = e; there = refl; has = contains-any keys key here }
      | inr later ↦ (let rest = key-entry entries key later in record { at = suc rest.at; one = rest.one; there = rest.there; has = rest.has })
    ]

-- one in the middle, and those before it, by their indices
get-front : (xs ys : List Entry) (i : ℕ) (x : Entry) → slice_get xs i ≡ Some x → slice_get (xs ++ ys) i ≡ Some x
get-front [] ys i x is = absurd (cc is)
get-front (y ∷ xs) ys zero x is = is
get-front (y ∷ xs) ys (suc i) x is = get-front xs ys i x is

get-middle : (xs : List Entry) (x : Entry) (ys : List Entry) → slice_get (xs ++ x ∷ ys) (length xs) ≡ Some x
get-middle [] x ys = refl
get-middle (y ∷ xs) x ys = get-middle xs x ys

-- an entry's keys stand in none before it
pub apart-from : (before : List Entry) (one : Entry) (behind : List Entry) → AreKeysApart (before ++ one ∷ behind)
    → All (λ write. stands_in (keys_in before) (key_of_write write) ≡ false) one.writes
apart-from before one behind apart k write within =
    let key : List ℕ = key_of_write (get_or one.writes k write) in
    let mine : Contains (map key_of_write one.writes) key =
    (k, omega (arith, within, length-map one.writes key_of_write), get_or-map key_of_write one.writes k write key within) in
    false_from_ne_true (stands_in (keys_in before) key) (λ stands.
    let other = key-entry before key stands in
    apart other.at (length before) other.one one key (slice_get_within before other.at other.one other.there)
    (get-front before (one ∷ behind) other.at other.one other.there) (get-middle before one behind) other.has mine)

-- an entry's number follows those before it
pub may_number-from : (before : List Entry) (one : Entry) (behind : List Entry) → DoNumbersGoOn (before ++ one ∷ behind) → IsTrue (may_number before one.number)
may_number-from [] one behind go = refl
may_number-from (a ∷ []) one behind go = eq-eqb one.number (a.number + 1) (go 0 a one refl refl)
may_number-from (a ∷ b ∷ before) one behind go =
    may_number-from (b ∷ before) one behind (λ i c d is next. go (suc i) c d is (let same : suc i + 1 ≡ suc (i + 1) = omega arith in rw same next))

-- the offsets of what is spelled before the entries
record BodyParts (stored : List ℕ) (entries : List Entry) : Type 0 where
  long : length stored ≡ body_bytes entries
  text : TextStands stored 0 (codes "BLOBFRM1")
  count : TextStands stored 8 (to_be_bytes w32 (body_bytes entries))
  entry_count : TextStands stored 12 (length entries ∷ [])
  behind : drop 13 stored ≡ entries_spelling entries
  told : told_entries stored ≡ length entries

BodyParts-stands : (stored : List ℕ) (entries : List Entry)
    → stored ≡ codes "BLOBFRM1" ++ (to_be_bytes w32 (body_bytes entries) ++ length entries ∷ entries_spelling entries) → BodyParts stored entries
BodyParts-stands stored entries is =
    let rest : List ℕ = length entries ∷ entries_spelling entries in
    let count : List ℕ = to_be_bytes w32 (body_bytes entries) in
    let eight : drop 8 stored ≡ count ++ rest = ap (drop 8) is ∙ drop_at (codes "BLOBFRM1") (count ++ rest) 8 refl in
    let twelve : drop 12 stored ≡ rest = sym (drop-drop 4 8 stored) ∙ ap (drop 4) eight ∙ drop_at count rest 4 refl in
    let long : length stored ≡ body_bytes entries = omega (arith, ap length is, length-append (codes "BLOBFRM1") (count ++ rest), length-append count rest) in
    record {
      long = long;
      text = record { whole = omega (arith, long); bytes = ap (take 8) is ∙ take_at (codes "BLOBFRM1") (count ++ rest) 8 refl };
      count = record { whole = omega (arith, long); bytes = ap (take 4) eight ∙ take_at count rest 4 refl };
      entry_count = record { whole = omega (arith, long); bytes = ap (take 1) twelve };
      behind = sym (drop-drop 1 12 stored) ∙ ap (drop 1) twelve;
      told = sym (get_or-drop 12 stored 0 0) ∙ ap (λ (xs : List ℕ). get_or xs 0 0) twelve;
    }

-- the fields before the entries
front-good : (pages : ℕ) (stored : List ℕ) (entries : List Entry) → Spells pages stored entries → BodyParts stored entries → AreGood stored (front_fields stored)
front-good pages stored entries spells stand =
    let long : ℕ = body_bytes entries in
    let passes : (nat_le 13 long && long == length stored) ≡ true =
    and_from (nat_le 13 long) (long == length stored) (le-leb 13 long (omega arith)) (eq-eqb long (length stored) (sym stand.long)) in
    let within : is_within 1 16 (length entries) ≡ true =
    and_from (nat_le 1 (length entries)) (nat_le (length entries) 16) (le-leb 1 (length entries) spells.frame.some) (le-leb (length entries) 16 spells.frame.few) in (
      IsGood-bytes stored 0 8 (codes "BLOBFRM1") (λ text. bytes_eq text (codes "BLOBFRM1")) refl refl stand.text,
      (
        IsGood-four stored 8 long (λ count. nat_le 13 count && count == length stored) (body-fits pages entries spells.frame) passes stand.count,
        (IsGood-byte stored 12 (length entries) (is_within 1 16) within stand.entry_count, tt),
      ),
    )

-- no entry of a body is refused
refused-not : (pages : ℕ) (stored : List ℕ) (entries : List Entry) (at : ℕ) → pages ≤ 2 ^ 32 → Spells pages stored entries → BodyParts stored entries
    → IsRefusedEntry pages stored at → ⊥
refused-not pages stored entries at most spells stand refused =
    let same : entries_spelling entries ++ [] ≡ entries_spelling refused.entries ++ refused.rest =
    append-nil (entries_spelling entries) ∙ sym stand.behind ∙ refused.stored_is in
    let next = entries-front pages entries refused.entries [] refused.rest most spells.frame.each refused.are.each (omega (arith, refused.few, stand.told)) same in
    let here : IsEntry pages next.one = All-middle (IsEntry pages) refused.entries next.one next.behind (rw next.entries_are at spells.frame.each) in
    IsEntry-not_bad pages refused.entries next.one refused.rest next.more refused.place most here
    (may_number-from refused.entries next.one next.behind (rw next.entries_are at spells.frame.numbers))
    (apart-from refused.entries next.one next.behind (rw next.entries_are at spells.frame.apart)) next.rest_is refused.bad

-- no bytes stand behind the entries of a body
more-not : (pages : ℕ) (stored : List ℕ) (entries : List Entry) (at : ℕ) → pages ≤ 2 ^ 32 → Spells pages stored entries → BodyParts stored entries
    → HasMoreBytes pages stored at → ⊥
more-not pages stored entries at most spells stand more =
    let same : entries_spelling entries ++ [] ≡ entries_spelling more.entries ++ more.rest =
    append-nil (entries_spelling entries) ∙ sym stand.behind ∙ more.stored_is in
    let none : [] ≡ more.rest = (entries-same pages entries more.entries [] more.rest most (sym stand.told ∙ sym more.all) spells.frame.each more.are.each same).1 in
    omega (arith, more.more, ap length none)

-- Bytes that spell entries are no bad body, where pages have numbers of four bytes.
pub Spells-not_bad : (pages : ℕ) (stored : List ℕ) (entries : List Entry) (at : ℕ) → pages ≤ 2 ^ 32 → Spells pages stored entries → IsBadBody pages stored at → ⊥
Spells-not_bad pages stored entries at most spells (inl first) =
    AreGood-none_broken stored (front_fields stored) at (front-good pages stored entries spells (BodyParts-stands stored entries spells.bytes_are)) first
Spells-not_bad pages stored entries at most spells (inr (good, inl refused)) =
    refused-not pages stored entries at most spells (BodyParts-stands stored entries spells.bytes_are) refused
Spells-not_bad pages stored entries at most spells (inr (good, inr more)) =
    more-not pages stored entries at most spells (BodyParts-stands stored entries spells.bytes_are) more
