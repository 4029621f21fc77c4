-- Laws of what is refused in a body: no write that stands, and no entry that stands, is.
use Rattle.std.proofs.Common.{◌≡◌, ℕ, suc, ◌+◌, ◌^◌, ◌≤◌, ◌&&◌, Bool, true, false, not, inl, inr, List, [], ◌∷◌, ◌++◌, length, take, drop, get_or, refl, sym, ap, subst, ◌∙◌, arith, length-drop}
use Rattle.std.specs.Prelude.{IsTrue, nat_le, nat_lt}
use Rattle.std.specs.Int.{w8, w64, from_be_bytes, to_be_bytes}
use Rattle.std.specs.List.{All, flat_map}
use Rattle.std.specs.Ordering.{is_lt}
use Rattle.std.proofs.lemmas.Bool.{and_from, le-leb, lt-ltb}
use Rattle.std.proofs.lemmas.List.{drop-drop, drop_at, get_or-drop, take_at}
use Rattle.std.proofs.lemmas.List.Elements.{All-head, All-tail}
use Rattle.store_model.specs.BodyRefusals.{IsBadEntry, IsBadWrite, IsRefusedWrite, entry_fields, keys_in, kind_fields, may_number, may_rise, may_stand, stands_in, told_number, told_writes, write_rules}
use Rattle.store_model.specs.Field.{AreGood, IsFirstBroken, IsGood, Number}
use Rattle.store_model.specs.Frame.{Del, DoKeysRise, Entry, IsEntry, IsWrite, Set, Write, entry_spelling, key_of_write, write_spelling}
use Rattle.store_model.specs.State.{State}
use Rattle.store_model.specs.Tuple.{IsAtFront, IsKeyAtFront, key_spelling, spelling}
use Rattle.store_model.specs.TupleFields.{is_within}
use Rattle.store_model.proofs.FrontLaws.{writes-front}
use Rattle.store_model.proofs.FieldLaws.{AreGood-none_broken, IsGood-eight, TextStands, told_eight-stands}
use Rattle.store_model.proofs.FrameLaws.{entry-moved, parts}
use Rattle.store_model.proofs.KeyFieldLaws.{IsKeyAtFront-not_broken}
use Rattle.store_model.proofs.TupleFieldLaws.{IsAtFront-not_bad}

-- a kind is never broken
pub kind-good : (kind : ℕ) (bytes : List ℕ) (at : ℕ) → is_within 1 2 kind ≡ true → IsFirstBroken (kind ∷ bytes) kind_fields at → ⊥
kind-good kind bytes at within first =
    AreGood-none_broken (kind ∷ bytes) kind_fields at (record { whole = omega arith; kept = within }, tt) first

-- a tuple and a key that may stand there
Set-not_bad : (pages number : ℕ) (before : List Entry) (writes : List Write) (key : List ℕ) (state : State) (bytes : List ℕ) (at : ℕ) → pages ≤ 2 ^ 32
    → IsAtFront pages bytes key state → state.born ≡ number → IsTrue (may_stand before writes key)
    → IsBadWrite (write_rules before writes number) pages (1 ∷ bytes) at → ⊥
Set-not_bad pages number before writes key state bytes at most front born may (inl first) = kind-good 1 bytes at refl first
Set-not_bad pages number before writes key state bytes at most front born may (inr (inl (told, (place, bad, at_is)))) =
    IsAtFront-not_bad (write_rules before writes number) pages bytes key state place most front
    (record { key_may = may; from_least = omega (arith, born); to_most = omega (arith, born) }) bad
Set-not_bad pages number before writes key state bytes at most front born may (inr (inr (told, (place, bad, at_is)))) = absurd (omega (arith, told))

Del-not_bad : (pages number : ℕ) (before : List Entry) (writes : List Write) (key bytes : List ℕ) (at : ℕ) → IsKeyAtFront bytes key
    → IsTrue (may_stand before writes key) → IsBadWrite (write_rules before writes number) pages (2 ∷ bytes) at → ⊥
Del-not_bad pages number before writes key bytes at front may (inl first) = kind-good 2 bytes at refl first
Del-not_bad pages number before writes key bytes at front may (inr (inl (told, (place, bad, at_is)))) = absurd (omega (arith, told))
Del-not_bad pages number before writes key bytes at front may (inr (inr (told, (place, bad, at_is)))) =
    IsKeyAtFront-not_broken (may_stand before writes) bytes key place front may bad

-- A write that stands and may is not refused.
pub IsWrite-not_bad : (pages number : ℕ) (before : List Entry) (writes : List Write) (one : Write) (stored more : List ℕ) (at : ℕ) → pages ≤ 2 ^ 32
    → IsWrite pages number one → IsTrue (may_stand before writes (key_of_write one)) → stored ≡ write_spelling one ++ more
    → IsBadWrite (write_rules before writes number) pages stored at → ⊥
IsWrite-not_bad pages number before writes (Set key state) stored more at most is may stored_is bad =
    Set-not_bad pages number before writes key state (spelling key state ++ more) at most (record { tuple = is.0; rest = more; stored_is = refl }) is.1 may
    (rw stored_is at bad)
IsWrite-not_bad pages number before writes (Del key) stored more at most is may stored_is bad =
    Del-not_bad pages number before writes key (key_spelling key ++ more) at (record { named = is; rest = more; stored_is = refl }) may (rw stored_is at bad)

-- one in the middle
pub All-middle : {X : Type 0} (P : X → Type 0) (xs : List X) (x : X) (ys : List X) → All P (xs ++ x ∷ ys) → P x
All-middle P [] x ys all = All-head P x ys all
All-middle P (y ∷ xs) x ys all = All-middle P xs x ys (All-tail P y (xs ++ x ∷ ys) all)

-- a key behind those that rise to it
may_rise-from : (writes : List Write) (one : Write) (behind : List Write) → DoKeysRise (writes ++ one ∷ behind) → IsTrue (may_rise writes (key_of_write one))
may_rise-from [] one behind rise = refl
may_rise-from (a ∷ []) one behind rise = ap is_lt (rise 0 a one refl refl)
may_rise-from (a ∷ b ∷ writes) one behind rise =
    may_rise-from (b ∷ writes) one behind (λ i c d is next. rise (suc i) c d is (let same : suc i + 1 ≡ suc (i + 1) = omega arith in rw same next))

pub may_stand-from : (before : List Entry) (writes : List Write) (one : Write) (behind : List Write) → DoKeysRise (writes ++ one ∷ behind)
    → stands_in (keys_in before) (key_of_write one) ≡ false → IsTrue (may_stand before writes (key_of_write one))
may_stand-from before writes one behind rise apart =
    and_from (may_rise writes (key_of_write one)) (not (stands_in (keys_in before) (key_of_write one))) (may_rise-from writes one behind rise) (ap not apart)

-- the offsets of what is spelled of an entry
record EntryParts (stored more : List ℕ) (one : Entry) : Type 0 where
  whole : 18 ≤ length stored
  number : TextStands stored 0 (to_be_bytes w64 one.number)
  session : TextStands stored 8 (one.session ∷ [])
  nth : TextStands stored 9 (to_be_bytes w64 one.nth)
  count : TextStands stored 17 (length one.writes ∷ [])
  behind : drop 18 stored ≡ flat_map write_spelling one.writes ++ more

EntryParts-stands : (stored more : List ℕ) (one : Entry) → stored ≡ entry_spelling one ++ more → EntryParts stored more one
EntryParts-stands stored more one is =
    let rest : List ℕ = flat_map write_spelling one.writes ++ more in
    let nth : List ℕ = to_be_bytes w64 one.nth in
    let all : stored ≡ parts one more = is ∙ entry-moved one more in
    let eight : drop 8 stored ≡ one.session ∷ (nth ++ length one.writes ∷ rest) =
    ap (drop 8) all ∙ drop_at (to_be_bytes w64 one.number) (one.session ∷ (nth ++ length one.writes ∷ rest)) 8 refl in
    let nine : drop 9 stored ≡ nth ++ length one.writes ∷ rest = sym (drop-drop 1 8 stored) ∙ ap (drop 1) eight in
    let seventeen : drop 17 stored ≡ length one.writes ∷ rest = sym (drop-drop 8 9 stored) ∙ ap (drop 8) nine ∙ drop_at nth (length one.writes ∷ rest) 8 refl in
    let whole : 18 ≤ length stored = omega (arith, ap length seventeen, length-drop 17 stored) in
    record {
      whole = whole;
      number = record { whole = omega (arith, whole); bytes = ap (take 8) all ∙ take_at (to_be_bytes w64 one.number) (one.session ∷ (nth ++ length one.writes ∷ rest)) 8 refl };
      session = record { whole = omega (arith, whole); bytes = ap (take 1) eight };
      nth = record { whole = omega (arith, whole); bytes = ap (take 8) nine ∙ take_at nth (length one.writes ∷ rest) 8 refl };
      count = record { whole = omega (arith, whole); bytes = ap (take 1) seventeen };
      behind = sym (drop-drop 1 17 stored) ∙ ap (drop 1) seventeen;
    }

-- a field of one byte
pub IsGood-byte : (stored : List ℕ) (at n : ℕ) (test : ℕ → Bool) → IsTrue (test n) → TextStands stored at (n ∷ [])
    → IsGood stored (record { at = at; bytes = 1; rule = Number w8 test })
IsGood-byte stored at n test passes stands =
    record { whole = stands.whole; kept = ap (λ (bytes : List ℕ). test (from_be_bytes w8 bytes)) stands.bytes ∙ passes }

-- the fields of an entry that stands
entry-good : (pages : ℕ) (before : List Entry) (one : Entry) (stored more : List ℕ) → IsEntry pages one → IsTrue (may_number before one.number)
    → EntryParts stored more one → AreGood stored (entry_fields before)
entry-good pages before one stored more is may stand = (
  IsGood-eight stored 0 one.number (λ n. is_within 1 (2 ^ 62) n && may_number before n) (omega (arith, is.number.most))
      (and_from (is_within 1 (2 ^ 62) one.number) (may_number before one.number)
      (and_from (nat_le 1 one.number) (nat_le one.number (2 ^ 62)) (le-leb 1 one.number is.number.least) (le-leb one.number (2 ^ 62) is.number.most)) may) stand.number,
  (
    IsGood-byte stored 8 one.session (λ session. nat_lt session 16) (lt-ltb one.session 16 is.session) stand.session,
    (
      IsGood-eight stored 9 one.nth (λ nth. nat_le 1 nth) is.counted (le-leb 1 one.nth is.begun) stand.nth,
      (IsGood-byte stored 17 (length one.writes) (λ count. nat_le count 16) (le-leb (length one.writes) 16 is.few) stand.count, tt),
    ),
  ),
)

-- a write of an entry that stands
write-not_bad : (pages : ℕ) (before : List Entry) (one : Entry) (stored more : List ℕ) (at : ℕ) → pages ≤ 2 ^ 32 → IsEntry pages one
    → All (λ write. stands_in (keys_in before) (key_of_write write) ≡ false) one.writes → EntryParts stored more one → IsRefusedWrite pages before stored at → ⊥
write-not_bad pages before one stored more at most is apart stand refused =
    let number : told_number stored ≡ one.number = told_eight-stands stored 0 one.number (omega (arith, is.number.most)) stand.number in
    let count : told_writes stored ≡ length one.writes =
    sym (get_or-drop 17 stored 0 0) ∙ first-of (drop 17 stored) (length one.writes) stand.count.bytes in
    let next = writes-front pages one.number (told_number stored) one.writes refused.writes more refused.rest most is.writes refused.are.each
    (omega (arith, refused.few, count)) (sym stand.behind ∙ refused.stored_is) in
    let here : IsWrite pages one.number next.one = All-middle (IsWrite pages one.number) refused.writes next.one next.behind (rw next.writes_are at is.writes) in
    let free : stands_in (keys_in before) (key_of_write next.one) ≡ false =
    All-middle (λ (write : Write). stands_in (keys_in before) (key_of_write write) ≡ false) refused.writes next.one next.behind (rw next.writes_are at apart) in
    let may : IsTrue (may_stand before refused.writes (key_of_write next.one)) =
    may_stand-from before refused.writes next.one next.behind (rw next.writes_are at is.rise) free in
    IsWrite-not_bad pages (told_number stored) before refused.writes next.one refused.rest next.more refused.place most (subst (λ (n : ℕ). IsWrite pages n next.one) (sym number) here) may next.rest_is refused.bad where
      first-of : (xs : List ℕ) (n : ℕ) → take 1 xs ≡ n ∷ [] → get_or xs 0 0 ≡ n
      first-of [] n is = absurd (cc is)
      first-of (x ∷ xs) n is = ap (λ (ys : List ℕ). get_or ys 0 0) is

-- An entry that stands, whose number follows and whose keys stand in none before, is not refused.
pub IsEntry-not_bad : (pages : ℕ) (before : List Entry) (one : Entry) (stored more : List ℕ) (at : ℕ) → pages ≤ 2 ^ 32 → IsEntry pages one
    → IsTrue (may_number before one.number) → All (λ write. stands_in (keys_in before) (key_of_write write) ≡ false) one.writes
    → stored ≡ entry_spelling one ++ more → IsBadEntry pages before stored at → ⊥
IsEntry-not_bad pages before one stored more at most is may apart stored_is (inl first) =
    AreGood-none_broken stored (entry_fields before) at (entry-good pages before one stored more is may (EntryParts-stands stored more one stored_is)) first
IsEntry-not_bad pages before one stored more at most is may apart stored_is (inr (good, refused)) =
    write-not_bad pages before one stored more at most is apart (EntryParts-stands stored more one stored_is) refused
