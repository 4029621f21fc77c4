-- Laws of fields: what stands at an offset of some bytes, which fields are good, and which is the first that is broken.
use Rattle.std.proofs.Common.{◌≡◌, ℕ, ◌+◌, ◌^◌, ◌<◌, ◌≤◌, inl, inr, Bool, false, List, [], ◌∷◌, ◌++◌, length, take, drop, get_or, refl, sym, ap, ◌∙◌, arith, length-append, length-drop}
use Rattle.std.specs.Prelude.{slice_index, Contains, IsTrue}
use Rattle.std.specs.Int.{w32, w64, from_be_bytes, to_be_bytes}
use Rattle.std.specs.List.{All}
use Rattle.std.proofs.lemmas.Bool.{both_ways, cases_lt}
use Rattle.std.proofs.lemmas.List.{append_assoc, drop-drop, drop-take, drop_at, drop_more, get_or-drop, get_or-take, get_or_past, length-take, length-take-le, take-append-drop, take-take, take_at}
use Rattle.std.proofs.lemmas.List.Elements.{All-cons, All-contains, All-contains_itself, All-weaker}
use Rattle.std.proofs.lemmas.Nat.{be_bytes_4, be_bytes_8, from_be_bytes-to_be_bytes_4, from_be_bytes-to_be_bytes_8}
use Rattle.store_model.specs.Field.{AreGood, Bytes, Field, IsBroken, IsFirstBroken, IsGood, KeyText, Number, told_four}
use Rattle.store_model.specs.Key.{IsBadAt}

-- numbers that are bytes
abbrev pub AreBytes : List ℕ → Type 0
AreBytes bytes = (i : ℕ) → slice_index bytes i < 256

-- this text stands at that offset
pub record TextStands (stored : List ℕ) (at : ℕ) (text : List ℕ) : Type 0 where
  pub whole : at + length text ≤ length stored
  pub bytes : take (length text) (drop at stored) ≡ text

-- the number that the eight bytes at an offset tell
abbrev pub told_eight : List ℕ → ℕ → ℕ
told_eight stored at = from_be_bytes w64 (take 8 (drop at stored))

-- the same text at the same offset
pub TextStands-at : (stored : List ℕ) (p q : ℕ) (text : List ℕ) → p ≡ q → TextStands stored p text → TextStands stored q text
TextStands-at stored p q text same stands = rw same at stands

-- a text at the front
pub TextStands-start : (stored text rest : List ℕ) → stored ≡ text ++ rest → TextStands stored 0 text
TextStands-start stored text rest is =
    record {
      whole = omega (arith, ap length is, length-append text rest);
      bytes = ap (take (length text)) is ∙ take_at text rest (length text) refl;
    }

-- what follows a text at the front
pub TextStands-rest : (stored text : List ℕ) → TextStands stored 0 text → stored ≡ text ++ drop (length text) stored
TextStands-rest stored text stands =
    sym (take-append-drop (length text) stored) ∙ ap (λ (xs : List ℕ). xs ++ drop (length text) stored) stands.bytes

-- the front of a text, and what is behind its front
pub TextStands-front : (stored : List ℕ) (at : ℕ) (a b : List ℕ) → TextStands stored at (a ++ b) → TextStands stored at a
TextStands-front stored at a b stands =
    let long : length (a ++ b) ≡ length a + length b = length-append a b in
    record {
      whole = omega (arith, stands.whole);
      bytes = sym (take-take (length a) (length (a ++ b)) (drop at stored) (omega arith)) ∙ ap (take (length a)) stands.bytes
          ∙ take_at a b (length a) refl;
    }

pub TextStands-back : (stored : List ℕ) (at : ℕ) (a b : List ℕ) → TextStands stored at (a ++ b) → TextStands stored (at + length a) b
TextStands-back stored at a b stands =
    let long : length (a ++ b) ≡ length a + length b = length-append a b in
    record {
      whole = omega (arith, stands.whole);
      bytes = ap (take (length b)) (sym (drop-drop (length a) at stored)) ∙ sym (drop-take (length a) (length b) (drop at stored))
          ∙ ap (λ (n : ℕ). drop (length a) (take n (drop at stored))) (sym long) ∙ ap (drop (length a)) stands.bytes ∙ drop_at a b (length a) refl;
    }

-- two pieces of a list, one after the other
pub take-plus : (m n : ℕ) (xs : List ℕ) → take (m + n) xs ≡ take m xs ++ take n (drop m xs)
take-plus m n xs =
    sym (take-append-drop m (take (m + n) xs)) ∙ ap (λ (ys : List ℕ). ys ++ drop m (take (m + n) xs)) (take-take m (m + n) xs (omega arith))
    ∙ ap (λ (ys : List ℕ). take m xs ++ ys) (drop-take m n xs)

-- two texts, one behind the other
pub TextStands-append : (stored : List ℕ) (at : ℕ) (a b : List ℕ) → TextStands stored at a → TextStands stored (at + length a) b → TextStands stored at (a ++ b)
TextStands-append stored at a b one other =
    let long : length (a ++ b) ≡ length a + length b = length-append a b in
    let second : take (length b) (drop (length a) (drop at stored)) ≡ b = ap (take (length b)) (drop-drop (length a) at stored) ∙ other.bytes in
    record {
      whole = omega (arith, other.whole);
      bytes = ap (λ (n : ℕ). take n (drop at stored)) long ∙ take-plus (length a) (length b) (drop at stored)
          ∙ ap (λ (xs : List ℕ). xs ++ take (length b) (drop (length a) (drop at stored))) one.bytes ∙ ap (λ (xs : List ℕ). a ++ xs) second;
    }

-- no text
pub TextStands-none : (stored : List ℕ) (at : ℕ) → at ≤ length stored → TextStands stored at []
TextStands-none stored at within = record { whole = omega arith; bytes = refl }

-- bytes that are there whole
pub TextStands-bytes : (stored : List ℕ) (at n : ℕ) (text : List ℕ) → at + n ≤ length stored → text ≡ take n (drop at stored) → TextStands stored at text
TextStands-bytes stored at n text whole is =
    let long : length text ≡ n = ap length is ∙ length-take-le n (drop at stored) (omega (arith, length-drop at stored)) in
    record { whole = omega arith; bytes = ap (λ (m : ℕ). take m (drop at stored)) long ∙ sym is }

-- a part of some bytes is bytes
part-bytes : (stored : List ℕ) (at n : ℕ) → AreBytes stored → AreBytes (take n (drop at stored))
part-bytes stored at n bytes i =
    elim (cases_lt i n) [
      | inl below ↦ rw (get_or-take n (drop at stored) i 0 below, get_or-drop at stored i 0) (bytes (at + i))
      | inr past ↦ rw (get_or_past (take n (drop at stored)) i 0 (omega (arith, length-take n (drop at stored)))) (omega arith)
    ]

-- one byte, and what is behind it
drop-next : (xs : List ℕ) (i j : ℕ) → i < length xs → i + 1 ≡ j → drop i xs ≡ get_or xs i 0 ∷ drop j xs
drop-next xs i j within next = drop_more xs i 0 within ∙ ap (λ (n : ℕ). get_or xs i 0 ∷ drop n xs) next

-- four bytes, one by one
take-four : (xs : List ℕ) (at : ℕ) → at + 4 ≤ length xs
    → take 4 (drop at xs) ≡ get_or xs at 0 ∷ get_or xs (at + 1) 0 ∷ get_or xs (at + 2) 0 ∷ get_or xs (at + 3) 0 ∷ []
take-four xs at within =
    ap (take 4) (drop-next xs at (at + 1) (omega arith) refl)
    ∙ ap (λ (ys : List ℕ). get_or xs at 0 ∷ take 3 ys) (drop-next xs (at + 1) (at + 2) (omega arith) (omega arith))
    ∙ ap (λ (ys : List ℕ). get_or xs at 0 ∷ get_or xs (at + 1) 0 ∷ take 2 ys) (drop-next xs (at + 2) (at + 3) (omega arith) (omega arith))
    ∙ ap (λ (ys : List ℕ). get_or xs at 0 ∷ get_or xs (at + 1) 0 ∷ get_or xs (at + 2) 0 ∷ take 1 ys) (drop-next xs (at + 3) (at + 4) (omega arith) (omega arith))

pub to_be_bytes-four : (stored : List ℕ) (at n : ℕ) → AreBytes stored → at + 4 ≤ length stored
    → n ≡ from_be_bytes w32 (get_or stored at 0 ∷ get_or stored (at + 1) 0 ∷ get_or stored (at + 2) 0 ∷ get_or stored (at + 3) 0 ∷ [])
    → to_be_bytes w32 n ≡ take 4 (drop at stored)
to_be_bytes-four stored at n bytes within is =
    be_bytes_4 (take 4 (drop at stored)) n (length-take-le 4 (drop at stored) (omega (arith, length-drop at stored))) (part-bytes stored at 4 bytes)
    (is ∙ ap (from_be_bytes w32) (sym (take-four stored at within)))

-- numbers, from their bytes and back
pub told_four-stands : (stored : List ℕ) (at n : ℕ) → n < 2 ^ 32 → TextStands stored at (to_be_bytes w32 n) → told_four stored at ≡ n
told_four-stands stored at n low stands = ap (from_be_bytes w32) stands.bytes ∙ from_be_bytes-to_be_bytes_4 n low

pub told_eight-stands : (stored : List ℕ) (at n : ℕ) → n < 2 ^ 64 → TextStands stored at (to_be_bytes w64 n) → told_eight stored at ≡ n
told_eight-stands stored at n low stands = ap (from_be_bytes w64) stands.bytes ∙ from_be_bytes-to_be_bytes_8 n low

pub TextStands-four : (stored : List ℕ) (at n : ℕ) → AreBytes stored → at + 4 ≤ length stored → n ≡ told_four stored at → TextStands stored at (to_be_bytes w32 n)
TextStands-four stored at n bytes whole is =
    TextStands-bytes stored at 4 (to_be_bytes w32 n) whole
    (be_bytes_4 (take 4 (drop at stored)) n (length-take-le 4 (drop at stored) (omega (arith, length-drop at stored))) (part-bytes stored at 4 bytes) is)

pub TextStands-eight : (stored : List ℕ) (at n : ℕ) → AreBytes stored → at + 8 ≤ length stored → n ≡ told_eight stored at → TextStands stored at (to_be_bytes w64 n)
TextStands-eight stored at n bytes whole is =
    TextStands-bytes stored at 8 (to_be_bytes w64 n) whole
    (be_bytes_8 (take 8 (drop at stored)) n (length-take-le 8 (drop at stored) (omega (arith, length-drop at stored))) (part-bytes stored at 8 bytes) is)

-- a field whose number or bytes stand there
pub IsGood-four : (stored : List ℕ) (at n : ℕ) (test : ℕ → Bool) → n < 2 ^ 32 → IsTrue (test n) → TextStands stored at (to_be_bytes w32 n)
    → IsGood stored (record { at = at; bytes = 4; rule = Number w32 test })
IsGood-four stored at n test low passes stands = record { whole = stands.whole; kept = ap test (told_four-stands stored at n low stands) ∙ passes }

pub IsGood-eight : (stored : List ℕ) (at n : ℕ) (test : ℕ → Bool) → n < 2 ^ 64 → IsTrue (test n) → TextStands stored at (to_be_bytes w64 n)
    → IsGood stored (record { at = at; bytes = 8; rule = Number w64 test })
IsGood-eight stored at n test low passes stands = record { whole = stands.whole; kept = ap test (told_eight-stands stored at n low stands) ∙ passes }

pub IsGood-bytes : (stored : List ℕ) (at n : ℕ) (text : List ℕ) (test : List ℕ → Bool) → length text ≡ n → IsTrue (test text) → TextStands stored at text
    → IsGood stored (record { at = at; bytes = n; rule = Bytes test })
IsGood-bytes stored at n text test long passes stands =
    let same : take n (drop at stored) ≡ text = ap (λ (m : ℕ). take m (drop at stored)) (sym long) ∙ stands.bytes in
    record { whole = omega (arith, stands.whole); kept = ap test same ∙ passes }

-- a field whose bytes keep the rule
pub IsGood-told_bytes : (stored : List ℕ) (at n : ℕ) (text : List ℕ) (test : List ℕ → Bool) → at + n ≤ length stored → text ≡ take n (drop at stored)
    → IsTrue (test text) → IsGood stored (record { at = at; bytes = n; rule = Bytes test })
IsGood-told_bytes stored at n text test whole told passes = record { whole = whole; kept = rw told at passes }

-- a field that is cut short, and one that breaks its rule
pub IsBroken-short : (stored : List ℕ) (field : Field) (at : ℕ) → length stored < field.at + field.bytes → at ≡ field.at → IsBroken stored field at
IsBroken-short stored field at short named = inl (record { short = short; named = named })

pub IsBroken-four : (stored : List ℕ) (at n : ℕ) (test : ℕ → Bool) → at + 4 ≤ length stored → n ≡ told_four stored at → test n ≡ false
    → IsBroken stored (record { at = at; bytes = 4; rule = Number w32 test }) at
IsBroken-four stored at n test whole told fails =
    inr (record { whole = whole; broken = rw told at fails; place = 0; named = refl; at_is = omega arith })

pub IsBroken-bytes : (stored : List ℕ) (at n : ℕ) (text : List ℕ) (test : List ℕ → Bool) → length text ≡ n → test text ≡ false → TextStands stored at text
    → IsBroken stored (record { at = at; bytes = n; rule = Bytes test }) at
IsBroken-bytes stored at n text test long fails stands =
    let same : take n (drop at stored) ≡ text = ap (λ (m : ℕ). take m (drop at stored)) (sym long) ∙ stands.bytes in
    inr (record { whole = omega (arith, stands.whole); broken = ap test same ∙ fails; place = 0; named = refl; at_is = omega arith })

pub IsBroken-key : (stored : List ℕ) (at n place : ℕ) (text : List ℕ) → at + n ≤ length stored → text ≡ take n (drop at stored)
    → IsBadAt text place → IsBroken stored (record { at = at; bytes = n; rule = KeyText }) (at + place)
IsBroken-key stored at n place text whole told bad =
    let named : IsBadAt (take n (drop at stored)) place = rw told at bad in
    inr (record { whole = whole; broken = named.no_key; place = place; named = named; at_is = refl })

-- good fields, one behind the other
pub AreGood-append : (stored : List ℕ) (a b : List Field) → AreGood stored a → AreGood stored b → AreGood stored (a ++ b)
AreGood-append stored [] b one other = other
AreGood-append stored (field ∷ a) b one other = (one.0, AreGood-append stored a b one.1 other)

pub AreGood-front : (stored : List ℕ) (a b : List Field) → AreGood stored (a ++ b) → AreGood stored a
AreGood-front stored [] b good = tt
AreGood-front stored (field ∷ a) b good = (good.0, AreGood-front stored a b good.1)

pub AreGood-back : (stored : List ℕ) (a b : List Field) → AreGood stored (a ++ b) → AreGood stored b
AreGood-back stored [] b good = good
AreGood-back stored (field ∷ a) b good = AreGood-back stored a b good.1

-- the same fields
pub AreGood-same : (stored : List ℕ) (a b : List Field) → a ≡ b → AreGood stored a → AreGood stored b
AreGood-same stored a b same good = rw same at good

-- no field is good and broken
pub IsGood-not_broken : (stored : List ℕ) (field : Field) (at : ℕ) → IsGood stored field → IsBroken stored field at → ⊥
IsGood-not_broken stored field at good (inl short) = omega (arith, good.whole, short.short)
IsGood-not_broken stored field at good (inr breaks) = both_ways _ breaks.broken good.kept

-- where all are good, none is the first that is broken
pub AreGood-none_broken : (stored : List ℕ) (fields : List Field) (at : ℕ) → AreGood stored fields → IsFirstBroken stored fields at → ⊥
AreGood-none_broken stored fields at good first =
    let all : AreGood stored (first.before ++ first.field ∷ first.behind) = AreGood-same stored fields _ first.fields_are good in
    let here = AreGood-back stored first.before (first.field ∷ first.behind) all in
    IsGood-not_broken stored first.field at here.0 first.bad

-- the first field is broken
pub IsFirstBroken-here : (stored : List ℕ) (field : Field) (behind : List Field) (at : ℕ) → IsBroken stored field at
    → IsFirstBroken stored (field ∷ behind) at
IsFirstBroken-here stored field behind at broken =
    record {
      before = [];
      field = field;
      behind = behind;
      fields_are = refl;
      good = λ one among. absurd (omega (arith, among.1));
      bad = broken;
    }

-- the first field is good, and one behind it is broken
pub IsFirstBroken-later : (stored : List ℕ) (field : Field) (fields : List Field) (at : ℕ) → IsGood stored field → IsFirstBroken stored fields at
    → IsFirstBroken stored (field ∷ fields) at
IsFirstBroken-later stored field fields at good first =
    let others : All (IsGood stored) first.before = All-weaker (Contains first.before) (IsGood stored) first.good first.before (All-contains_itself first.before) in
    record {
      before = field ∷ first.before;
      field = first.field;
      behind = first.behind;
      fields_are = ap (λ (fs : List Field). field ∷ fs) first.fields_are;
      good = λ one among. All-contains (IsGood stored) (field ∷ first.before) one (All-cons (IsGood stored) field first.before good others) among;
      bad = first.bad;
    }

-- one of the first fields is broken, whatever follows them
pub IsFirstBroken-front : (stored : List ℕ) (a b : List Field) (at : ℕ) → IsFirstBroken stored a at → IsFirstBroken stored (a ++ b) at
IsFirstBroken-front stored a b at first =
    record {
      before = first.before;
      field = first.field;
      behind = first.behind ++ b;
      fields_are = ap (λ (fs : List Field). fs ++ b) first.fields_are ∙ append_assoc first.before (first.field ∷ first.behind) b;
      good = first.good;
      bad = first.bad;
    }

-- the first fields are good, and one behind them is broken
pub IsFirstBroken-back : (stored : List ℕ) (a b : List Field) (at : ℕ) → AreGood stored a → IsFirstBroken stored b at → IsFirstBroken stored (a ++ b) at
IsFirstBroken-back stored [] b at good first = first
IsFirstBroken-back stored (field ∷ a) b at good first =
    IsFirstBroken-later stored field (a ++ b) at good.0 (IsFirstBroken-back stored a b at good.1 first)
