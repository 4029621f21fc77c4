-- The page of a header, piece by piece.
use Rattle.std.proofs.Common.{◌≡◌, ℕ, ◌+◌, ◌/◌, ◌<◌, List, [], ◌++◌, length, refl, sym, ap, ◌∙◌, arith, w32, w64, length-append}
use Rattle.std.specs.Prelude.{codes}
use Rattle.std.specs.Int.{to_be_bytes}
use Rattle.store_model.specs.Disk.{page_bytes, page_of, zero_page}
use Rattle.store_model.specs.Half.{header_spelling}
use Rattle.store_model.specs.Layout.{Layout}
use Rattle.store_model.specs.Log.{body_page}
use Rattle.check_point.specs.Halves.{Ends}
use Rattle.check_point.proofs.Appendings.{page-end, page-none}

-- a page of zeros, with no bytes on it
pub Ends-none : Ends [] 0 zero_page
Ends-none = record { taken_is = refl; page_is = sym (page-none [] 0 (omega arith)) }

-- one more piece on the first page
Ends-piece : (bytes piece is page put : List ℕ) (taken next : ℕ) → Ends bytes taken page → piece ≡ is → taken + length is ≡ next → next < page_bytes
    → ((before : List ℕ) → Ends before taken page → put ≡ body_page (before ++ piece) (taken / page_bytes)) → Ends (bytes ++ is) next put
Ends-piece bytes piece is page put taken next ends same next_is less filled = record {
  taken_is = omega (arith, length-append bytes is, ends.taken_is, next_is);
  page_is = filled bytes ends ∙ ap (λ (xs : List ℕ). body_page (bytes ++ xs) (taken / page_bytes)) same
      ∙ ap (λ (i : ℕ). body_page (bytes ++ is) i) (let e : taken / page_bytes ≡ next / page_bytes = omega (arith, next_is, less) in e);
}

-- less than a page of bytes stand on the first page
Ends-first : (bytes page : List ℕ) (taken : ℕ) → Ends bytes taken page → taken < page_bytes → page ≡ page_of bytes
Ends-first bytes page taken ends less =
    ends.page_is ∙ ap (λ (i : ℕ). body_page bytes i) (let e : taken / page_bytes ≡ 0 = omega (arith, less) in e) ∙ page-end bytes 0 (omega (arith, ends.taken_is, less))

-- Each piece of a header was put behind the one before.
pub header-laid : (layout : Layout) (last count taken : ℕ) (version units room number many bytes one two three four five six seven : List ℕ)
    → version ≡ to_be_bytes w32 1 → units ≡ to_be_bytes w32 layout.units → room ≡ to_be_bytes w32 layout.room
    → number ≡ to_be_bytes w64 last → many ≡ to_be_bytes w32 count → bytes ≡ to_be_bytes w32 taken
    → ((before : List ℕ) → Ends before 0 zero_page → one ≡ body_page (before ++ codes "BLOBHALF") (0 / page_bytes))
    → ((before : List ℕ) → Ends before 8 one → two ≡ body_page (before ++ version) (8 / page_bytes))
    → ((before : List ℕ) → Ends before 12 two → three ≡ body_page (before ++ units) (12 / page_bytes))
    → ((before : List ℕ) → Ends before 16 three → four ≡ body_page (before ++ room) (16 / page_bytes))
    → ((before : List ℕ) → Ends before 20 four → five ≡ body_page (before ++ number) (20 / page_bytes))
    → ((before : List ℕ) → Ends before 28 five → six ≡ body_page (before ++ many) (28 / page_bytes))
    → ((before : List ℕ) → Ends before 32 six → seven ≡ body_page (before ++ bytes) (32 / page_bytes))
    → seven ≡ page_of (header_spelling layout last count taken)
header-laid layout last count taken version units room number many bytes one two three four five six seven v u r n m b f1 f2 f3 f4 f5 f6 f7 =
    let a : List ℕ = codes "BLOBHALF" in
    let v' : List ℕ = to_be_bytes w32 1 in
    let u' : List ℕ = to_be_bytes w32 layout.units in
    let r' : List ℕ = to_be_bytes w32 layout.room in
    let n' : List ℕ = to_be_bytes w64 last in
    let m' : List ℕ = to_be_bytes w32 count in
    let b' : List ℕ = to_be_bytes w32 taken in
    let e1 : Ends a 8 one = Ends-piece [] a a zero_page one 0 8 Ends-none refl refl (omega arith) f1 in
    let e2 : Ends (a ++ v') 12 two = Ends-piece a version v' one two 8 12 e1 v refl (omega arith) f2 in
    let e3 : Ends (a ++ v' ++ u') 16 three = Ends-piece (a ++ v') units u' two three 12 16 e2 u refl (omega arith) f3 in
    let e4 : Ends (a ++ v' ++ u' ++ r') 20 four = Ends-piece (a ++ v' ++ u') room r' three four 16 20 e3 r refl (omega arith) f4 in
    let e5 : Ends (a ++ v' ++ u' ++ r' ++ n') 28 five = Ends-piece (a ++ v' ++ u' ++ r') number n' four five 20 28 e4 n refl (omega arith) f5 in
    let e6 : Ends (a ++ v' ++ u' ++ r' ++ n' ++ m') 32 six = Ends-piece (a ++ v' ++ u' ++ r' ++ n') many m' five six 28 32 e5 m refl (omega arith) f6 in
    let e7 : Ends (a ++ v' ++ u' ++ r' ++ n' ++ m' ++ b') 36 seven = Ends-piece (a ++ v' ++ u' ++ r' ++ n' ++ m') bytes b' six seven 32 36 e6 b refl (omega arith) f7 in
    Ends-first (header_spelling layout last count taken) seven 36 e7 (omega arith)
