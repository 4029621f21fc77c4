-- Lists that are read and written piece by piece.
use Rattle.std.proofs.Common.{◌≡◌, ℕ, ◌+◌, ◌≤◌, List, [], ◌++◌, length, take, drop, Option, sym, ◌∙◌, ap, arith}
use Rattle.std.proofs.Math.Seq.{take-add}
use Rattle.std.proofs.Math.ListN.{length-drop}
use Rattle.std.proofs.lemmas.List.{take-append-drop, take-append-le, take_all, length-take, nil_from_length, drop-drop}
use Rattle.std.specs.Io.KnownBytes.{Appends}
use Rattle.std.proofs.KnownBytes.{Appends-trans}

-- a front of a list, put in front of other bytes
pub take-front : (n : ℕ) (bytes rest : List ℕ) → n ≤ length bytes → take n (take n bytes ++ rest) ≡ take n bytes
take-front n bytes rest within =
    let len : n ≤ length (take n bytes) = omega (arith, length-take n bytes) in
    take-append-le n (take n bytes) rest len ∙ take_all n (take n bytes) (omega (arith, length-take n bytes))

-- the bytes left, as those given now and those left behind them
pub drop-given : (bytes rest : List ℕ) (given n : ℕ) → n ≤ length (drop given bytes)
    → drop given bytes ≡ take n (take n (drop given bytes) ++ rest) ++ drop (given + n) bytes
drop-given bytes rest given n within =
    sym (ap (λ front. front ++ drop (given + n) bytes) (take-front n (drop given bytes) rest within)
    ∙ ap (λ back. take n (drop given bytes) ++ back) (sym (drop-drop n given bytes)) ∙ take-append-drop n (drop given bytes))

-- nothing is left behind a list's end
pub drop-all : (n : ℕ) (bytes : List ℕ) → length bytes ≤ n → drop n bytes ≡ []
drop-all n bytes past = nil_from_length (drop n bytes) (omega (arith, length-drop n bytes))

-- the first bytes of a piece, and then the next
pub Appends-more : (a b c : Option (List ℕ)) (piece : List ℕ) (gone count : ℕ) → Appends a b (take gone piece) → Appends b c (take count (drop gone piece)) → Appends a c (take (gone + count) piece)
Appends-more a b c piece gone count before now = rw (take-add gone count piece) (Appends-trans a b c _ _ before now)
