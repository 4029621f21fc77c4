-- What stands in a buffer after writes of its parts, one behind the other.
use Rattle.std.proofs.Common.{◌≡◌, ℕ, ◌+◌, ◌<◌, ◌≤◌, List, [], ◌∷◌, ◌++◌, length, take, drop, slice_set, sym, ap, ◌∙◌, arith, length-append, length-drop}
use Rattle.std.proofs.lemmas.List.{append_assoc, append-nil, drop_all, take_at}
use Rattle.std.proofs.lemmas.Slice.{take-put_mid}
use borrow.Rule.Slice.PartMut.{put_mid}

-- a write up to the end
pub put_mid-end : (a k : ℕ) (xs ys : List ℕ) → length xs ≤ a + k → put_mid a k xs ys ≡ take a xs ++ ys
put_mid-end a k xs ys end =
    let none : drop k (drop a xs) ≡ [] = drop_all k (drop a xs) (omega (arith, length-drop a xs)) in
    ap (λ (zs : List ℕ). take a xs ++ (ys ++ zs)) none ∙ ap (λ (zs : List ℕ). take a xs ++ zs) (append-nil ys)

-- a front, and then all behind it
pub laid-two : (out front a b : List ℕ) (n k : ℕ) → a ≡ front ++ drop n out → length front ≡ n → length a ≤ n + k → put_mid n k a b ≡ front ++ b
laid-two out front a b n k is len end =
    put_mid-end n k a b end ∙ ap (λ (xs : List ℕ). xs ++ b) (ap (take n) is ∙ take_at front (drop n out) n len)

-- a first byte, and then all behind it
pub laid-key : (out text : List ℕ) (n k : ℕ) → 0 < length out → length out ≤ 1 + k → put_mid 1 k (slice_set out 0 n) text ≡ n ∷ text
laid-key [] text n k some end = absurd (omega arith)
laid-key (x ∷ out) text n k some end = put_mid-end 1 k (n ∷ out) text end

-- two numbers, 32 bytes, and all behind them
pub laid-fields : (out rest size born digest prefix a w : List ℕ) (k m : ℕ) → a ≡ size ++ drop 4 out → w ≡ born ++ drop 8 rest
    → length size ≡ 4 → length born ≡ 8 → length digest ≡ 32 → length a ≤ 4 + k
    → length (put_mid 12 32 (put_mid 4 k a w) digest) ≤ 44 + m
    → put_mid 44 m (put_mid 12 32 (put_mid 4 k a w) digest) prefix ≡ size ++ born ++ digest ++ prefix
laid-fields out rest size born digest prefix a w k m first second four eight bytes end last =
    let b : List ℕ = put_mid 4 k a w in
    let two : b ≡ (size ++ born) ++ drop 8 rest =
    laid-two out size a w 4 k first four end ∙ ap (λ (xs : List ℕ). size ++ xs) second ∙ sym (append_assoc size born (drop 8 rest)) in
    let twelve : length (size ++ born) ≡ 12 = omega (arith, length-append size born) in
    let front : take 12 b ≡ size ++ born = ap (take 12) two ∙ take_at (size ++ born) (drop 8 rest) 12 twelve in
    let long : 12 ≤ length b = omega (arith, ap length two, length-append (size ++ born) (drop 8 rest)) in
    let three : take 44 (put_mid 12 32 b digest) ≡ (size ++ born) ++ digest =
    take-put_mid 12 32 b digest 44 (omega arith) long ∙ ap (λ (xs : List ℕ). xs ++ digest) front in
    put_mid-end 44 m (put_mid 12 32 b digest) prefix last ∙ ap (λ (xs : List ℕ). xs ++ prefix) three
