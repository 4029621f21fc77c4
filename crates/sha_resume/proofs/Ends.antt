-- How the last bytes of a message are taken in, and the digest as bytes.
use Rattle.std.proofs.Common.{◌≡◌, ℕ, suc, ◌+◌, ◌-◌, ◌*◌, ◌%◌, ◌≤◌, ◌<◌, List, [], ◌∷◌, ◌++◌, length, take, drop, replicate, refl, sym, ap, ◌∙◌, arith, length-append, w32}
use Rattle.std.specs.Prelude.{fold, slice_index, slice_set}
use Rattle.std.specs.Int.{to_be_bytes}
use Rattle.std.specs.List.{flat_map}
use Rattle.std.proofs.lemmas.List.{append_assoc, drop-replicate, set-append_right, length-replicate, take-replicate, take_more}
use Rattle.std.proofs.Math.Seq.{take-append-add}
use Rattle.std.proofs.lemmas.List.Sums.{fold-append}
use Rattle.std.proofs.lemmas.Grind.{flat_map-append}
use Rattle.std.proofs.lemmas.Slice.{take-put_mid}
use Rattle.store_model.specs.BlockFunction.{compress}
use Rattle.store_model.specs.Hash.{Leads, blocks, bytes_of_state, close, padding, state_after}
use Rattle.store_model.proofs.HashLaws.{blocks-next, state_after-append}
use borrow.Rule.Slice.PartMut.{put_mid}

-- one more block taken in
pub fold-blocks_next : (h bytes : List ℕ) (n : ℕ) → fold compress h (blocks (n + 1) bytes) ≡ compress (fold compress h (blocks n bytes)) (take 64 (drop (64 * n) bytes))
fold-blocks_next h bytes n =
    ap (fold compress h) (blocks-next n bytes) ∙ fold-append compress h (blocks n bytes) (take 64 (drop (64 * n) bytes) ∷ [])

-- one more word of a state written as bytes
pub flat_map-next : (out h word : List ℕ) (i k : ℕ) → length out ≡ 32 → i < length h → i < 8
    → take (4 * i) out ≡ flat_map (to_be_bytes w32) (take i h) → word ≡ to_be_bytes w32 (slice_index h i)
    → take (4 * (i + 1)) (put_mid (4 * i) k out word) ≡ flat_map (to_be_bytes w32) (take (i + 1) h)
flat_map-next out h word i k len low place before is =
    let four : length word ≡ 4 = rw is refl in
    let written : take (4 * (i + 1)) (put_mid (4 * i) k out word) ≡ take (4 * i) out ++ word = take-put_mid (4 * i) k out word (4 * (i + 1)) (omega arith) (omega arith) in
    let longer : take (i + 1) h ≡ take i h ++ slice_index h i ∷ [] = take_more h i 0 low in
    let both : flat_map (to_be_bytes w32) (take i h ++ slice_index h i ∷ []) ≡ flat_map (to_be_bytes w32) (take i h) ++ flat_map (to_be_bytes w32) (slice_index h i ∷ []) =
    flat_map-append (to_be_bytes w32) (take i h) (slice_index h i ∷ []) in
    written ∙ rw (before, is, longer, both) refl

-- the last bytes of a message, as they are laid into zeros: a tail of t bytes, the bit 1, z bytes of
-- zeros and the eight bytes of the length
pub take-laid : (t e z j k : ℕ) (tail stamp : List ℕ) → length tail ≡ t → length stamp ≡ 8 → t + 1 + z + 8 ≡ e → e ≤ 128 → j ≡ t
    → take e (put_mid (e - 8) k (slice_set (put_mid 0 j (replicate 128 0) tail) t 0x80) stamp) ≡ tail ++ (0x80 ∷ replicate z 0 ++ stamp)
take-laid t e z j k tail stamp len eight sum fits all =
    let zeros : List ℕ = replicate (127 - t) 0 in
    let left : 128 - j ≡ suc (127 - t) = omega arith in
    let text : put_mid 0 j (replicate 128 0) tail ≡ tail ++ (0 ∷ zeros) = ap (λ (ys : List ℕ). tail ++ ys) (drop-replicate j 128 0 ∙ ap (λ (n : ℕ). replicate n 0) left) in
    let start : t - t ≡ 0 = omega arith in
    let whole : List ℕ = tail ++ (0x80 ∷ zeros) in
    let marked : slice_set (tail ++ (0 ∷ zeros)) t 0x80 ≡ whole =
    set-append_right tail (0 ∷ zeros) t t 0x80 len (omega arith) ∙ ap (λ (i : ℕ). tail ++ slice_set (0 ∷ zeros) i 0x80) start in
    let long : length whole ≡ 128 = omega (arith, length-append tail (0x80 ∷ zeros), length-replicate {A = ℕ} (127 - t) 0) in
    let written : take e (put_mid (e - 8) k whole stamp) ≡ take (e - 8) whole ++ stamp =
    take-put_mid (e - 8) k whole stamp e (omega arith) (omega arith) in
    let place : e - 8 ≡ length tail + suc z = omega arith in
    let front : take (e - 8) whole ≡ tail ++ (0x80 ∷ replicate z 0) =
    ap (λ (n : ℕ). take n whole) place ∙ take-append-add tail (0x80 ∷ zeros) (suc z)
    ∙ ap (λ (ys : List ℕ). tail ++ (0x80 ∷ ys)) (take-replicate z (127 - t) 0 (omega arith)) in
    ap (λ (ys : List ℕ). take e (put_mid (e - 8) k ys stamp)) (ap (λ (ys : List ℕ). slice_set ys t 0x80) text ∙ marked)
    ∙ written ∙ ap (λ (ys : List ℕ). ys ++ stamp) front ∙ append_assoc tail (0x80 ∷ replicate z 0) stamp

-- the digest of a message whose last bytes are taken in as whole blocks, and then with the padding
pub bytes_of_state-close : (h rest whole tail middle last : List ℕ) (n : ℕ) → rest ≡ whole ++ tail → length whole % 64 ≡ 0
    → Leads h whole middle → Leads middle (tail ++ padding (64 * n + length rest)) last → bytes_of_state last ≡ close h n rest
unfolding close
bytes_of_state-close h rest whole tail middle last n parts edge first second =
    let pad : List ℕ = padding (64 * n + length rest) in
    let moved : rest ++ pad ≡ whole ++ (tail ++ pad) = ap (λ (x : List ℕ). x ++ pad) parts ∙ append_assoc whole tail pad in
    let led : state_after h (rest ++ pad) ≡ last =
    ap (state_after h) moved ∙ state_after-append h whole (tail ++ pad) edge ∙ ap (λ (s : List ℕ). state_after s (tail ++ pad)) first ∙ second in
    ap bytes_of_state (sym led)
