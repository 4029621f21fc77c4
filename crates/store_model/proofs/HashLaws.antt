-- Laws of the definitions of SHA-256: pieces of a message taken in one after another, and the digest
-- of a message whose first blocks are known by the state that they lead to.
use Rattle.std.proofs.Common.{◌≡◌, ℕ, zero, suc, ◌+◌, ◌-◌, ◌*◌, ◌/◌, ◌%◌, ◌≤◌, List, [], ◌∷◌, ◌++◌, length, take, drop, replicate, w64, refl, ap, ◌∙◌, arith, add-one, zero-add, length-append, length-drop}
use Rattle.std.specs.Prelude.{fold}
use Rattle.std.specs.Int.{to_be_bytes}
use Rattle.std.proofs.lemmas.List.{append_assoc, drop-append-le, drop-drop, length-replicate, take-append-le}
use Rattle.std.proofs.lemmas.List.Sums.{fold-append}
use Rattle.store_model.specs.BlockFunction.{compress}
use Rattle.store_model.specs.Hash.{Leads, blocks, close, initial_state, padding, sha256, state_after}

-- one more block
pub blocks-next : (n : ℕ) (bytes : List ℕ) → blocks (n + 1) bytes ≡ blocks n bytes ++ take 64 (drop (64 * n) bytes) ∷ []
unfolding blocks
blocks-next zero bytes = refl
blocks-next (suc n) bytes =
    let rest : drop (64 * n) (drop 64 bytes) ≡ drop (64 * suc n) bytes =
    drop-drop (64 * n) 64 bytes ∙ ap (λ (k : ℕ). drop k bytes) (omega arith) in
    rw add-one (ap (λ (bs : List (List ℕ)). take 64 bytes ∷ bs)
    (rw add-one at (blocks-next n (drop 64 bytes)) ∙ ap (λ (b : List ℕ). blocks n (drop 64 bytes) ++ take 64 b ∷ []) rest))

-- the blocks of two lists, of which the first has whole blocks only
pub blocks-append : (n k : ℕ) (first rest : List ℕ) → length first ≡ 64 * n → blocks (n + k) (first ++ rest) ≡ blocks n first ++ blocks k rest
unfolding blocks
blocks-append zero k [] rest len = ap (λ (i : ℕ). blocks i rest) (zero-add k)
blocks-append zero k (x ∷ first) rest len = absurd (omega arith)
blocks-append (suc n) k first rest len =
    let count : suc n + k ≡ suc (n + k) = omega arith in
    let full : 64 ≤ length first = omega arith in
    let left : length (drop 64 first) ≡ 64 * n = omega (arith, length-drop 64 first) in
    rw (count, take-append-le 64 first rest full, drop-append-le 64 first rest full)
    (ap (λ (bs : List (List ℕ)). take 64 first ∷ bs) (blocks-append n k (drop 64 first) rest left))

-- whole blocks and what follows them
pub state_after-append : (h first rest : List ℕ) → length first % 64 ≡ 0 → state_after h (first ++ rest) ≡ state_after (state_after h first) rest
unfolding state_after
state_after-append h first rest whole =
    let n : ℕ = length first / 64 in
    let k : ℕ = length rest / 64 in
    let len : length first ≡ 64 * n = omega arith in
    let count : length (first ++ rest) / 64 ≡ n + k = omega (arith, length-append first rest) in
    rw (count, blocks-append n k first rest len) (fold-append compress h (blocks n first) (blocks k rest))

-- the digest of a message, from the state that its first blocks lead to
pub close-Leads : (h first rest : List ℕ) (n : ℕ) → length first ≡ 64 * n → Leads initial_state first h → close h n rest ≡ sha256 (first ++ rest)
unfolding close sha256
close-Leads h first rest n len led =
    let count : length (first ++ rest) ≡ 64 * n + length rest = omega (arith, length-append first rest) in
    rw (← led, count, append_assoc, state_after-append initial_state first (rest ++ padding (64 * n + length rest)) (omega arith)) refl

-- what a first piece and then a second lead to, the two together lead to
pub Leads-append : (h first middle rest end : List ℕ) → length first % 64 ≡ 0 → Leads h first middle → Leads middle rest end
    → Leads h (first ++ rest) end
Leads-append h first middle rest end whole led on =
    state_after-append h first rest whole ∙ ap (λ (s : List ℕ). state_after s rest) led ∙ on

-- no bytes leave a state as it is
pub Leads-empty : (h : List ℕ) → Leads h [] h
unfolding state_after blocks
Leads-empty h = refl

-- a whole message as the end of one
pub close-initial_state : (message : List ℕ) → close initial_state 0 message ≡ sha256 message
close-initial_state message = close-Leads initial_state [] message 0 refl (Leads-empty initial_state)

-- a state has eight words after any blocks
length-fold : (h : List ℕ) (all : List (List ℕ)) → length h ≡ 8 → length (fold compress h all) ≡ 8
unfolding compress
length-fold h [] eight = eight
length-fold h (b ∷ all) eight = length-fold (compress h b) all refl

pub length-state_after : (h bytes : List ℕ) → length h ≡ 8 → length (state_after h bytes) ≡ 8
unfolding state_after
length-state_after h bytes eight = length-fold h (blocks (length bytes / 64) bytes) eight

-- a message and its padding are whole blocks
pub length-padding : (n : ℕ) → (n + length (padding n)) % 64 ≡ 0
unfolding padding
length-padding n =
    let zeros : ℕ = (119 - n % 64) % 64 in
    let stamp : List ℕ = to_be_bytes w64 (8 * n) in
    let eight : length stamp ≡ 8 = refl in
    let whole = length-append (0x80 ∷ replicate zeros 0) stamp in
    omega (arith, whole, eight, length-replicate {A = ℕ} zeros 0)
