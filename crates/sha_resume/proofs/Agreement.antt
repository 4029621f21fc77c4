-- The block function and the digest as they are defined here are those that the library's crate sha2 defines.
use Rattle.std.proofs.Common.{◌≡◌, ℕ, zero, suc, ◌+◌, ◌*◌, ◌/◌, ◌%◌, ◌^◌, ◌≤◌, ◌<◌, List, [], ◌∷◌, ◌++◌, length, take, drop, refl, sym, ap, ◌∙◌, add_comm, arith, add-one, w32}
use Rattle.std.specs.Prelude.{fold, nat_lt, slice_index, true, false}
use Rattle.std.specs.Int.{to_be_bytes}
use Rattle.std.specs.List.{flat_map}
use Rattle.std.proofs.lemmas.Bool.{le-ltb, lt-ltb}
use Rattle.std.proofs.lemmas.List.{take_all, take_more}
use Rattle.std.proofs.lemmas.Grind.{flat_map-append}
use Rattle.sha2.specs.Sha256.{add_state, compress as library_compress, digest_bytes, final_hash, first_words, hash_after, initial_hash_256, padded_message, padding as library_padding, rounds as library_rounds, schedule as library_schedule, sha256 as library_sha256}
use Rattle.store_model.specs.BlockFunction.{compress, round, round_constants, rounds, schedule, schedule_front, sums}
use Rattle.store_model.specs.Hash.{blocks, bytes_of_state, initial_state, padding, sha256, state_after}
use Rattle.sha_resume.proofs.Ends.{fold-blocks_next}
use Rattle.sha_resume.proofs.Schedule.{block_word-bytes}

-- the words of a block, by both
schedule_front-first_words : (block : List ℕ) (t : ℕ) → t ≤ 16 → schedule_front block t ≡ first_words block t
unfolding schedule_front first_words
schedule_front-first_words block zero low = refl
schedule_front-first_words block (suc t) low =
    let yes : nat_lt t 16 ≡ true = lt-ltb t 16 (omega arith) in
    rw (yes, schedule_front-first_words block t (omega arith), block_word-bytes block t) refl

-- the words of a schedule, by both
schedule_front-agrees : (block : List ℕ) (n : ℕ) → schedule_front block (n + 16) ≡ library_schedule block n
unfolding schedule_front library_schedule
schedule_front-agrees block zero = schedule_front-first_words block 16 (omega arith)
schedule_front-agrees block (suc n) =
    let next : suc n + 16 ≡ suc (n + 16) = omega arith in
    let no : nat_lt (n + 16) 16 ≡ false = le-ltb (n + 16) 16 (omega arith) in
    rw (next, no, schedule_front-agrees block n) refl

-- the working variables after some rounds, by both
rounds-agree : (state words : List ℕ) (t : ℕ) → rounds state words t ≡ library_rounds state words t
unfolding rounds library_rounds
rounds-agree state words zero = refl
rounds-agree state words (suc t) =
    ap (λ (variables : List ℕ). round variables (slice_index round_constants t) (slice_index words t))
    (rounds-agree state words t)

-- sums of words, by both
sums-agree : (state variables : List ℕ) → sums state variables ≡ add_state state variables
sums-agree state variables =
    let each = λ (k : ℕ). ap (λ (n : ℕ). n % 2 ^ 32) (add_comm (slice_index variables k) (slice_index state k)) in
    (λ i. each 0 i ∷ each 1 i ∷ each 2 i ∷ each 3 i ∷ each 4 i ∷ each 5 i ∷ each 6 i ∷ each 7 i ∷ [])

-- the state after one more block, by both: from any state, and for any block
compress-agrees : (state block : List ℕ) → compress state block ≡ library_compress state block
unfolding compress library_compress
compress-agrees state block =
    sums-agree state (rounds state (schedule block) 64)
    ∙ ap (add_state state) (rounds-agree state (schedule block) 64)
    ∙ ap (λ (words : List ℕ). add_state state (library_rounds state words 64)) (schedule_front-agrees block 48)

-- the state after the first n blocks, by both
fold-hash_after : (h bytes : List ℕ) (n : ℕ) → fold compress h (blocks n bytes) ≡ hash_after h bytes n
unfolding hash_after blocks
fold-hash_after h bytes zero = refl
fold-hash_after h bytes (suc n) =
    let place : 64 * n ≡ n * 64 = omega arith in
    rw add-one at (fold-blocks_next h bytes n)
    ∙ ap (λ (k : ℕ). compress (fold compress h (blocks n bytes)) (take 64 (drop k bytes))) place
    ∙ ap (λ (s : List ℕ). compress s (take 64 (drop (n * 64) bytes))) (fold-hash_after h bytes n)
    ∙ compress-agrees (hash_after h bytes n) (take 64 (drop (n * 64) bytes))

-- the state after the whole blocks, by both
pub state_after-agrees : (h bytes : List ℕ) → state_after h bytes ≡ hash_after h bytes (length bytes / 64)
unfolding state_after
state_after-agrees h bytes = fold-hash_after h bytes (length bytes / 64)

-- a state stays one of eight words
length-hash_after : (h bytes : List ℕ) (n : ℕ) → length h ≡ 8 → length (hash_after h bytes n) ≡ 8
unfolding hash_after library_compress
length-hash_after h bytes zero eight = eight
length-hash_after h bytes (suc n) eight = refl

-- the first n words of a state, by both
flat_map-digest_bytes : (h : List ℕ) (n : ℕ) → n ≤ length h → flat_map (to_be_bytes w32) (take n h) ≡ digest_bytes h n
unfolding digest_bytes
flat_map-digest_bytes h zero low = refl
flat_map-digest_bytes h (suc n) low =
    let longer : take (suc n) h ≡ take n h ++ slice_index h n ∷ [] = rw add-one at (take_more h n 0 (omega arith)) in
    let both = flat_map-append (to_be_bytes w32) (take n h) (slice_index h n ∷ []) in
    rw (longer, both, flat_map-digest_bytes h n (omega arith)) refl

padding-agrees : (n : ℕ) → n < 2 ^ 60 → padding n ≡ library_padding n
unfolding padding
padding-agrees n low =
    let bits : 8 * n ≡ n * 8 % 2 ^ 64 = omega arith in
    rw bits refl

pub sha256-agrees : (message : List ℕ) → length message < 2 ^ 60 → sha256 message ≡ library_sha256 message
unfolding sha256 library_sha256 bytes_of_state
sha256-agrees message low =
    let padded : message ++ padding (length message) ≡ padded_message message = ap (λ (p : List ℕ). message ++ p) (padding-agrees (length message) low) in
    let text : List ℕ = padded_message message in
    let state : List ℕ = final_hash initial_hash_256 message in
    let eight : length state ≡ 8 = length-hash_after initial_hash_256 text (length text / 64) refl in
    ap (λ (p : List ℕ). flat_map (to_be_bytes w32) (state_after initial_state p)) padded
    ∙ ap (flat_map (to_be_bytes w32)) (state_after-agrees initial_state text)
    ∙ ap (flat_map (to_be_bytes w32)) (sym (take_all 8 state (omega arith)))
    ∙ flat_map-digest_bytes state 8 (omega arith)
