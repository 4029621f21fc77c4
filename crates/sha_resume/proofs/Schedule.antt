-- The words of a block's schedule, the ring of the last sixteen of them, and the rounds with them.
use Rattle.std.proofs.Common.{◌≡◌, ◌≢◌, ℕ, zero, suc, ◌+◌, ◌-◌, ◌*◌, ◌%◌, ◌<◌, ◌≤◌, List, [], ◌∷◌, length, drop, refl, sym, ap, ◌∙◌, add-one, arith, inl, inr, w32}
use Rattle.std.specs.Prelude.{nat_lt, slice_index, slice_set, true, false}
use Rattle.std.specs.Int.{from_be_bytes}
use Rattle.std.proofs.lemmas.Bool.{cases_lt, le-ltb, lt-ltb}
use Rattle.std.proofs.lemmas.List.{get_or-drop, get_or-set_other, get_or-set_same, get_or-take, get_or_append_left, get_or_push, length-set, length_push}
use Rattle.store_model.specs.BlockFunction.{block_word, later_word, round, round_constants, rounds, schedule, schedule_front, schedule_word}
use Rattle.sha_resume.specs.Ring.{IsRoundsAt, IsWindow, window_word}

-- a word of a block, byte by byte
pub block_word-bytes : (block : List ℕ) (t : ℕ) → block_word block t ≡ from_be_bytes w32
    (slice_index block (4 * t) ∷ slice_index block (4 * t + 1) ∷ slice_index block (4 * t + 2)
    ∷ slice_index block (4 * t + 3) ∷ [])
block_word-bytes block t =
    let each = λ (i : ℕ) (low : i < 4). get_or-take 4 (drop (4 * t) block) i 0 low ∙ get_or-drop (4 * t) block i 0 in
    let none : 4 * t + 0 ≡ 4 * t = omega arith in
    rw (each 0 (omega arith), each 1 (omega arith), each 2 (omega arith), each 3 (omega arith), none) refl

-- the first t words are t words
length-schedule_front : (block : List ℕ) (t : ℕ) → length (schedule_front block t) ≡ t
unfolding schedule_front
length-schedule_front block zero = refl
length-schedule_front block (suc t) =
    let words : List ℕ = schedule_front block t in
    omega (arith, length_push words (schedule_word block words t), length-schedule_front block t)

-- each word follows from those before it
schedule_front-at : (block : List ℕ) (n t : ℕ) → t < n
    → slice_index (schedule_front block n) t ≡ schedule_word block (schedule_front block t) t
unfolding schedule_front
schedule_front-at block zero t low = absurd (omega arith)
schedule_front-at block (suc n) t low =
    let words : List ℕ = schedule_front block n in
    let len : length words ≡ n = length-schedule_front block n in
    elim (cases_lt t n) [
      | inl lt ↦
          get_or_append_left words (schedule_word block words n ∷ []) 0 t (omega arith)
          ∙ schedule_front-at block n t lt
      | inr ge ↦
          let last : t ≡ n = omega arith in
          rw last (get_or_push words (schedule_word block words n) 0 n len)
    ]

-- a word is the same among more words
schedule_front-same : (block : List ℕ) (n t s : ℕ) → s < t → t ≤ n
    → slice_index (schedule_front block t) s ≡ slice_index (schedule_front block n) s
schedule_front-same block n t s low le =
    schedule_front-at block t s low ∙ sym (schedule_front-at block n s (omega arith))

-- the first sixteen words are the block's
schedule-first : (block : List ℕ) (t : ℕ) → t < 16 → slice_index (schedule block) t ≡ block_word block t
schedule-first block t low =
    let yes : nat_lt t 16 ≡ true = lt-ltb t 16 low in
    schedule_front-at block 64 t (omega arith) ∙ rw yes refl

-- each later word follows from those of the schedule
schedule-later : (block : List ℕ) (t : ℕ) → 16 ≤ t → t < 64
    → slice_index (schedule block) t ≡ later_word (schedule block) t
schedule-later block t from to =
    let no : nat_lt t 16 ≡ false = le-ltb t 16 from in
    let same = λ (s : ℕ) (low : s < t). schedule_front-same block 64 t s low (omega arith) in
    schedule_front-at block 64 t to
    ∙ rw (
      no,
      same (t - 2) (omega arith),
      same (t - 7) (omega arith),
      same (t - 15) (omega arith),
      same (t - 16) (omega arith),
    )
    refl

-- the ring that the block's words fill
pub IsWindow-first : (block window : List ℕ) → length window ≡ 16
    → ((k : ℕ) → k < 16 → slice_index window k ≡ block_word block k) → IsWindow window (schedule block) 16
IsWindow-first block window sixteen filled = record {
  sixteen = sixteen;
  holds = λ s before within.
      let place : s % 16 ≡ s = omega arith in
      ap (slice_index window) place ∙ filled s before ∙ sym (schedule-first block s before);
}

-- a word of the ring, by its place
ring_at : (window words : List ℕ) (t s place : ℕ) → IsWindow window words t → s < t → t ≤ s + 16 → place ≡ s % 16
    → slice_index window place ≡ slice_index words s
ring_at window words t s place ring before within at = ap (slice_index window) at ∙ ring.holds s before within

-- the word that the ring turns to
window_word-at : (block window : List ℕ) (t place : ℕ) → 16 ≤ t → t < 64 → place ≡ t % 16
    → IsWindow window (schedule block) t → window_word window place ≡ slice_index (schedule block) t
window_word-at block window t place from to at ring =
    let word = λ (s seat : ℕ) (before : s < t) (within : t ≤ s + 16) (is : seat ≡ s % 16).
    ring_at window (schedule block) t s seat ring before within is in
    rw (
      word (t - 2) ((place + 14) % 16) (omega arith) (omega arith) (omega arith),
      word (t - 7) ((place + 9) % 16) (omega arith) (omega arith) (omega arith),
      word (t - 15) ((place + 1) % 16) (omega arith) (omega arith) (omega arith),
      word (t - 16) place (omega arith) (omega arith) (omega arith),
    )
    (sym (schedule-later block t from to))

-- the ring with the next word in place of the oldest
IsWindow-next : (window words : List ℕ) (t place : ℕ) → place ≡ t % 16 → IsWindow window words t
    → IsWindow (slice_set window place (slice_index words t)) words (t + 1)
IsWindow-next window words t place at ring =
    let next : ℕ = slice_index words t in
    let sixteen : length window ≡ 16 = ring.sixteen in
    record {
      sixteen = length-set window place next ∙ sixteen;
      holds = λ s before within. elim (cases_lt s t) [
        | inl lt ↦
            let other : s % 16 ≢ place = omega arith in
            get_or-set_other window place (s % 16) next 0 other ∙ ring.holds s lt (omega arith)
        | inr ge ↦
            let last : s ≡ t = omega arith in
            rw (last, ← at) (get_or-set_same window place next 0 (omega arith))
      ];
    }

-- one more round, with its parts given by equations
rounds-next : (state words registers next : List ℕ) (t constant word : ℕ) → registers ≡ rounds state words t
    → constant ≡ slice_index round_constants t → word ≡ slice_index words t → next ≡ round registers constant word
    → next ≡ rounds state words (t + 1)
unfolding rounds
rounds-next state words registers next t constant word reached is_constant is_word is_next =
    is_next ∙ (λ i. round (reached i) (is_constant i) (is_word i)) ∙ rw add-one refl

-- one of the first sixteen rounds, which leave the ring
pub early-next : (block state window registers next : List ℕ) (t : ℕ) → t < 16
    → IsWindow window (schedule block) 16 → registers ≡ rounds state (schedule block) t
    → next ≡ round registers (slice_index round_constants t) (slice_index window t)
    → next ≡ rounds state (schedule block) (t + 1)
early-next block state window registers next t low ring reached is_next =
    let word : slice_index window t ≡ slice_index (schedule block) t =
    ring_at window (schedule block) 16 t t ring low (omega arith) (omega arith) in
    rounds-next state (schedule block) registers next t _ (slice_index window t) reached refl word is_next

-- a later round, which turns the ring
pub late-next : (block state window turned registers next : List ℕ) (t place word : ℕ) → 16 ≤ t → t < 64
    → place ≡ t % 16 → IsRoundsAt block state window registers t
    → word ≡ window_word window place → turned ≡ slice_set window place word
    → next ≡ round registers (slice_index round_constants t) word → IsRoundsAt block state turned next (t + 1)
late-next block state window turned registers next t place word from to at held is_word is_turned is_next =
    let scheduled : word ≡ slice_index (schedule block) t =
    is_word ∙ window_word-at block window t place from to at held.ring in
    record {
      ring = rw (is_turned, scheduled) (IsWindow-next window (schedule block) t place at held.ring);
      reached = rounds-next state (schedule block) registers next t _ word held.reached refl scheduled is_next;
    }

-- the same number of rounds, written in another way
pub IsRoundsAt-same : (block state window registers : List ℕ) (n k : ℕ) → n ≡ k
    → IsRoundsAt block state window registers n → IsRoundsAt block state window registers k
IsRoundsAt-same block state window registers n k same held = rw (← same) held
