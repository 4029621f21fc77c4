-- What the block function's code keeps of a block's schedule: a ring of the last sixteen words, word s at place s % 16.
use Rattle.std.specs.Prelude.{◌≡◌, ℕ, ◌+◌, ◌%◌, ◌<◌, ◌≤◌, List, length, slice_index}
use Rattle.store_model.specs.BlockFunction.{◌⊞◌, lower_sigma0, lower_sigma1, rounds, schedule}

-- the ring has the sixteen words before word t
pub record IsWindow (window words : List ℕ) (t : ℕ) : Type 0 where
  pub sixteen : length window ≡ 16
  pub holds : (s : ℕ) → s < t → t ≤ s + 16 → slice_index window (s % 16) ≡ slice_index words s

-- the ring before word t of a block, and the working variables after t rounds on the block from a state
pub record IsRoundsAt (block state window registers : List ℕ) (t : ℕ) : Type 0 where
  pub ring : IsWindow window (schedule block) t
  pub reached : registers ≡ rounds state (schedule block) t

-- the schedule's next word, whose place in the ring is that of the oldest
abbrev pub window_word : List ℕ → ℕ → ℕ
window_word window place =
    lower_sigma1 (slice_index window ((place + 14) % 16)) ⊞ slice_index window ((place + 9) % 16)
    ⊞ lower_sigma0 (slice_index window ((place + 1) % 16)) ⊞ slice_index window place
