-- What the bytes give that were read for a state, whichever these are.
use Rattle.std.specs.Prelude.{ℕ, ◌+◌, ◌*◌, ◌/◌, ◌%◌, ◌≡◌, List, length}
use Rattle.store_model.specs.Disk.{page_bytes}
use Rattle.store_model.specs.Hash.{Leads, close}
use Rattle.store_model.specs.State.{State}
use Rattle.store_model.specs.Verify.{link_value}
use Rattle.extent_io.specs.Pages.{part_begin}

-- Some bytes of so many pages lead from one hash state to the other.
pub record LeadOver (pages : ℕ) (before after : List ℕ) : Type 0 where
  pub bytes : List ℕ
  pub size : length bytes ≡ page_bytes * pages
  pub leads : Leads before bytes after

-- Some bytes, as many as a size has behind its full pages, give this digest from a hash state.
pub record ClosesOver (size : ℕ) (before digest : List ℕ) : Type 0 where
  pub bytes : List ℕ
  pub size_is : length bytes ≡ size % page_bytes
  pub closes : digest ≡ close before (64 * (size / page_bytes)) bytes

-- A link gives this value over some bytes, as many as the link has.
pub record GivesOver (state : State) (link : ℕ) (value : List ℕ) : Type 0 where
  pub bytes : List ℕ
  pub size : part_begin state link + length bytes ≡ part_begin state (link + 1)
  pub value_is : value ≡ link_value (λ _. bytes) bytes state link
