-- The writer of a half, as contracts see it.
use Rattle.std.specs.Prelude.{ℕ, ◌≡◌, ◌*◌, ◌<◌, ◌≤◌, ◌⊎◌, List, length}
use Rattle.store_model.specs.Disk.{page_bytes}
use Rattle.store_model.specs.Images.{Within}
use Rattle.store_model.specs.Layout.{Layout, header_page, log_page, states_page}
use Rattle.store_model.specs.State.{State}
use Rattle.check_point.specs.Halves.{Ends, spelled}
use Rattle.check_point.specs.declared.half.HalfWriter.TheInside.{Inside}

-- The half, and the last number that its header will tell; how many tuples were taken, how many bytes these take, and the page
-- on which those behind the full pages stand.
pub record Parts : Type 0 where
  pub layout : Layout
  pub half : ℕ
  pub last : ℕ
  pub count : ℕ
  pub taken : ℕ
  pub page : List ℕ

abbrev pub parts_of : Inside → Parts
parts_of writer = record { layout = writer.layout; half = writer.half; last = writer.last; count = writer.count; taken = writer.taken; page = writer.page }

-- the bytes have room, and each tuple takes some
pub record IsSound (writer : Inside) : Type 0 where
  pub half : writer.half < 2
  pub few : writer.count ≤ writer.taken
  pub most : writer.taken ≤ page_bytes * writer.layout.room

-- it has taken these tuples, in this order
pub record HasTaken (writer : Parts) (tuples : List (List ℕ × State)) : Type 0 where
  pub count : length tuples ≡ writer.count
  pub ends : Ends (spelled tuples) writer.taken writer.page

-- a page that finishing a half may write: one of its states, its header or its first gate
abbrev pub IsOfHalf : Layout → ℕ → ℕ → Type 0
IsOfHalf layout half p = Within (states_page layout half) layout.room p ⊎ (p ≡ header_page half) ⊎ (p ≡ log_page half)
