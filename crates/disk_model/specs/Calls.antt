-- What a record of a disk's calls says.
use Rattle.std.specs.Prelude.{ℕ, ◌==◌, ◌||◌, Bool, true, false, List, fold, count_by, if◌then◌else◌}
use Rattle.std.specs.List.{list_all}
use Rattle.disk_model.specs.declared.call.Call.{Call}
use Rattle.disk_model.specs.declared.call.Call.TheVariants.{Read, Write, Sync}
use Rattle.disk_model.specs.declared.call.Pick.{Pick}
use Rattle.disk_model.specs.declared.call.Written.{Written}
use Rattle.store_model.specs.Disk.{Image, Calls, with_page, zero_page}

-- which calls are reads, writes and syncs
abbrev pub is_read : Call → Bool
is_read Read = true
is_read (Write written) = false
is_read (Sync done) = false

abbrev pub is_write : Call → Bool
is_write Read = false
is_write (Write written) = true
is_write (Sync done) = false

abbrev pub is_sync : Call → Bool
is_sync Read = false
is_sync (Write written) = false
is_sync (Sync done) = true

-- how many there are of each kind
abbrev pub calls_of : List Call → Calls
calls_of calls = record { reads = count_by is_read calls; writes = count_by is_write calls; syncs = count_by is_sync calls }

-- with what was written
abbrev pub with_written : Image → Written → Image
with_written image written = with_page image written.page written.bytes.value

-- with what was written, one after another, where the pages were zeros
abbrev pub image_of : List Written → Image
image_of writes = fold with_written (λ _. zero_page) writes

-- what the pages read as after a call
abbrev pub image_after : Image → Call → Image
image_after image Read = image
image_after image (Write written) = with_written image written
image_after image (Sync done) = image

-- with what a crash leaves on a page
abbrev pub with_pick : Image → Pick → Image
with_pick image pick = with_page image pick.page pick.bytes

-- with what it leaves on each of these, one after another
abbrev pub with_picks : Image → List Pick → Image
with_picks image picks = fold with_pick image picks

-- What the pages read as, what they read as at the last sync that was done, and which were written since then.
pub record Replay : Type 0 where
  pub reads : Image
  pub synced : Image
  pub pending : ℕ → Bool

-- nothing is pending
abbrev pub settled : Image → Replay
settled image = record { reads = image; synced = image; pending = λ _. false }

-- what a call makes of it
abbrev pub replay_call : Replay → Call → Replay
replay_call replay Read = replay
replay_call replay (Write written) = record {
  reads = with_written replay.reads written;
  synced = replay.synced;
  pending = λ page. page == written.page || replay.pending page;
}
replay_call replay (Sync done) = if done then settled replay.reads else replay

-- what these calls make of it
abbrev pub replay_calls : Replay → List Call → Replay
replay_calls replay calls = fold replay_call replay calls

-- what a crash leaves on the pages that were pending, and on the others what they read as at the last sync that was done
abbrev pub crashed : Replay → List Pick → Image
crashed replay picks = with_picks replay.synced picks

-- each is on a page that is pending
abbrev pub are_pending : Replay → List Pick → Bool
are_pending replay picks = list_all (λ pick. replay.pending pick.page) picks
