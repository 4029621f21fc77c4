-- The time and the images of a disk in memory, by a replay of its calls.
use Rattle.std.specs.Prelude.{ℕ, ◌≤◌, ◌≡◌, true, false, List, length, take}
use Rattle.std.proofs.Common.{refl, sym, subst}
use Rattle.std.proofs.Math.Nat.{le_refl, le_trans}
use Rattle.std.proofs.Math.Seq.{take-length}
use Rattle.disk_model.specs.declared.call.Call.{Call}
use Rattle.disk_model.specs.declared.call.Call.TheVariants.{Read, Write, Sync}
use Rattle.disk_model.specs.declared.call.Written.{Written}
use Rattle.disk_model.specs.Calls.{Replay, settled, replay_call, replay_calls, image_of, with_written}
use Rattle.store_model.specs.Disk.{HasPages, Image, zero_page}
use Rattle.store_model.specs.Images.{Story}
use Rattle.store_model.proofs.PageLaws.{HasPages-with_page, IsPage-zero_page, fold-keeps}

-- Whole pages, of which those that aren't pending read as they do.
pub record IsImage (replay : Replay) (image : Image) : Type 0 where
  pub pages : HasPages image
  pub rest : (page : ℕ) → replay.pending page ≡ false → image page ≡ replay.reads page

-- what a crash after one of these calls leaves, from the call of this number on
abbrev pub LeftSince : Replay → List Call → ℕ → Image → Type 0
LeftSince replay calls t image = (k : ℕ) × (t ≤ k) × (k ≤ length calls) × IsImage (replay_calls replay (take k calls)) image

-- The time is the number of calls. What the pages read as is an image, since each call keeps them whole.
abbrev pub story_of : List Written → List Call → Story
story_of start calls = record {
  time = length calls;
  reads = (replay_calls (settled (image_of start)) calls).reads;
  left = LeftSince (settled (image_of start)) calls;
  own = (
    length calls,
    le_refl (length calls),
    le_refl (length calls),
    subst (λ (all : List Call). IsImage (replay_calls (settled (image_of start)) all) (replay_calls (settled (image_of start)) calls).reads)
        (sym (take-length calls))
        (record {
          pages = fold-keeps (λ (replay : Replay). HasPages replay.reads) replay_call
              (λ replay call whole. elim call as (λ one. HasPages (replay_call replay one).reads) [
                | Read ↦ whole
                | Write written ↦ HasPages-with_page replay.reads written.page written.bytes.value written.whole whole
                | Sync true ↦ whole
                | Sync false ↦ whole
              ])
              (settled (image_of start)) calls
              (fold-keeps HasPages with_written (λ image written. HasPages-with_page image written.page written.bytes.value written.whole) (λ _. zero_page) start (λ _. IsPage-zero_page));
          rest = λ page old. refl;
        }),
  );
  since = λ t u image le most left. (left.0, le_trans le left.1, left.2, left.3);
  pages = λ t image left. left.3.pages;
}
