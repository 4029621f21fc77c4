-- What calls on a disk leave it with.
use Rattle.std.specs.Prelude.{ℕ, IsTrue, Result}
use Rattle.blob_base.specs.Faults.{HasCause}
use Rattle.blob_base.specs.declared.faults.IoFault.{IoFault}
use Rattle.disk_model.specs.Frame.{KeepsDisk}
use Rattle.disk_model.specs.declared.disk.Disk.{Ghosts}
use Rattle.store_model.specs.Images.{Stayed, Story, Wrote}
use Rattle.store_model.specs.Disk.{zero_page, HasPages}
use Rattle.store_model.proofs.PageLaws.{IsPage-zero_page}

-- its size, its faults and its frugality are kept
abbrev pub Keeps : {D : Type 0} → Ghosts D → D → D → Type 0
Keeps g old new = KeepsDisk g.size g.faults g.frugal old new

-- a failure has its cause
abbrev pub Caused : {D T : Type 0} → Ghosts D → D → D → Result T IoFault → Type 0
Caused g old new result = HasCause g.faults g.frugal old new result

-- nothing was written
pub record OnlyReads {D : Type 0} (g : Ghosts D) (old new : D) : Type 0 where
  pub keeps : Keeps g old new
  pub stayed : IsTrue g.tells → Stayed (g.story old) (g.story new)

-- at most these pages were written
pub record OnlyWrites {D : Type 0} (g : Ghosts D) (pages : ℕ → Type 0) (old new : D) : Type 0 where
  pub keeps : Keeps g old new
  pub wrote : IsTrue g.tells → Wrote pages (g.story old) (g.story new)

-- of a disk that tells nothing
abbrev pub untold : Story
untold = record {
  time = 0;
  reads = λ _. zero_page;
  left = λ t image. HasPages image;
  own = λ _. IsPage-zero_page;
  since = λ t u image le most left. left;
  pages = λ t image left. left;
}
