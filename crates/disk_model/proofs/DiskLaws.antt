-- Laws of what calls on a disk keep.
use Rattle.std.proofs.Common.{ℕ, Result, refl, ◌∙◌}
use Rattle.blob_base.specs.declared.faults.IoFault.{IoFault}
use Rattle.blob_base.proofs.FaultLaws.{HasCause-since, KeepsEnd-none, KeepsEnd-then}
use Rattle.disk_model.specs.Disks.{Caused, Keeps, OnlyReads, OnlyWrites}
use Rattle.disk_model.specs.declared.disk.Disk.{Ghosts}
use Rattle.store_model.proofs.ImageLaws.{stayed_none, stayed_then, wider, wrote_more, wrote_none, wrote_stayed}

module _ {D : Type 0} (g : Ghosts D) where
  -- no call
  pub Keeps-none : (disk : D) → Keeps g disk disk
  Keeps-none disk = record { size = refl; end = KeepsEnd-none g.faults g.frugal disk }

  -- one call after another
  pub Keeps-then : (old mid new : D) → Keeps g old mid → Keeps g mid new → Keeps g old new
  Keeps-then old mid new one other = record {
    size = other.size ∙ one.size;
    end = KeepsEnd-then g.faults g.frugal old mid new one.end other.end;
  }

  -- the cause of a later call is one of them all
  pub Caused-since : {T : Type 0} → (old mid new : D) (result : Result T IoFault) → Keeps g old mid → Caused g mid new result → Caused g old new result
  Caused-since old mid new result kept cause = HasCause-since g.faults g.frugal old mid new result kept.end cause

  pub OnlyReads-none : (disk : D) → OnlyReads g disk disk
  OnlyReads-none disk = record { keeps = Keeps-none disk; stayed = λ told. stayed_none (g.story disk) }

  pub OnlyReads-then : (old mid new : D) → OnlyReads g old mid → OnlyReads g mid new → OnlyReads g old new
  OnlyReads-then old mid new one other = record {
    keeps = Keeps-then old mid new one.keeps other.keeps;
    stayed = λ told. stayed_then (g.story old) (g.story mid) (g.story new) (one.stayed told) (other.stayed told);
  }

  pub OnlyWrites-none : (pages : ℕ → Type 0) (disk : D) → OnlyWrites g pages disk disk
  OnlyWrites-none pages disk = record { keeps = Keeps-none disk; wrote = λ told. wrote_none pages (g.story disk) }

  -- more pages
  pub OnlyWrites-wider : (fewer pages : ℕ → Type 0) (old new : D) → ((p : ℕ) → fewer p → pages p) → OnlyWrites g fewer old new → OnlyWrites g pages old new
  OnlyWrites-wider fewer pages old new more wrote = record {
    keeps = wrote.keeps;
    wrote = λ told. wider fewer pages (g.story old) (g.story new) more (wrote.wrote told);
  }

  -- calls that write fewer pages after others
  pub OnlyWrites-more : (fewer pages : ℕ → Type 0) (old mid new : D) → ((p : ℕ) → fewer p → pages p) → OnlyWrites g pages old mid → OnlyWrites g fewer mid new
      → OnlyWrites g pages old new
  OnlyWrites-more fewer pages old mid new more one other = record {
    keeps = Keeps-then old mid new one.keeps other.keeps;
    wrote = λ told. wrote_more fewer pages (g.story old) (g.story mid) (g.story new) more (one.wrote told) (other.wrote told);
  }

  -- calls that write nothing after others
  pub OnlyWrites-reads : (pages : ℕ → Type 0) (old mid new : D) → OnlyWrites g pages old mid → OnlyReads g mid new → OnlyWrites g pages old new
  OnlyWrites-reads pages old mid new one other = record {
    keeps = Keeps-then old mid new one.keeps other.keeps;
    wrote = λ told. wrote_stayed pages (g.story old) (g.story mid) (g.story new) (one.wrote told) (other.stayed told);
  }
