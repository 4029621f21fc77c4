-- What calls leave of a vault as a whole.
use Rattle.std.specs.Prelude.{◌≡◌, IsTrue}
use Rattle.disk_model.specs.Disks.{OnlyReads}
use Rattle.disk_model.specs.declared.disk.Disk.{Ghosts}
use Rattle.store_model.specs.Cost.{Reads}
use Rattle.vault.specs.Vaults.{IsUnmade}
use Rattle.vault.specs.declared.inner.Core.{Core}

-- Nothing was written, and the vault is as it was, but that its disk may have been read.
pub record IsOnlyRead {D : Type 0} (g : Ghosts D) (old new : Core D) : Type 0 where
  pub memory : new.memory ≡ old.memory
  pub shut : new.shut ≡ old.shut
  pub keeping : new.keeping ≡ old.keeping
  pub disk : OnlyReads g old.disk new.disk
  pub reads : IsTrue g.tells → Reads (g.calls old.disk) (g.calls new.disk)

-- Nothing was made: no call of the disk, no change of the store, nor of what is kept.
pub record IsLeftUnmade {D : Type 0} (old new : Core D) : Type 0 where
  pub store : IsUnmade old.disk new.disk old.memory new.memory old.shut new.shut
  pub keeping : new.keeping ≡ old.keeping
