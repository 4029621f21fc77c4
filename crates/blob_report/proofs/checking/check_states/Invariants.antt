use Rattle.std.proofs.Common.{◌≡◌, IsTrue, None, take}
use Rattle.std.specs.FinMap.{entries}
use Rattle.store_model.specs.Cost.{Reads}
use Rattle.blob_report.specs.Checks.{DidCheck, HasCounted}
use Rattle.blob_report.proofs.checking.check_states.Given as goal

-- the contents of the first keys are checked, and the vault is as it was
abbrev pub invariant-checked : goal.invariant-checked
invariant-checked g l =
    record {
      did : DidCheck g.K.Sink g.D.Disk l.fn.vault.memory.layout (take l.i (entries l.fn.vault.memory.relation.states)) (HasCounted l.checked) l.fn.sink l.sink l.fn.vault.disk l.vault.disk;
      memory : l.vault.memory ≡ l.fn.vault.memory;
      shut : l.vault.shut ≡ None;
      still : IsTrue g.D.Disk.tells → Reads (g.D.Disk.calls l.fn.vault.disk) (g.D.Disk.calls l.vault.disk);
    }
