-- What reads alone leave of a disk's counts: its writes and syncs.
use Rattle.std.proofs.Common.{ℕ, Bool, Result, Ok, Err, refl, ap, ◌∙◌, arith}
use Rattle.std.specs.Prelude.{IsTrue}
use Rattle.blob_base.specs.declared.faults.IoFault.{IoFault}
use Rattle.blob_base.specs.declared.faults.IoFault.TheVariants.{Failed, OutOfMemory}
use Rattle.disk_model.specs.Frame.{Counted}
use Rattle.store_model.specs.Cost.{Reads}
use Rattle.store_model.specs.Disk.{Calls, Took, with_read}
use Rattle.store_model.specs.Images.{Story}

-- no call
pub Reads-none : (calls : Calls) → Reads calls calls
Reads-none calls = record { writes = refl; syncs = refl }

-- some calls after others
pub Reads-then : (old mid new : Calls) → Reads old mid → Reads mid new → Reads old new
Reads-then old mid new one other = record { writes = other.writes ∙ one.writes; syncs = other.syncs ∙ one.syncs }

-- so many reads
pub Reads-took : (n : ℕ) (old new : Calls) → Took n 0 0 old new → Reads old new
Reads-took n old new took = record { writes = omega (arith, took.writes); syncs = omega (arith, took.syncs) }

-- one read, whatever it answers
pub Reads-counted : {D T : Type 0} → (tells : Bool) (story : D → Story) (calls : D → Calls) (faults : D → ℕ) (old new : D) (result : Result T IoFault)
    → Counted tells story calls faults with_read old new result → IsTrue tells → Reads (calls old) (calls new)
Reads-counted tells story calls faults old new (Ok x) counted told = record {
  writes = ap (λ (c : Calls). c.writes) (counted.made told);
  syncs = ap (λ (c : Calls). c.syncs) (counted.made told);
}
Reads-counted tells story calls faults old new (Err Failed) counted told = record {
  writes = ap (λ (c : Calls). c.writes) (counted.made told);
  syncs = ap (λ (c : Calls). c.syncs) (counted.made told);
}
Reads-counted tells story calls faults old new (Err OutOfMemory) counted told = record {
  writes = ap (λ (c : Calls). c.writes) (counted.unmade told).0;
  syncs = ap (λ (c : Calls). c.syncs) (counted.unmade told).0;
}
