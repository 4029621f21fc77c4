-- What an opening costs, and reads behind it.
use Rattle.std.proofs.Common.{◌≡◌, ℕ, IsTrue, subst, ◌∙◌}
use Rattle.disk_model.specs.declared.disk.Disk.{Ghosts}
use Rattle.recover.specs.Openings.{TookOpening}
use Rattle.relation.specs.Parts.{encoded_by}
use Rattle.store_model.specs.Cost.{Reads}
use Rattle.store_model.specs.Disk.{Calls}
use Rattle.store_model.specs.Reading as reading
use Rattle.store_model.specs.Reading.{Found, Opened}
use Rattle.store_model.proofs.SurvivalLaws.{found-one}
use Rattle.recover.specs.declared.fault.RecoverFault.{RecoverFault}
use Rattle.recover.specs.declared.fault.RecoverFault.TheVariants as fault
use Rattle.blob_report.specs.Reports.{CostsOpening, HasReported, opening_ending}

-- reads and more reads
pub Reads-then : (old mid new : Calls) → Reads old mid → Reads mid new → Reads old new
Reads-then old mid new one other = record { writes = other.writes ∙ one.writes; syncs = other.syncs ∙ one.syncs }

-- an opening, and reads
opening-read : (bytes : ℕ) (old mid new : Calls) → TookOpening bytes old mid → Reads mid new → TookOpening bytes old new
opening-read bytes old mid new took still = record { writes = still.writes ∙ took.writes; syncs = still.syncs ∙ took.syncs }

-- a disk that wasn't opened gives no report
pub opening-unreported : {P : Type 0} (why : RecoverFault) → HasReported (opening_ending why) → P
opening-unreported (fault.Refused why) reported = absurd reported
opening-unreported fault.Failed reported = absurd reported
opening-unreported fault.OutOfMemory reported = absurd reported

module _ {D : Type 0} (g : Ghosts D) where
  -- the opening of a store that was found
  pub CostsOpening-took : (old new : D) (mine : Found) → (IsTrue g.tells → reading.Reads (g.size old) (g.story old).reads (Opened mine))
      → (IsTrue g.tells → TookOpening (encoded_by mine.states) (g.calls old) (g.calls new)) → CostsOpening g old new
  CostsOpening-took old new mine found took tells other reads =
      let same : mine ≡ other = found-one (g.size old) (g.story old).reads mine other (found tells) reads in
      subst (λ (f : Found). TookOpening (encoded_by f.states) (g.calls old) (g.calls new)) same (took tells)

  -- and reads behind it
  pub CostsOpening-read : (old mid new : D) → CostsOpening g old mid → (IsTrue g.tells → Reads (g.calls mid) (g.calls new)) → CostsOpening g old new
  CostsOpening-read old mid new costs still tells found reads =
      opening-read (encoded_by found.states) (g.calls old) (g.calls mid) (g.calls new) (costs tells found reads) (still tells)
