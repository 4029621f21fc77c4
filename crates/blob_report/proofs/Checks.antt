-- The check of a store as a whole.
use Rattle.std.proofs.Common.{◌≡◌, ℕ, ◌<◌, List, [], ◌∷◌, Option, None, inr, refl, sym, ◌∙◌, subst, arith}
use Rattle.std.specs.Prelude.{IsTrue}
use Rattle.std.specs.FinMap.{entries}
use Rattle.blob_script.specs.declared.status.Status.{Status}
use Rattle.blob_script.specs.declared.status.Status.TheVariants as status
use Rattle.disk_model.specs.Disks.{OnlyWrites}
use Rattle.disk_model.specs.declared.disk.Disk as disk_trait
use Rattle.io_ends.specs.declared.traits.Sink as sink_trait
use Rattle.recover.specs.Openings.{IsMetadata}
use Rattle.recover.proofs.Owned.{entry-there}
use Rattle.store_model.specs.Disk.{Image}
use Rattle.store_model.specs.Half.{picked}
use Rattle.store_model.specs.Layout.{Layout, data_page}
use Rattle.store_model.specs.Reading.{Found, Gives, Opened, Reads}
use Rattle.store_model.specs.Report.{Damage, check_text}
use Rattle.store_model.proofs.FurtherLaws.{TakesEach-layout}
use Rattle.store_model.proofs.HalfRefusalLaws.{FindsHalf-one}
use Rattle.vault.specs.Vaults.{IsVault, found_of}
use Rattle.vault.specs.declared.fault.Cause.{Cause}
use Rattle.vault.specs.declared.memory.Memory.{Memory}
use Rattle.blob_report.specs.Checks.{BrokeCheck, FirstNamed, IsFault, WasChecked}
use Rattle.blob_report.specs.Reports.{BrokenOff, Checked, IsChecked, IsCheckedAs, NamesDamage, Reported, verdict_of}
use Rattle.blob_report.proofs.Damages.{AreDamages-same, SameFrom}

-- a page of the metadata stands before the data area of the store
metadata-before : (pages : ℕ) (image : Image) (found : Found) (p : ℕ) → Gives pages image found → IsMetadata pages image p → p < data_page found.layout
metadata-before pages image found p gives meta =
    let same = FindsHalf-one pages image (picked (image 0)) meta.start.layout gives.start.layout meta.start.last gives.start.last meta.start.states gives.start.states meta.finds gives.finds in
    let kept : found.layout ≡ gives.start.layout = TakesEach-layout _ gives.start gives.bodies found gives.takes in
    subst (λ (l : Layout). p < data_page l) (same.0 ∙ sym kept) meta.before

module _ {K D : Type 0} (sink : sink_trait.Ghosts K) (g : disk_trait.Ghosts D) where
  -- the data area is as before
  data-same : (found : Found) (old mid : D) → IsTrue g.tells → Reads (g.size old) (g.story old).reads (Opened found)
      → OnlyWrites g (IsMetadata (g.size old) (g.story old).reads) old mid → SameFrom (data_page found.layout) (g.story mid).reads (g.story old).reads
  data-same found old mid tells reads writes p from =
      (writes.wrote tells).reads p (λ meta. omega (arith, from, metadata-before (g.size old) (g.story old).reads found p reads.0 meta))

  reported-as : (damages : List Damage) (first to : K) (old new : D) → Reported sink g (IsCheckedAs (verdict_of damages)) first to old new → Checked sink g (verdict_of damages) first to old new
  reported-as [] first to old new report = report
  reported-as (one ∷ rest) first to old new report = report

  -- the disk of a vault that isn't shut reads as the store in memory
  vault-reads : (disk : D) (mine : Memory) (shut : Option Cause) → IsVault g disk mine shut → shut ≡ None → IsTrue g.tells
      → Reads (g.size disk) (g.story disk).reads (Opened (found_of mine))
  vault-reads disk mine shut vault none tells = let at = (vault.rest tells none).at in (at.gives, at.apart)

  -- what was checked of a vault that was opened
  pub Checked-whole : (mine : Memory) (shut : Option Cause) (how : Status) (first to : K) (old mid new : D)
      → (IsTrue g.tells → Reads (g.size old) (g.story old).reads (Opened (found_of mine))) → IsVault g mid mine shut → shut ≡ None
      → OnlyWrites g (IsMetadata (g.size old) (g.story old).reads) old mid → WasChecked sink g (found_of mine) how first to mid new → Checked sink g how first to old new
  Checked-whole mine shut how first to old mid new before vault none writes was =
      let found = found_of mine in
      subst (λ (s : Status). Checked sink g s first to old new) (sym was.verdict_is)
      (reported-as was.damages first to old new (record {
        found = found;
        before = before;
        after = λ tells.
            subst (λ (n : ℕ). Reads n (g.story new).reads (Opened found)) writes.keeps.size
            (subst (λ (i : Image). Reads (g.size mid) i (Opened found)) (sym (was.only.stayed tells).reads) (vault-reads mid mine shut vault none tells));
        text = check_text found was.damages;
        is = λ tells. (
          was.damages,
          AreDamages-same (g.story mid).reads (g.story old).reads (data_page found.layout) (entries found.states) was.damages (data-same found old mid tells (before tells) writes) (was.are tells),
          refl,
          refl,
        );
        took = was.printed.took;
      }))

  broken-as : (how : Status) (first to : K) (old new : D) → IsFault how → BrokenOff sink g IsChecked first to old → Checked sink g how first to old new
  broken-as status.Done first to old new fault broken = absurd fault
  broken-as (status.Malformed line) first to old new fault broken = absurd fault
  broken-as (status.NotBuilt line) first to old new fault broken = absurd fault
  broken-as status.ReadFault first to old new fault broken = absurd fault
  broken-as status.WriteFault first to old new fault broken = broken
  broken-as status.DiskFault first to old new fault broken = broken
  broken-as (status.Refused why) first to old new fault broken = absurd fault
  broken-as status.OutOfMemory first to old new fault broken = broken
  broken-as status.Usage first to old new fault broken = absurd fault
  broken-as (status.Damaged key link want got) first to old new fault broken = absurd fault

  -- and what was broken off
  pub Checked-broken : (found : Found) (how : Status) (first to : K) (old mid new : D) → (IsTrue g.tells → Reads (g.size old) (g.story old).reads (Opened found))
      → OnlyWrites g (IsMetadata (g.size old) (g.story old).reads) old mid → BrokeCheck sink g (check_text found) found.layout (entries found.states) how first to mid new
      → Checked sink g how first to old new
  Checked-broken found how first to old mid new before writes broke =
      broken-as how first to old new broke.fault
      (inr (record {
        found = found;
        before = before;
        text = check_text found broke.damages;
        is = λ tells. (
          broke.damages,
          AreDamages-same (g.story mid).reads (g.story old).reads (data_page found.layout) (entries found.states) broke.damages (data-same found old mid tells (before tells) writes) (broke.are tells),
          refl,
        );
        took = broke.front;
      }))

  named-as : (found : Found) (damages : List Damage) (old : D) → (IsTrue g.tells → Reads (g.size old) (g.story old).reads (Opened found)) → FirstNamed (entries found.states) damages
      → NamesDamage g (verdict_of damages) old
  named-as found [] old before named = tt
  named-as found (one ∷ rest) old before named = record {
    found = found;
    before = before;
    state = named.1.0;
    there = entry-there found.states named.0 (one.key, named.1.0) named.1.1;
    link = named.1.2;
  }

  -- the damage that is told
  pub NamesDamage-by : (found : Found) (how : Status) (first to : K) (old mid new : D) → (IsTrue g.tells → Reads (g.size old) (g.story old).reads (Opened found))
      → WasChecked sink g found how first to mid new → NamesDamage g how old
  NamesDamage-by found how first to old mid new before was =
      subst (λ (s : Status). NamesDamage g s old) (sym was.verdict_is) (named-as found was.damages old before was.named)
