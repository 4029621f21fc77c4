-- What opening finds, and what it writes.
use Rattle.std.proofs.Common.{◌≡◌, ℕ, zero, suc, ◌<◌, inl, inr, List, [], ◌++◌, sym, ap, subst, ◌∙◌, arith}
use Rattle.std.specs.Prelude.{IsTrue}
use Rattle.blob_base.specs.declared.faults.StoreRefusal.TheVariants as refusal
use Rattle.disk_model.specs.Disks.{OnlyReads, OnlyWrites}
use Rattle.disk_model.specs.declared.disk.Disk.{Ghosts}
use Rattle.disk_model.proofs.DiskLaws.{Keeps-then, OnlyWrites-more, OnlyWrites-none, OnlyWrites-reads}
use Rattle.recover.specs.Faults.{IsOfLog, IsOfSpace, IsRead}
use Rattle.recover.specs.Frames.{Adds}
use Rattle.recover.specs.Openings.{IsMetadata}
use Rattle.recover.specs.Turns.{IsTurnPage}
use Rattle.recover.specs.declared.fault.RecoverFault.{RecoverFault}
use Rattle.recover.specs.declared.fault.RecoverFault.TheVariants as fault
use Rattle.store_model.specs.Disk.{Image}
use Rattle.store_model.specs.Drops.{AreDroppedLast, Drops}
use Rattle.store_model.specs.Half.{picked}
use Rattle.store_model.specs.HalfRefusals.{FindsHalf}
use Rattle.store_model.specs.Layout.{Layout, data_page}
use Rattle.store_model.specs.LogReading.{HasBodies, StoredBody}
use Rattle.store_model.specs.Reading.{Found, Gives, KeptIn, RefusesLog, TakesEach, blocks_of_states}

-- the half is found in the image as it was
pub FindsHalf-same : (m n : ℕ) (one other : Image) (half : ℕ) (found : Found) → m ≡ n → one ≡ other → FindsHalf m one half found.layout found.last found.states
    → FindsHalf n other half found.layout found.last found.states
FindsHalf-same m n one other half found size image finds =
    subst (λ (pages : ℕ). FindsHalf pages other half found.layout found.last found.states) size
    (subst (λ (pages : Image). FindsHalf m pages half found.layout found.last found.states) image finds)

-- a refusal of the log is the reading of the disk
pub log-read : (pages : ℕ) (image : Image) (half : ℕ) (before : Found) (why : RecoverFault) → half ≡ picked (image 0)
    → FindsHalf pages image half before.layout before.last before.states → IsOfLog image half before why → IsRead pages image why
log-read pages image half before (fault.Refused (refusal.BadFrame other page)) picks finds bad = (
  bad.0 ∙ picks,
  (
    before,
    (
      subst (λ (h : ℕ). FindsHalf pages image h before.layout before.last before.states) (sym bad.0) finds,
      subst (λ (h : ℕ). RefusesLog image h before page) (sym bad.0) bad.1,
    ),
  ),
)
log-read pages image half before (fault.Refused (refusal.TooSmall need have)) picks finds bad = absurd bad
log-read pages image half before (fault.Refused (refusal.BadHalf other at)) picks finds bad = absurd bad
log-read pages image half before (fault.Refused (refusal.BadTuple other at)) picks finds bad = absurd bad
log-read pages image half before (fault.Refused (refusal.OwnedTwice page)) picks finds bad = absurd bad
log-read pages image half before fault.Failed picks finds bad = tt
log-read pages image half before fault.OutOfMemory picks finds bad = tt

-- what the half and its log give
pub Gives-found : (pages : ℕ) (image : Image) (half : ℕ) (before after : Found) (bodies : List StoredBody) (gate : ℕ) → half ≡ picked (image 0)
    → FindsHalf pages image half before.layout before.last before.states → HasBodies image half bodies gate → TakesEach (KeptIn image before.layout) before bodies after → Gives pages image after
Gives-found pages image half before after bodies gate picks finds has takes = record {
  start = before;
  finds = subst (λ (h : ℕ). FindsHalf pages image h before.layout before.last before.states) picks finds;
  bodies = bodies;
  gate = gate;
  log = subst (λ (h : ℕ). HasBodies image h bodies gate) picks has;
  takes = takes;
}

-- and what they drop, where none was told before
pub Drops-found : (pages : ℕ) (image : Image) (half : ℕ) (before : Found) (bodies : List StoredBody) (gate : ℕ) (old new : List ℕ) → half ≡ picked (image 0)
    → FindsHalf pages image half before.layout before.last before.states → HasBodies image half bodies gate → old ≡ [] → Adds (AreDroppedLast image before.layout) bodies old new
    → Drops pages image new
Drops-found pages image half before bodies gate old new picks finds has none adds = record {
  start = before;
  finds = subst (λ (h : ℕ). FindsHalf pages image h before.layout before.last before.states) picks finds;
  bodies = bodies;
  gate = gate;
  log = subst (λ (h : ℕ). HasBodies image h bodies gate) picks has;
  dropped = subst (λ (numbers : List ℕ). AreDroppedLast image before.layout bodies numbers) (sym (adds.2 ∙ ap (λ (xs : List ℕ). xs ++ adds.0) none)) adds.1;
}

-- a refusal for pages that are owned twice is the reading of the disk
pub space-read : (pages : ℕ) (image : Image) (found : Found) (why : RecoverFault) → Gives pages image found → IsOfSpace (blocks_of_states found.states) why → IsRead pages image why
space-read pages image found (fault.Refused (refusal.OwnedTwice page)) gives twice = (found, (gives, twice))
space-read pages image found (fault.Refused (refusal.TooSmall need have)) gives twice = absurd twice
space-read pages image found (fault.Refused (refusal.BadHalf other at)) gives twice = absurd twice
space-read pages image found (fault.Refused (refusal.BadTuple other at)) gives twice = absurd twice
space-read pages image found (fault.Refused (refusal.BadFrame other page)) gives twice = absurd twice
space-read pages image found fault.Failed gives twice = absurd twice
space-read pages image found fault.OutOfMemory gives twice = tt

-- a turn writes before the data area
before-data : (layout : Layout) (half p : ℕ) → half < 2 → IsTurnPage layout half p → p < data_page layout
before-data layout zero p less (inl (inl within)) = omega (arith, within.to)
before-data layout (suc zero) p less (inl (inl within)) = omega (arith, within.to)
before-data layout (suc (suc half)) p less (inl (inl within)) = absurd (omega (arith, less))
before-data layout half p less (inl (inr (inl header))) = omega (arith, header, less)
before-data layout half p less (inl (inr (inr gate))) = omega (arith, gate, less)
before-data layout half p less (inr zero_page) = omega (arith, zero_page)

pub wrote-before : {D : Type 0} (g : Ghosts D) (pages : ℕ) (image : Image) (half other : ℕ) (layout : Layout) (start : Found) (old mid new : D) → OnlyReads g old mid → OnlyWrites g (IsTurnPage layout other) mid new
    → other < 2 → layout ≡ start.layout → half ≡ picked (image 0) → (IsTrue g.tells → FindsHalf pages image half start.layout start.last start.states) → OnlyWrites g (IsMetadata pages image) old new
wrote-before g pages image half other layout start old mid new reads writes low same picks finds =
    let started : OnlyWrites g (IsMetadata pages image) old mid = OnlyWrites-reads g (IsMetadata pages image) old old mid (OnlyWrites-none g (IsMetadata pages image) old) reads in
    record {
      keeps = Keeps-then g old mid new reads.keeps writes.keeps;
      wrote = λ tells.
          (OnlyWrites-more g (IsTurnPage layout other) (IsMetadata pages image) old mid new
          (λ p here. record {
            start = start;
            finds = subst (λ (h : ℕ). FindsHalf pages image h start.layout start.last start.states) picks (finds tells);
            before = subst (λ (l : Layout). p < data_page l) same (before-data layout other p low here);
          }) started writes).wrote tells;
    }
