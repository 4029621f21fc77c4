-- The log of a half, taken or refused.
use Rattle.std.proofs.Common.{ℕ, true, false, inl, inr, List, [], ◌∷◌, refl}
use Rattle.blob_base.specs.declared.faults.StoreRefusal.TheVariants as refusal
use Rattle.recover.specs.Faults.{IsFirstBadFault, IsOfLog}
use Rattle.recover.specs.Frames.{KeptBehind}
use Rattle.recover.specs.declared.fault.RecoverFault.{RecoverFault}
use Rattle.recover.specs.declared.fault.RecoverFault.TheVariants as fault
use Rattle.store_model.specs.Disk.{Image}
use Rattle.store_model.specs.Frame.{Entry}
use Rattle.store_model.specs.Layout.{Layout}
use Rattle.store_model.specs.LogReading.{HasBodies, LacksBody, StoredBody}
use Rattle.store_model.specs.Reading.{AreAllKept, Found, IsFirstBad, KeptIn, RefusesLog, TakesEach}
use Rattle.recover.proofs.Followings.{Takes-same}

-- what is kept of a body, by its name
abbrev Keeping : Type 1
Keeping = List StoredBody → List Entry → List Entry → Type 0

abbrev pub IsSameKeeping : (List StoredBody → List Entry → List Entry → Type 0) → (List StoredBody → List Entry → List Entry → Type 0) → Type 0
IsSameKeeping Kept Other = (bodies : List StoredBody) (entries kept : List Entry) → Kept bodies entries kept → Other bodies entries kept

pub TakesEach-same : (Kept Other : List StoredBody → List Entry → List Entry → Type 0) (before : Found) (bodies : List StoredBody) (after : Found) → IsSameKeeping Kept Other
    → TakesEach Kept before bodies after → TakesEach Other before bodies after
TakesEach-same Kept Other before [] after same takes = takes
TakesEach-same Kept Other before (body ∷ bodies) after same takes =
    (takes.0, Takes-same (Kept bodies) (Other bodies) before body takes.0 (same bodies) takes.1, TakesEach-same Kept Other takes.0 bodies after same takes.2)

pub IsFirstBad-same : (Kept Other : List StoredBody → List Entry → List Entry → Type 0) (before : Found) (bodies : List StoredBody) (page : ℕ) → IsSameKeeping Kept Other
    → IsSameKeeping Other Kept → IsFirstBad Kept before bodies page → IsFirstBad Other before bodies page
IsFirstBad-same Kept Other before [] page same back bad = bad
IsFirstBad-same Kept Other before (body ∷ bodies) page same back bad = elim bad [
  | inl here ↦ inl (λ after takes. here.0 after (Takes-same (Other bodies) (Kept bodies) before body after (back bodies) takes), here.1)
  | inr later ↦
      inr (later.0, Takes-same (Kept bodies) (Other bodies) before body later.0 (same bodies) later.1, IsFirstBad-same Kept Other later.0 bodies page same back later.2)
]

-- before a closed gate
closed-in : (image : Image) (layout : Layout) → IsSameKeeping (KeptBehind true image layout) (KeptIn image layout)
closed-in image layout bodies entries kept keeps = keeps

in-closed : (image : Image) (layout : Layout) → IsSameKeeping (KeptIn image layout) (KeptBehind true image layout)
in-closed image layout bodies entries kept keeps = keeps

-- before an open one
open-all : (image : Image) (layout : Layout) → IsSameKeeping (KeptBehind false image layout) (λ _. AreAllKept)
open-all image layout bodies entries kept keeps = keeps

all-open : (image : Image) (layout : Layout) → IsSameKeeping (λ _. AreAllKept) (KeptBehind false image layout)
all-open image layout bodies entries kept keeps = keeps

pub takes-closed : (image : Image) (layout : Layout) (before : Found) (bodies : List StoredBody) (after : Found) → TakesEach (KeptBehind true image layout) before bodies after
    → TakesEach (KeptIn image layout) before bodies after
takes-closed image layout before bodies after takes = TakesEach-same (KeptBehind true image layout) (KeptIn image layout) before bodies after (closed-in image layout) takes

-- a refusal of the first bad frame is one of the log
bad-fault : (image : Image) (half : ℕ) (Kept : List StoredBody → List Entry → List Entry → Type 0) (before : Found) (bodies : List StoredBody) (why : RecoverFault)
    → ((page : ℕ) → IsFirstBad Kept before bodies page → RefusesLog image half before page) → IsFirstBadFault half Kept before bodies why → IsOfLog image half before why
bad-fault image half Kept before bodies (fault.Refused (refusal.BadFrame other page)) refuses bad = (bad.0, refuses page bad.1)
bad-fault image half Kept before bodies (fault.Refused (refusal.TooSmall need have)) refuses bad = bad
bad-fault image half Kept before bodies (fault.Refused (refusal.BadHalf other at)) refuses bad = bad
bad-fault image half Kept before bodies (fault.Refused (refusal.BadTuple other at)) refuses bad = bad
bad-fault image half Kept before bodies (fault.Refused (refusal.OwnedTwice page)) refuses bad = bad
bad-fault image half Kept before bodies fault.Failed refuses bad = bad
bad-fault image half Kept before bodies fault.OutOfMemory refuses bad = bad

pub refused-closed : (image : Image) (half : ℕ) (before : Found) (bodies : List StoredBody) (gate : ℕ) (why : RecoverFault) → HasBodies image half bodies gate
    → IsFirstBadFault half (KeptBehind true image before.layout) before bodies why → IsOfLog image half before why
refused-closed image half before bodies gate why has bad =
    bad-fault image half (KeptBehind true image before.layout) before bodies why
    (λ page first. inl (bodies, (gate, (has, IsFirstBad-same (KeptBehind true image before.layout) (KeptIn image before.layout) before bodies page (closed-in image before.layout) (in-closed image before.layout) first)))) bad

pub refused-open : (image : Image) (half : ℕ) (before : Found) (bodies : List StoredBody) (gate : ℕ) (why : RecoverFault) → LacksBody image half bodies gate
    → IsFirstBadFault half (KeptBehind false image before.layout) before bodies why → IsOfLog image half before why
refused-open image half before bodies gate why lacks bad =
    bad-fault image half (KeptBehind false image before.layout) before bodies why
    (λ page first. inr (bodies, (gate, (lacks, inl (IsFirstBad-same (KeptBehind false image before.layout) (λ _. AreAllKept) before bodies page (open-all image before.layout) (all-open image before.layout) first))))) bad

pub refused-gate : (image : Image) (half : ℕ) (before after : Found) (bodies : List StoredBody) (gate : ℕ) → LacksBody image half bodies gate
    → TakesEach (KeptBehind false image before.layout) before bodies after → RefusesLog image half before gate
refused-gate image half before after bodies gate lacks takes =
    inr (bodies, (gate, (lacks, inr ((after, TakesEach-same (KeptBehind false image before.layout) (λ _. AreAllKept) before bodies after (open-all image before.layout) takes), refl))))
