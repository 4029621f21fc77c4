-- A disk whose last frame tells the entries of a group, behind a store that stands on it, has survived with a part of the group.
use Rattle.std.proofs.Common.{◌≡◌, ℕ, List, Some, inr, ap, ◌∙◌}
use Rattle.std.specs.Prelude.{slice_get}
use Rattle.store_model.specs.Disk.{HasPages, Image}
use Rattle.store_model.specs.Layout.{Layout}
use Rattle.store_model.specs.LogReading.{StoredBody}
use Rattle.store_model.specs.Reading.{AreKept, Found, Opened, Reads, Takes, last_number}
use Rattle.store_model.specs.Standing.{AllHeld, SameObjects}
use Rattle.store_model.specs.Store.{Store}
use Rattle.store_model.specs.Survival.{Group, ReadsAsPart, Survives, store_at}
use Rattle.store_model.proofs.SurvivalEntryLaws.{AreWrittenBy, ReadsAsPart-written}

pub ReadsAsPart-taken : (pages : ℕ) (image : Image) (layout : Layout) (store : Store) (group : Group) (before : Found) (body : StoredBody) (after : Found)
    (takes : Takes (AreKept image layout) before body after) → HasPages image → Reads pages image (Opened after) → before.layout ≡ layout
    → SameObjects before.states store.objects → AllHeld image layout store.objects → AreWrittenBy group.after group.commits takes.entries_told
    → last_number before.last takes.entries_told ≡ group.after.last → ReadsAsPart pages image layout store group
ReadsAsPart-taken pages image layout store group before body after takes whole reads layout_is same stand are last_is =
    ReadsAsPart-written pages image layout store group after before.states takes.entries_told takes.entries_kept whole reads
    (ap (λ (found : Found). found.layout) takes.after_is ∙ layout_is) (ap (λ (found : Found). found.last) takes.after_is ∙ last_is) same stand are takes.kept
    (ap (λ (found : Found). found.states) takes.after_is)

-- So the groups before it survive.
pub Survives-taken : (pages : ℕ) (image : Image) (layout : Layout) (start : Store) (groups : List Group) (j : ℕ) (group : Group) (before : Found) (body : StoredBody)
    (after : Found) (takes : Takes (AreKept image layout) before body after) → slice_get groups j ≡ Some group → HasPages image
    → Reads pages image (Opened after) → before.layout ≡ layout → SameObjects before.states (store_at start groups j).objects
    → AllHeld image layout (store_at start groups j).objects → AreWrittenBy group.after group.commits takes.entries_told
    → last_number before.last takes.entries_told ≡ group.after.last → Survives pages image layout start groups j
Survives-taken pages image layout start groups j group before body after takes there whole reads layout_is same stand are last_is =
    inr (
      group,
      there,
      ReadsAsPart-taken pages image layout (store_at start groups j) group before body after takes whole reads layout_is same stand are last_is,
    )
