-- What survives a crash: a disk that reads as the store after a group, judged by that group or by the one before it, and a disk
-- with a part of a group, all of whose contents are the store's where there is no chance.
use Rattle.std.proofs.Common.{◌≡◌, ℕ, suc, ◌+◌, ◌≤◌, List, Option, Some, inl, inr, refl, sym, ap, ◌∙◌, subst, arith}
use Rattle.std.specs.Prelude.{Contains, slice_get}
use Rattle.std.specs.FinMap.{FinMap, get}
use Rattle.store_model.specs.Disk.{Image}
use Rattle.store_model.specs.Group.{Commit}
use Rattle.store_model.specs.Images.{MayLeave, Reached, Story}
use Rattle.store_model.specs.Key.{key_order}
use Rattle.store_model.specs.Layout.{Layout, data_page}
use Rattle.store_model.specs.Store.{Object, Store}
use Rattle.store_model.specs.Survival.{BothTold, Chance, DoesCommitVerify, Group, IsByChance, NoneFree, IsUnder, ReadsAs, ReadsAsPart, ReadsBut, Survives, store_at, with_commits}
use Rattle.store_model.proofs.SurvivalKeptLaws.{kept-all, kept-under}
use Rattle.store_model.proofs.SurvivalLaws.{BothTold-free, store_at-next}
use Rattle.store_model.proofs.SurvivalPartLaws.{commits-all}

-- a disk reads as objects that are the same under each key, and where more is free
pub ReadsBut-same : (F G : List ℕ → Type 0) (pages : ℕ) (image : Image) (layout : Layout) (objects others : FinMap key_order Object) (last : ℕ)
    → ((key : List ℕ) → get objects key ≡ get others key) → ((key : List ℕ) → F key → G key)
    → ReadsBut F pages image layout objects last → ReadsBut G pages image layout others last
ReadsBut-same F G pages image layout objects others last same wider reading = record {
  found = reading.found;
  reads = reading.reads;
  layout_is = reading.layout_is;
  last_is = reading.last_is;
  told = λ key.
      subst (λ (o : Option Object). BothTold (G key) image (data_page layout) (get reading.found.states key) o) (same key)
      (BothTold-free (F key) (G key) image (data_page layout) (get reading.found.states key) (get objects key) (wider key) (reading.told key));
}

-- A disk that reads as the store after so many groups has survived with them.
pub Survives-reads : (pages : ℕ) (image : Image) (layout : Layout) (start : Store) (groups : List Group) (j : ℕ)
    → ReadsAs pages image layout (store_at start groups j).objects (store_at start groups j).last → Survives pages image layout start groups j
Survives-reads pages image layout start groups j reading = inl reading

-- It has survived with one group fewer too, as that with all of the next, if the states that this sets verify and it changes
-- nothing but the keys of its transactions.
pub Survives-one_fewer : (pages : ℕ) (image : Image) (layout : Layout) (start : Store) (groups : List Group) (j : ℕ) (group : Group)
    → slice_get groups j ≡ Some group → ((commit : Commit) → Contains group.commits commit → DoesCommitVerify image layout group.after commit)
    → ((key : List ℕ) → (IsUnder group.commits key → ⊥) → get (store_at start groups j).objects key ≡ get group.after.objects key)
    → ReadsAs pages image layout (store_at start groups (j + 1)).objects (store_at start groups (j + 1)).last → Survives pages image layout start groups j
Survives-one_fewer pages image layout start groups j group there verify others reading =
    let step : j + 1 ≡ suc j = omega arith in
    let next : store_at start groups (j + 1) ≡ group.after = ap (store_at start groups) step ∙ store_at-next start groups j group there in
    let reads : ReadsAs pages image layout group.after.objects group.after.last =
    subst (λ (s : Store). ReadsAs pages image layout s.objects s.last) next reading in
    inr (group, there, part pages image layout (store_at start groups j) group verify others reads) where
      part : (pages : ℕ) (image : Image) (layout : Layout) (store : Store) (group : Group)
          → ((commit : Commit) → Contains group.commits commit → DoesCommitVerify image layout group.after commit)
          → ((key : List ℕ) → (IsUnder group.commits key → ⊥) → get store.objects key ≡ get group.after.objects key)
          → ReadsAs pages image layout group.after.objects group.after.last → ReadsAsPart pages image layout store group
      part pages image layout store group verify others reads = record {
        kept = group.commits;
        are_kept = kept-all image layout group.after group.commits verify;
        reads = ReadsBut-same NoneFree (IsByChance image layout group.after group.commits) pages image layout group.after.objects
            (with_commits store.objects group.after.objects group.commits) group.after.last
            (λ key. sym (commits-all store.objects group.after.objects group.commits key (others key))) (λ key none. absurd none) reads;
      }

-- Where there is no chance at the keys of a group a disk with a part of it has all the contents.
pub ReadsAsPart-held : (pages : ℕ) (image : Image) (layout : Layout) (before : Store) (group : Group) → (Chance image layout group → ⊥)
    → (part : ReadsAsPart pages image layout before group)
    → ReadsAs pages image layout (with_commits before.objects group.after.objects part.kept) group.after.last
ReadsAsPart-held pages image layout before group none part =
    let objects : FinMap key_order Object = with_commits before.objects group.after.objects part.kept in
    ReadsBut-same (IsByChance image layout group.after part.kept) NoneFree pages image layout objects objects group.after.last (λ key. refl)
    (λ key chance. none (key, (kept-under image layout group.after group.commits part.kept key part.are_kept chance.0, chance.1))) part.reads

-- An image that a crash now leaves has all the groups that were climbed to.
pub Climbed-now : (P : ℕ → Image → Type 0) (n : ℕ) (story : Story) (image : Image) → Reached P n story → MayLeave story image
    → (j : ℕ) × (n ≤ j) × P j image
Climbed-now P n story image reached left = reached.each image (story.since reached.time story.time image reached.past (omega arith) left)
