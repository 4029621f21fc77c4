-- What a disk that survived a crash must have: which last number, which objects, and each transaction as a whole.
use Rattle.std.proofs.Common.{◌≡◌, ℕ, zero, suc, ◌+◌, ◌<◌, ◌≤◌, ◌⊎◌, Bool, cond, List, [], ◌∷◌, ◌++◌, Option, Some, None, inl, inr, refl, sym, ap, ◌∙◌, subst, arith}
use Rattle.std.specs.Prelude.{Contains, slice_get}
use Rattle.std.specs.FinMap.{FinMap, get, get-remove, remove}
use Rattle.std.specs.List.Sorted.{IsPermutation}
use Rattle.store_model.specs.Closing.{Refusal}
use Rattle.store_model.specs.Disk.{Image}
use Rattle.store_model.specs.Group.{Commit}
use Rattle.store_model.specs.Holds.{place_of}
use Rattle.store_model.specs.Key.{key_order}
use Rattle.store_model.specs.Layout.{Layout, data_page}
use Rattle.store_model.specs.Reading.{Found, Opened, Refused, Reads, blocks_of_states}
use Rattle.store_model.specs.Space.{Apart, blocks_of, owners}
use Rattle.store_model.specs.State.{State}
use Rattle.store_model.specs.Store.{Object, Store}
use Rattle.store_model.specs.Survival.{AreChangesApart, BothTold, DoesChange, DoesCommitVerify, Group, IsByChance, NoneFree, IsUnder, ReadsAsPart, ReadsBut, Survives, store_at, with_commits}
use Rattle.store_model.proofs.EntryLaws.{old_part}
use Rattle.store_model.proofs.LastSetLaws.{owners-states}
use Rattle.store_model.proofs.PlaceLaws.{owners-append, owners-permutation}
use Rattle.store_model.proofs.ReadingOneLaws.{Reads-one}
use Rattle.store_model.proofs.RemovalLaws.{blocks-remove}
use Rattle.store_model.proofs.SetLaws.{apart-test}
use Rattle.store_model.proofs.SortedLaws.{keys_total}
use Rattle.store_model.proofs.SurvivalKeptLaws.{kept-each, kept-under}
use Rattle.store_model.proofs.SurvivalPartLaws.{commits-other, commits-set}

-- A disk tells one store.
pub found-one : (pages : ℕ) (image : Image) (a b : Found) → Reads pages image (Opened a) → Reads pages image (Opened b) → a ≡ b
found-one pages image a b one other = let same : Opened a ≡ Opened b = Reads-one pages image (Opened a) (Opened b) one other in cc

-- what is told where less is free
pub BothTold-free : (F G : Type 0) (image : Image) (first : ℕ) (state : Option State) (object : Option Object) → (F → G)
    → BothTold F image first state object → BothTold G image first state object
BothTold-free F G image first None None wider told = tt
BothTold-free F G image first None (Some object) wider told = told
BothTold-free F G image first (Some state) None wider told = told
BothTold-free F G image first (Some state) (Some object) wider told =
    record { stands = told.stands; holds = λ none. told.holds (λ free. none (wider free)) }

-- the store after one group more
pub store_at-next : (start : Store) (groups : List Group) (j : ℕ) (group : Group) → slice_get groups j ≡ Some group → store_at start groups (suc j) ≡ group.after
store_at-next start [] j group there = absurd (cc there)
store_at-next start (one ∷ groups) zero group there = let same : one ≡ group = cc in store_after groups one ∙ ap (λ (g : Group). g.after) same where
  store_after : (others : List Group) (g : Group) → store_at g.after others zero ≡ g.after
  store_after others g = refl
store_at-next start (one ∷ groups) (suc j) group there = store_at-next one.after groups j group there

-- what a disk tells under a key, whichever way its reading is found
pub told-by : (IsFree : List ℕ → Type 0) (pages : ℕ) (image : Image) (layout : Layout) (objects : FinMap key_order Object) (last : ℕ) (found : Found)
    → Reads pages image (Opened found) → ReadsBut IsFree pages image layout objects last
    → (found.last ≡ last) × (found.layout ≡ layout)
    × ((key : List ℕ) → BothTold (IsFree key) image (data_page layout) (get found.states key) (get objects key))
told-by IsFree pages image layout objects last found reads reading =
    let same : reading.found ≡ found = found-one pages image reading.found found reading.reads reads in (
      ap (λ (f : Found). f.last) (sym same) ∙ reading.last_is,
      ap (λ (f : Found). f.layout) (sym same) ∙ reading.layout_is,
      (λ key. subst (λ (f : Found). BothTold (IsFree key) image (data_page layout) (get f.states key) (get objects key)) same (reading.told key)),
    )

-- It has the last number of the store after the groups that survived, or of that after the next.
pub Survives-last : (pages : ℕ) (image : Image) (layout : Layout) (start : Store) (groups : List Group) (j : ℕ) (found : Found)
    → Reads pages image (Opened found) → Survives pages image layout start groups j
    → (found.last ≡ (store_at start groups j).last) ⊎ (found.last ≡ (store_at start groups (j + 1)).last)
Survives-last pages image layout start groups j found reads survives =
    elim survives [
      | inl reading ↦ inl (told-by NoneFree pages image layout (store_at start groups j).objects (store_at start groups j).last found reads reading).0
      | inr next ↦ (
          let part : ReadsAsPart pages image layout (store_at start groups j) next.0 = next.2 in
          let objects = with_commits (store_at start groups j).objects next.0.after.objects part.kept in
          let last = (told-by (IsByChance image layout next.0.after part.kept) pages image layout objects next.0.after.last found reads part.reads).0 in
          let step : suc j ≡ j + 1 = omega arith in
          inr (
          last ∙ ap (λ (s : Store). s.last) (sym (store_at-next start groups j next.0 next.1)) ∙ ap (λ (n : ℕ). (store_at start groups n).last) step
          ))
    ]

-- So a disk with a smaller last number didn't survive so, where numbers don't fall.
pub Survives-not_older : (pages : ℕ) (image : Image) (layout : Layout) (start : Store) (groups : List Group) (j : ℕ) (found : Found)
    → Reads pages image (Opened found) → (store_at start groups j).last ≤ (store_at start groups (j + 1)).last → found.last < (store_at start groups j).last
    → Survives pages image layout start groups j → ⊥
Survives-not_older pages image layout start groups j found reads rise less survives =
    elim (Survives-last pages image layout start groups j found reads survives) [
      | inl same ↦ omega (arith, same, less)
      | inr next ↦ omega (arith, next, less, rise)
    ]

-- What no transaction of the next group changes is as those that survived left it: the number, the place, and the content that the
-- pages hold. What they left nothing under has nothing.
pub Survives-not_forgotten : (pages : ℕ) (image : Image) (layout : Layout) (start : Store) (groups : List Group) (j : ℕ) (found : Found) (key : List ℕ)
    → Reads pages image (Opened found) → ((group : Group) → slice_get groups j ≡ Some group → IsUnder group.commits key → ⊥)
    → Survives pages image layout start groups j
    → BothTold ⊥ image (data_page layout) (get found.states key) (get (store_at start groups j).objects key)
Survives-not_forgotten pages image layout start groups j found key reads none survives =
    elim survives [
      | inl reading ↦ (told-by NoneFree pages image layout (store_at start groups j).objects (store_at start groups j).last found reads reading).2 key
      | inr next ↦ (
          let before : FinMap key_order Object = (store_at start groups j).objects in
          let after : FinMap key_order Object = next.0.after.objects in
          let part : ReadsAsPart pages image layout (store_at start groups j) next.0 = next.2 in
          let unkept : IsUnder part.kept key → ⊥ =
          λ under. none next.0 next.1 (kept-under image layout next.0.after next.0.commits part.kept key part.are_kept under) in
          let free : List ℕ → Type 0 = IsByChance image layout next.0.after part.kept in
          let told = (told-by free pages image layout (with_commits before after part.kept) next.0.after.last found reads part.reads).2 key in
          subst (λ (o : Option Object). BothTold ⊥ image (data_page layout) (get found.states key) o) (commits-other before after part.kept key unkept)
          (BothTold-free (free key) ⊥ image (data_page layout) (get found.states key) (get (with_commits before after part.kept) key)
          (λ chance. unkept chance.0) told))
    ]

-- A transaction of a group is there: all its states verify, and all the keys that it changes are as the group leaves them, but for
-- contents where there is chance.
pub record IsThere (image : Image) (layout : Layout) (found : Found) (group : Group) (commit : Commit) : Type 0 where
  pub verifies : DoesCommitVerify image layout group.after commit
  pub told : (key : List ℕ) → DoesChange commit key
      → BothTold (IsByChance image layout group.after group.commits key) image (data_page layout) (get found.states key) (get group.after.objects key)

-- It isn't: the disk has the last number of the store before, or one of the transaction's states doesn't verify; and all the keys are
-- as before.
pub record IsUnchanged (image : Image) (layout : Layout) (found : Found) (before : Store) (group : Group) (commit : Commit) : Type 0 where
  pub why : (found.last ≡ before.last) ⊎ (DoesCommitVerify image layout group.after commit → ⊥)
  pub told : (key : List ℕ) → DoesChange commit key → BothTold ⊥ image (data_page layout) (get found.states key) (get before.objects key)

part-whole : (pages : ℕ) (image : Image) (layout : Layout) (store : Store) (group : Group) (part : ReadsAsPart pages image layout store group) (found : Found)
    (commit : Commit) → Reads pages image (Opened found) → Contains group.commits commit → AreChangesApart group.commits
    → IsThere image layout found group commit ⊎ IsUnchanged image layout found store group commit
part-whole pages image layout store group part found commit reads among apart =
    let before : FinMap key_order Object = store.objects in
    let after : FinMap key_order Object = group.after.objects in
    let objects : FinMap key_order Object = with_commits before after part.kept in
    let free : List ℕ → Type 0 = IsByChance image layout group.after part.kept in
    let told = (told-by free pages image layout objects group.after.last found reads part.reads).2 in
    elim (kept-each image layout group.after group.commits part.kept commit apart part.are_kept among) [
      | inl whole ↦ inl (record {
        verifies = whole.0;
        told = λ key changes.
            subst (λ (o : Option Object). BothTold (IsByChance image layout group.after group.commits key) image (data_page layout) (get found.states key) o)
            (commits-set before after part.kept key (commit, whole.1, changes))
            (BothTold-free (free key) (IsByChance image layout group.after group.commits key) image (data_page layout) (get found.states key) (get objects key)
            (λ chance. (kept-under image layout group.after group.commits part.kept key part.are_kept chance.0, chance.1)) (told key));
      })
      | inr none ↦ inr (record {
        why = inr none.0;
        told = λ key changes.
            subst (λ (o : Option Object). BothTold ⊥ image (data_page layout) (get found.states key) o)
            (commits-other before after part.kept key (none.1 key changes))
            (BothTold-free (free key) ⊥ image (data_page layout) (get found.states key) (get objects key) (λ chance. none.1 key changes chance.0) (told key));
      })
    ]

-- A transaction of the next group that is there under one key is there under each, and one that isn't there under one is under none.
pub Survives-whole : (pages : ℕ) (image : Image) (layout : Layout) (start : Store) (groups : List Group) (j : ℕ) (found : Found) (group : Group) (commit : Commit)
    → Reads pages image (Opened found) → slice_get groups j ≡ Some group → Contains group.commits commit → AreChangesApart group.commits
    → Survives pages image layout start groups j
    → IsThere image layout found group commit ⊎ IsUnchanged image layout found (store_at start groups j) group commit
Survives-whole pages image layout start groups j found group commit reads there among apart survives =
    elim survives [
      | inl reading ↦ (
          let store : Store = store_at start groups j in
          let told = told-by NoneFree pages image layout store.objects store.last found reads reading in
          inr (record { why = inl told.0; told = λ key changes. told.2 key }))
      | inr next ↦ (
          let same : next.0 ≡ group = (let both : Some next.0 ≡ Some group = sym next.1 ∙ there in cc) in
          let part : ReadsAsPart pages image layout (store_at start groups j) group =
          subst (λ (g : Group). ReadsAsPart pages image layout (store_at start groups j) g) same next.2 in
          part-whole pages image layout (store_at start groups j) group part found commit reads among apart)
    ]

-- A disk that survived is a store of this layout.
pub found_by : (pages : ℕ) (image : Image) (layout : Layout) (start : Store) (groups : List Group) (j : ℕ) → Survives pages image layout start groups j
    → (found : Found) × Reads pages image (Opened found) × (found.layout ≡ layout)
found_by pages image layout start groups j survives =
    elim survives [
      | inl reading ↦ (reading.found, reading.reads, reading.layout_is)
      | inr next ↦ (next.2.reads.found, next.2.reads.reads, next.2.reads.layout_is)
    ]

-- No page of it is owned twice: the places of two keys share none.
pub Survives-apart : (pages : ℕ) (image : Image) (layout : Layout) (start : Store) (groups : List Group) (j : ℕ) (found : Found) (a b : List ℕ) (one other : State)
    → Reads pages image (Opened found) → Survives pages image layout start groups j → (a ≡ b → ⊥) → get found.states a ≡ Some one → get found.states b ≡ Some other
    → Apart (blocks_of_states found.states) × ((page : ℕ) → owners (blocks_of (place_of one)) page + owners (blocks_of (place_of other)) page ≤ 1)
Survives-apart pages image layout start groups j found a b one other reads survives differ at_a at_b =
    let states : FinMap key_order State = found.states in
    let rest : FinMap key_order State = remove states a in
    let still : get rest b ≡ Some other =
    get-remove keys_total states a b ∙ ap (λ (t : Bool). cond t None (get states b)) (apart-test b a (λ same. differ (sym same))) ∙ at_b in
    let moves : IsPermutation (blocks_of (place_of one) ++ blocks_of_states rest) (blocks_of_states states) =
    subst (λ (s : Option State). IsPermutation (old_part (λ (t : State). blocks_of (place_of t)) s ++ blocks_of_states rest) (blocks_of_states states)) at_a
    (blocks-remove (λ (t : State). blocks_of (place_of t)) states a) in (
      reads.1,
      (λ page.
          omega (
            arith,
            reads.1 page,
            owners-permutation (blocks_of (place_of one) ++ blocks_of_states rest) (blocks_of_states states) page moves,
            owners-append (blocks_of (place_of one)) (blocks_of_states rest) page,
            owners-states rest b other page still,
          )),
    )

-- A disk that is refused didn't survive.
pub Survives-not_refused : (pages : ℕ) (image : Image) (layout : Layout) (start : Store) (groups : List Group) (j : ℕ) (refusal : Refusal)
    → Reads pages image (Refused refusal) → Survives pages image layout start groups j → ⊥
Survives-not_refused pages image layout start groups j refusal refused survives =
    let one = found_by pages image layout start groups j survives in
    let same : Refused refusal ≡ Opened one.0 = Reads-one pages image (Refused refusal) (Opened one.0) refused one.1 in
    absurd (cc same)
