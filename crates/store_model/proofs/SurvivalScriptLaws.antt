-- What survives of a script: its disk tells how many groups survived, up to one; none that was answered is undone in part, and a
-- disk with the store after a group is right at either end of the next lead.
use Rattle.std.proofs.Common.{◌≡◌, ℕ, zero, suc, ◌+◌, ◌-◌, ◌<◌, ◌≤◌, ◌⊎◌, List, [], ◌∷◌, length, Some, inl, inr, ap, arith}
use Rattle.std.specs.Prelude.{Contains, slice_get}
use Rattle.std.proofs.lemmas.Bool.{cases_lt}
use Rattle.store_model.specs.Disk.{Image}
use Rattle.store_model.specs.Group.{Commit}
use Rattle.store_model.specs.Images.{Story}
use Rattle.store_model.specs.Layout.{Layout}
use Rattle.store_model.specs.Play.{play}
use Rattle.store_model.specs.Reading.{Found, Opened, Reads}
use Rattle.store_model.specs.Store.{Store}
use Rattle.store_model.specs.Survival.{DoesCommitVerify, Group, ReadsAs, Survives, SurvivesAll, groups_of, store_at}
use Rattle.store_model.proofs.SurvivalLaws.{IsThere, IsUnchanged, Survives-last, Survives-not_older, Survives-whole, found_by}
use Rattle.store_model.proofs.SurvivalPlayLaws.{DoGroupsFollow, follow-at, play-follow}
use Rattle.store_model.proofs.SurvivalRightLaws.{Survives-one_fewer}

-- numbers don't fall from group to group
rise : (start : Store) (groups : List Group) (j : ℕ) → DoGroupsFollow start groups → (store_at start groups j).last ≤ (store_at start groups (suc j)).last
rise start [] zero follow = omega arith
rise start [] (suc j) follow = omega arith
rise start (group ∷ groups) zero follow = omega (arith, follow.0.last)
rise start (group ∷ groups) (suc j) follow = rise group.after groups j follow.2

-- and with each they rise
rise-more : (start : Store) (groups : List Group) (j : ℕ) → DoGroupsFollow start groups → j < length groups
    → (store_at start groups j).last < (store_at start groups (suc j)).last
rise-more start [] j follow less = absurd (omega (arith, less))
rise-more start (group ∷ groups) zero follow less = omega (arith, follow.0.last, follow.1)
rise-more start (group ∷ groups) (suc j) follow less = rise-more group.after groups j follow.2 (omega (arith, less))

rise-far : (start : Store) (groups : List Group) (j n : ℕ) → DoGroupsFollow start groups → (store_at start groups j).last ≤ (store_at start groups (n + j)).last
rise-far start groups j zero follow =
    let step : zero + j ≡ j = omega arith in
    omega (arith, ap (λ (k : ℕ). (store_at start groups k).last) step)
rise-far start groups j (suc n) follow =
    let step : suc (n + j) ≡ suc n + j = omega arith in
    omega (arith, rise-far start groups j n follow, rise start groups (n + j) follow, ap (λ (k : ℕ). (store_at start groups k).last) step)

-- A later store of a script has a greater number.
pub follow-less : (start : Store) (groups : List Group) (j k : ℕ) → DoGroupsFollow start groups → j < k → k ≤ length groups
    → (store_at start groups j).last < (store_at start groups k).last
follow-less start groups j k follow less most =
    let n : ℕ = k - suc j in
    let far : n + suc j ≡ k = omega (arith, less) in
    omega (
      arith,
      rise-more start groups j follow (omega (arith, less, most)),
      rise-far start groups (suc j) n follow,
      ap (λ (i : ℕ). (store_at start groups i).last) far,
    )

-- numbers don't fall
pub follow-rise : (start : Store) (groups : List Group) (j : ℕ) → DoGroupsFollow start groups → (store_at start groups j).last ≤ (store_at start groups (j + 1)).last
follow-rise start groups j follow =
    let step : suc j ≡ j + 1 = omega arith in
    omega (arith, rise start groups j follow, ap (λ (n : ℕ). (store_at start groups n).last) step)

-- A disk that survived with j groups and with k of a script's: they are the same, or k is one more. So it doesn't pass for a disk of
-- more groups than it has, nor of fewer, but for the one that may be there in part.
pub Survives-near : (pages : ℕ) (image : Image) (layout : Layout) (start : Store) (groups : List Group) (j k : ℕ) → DoGroupsFollow start groups
    → j < k → k ≤ length groups → Survives pages image layout start groups j → Survives pages image layout start groups k → k ≡ j + 1
Survives-near pages image layout start groups j k follow less most fewer more =
    elim (cases_lt (j + 1) k) [
      | inr near ↦ omega (arith, less, near)
      | inl far ↦ (
          let one = found_by pages image layout start groups k more in
          let found : Found = one.0 in
          let gap : (store_at start groups (j + 1)).last < (store_at start groups k).last = follow-less start groups (j + 1) k follow far most in
          let up : (store_at start groups j).last ≤ (store_at start groups (j + 1)).last = follow-rise start groups j follow in
          let past : (store_at start groups k).last ≤ (store_at start groups (k + 1)).last = follow-rise start groups k follow in
          absurd (elim (Survives-last pages image layout start groups j found one.1 fewer) [
            | inl low ↦ elim (Survives-last pages image layout start groups k found one.1 more) [
              | inl high ↦ omega (arith, low, high, gap, up)
              | inr higher ↦ omega (arith, low, higher, gap, up, past)
            ]
            | inr next ↦ elim (Survives-last pages image layout start groups k found one.1 more) [
              | inl high ↦ omega (arith, next, high, gap)
              | inr higher ↦ omega (arith, next, higher, gap, past)
            ]
          ]))
    ]

-- A disk never runs ahead of the answers: no image of any moment has a greater number than the store after those that were answered and the next.
pub SurvivesAll-not_ahead : (pages : ℕ) (layout : Layout) (start : Store) (groups : List Group) (since answered : ℕ) (story : Story) (image : Image) (found : Found)
    → DoGroupsFollow start groups → SurvivesAll pages layout start groups since answered story → story.left since image → Reads pages image (Opened found)
    → found.last ≤ (store_at start groups (answered + 1)).last
SurvivesAll-not_ahead pages layout start groups since answered story image found follow survives left reads =
    let one = survives.each image left in
    let j : ℕ = one.0 in
    elim (Survives-last pages image layout start groups j found reads one.2) [
      | inl same ↦
          (let far : answered + 1 - j + j ≡ answered + 1 = omega (arith, one.1) in
          omega (arith, same, rise-far start groups j (answered + 1 - j) follow, ap (λ (k : ℕ). (store_at start groups k).last) far))
      | inr next ↦
          (let far : answered - j + (j + 1) ≡ answered + 1 = omega (arith, one.1) in
          omega (arith, next, rise-far start groups (j + 1) (answered - j) follow, ap (λ (k : ℕ). (store_at start groups k).last) far))
    ]

-- A disk with a smaller number than that of the store after some groups of a script didn't survive with them.
pub script-not_older : (pages : ℕ) (image : Image) (layout : Layout) (start : Store) (bytes : List ℕ) (j : ℕ) (found : Found) → Reads pages image (Opened found)
    → let groups : List Group = groups_of (play layout start bytes).lines in found.last < (store_at start groups j).last
    → Survives pages image layout start groups j → ⊥
script-not_older pages image layout start bytes j found reads less survives =
    let groups : List Group = groups_of (play layout start bytes).lines in
    Survives-not_older pages image layout start groups j found reads (follow-rise start groups j (play-follow layout start bytes)) less survives

-- Each transaction of a script's next group is there as a whole or not at all.
pub script-whole : (pages : ℕ) (image : Image) (layout : Layout) (start : Store) (bytes : List ℕ) (j : ℕ) (found : Found) (group : Group) (commit : Commit)
    → Reads pages image (Opened found) → let groups : List Group = groups_of (play layout start bytes).lines in slice_get groups j ≡ Some group
    → Contains group.commits commit → Survives pages image layout start groups j
    → IsThere image layout found group commit ⊎ IsUnchanged image layout found (store_at start groups j) group commit
script-whole pages image layout start bytes j found group commit reads there among survives =
    let groups : List Group = groups_of (play layout start bytes).lines in
    Survives-whole pages image layout start groups j found group commit reads there among
    (follow-at start groups j group (play-follow layout start bytes) there).apart survives

-- A disk with the store after the next group of a script has survived with the groups before it, if its states verify.
pub script-one_fewer : (pages : ℕ) (image : Image) (layout : Layout) (start : Store) (bytes : List ℕ) (j : ℕ) (group : Group)
    → let groups : List Group = groups_of (play layout start bytes).lines in slice_get groups j ≡ Some group
    → ((commit : Commit) → Contains group.commits commit → DoesCommitVerify image layout group.after commit)
    → ReadsAs pages image layout (store_at start groups (j + 1)).objects (store_at start groups (j + 1)).last → Survives pages image layout start groups j
script-one_fewer pages image layout start bytes j group there verify reading =
    let groups : List Group = groups_of (play layout start bytes).lines in
    Survives-one_fewer pages image layout start groups j group there verify (follow-at start groups j group (play-follow layout start bytes) there).others reading
