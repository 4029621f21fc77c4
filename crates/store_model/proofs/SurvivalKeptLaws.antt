-- Which of a group's transactions are kept: each is as a whole or not at all.
use Rattle.std.proofs.Common.{◌≡◌, ℕ, suc, ◌⊎◌, List, [], ◌∷◌, Some, inl, inr, refl, sym, ap, ◌∙◌, subst, arith}
use Rattle.std.specs.Prelude.{Contains, slice_get}
use Rattle.std.proofs.lemmas.Option.{slice_get-get_or}
use Rattle.store_model.specs.Disk.{Image}
use Rattle.store_model.specs.Group.{Commit}
use Rattle.store_model.specs.Layout.{Layout}
use Rattle.store_model.specs.Store.{Store}
use Rattle.store_model.specs.Survival.{AreChangesApart, AreKeptCommits, DoesChange, DoesCommitVerify, IsUnder}
use Rattle.store_model.proofs.SetLaws.{among-behind, among-cases, among-first}
use Rattle.store_model.proofs.SurvivalPartLaws.{under-behind, under-cases, under-first}

-- those behind the first are apart too
changes-behind : (commit : Commit) (commits : List Commit) → AreChangesApart (commit ∷ commits) → AreChangesApart commits
changes-behind commit commits apart i j one other key less at there = apart (suc i) (suc j) one other key (omega (arith, less)) at there

-- a key that the first changes is under none behind it
changes-first : (commit : Commit) (commits : List Commit) (key : List ℕ) → AreChangesApart (commit ∷ commits) → DoesChange commit key → IsUnder commits key → ⊥
changes-first commit commits key apart changes under =
    let among : Contains commits under.0 = under.1 in
    let there : slice_get commits among.0 ≡ Some under.0 = slice_get-get_or commits among.0 under.0 among.1 ∙ ap (λ (c : Commit). Some c) among.2 in
    apart 0 (suc among.0) commit under.0 key (omega arith) refl there changes under.2

-- Those that are kept are among the group's, so a key under them is under these.
pub kept-under : (image : Image) (layout : Layout) (after : Store) (commits kept : List Commit) (key : List ℕ)
    → AreKeptCommits image layout after commits kept → IsUnder kept key → IsUnder commits key
kept-under image layout after [] kept key are under =
    let none : IsUnder [] key = subst (λ (cs : List Commit). IsUnder cs key) are under in absurd (omega (arith, none.1.1))
kept-under image layout after (commit ∷ commits) kept key are under =
    elim are [
      | inl verifies ↦ elim (under-cases commit verifies.1.0 key (subst (λ (cs : List Commit). IsUnder cs key) verifies.1.1 under)) [
        | inl here ↦ under-first commit commits key here
        | inr behind ↦ under-behind commit commits key (kept-under image layout after commits verifies.1.0 key verifies.1.2 behind)
      ]
      | inr fails ↦ under-behind commit commits key (kept-under image layout after commits kept key fails.1 under)
    ]

-- A transaction of a group is kept, or none of the keys that it changes is under those that are: the first where all its states
-- verify, the second where they don't.
pub kept-each : (image : Image) (layout : Layout) (after : Store) (commits kept : List Commit) (commit : Commit) → AreChangesApart commits
    → AreKeptCommits image layout after commits kept → Contains commits commit
    → (DoesCommitVerify image layout after commit × Contains kept commit)
    ⊎ ((DoesCommitVerify image layout after commit → ⊥) × ((key : List ℕ) → DoesChange commit key → IsUnder kept key → ⊥))
kept-each image layout after [] kept commit apart are among = absurd (omega (arith, among.1))
kept-each image layout after (first ∷ commits) kept commit apart are among =
    elim (among-cases first commits commit among) [
      | inl here ↦ elim are [
        | inl verifies ↦ inl (
          subst (λ (c : Commit). DoesCommitVerify image layout after c) here verifies.0,
          subst (λ (cs : List Commit). Contains cs commit) (sym verifies.1.1)
              (subst (λ (c : Commit). Contains (first ∷ verifies.1.0) c) here (among-first first verifies.1.0)),
        )
        | inr fails ↦ inr (
          subst (λ (c : Commit). DoesCommitVerify image layout after c → ⊥) here fails.0,
          (λ key changes under. changes-first first commits key apart (subst (λ (c : Commit). DoesChange c key) (sym here) changes)
              (kept-under image layout after commits kept key fails.1 under)),
        )
      ]
      | inr behind ↦ elim are [
        | inl verifies ↦ elim (kept-each image layout after commits verifies.1.0 commit (changes-behind first commits apart) verifies.1.2 behind) [
          | inl whole ↦ inl (
            whole.0,
            subst (λ (cs : List Commit). Contains cs commit) (sym verifies.1.1) (among-behind first verifies.1.0 commit whole.1),
          )
          | inr none ↦ inr (
            none.0,
            (λ key changes under. elim (under-cases first verifies.1.0 key (subst (λ (cs : List Commit). IsUnder cs key) verifies.1.1 under)) [
              | inl mine ↦ changes-first first commits key apart mine (commit, behind, changes)
              | inr other ↦ none.1 key changes other
            ]),
          )
        ]
        | inr fails ↦ kept-each image layout after commits kept commit (changes-behind first commits apart) fails.1 behind
      ]
    ]

-- Where all the states of each verify, all are kept.
pub kept-all : (image : Image) (layout : Layout) (after : Store) (commits : List Commit)
    → ((commit : Commit) → Contains commits commit → DoesCommitVerify image layout after commit) → AreKeptCommits image layout after commits commits
kept-all image layout after [] each = refl
kept-all image layout after (commit ∷ commits) each = inl (
  each commit (among-first commit commits),
  (commits, refl, kept-all image layout after commits (λ one among. each one (among-behind commit commits one among))),
)

-- The states of each that is kept verify.
pub kept-verify : (image : Image) (layout : Layout) (after : Store) (commits kept : List Commit) (commit : Commit)
    → AreKeptCommits image layout after commits kept → Contains kept commit → DoesCommitVerify image layout after commit
kept-verify image layout after [] kept commit are among =
    let none : Contains [] commit = subst (λ (cs : List Commit). Contains cs commit) are among in absurd (omega (arith, none.1))
kept-verify image layout after (first ∷ commits) kept commit are among =
    elim are [
      | inl verifies ↦ elim (among-cases first verifies.1.0 commit (subst (λ (cs : List Commit). Contains cs commit) verifies.1.1 among)) [
        | inl here ↦ subst (λ (c : Commit). DoesCommitVerify image layout after c) here verifies.0
        | inr behind ↦ kept-verify image layout after commits verifies.1.0 commit verifies.1.2 behind
      ]
      | inr fails ↦ kept-verify image layout after commits kept commit fails.1 among
    ]
