-- How what survives each crash of a run goes on along its steps: it begins where whatever a crash left reads as the store, stays while
-- each step leaves what was answered with a part of its own group, rises with a group on which the disk rests, and holds of more groups.
use Rattle.std.proofs.Common.{◌≡◌, ℕ, zero, suc, ◌+◌, ◌≤◌, List, [], ◌∷◌, ◌++◌, length, Some, None, inl, inr, refl, sym, ◌∙◌, ap, subst, arith}
use Rattle.std.specs.Prelude.{slice_get}
use Rattle.std.proofs.Math.Nat.{le_refl, le_trans}
use Rattle.std.proofs.lemmas.Bool.{cases_lt}
use Rattle.std.proofs.lemmas.Option.{slice_get_past}
use Rattle.store_model.specs.Disk.{Image}
use Rattle.store_model.specs.Group.{Commit}
use Rattle.store_model.specs.Images.{LeavesOnly, Reached, Settled, Story}
use Rattle.store_model.specs.Layout.{Layout}
use Rattle.store_model.specs.Store.{Store}
use Rattle.store_model.specs.Survival.{Group, ReadsAs, ReadsAsPart, RestsAs, Survives, SurvivesAll, SurvivesStep, groups_by, store_at}
use Rattle.store_model.proofs.ImageLaws.{climbed_on, climbed_up}

-- Past the last group there is the store after all.
store_at-past : (start : Store) (groups : List Group) (j : ℕ) → length groups ≤ j → store_at start groups j ≡ store_at start groups (length groups)
store_at-past start [] zero past = refl
store_at-past start [] (suc j) past = refl
store_at-past start (group ∷ groups) zero past = absurd (omega (arith, past))
store_at-past start (group ∷ groups) (suc j) past = store_at-past group.after groups j (omega (arith, past))

-- More groups behind some change none of the stores after these.
store_at-more : (start : Store) (groups more : List Group) (j : ℕ) → j ≤ length groups → store_at start (groups ++ more) j ≡ store_at start groups j
store_at-more start [] more zero within = refl
store_at-more start [] more (suc j) within = absurd (omega (arith, within))
store_at-more start (group ∷ groups) more zero within = refl
store_at-more start (group ∷ groups) more (suc j) within = store_at-more group.after groups more j (omega (arith, within))

there-more : (groups more : List Group) (j : ℕ) (group : Group) → slice_get groups j ≡ Some group → slice_get (groups ++ more) j ≡ Some group
there-more [] more j group there = absurd (cc there)
there-more (one ∷ groups) more zero group there = there
there-more (one ∷ groups) more (suc j) group there = there-more groups more j group there

-- What survived with some groups has survived with them among more.
pub Survives-more : (pages : ℕ) (image : Image) (layout : Layout) (start : Store) (groups more : List Group) (j : ℕ) → j ≤ length groups
    → Survives pages image layout start groups j → Survives pages image layout start (groups ++ more) j
Survives-more pages image layout start groups more j within survives =
    let same : store_at start groups j ≡ store_at start (groups ++ more) j = sym (store_at-more start groups more j within) in
    elim survives [
      | inl reading ↦ inl (subst (λ (s : Store). ReadsAs pages image layout s.objects s.last) same reading)
      | inr next ↦ inr (
        next.0,
        there-more groups more j next.0 next.1,
        subst (λ (s : Store). ReadsAsPart pages image layout s next.0) same next.2,
      )
    ]

-- and with at most as many groups as there are
pub Survives-within : (pages : ℕ) (image : Image) (layout : Layout) (start : Store) (groups : List Group) (least j : ℕ) → least ≤ length groups → least ≤ j
    → Survives pages image layout start groups j → (n : ℕ) × (least ≤ n) × (n ≤ length groups) × Survives pages image layout start groups n
Survives-within pages image layout start groups least j few from survives =
    elim (cases_lt j (length groups)) [
      | inl less ↦ (j, from, omega (arith, less), survives)
      | inr past ↦ (
        length groups,
        few,
        omega arith,
        elim survives [
          | inl reading ↦ inl (subst (λ (s : Store). ReadsAs pages image layout s.objects s.last) (store_at-past start groups j (omega (arith, past))) reading)
          | inr next ↦ (let none : None ≡ Some next.0 = sym (slice_get_past groups j (omega (arith, past))) ∙ next.1 in absurd (cc none))
        ],
      )
    ]

reached-begin : (pages : ℕ) (layout : Layout) (start : Store) (since : ℕ) (story : Story) → since ≤ story.time
    → ((image : Image) → story.left since image → ReadsAs pages image layout start.objects start.last)
    → (k : ℕ) → k ≤ 0 → Reached (λ j image. Survives pages image layout start [] j) k story
reached-begin pages layout start since story past has zero most = record {
  time = since;
  past = past;
  once = (story.reads, story.since since story.time story.reads past (le_refl story.time) story.own, inl (has story.reads (story.since since story.time story.reads past (le_refl story.time) story.own)));
  each = λ image left. (0, omega arith, inl (has image left));
}
reached-begin pages layout start since story past has (suc k) most = absurd (omega (arith, most))

-- It begins where whatever a crash left since then reads as the store.
pub SurvivesAll-begin : (pages : ℕ) (layout : Layout) (start : Store) (since : ℕ) (story : Story) → since ≤ story.time
    → ((image : Image) → story.left since image → ReadsAs pages image layout start.objects start.last)
    → SurvivesAll pages layout start [] since 0 story
SurvivesAll-begin pages layout start since story past has = record {
  past = past;
  some = omega arith;
  each = λ image left. (0, omega arith, inl (has image left));
  climbed = reached-begin pages layout start since story past has;
  now = λ image left. inl (has image (story.since since story.time image past (le_refl story.time) left));
}

-- Calls that leave only what has the groups that were answered, with at most a part of the next.
pub SurvivesAll-on : (pages : ℕ) (layout : Layout) (start : Store) (groups : List Group) (since answered : ℕ) (a b : Story)
    → SurvivesAll pages layout start groups since answered a
    → LeavesOnly (λ image. Survives pages image layout start groups answered) a b
    → SurvivesAll pages layout start groups since answered b
SurvivesAll-on pages layout start groups since answered a b survives leaves = record {
  past = le_trans survives.past leaves.later;
  some = survives.some;
  each = λ image left. elim (leaves.leaves since image survives.past left) [
    | inl before ↦ survives.each image before
    | inr now ↦ (answered, le_refl answered, now)
  ];
  climbed = climbed_on (λ j image. Survives pages image layout start groups j) answered a b survives.climbed
      (record {
        later = leaves.later;
        leaves = λ t image most left. elim (leaves.leaves t image most left) [
          | inl before ↦ inl before
          | inr now ↦ inr (answered, le_refl answered, now)
        ];
        keeps = leaves.keeps;
      });
  now = λ image left. elim (leaves.leaves a.time image (le_refl a.time) (b.since a.time b.time image leaves.later (le_refl b.time) left)) [
    | inl before ↦ survives.now image before
    | inr now ↦ now
  ];
}

-- One more group is answered, where the disk has it once its writes are settled.
pub SurvivesAll-up : (pages : ℕ) (layout : Layout) (start : Store) (groups : List Group) (since answered : ℕ) (story : Story) → Settled story
    → answered + 1 ≤ length groups → Survives pages story.reads layout start groups (answered + 1)
    → SurvivesAll pages layout start groups since answered story → SurvivesAll pages layout start groups since (answered + 1) story
SurvivesAll-up pages layout start groups since answered story settled more has survives = record {
  past = survives.past;
  some = more;
  each = λ image left. let one = survives.each image left in (one.0, omega (arith, one.1), one.2);
  climbed = climbed_up (λ j image. Survives pages image layout start groups j) answered story survives.climbed settled has;
  now = λ image left. subst (λ (one : Image). Survives pages one layout start groups (answered + 1)) (sym (settled image left)) has;
}

-- More groups may follow.
pub SurvivesAll-more : (pages : ℕ) (layout : Layout) (start : Store) (groups more : List Group) (since answered : ℕ) (story : Story)
    → answered ≤ length (groups ++ more)
    → SurvivesAll pages layout start groups since answered story → SurvivesAll pages layout start (groups ++ more) since answered story
SurvivesAll-more pages layout start groups more since answered story some survives = record {
  past = survives.past;
  some = some;
  each = λ image left.
      let one = survives.each image left in
      (one.0, one.1, Survives-more pages image layout start groups more one.0 (omega (arith, one.1, survives.some)) one.2);
  climbed = λ k most.
      let reached = survives.climbed k most in
      record {
        time = reached.time;
        past = reached.past;
        once = (
          reached.once.0,
          reached.once.1,
          Survives-more pages reached.once.0 layout start groups more k (omega (arith, most, survives.some)) reached.once.2,
        );
        each = λ image left.
            let one = reached.each image left in
            let within = Survives-within pages image layout start groups k one.0 (omega (arith, most, survives.some)) one.1 one.2 in
            (within.0, within.1, Survives-more pages image layout start groups more within.0 within.2 within.3);
      };
  now = λ image left. Survives-more pages image layout start groups more answered survives.some (survives.now image left);
}

behind-store : (start : Store) (groups more : List Group) → store_at start (groups ++ more) (length groups) ≡ store_at start groups (length groups)
behind-store start [] [] = refl
behind-store start [] (one ∷ more) = refl
behind-store start (group ∷ groups) more = behind-store group.after groups more

behind-there : (groups more : List Group) (group : Group) → slice_get more 0 ≡ Some group → slice_get (groups ++ more) (length groups) ≡ Some group
behind-there [] more group there = there
behind-there (one ∷ groups) more group there = behind-there groups more group there

store-zero : (start : Store) (groups : List Group) → store_at start groups 0 ≡ start
store-zero start [] = refl
store-zero start (group ∷ groups) = refl

-- What a step behind some groups survives with, the run survives with.
pub Survives-behind : (pages : ℕ) (image : Image) (layout : Layout) (start before : Store) (groups more : List Group)
    → store_at start groups (length groups) ≡ before → Survives pages image layout before more 0
    → Survives pages image layout start (groups ++ more) (length groups)
Survives-behind pages image layout start before groups more is survives =
    let same : store_at before more 0 ≡ store_at start (groups ++ more) (length groups) =
    store-zero before more ∙ sym is ∙ sym (behind-store start groups more) in
    elim survives [
      | inl reading ↦ inl (subst (λ (s : Store). ReadsAs pages image layout s.objects s.last) same reading)
      | inr next ↦ inr (
        next.0,
        behind-there groups more next.0 next.1,
        subst (λ (s : Store). ReadsAsPart pages image layout s next.0) same next.2,
      )
    ]

-- images that have P have Q
leaves-wider : (P Q : Image → Type 0) (a b : Story) → ((image : Image) → P image → Q image) → LeavesOnly P a b → LeavesOnly Q a b
leaves-wider P Q a b wider leaves = record {
  later = leaves.later;
  leaves = λ t image most left. elim (leaves.leaves t image most left) [
    | inl before ↦ inl before
    | inr now ↦ inr (wider image now)
  ];
  keeps = leaves.keeps;
}

groups-more : (groups more : List Group) → length groups ≤ length (groups ++ more)
groups-more [] more = omega arith
groups-more (group ∷ groups) more = omega (arith, groups-more groups more)

-- A step behind the groups of a run may have written a part of its own group, and no more.
pub SurvivesAll-step : (pages : ℕ) (layout : Layout) (start before after : Store) (groups : List Group) (commits : List Commit) (since : ℕ) (a b : Story)
    → store_at start groups (length groups) ≡ before
    → SurvivesAll pages layout start groups since (length groups) a
    → LeavesOnly (λ image. SurvivesStep pages image layout before commits after) a b
    → SurvivesAll pages layout start (groups ++ groups_by commits after) since (length groups) b
SurvivesAll-step pages layout start before after groups commits since a b is survives leaves =
    SurvivesAll-on pages layout start (groups ++ groups_by commits after) since (length groups) a b
    (SurvivesAll-more pages layout start groups (groups_by commits after) since (length groups) a (groups-more groups (groups_by commits after)) survives)
    (leaves-wider (λ image. SurvivesStep pages image layout before commits after)
    (λ image. Survives pages image layout start (groups ++ groups_by commits after) (length groups)) a b
    (λ image step. Survives-behind pages image layout start before groups (groups_by commits after) is step) leaves)

-- the store behind a group that is the last
store-last : (start : Store) (groups : List Group) (group : Group) → store_at start (groups ++ group ∷ []) (length groups + 1) ≡ group.after
store-last start [] group = refl
store-last start (one ∷ groups) group =
    let step : suc (length groups) + 1 ≡ suc (length groups + 1) = omega arith in
    ap (λ (n : ℕ). store_at start (one ∷ (groups ++ group ∷ [])) n) step ∙ store-last one.after groups group

group-last : (groups : List Group) (group : Group) → length (groups ++ group ∷ []) ≡ length groups + 1
group-last [] group = refl
group-last (one ∷ groups) group = let step : length (groups ++ group ∷ []) ≡ length groups + 1 = group-last groups group in omega (arith, step)

done-one : (pages : ℕ) (layout : Layout) (start : Store) (groups : List Group) (group : Group) (since : ℕ) (story : Story)
    → RestsAs pages layout group.after story
    → SurvivesAll pages layout start (groups ++ group ∷ []) since (length groups) story
    → SurvivesAll pages layout start (groups ++ group ∷ []) since (length (groups ++ group ∷ [])) story
done-one pages layout start groups group since story rests survives =
    subst (λ (n : ℕ). SurvivesAll pages layout start (groups ++ group ∷ []) since n story) (sym (group-last groups group))
    (SurvivesAll-up pages layout start (groups ++ group ∷ []) since (length groups) story rests.settled
    (let all : length (groups ++ group ∷ []) ≡ length groups + 1 = group-last groups group in omega (arith, all))
    (inl (subst (λ (s : Store). ReadsAs pages story.reads layout s.objects s.last) (sym (store-last start groups group)) rests.reads)) survives)

none-more : (groups : List Group) → groups ++ [] ≡ groups
none-more [] = refl
none-more (group ∷ groups) = ap (λ (gs : List Group). group ∷ gs) (none-more groups)

-- Where a step has returned, and the disk rests at the store behind it, its group was answered too.
pub SurvivesAll-done : (pages : ℕ) (layout : Layout) (start after : Store) (groups : List Group) (commits : List Commit) (since : ℕ) (story : Story)
    → RestsAs pages layout after story
    → SurvivesAll pages layout start (groups ++ groups_by commits after) since (length groups) story
    → SurvivesAll pages layout start (groups ++ groups_by commits after) since (length (groups ++ groups_by commits after)) story
SurvivesAll-done pages layout start after groups [] since story rests survives =
    subst (λ (n : ℕ). SurvivesAll pages layout start (groups ++ []) since n story) (ap (λ (gs : List Group). length gs) (sym (none-more groups))) survives
SurvivesAll-done pages layout start after groups (commit ∷ commits) since story rests survives =
    done-one pages layout start groups (record { commits = commit ∷ commits; after = after }) since story rests survives
