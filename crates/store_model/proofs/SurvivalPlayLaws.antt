-- The groups of a script as it is played: each changes only the keys of its transactions, no two of which change one key, and the
-- last number rises by how many they are. So what the laws of survival ask of groups holds of each script's.
use Rattle.std.proofs.Common.{◌≡◌, ℕ, zero, suc, ◌+◌, ◌≤◌, List, [], ◌∷◌, ◌++◌, length, Option, Some, None, refl, sym, ap, ◌∙◌, subst, arith}
use Rattle.std.specs.Prelude.{⊤, fold, slice_get}
use Rattle.std.specs.FinMap.{get}
use Rattle.std.specs.List.{cons_option, flat_map}
use Rattle.store_model.specs.Group.{Commit, commits_of}
use Rattle.store_model.specs.Layout.{Layout}
use Rattle.store_model.specs.Play.{Played, PlayedLine, action_play, commits_in, line_play, play, play_lines, played_then, step_play, store_behind, transact}
use Rattle.store_model.specs.Script.{Action, Asks, Checkpoint, Close, Find, Lead, Line, Ls, Malformed, Open, Order, Pread, Session, Skipped, Step, Transact, line_at, lines_of}
use Rattle.store_model.specs.Store.{Store}
use Rattle.store_model.specs.Survival.{AreChangesApart, Group, IsUnder, group_of, groups_of, store_at}
use Rattle.store_model.specs.Turn as turn
use Rattle.store_model.specs.World.{Outcome, World, checkpointed, group_in, lead, lead_queue, led, with_commit, world_over}
use Rattle.store_model.proofs.SurvivalGroupLaws.{commits-last, commits-others, group-committed}

-- a group behind a store
pub record DoesFollow (before : Store) (group : Group) : Type 0 where
  pub apart : AreChangesApart group.commits
  pub last : group.after.last ≡ before.last + length group.commits
  pub others : (key : List ℕ) → (IsUnder group.commits key → ⊥) → get before.objects key ≡ get group.after.objects key

-- group after group, none of them empty
abbrev pub DoGroupsFollow : Store → List Group → Type 0
DoGroupsFollow start [] = ⊤
DoGroupsFollow start (group ∷ groups) = DoesFollow start group × (1 ≤ length group.commits) × DoGroupsFollow group.after groups

-- what comes of a step: a store that follows, and the same one where nothing is committed
record IsOutcome (before : Store) (outcome : Outcome) : Type 0 where
  pub none : outcome.commits ≡ [] → outcome.world.store ≡ before
  pub follows : DoesFollow before (record { commits = outcome.commits; after = outcome.world.store })

-- nothing is committed
idle-outcome : (before : Store) (outcome : Outcome) → outcome.commits ≡ [] → outcome.world.store ≡ before → IsOutcome before outcome
idle-outcome before outcome none same = record {
  none = λ also. same;
  follows = record {
    apart = λ i j one other key less at there changes again.
        let nothing : None ≡ Some one = ap (λ (cs : List Commit). slice_get cs i) (sym none) ∙ at in absurd (cc nothing);
    last = omega (arith, ap (λ (s : Store). s.last) same, ap (λ (cs : List Commit). length cs) none);
    others = λ key under. ap (λ (s : Store). get s.objects key) (sym same);
  };
}

led-outcome : (layout : Layout) (world : World) → IsOutcome world.store (led world (group_in layout world))
led-outcome layout world =
    let commits : List Commit = commits_of (group_in layout world) in
    let are = group-committed layout world in
    record {
      none = λ none. ap (fold (with_commit world.sessions) world.store) none;
      follows = record {
        apart = are.apart;
        last = commits-last world.sessions world.store commits are.numbers;
        others = λ key none. sym (commits-others world.sessions world.store commits key are.keys none);
      };
    }

lead-outcome : (layout : Layout) (world : World) (queue : List ℕ) → IsOutcome world.store (lead_queue layout world queue)
lead-outcome layout world [] = idle-outcome world.store (lead_queue layout world []) refl refl
lead-outcome layout world (session ∷ queue) = led-outcome layout world

transact-outcome : (world : World) (number : ℕ) (action : turn.Action) (outcome : Outcome) → Some (transact world number action) ≡ Some outcome
    → IsOutcome world.store outcome
transact-outcome world number action outcome is =
    let same : transact world number action ≡ outcome = cc is in
    subst (λ (o : Outcome). IsOutcome world.store o) same (idle-outcome world.store (transact world number action) refl refl)

action-outcome : (world : World) (number : ℕ) (action : Action) (outcome : Outcome) → action_play world number action ≡ Some outcome → IsOutcome world.store outcome
action-outcome world number (Transact turn.Begin) outcome is = transact-outcome world number turn.Begin outcome is
action-outcome world number (Transact (turn.Get key)) outcome is = transact-outcome world number (turn.Get key) outcome is
action-outcome world number (Transact (turn.Stat key)) outcome is = transact-outcome world number (turn.Stat key) outcome is
action-outcome world number (Transact (turn.Put key content)) outcome is = transact-outcome world number (turn.Put key content) outcome is
action-outcome world number (Transact (turn.Append key bytes)) outcome is = absurd (cc is)
action-outcome world number (Transact (turn.Delete key)) outcome is = transact-outcome world number (turn.Delete key) outcome is
action-outcome world number (Transact turn.Commit) outcome is = transact-outcome world number turn.Commit outcome is
action-outcome world number (Transact turn.Abort) outcome is = transact-outcome world number turn.Abort outcome is
action-outcome world number (Find key) outcome is = absurd (cc is)
action-outcome world number (Order key n) outcome is = absurd (cc is)
action-outcome world number (Open key) outcome is = absurd (cc is)
action-outcome world number (Ls key) outcome is = absurd (cc is)
action-outcome world number (Pread a b c) outcome is = absurd (cc is)
action-outcome world number (Close n) outcome is = absurd (cc is)

step-outcome : (layout : Layout) (world : World) (step : Step) (outcome : Outcome) → step_play layout world step ≡ Some outcome → IsOutcome world.store outcome
step-outcome layout world Lead outcome is =
    let same : lead layout world ≡ outcome = cc is in
    subst (λ (o : Outcome). IsOutcome world.store o) same (lead-outcome layout world world.queue)
step-outcome layout world Checkpoint outcome is =
    let same : checkpointed world ≡ outcome = cc is in
    subst (λ (o : Outcome). IsOutcome world.store o) same (idle-outcome world.store (checkpointed world) refl refl)
step-outcome layout world (Session number action) outcome is = action-outcome world number action outcome is

-- lines as they were played over a store: their groups follow it, and the last of them leaves the store that they leave
record ArePlayed (start : Store) (lines : List PlayedLine) : Type 0 where
  pub follow : DoGroupsFollow start (groups_of lines)
  pub end : store_at start (groups_of lines) (length (groups_of lines)) ≡ store_behind start lines

behind-follow : (before : Store) (commits : List Commit) (after : Store) (groups : List Group) → (commits ≡ [] → after ≡ before)
    → DoesFollow before (record { commits = commits; after = after }) → DoGroupsFollow after groups
    → DoGroupsFollow before (cons_option (group_of commits after) groups)
behind-follow before [] after groups none follows rest = subst (λ (s : Store). DoGroupsFollow s groups) (none refl) rest
behind-follow before (commit ∷ commits) after groups none follows rest = (follows, omega arith, rest)

behind-end : (before : Store) (commits : List Commit) (after : Store) (groups : List Group) → (commits ≡ [] → after ≡ before)
    → store_at before (cons_option (group_of commits after) groups) (length (cons_option (group_of commits after) groups)) ≡ store_at after groups (length groups)
behind-end before [] after groups none = ap (λ (s : Store). store_at s groups (length groups)) (sym (none refl))
behind-end before (commit ∷ commits) after groups none = refl

step-played : (number : ℕ) (before : Store) (outcome : Option Outcome) (rest : World → Played)
    → ((one : Outcome) → outcome ≡ Some one → IsOutcome before one) → ((world : World) → ArePlayed world.store (rest world).lines)
    → ArePlayed before (played_then number outcome rest).lines
step-played number before None rest right each = record { follow = tt; end = refl }
step-played number before (Some outcome) rest right each =
    let one : IsOutcome before outcome = right outcome refl in
    let behind : ArePlayed outcome.world.store (rest outcome.world).lines = each outcome.world in
    let groups : List Group = groups_of (rest outcome.world).lines in
    record {
      follow = behind-follow before outcome.commits outcome.world.store groups one.none one.follows behind.follow;
      end = behind-end before outcome.commits outcome.world.store groups one.none ∙ behind.end;
    }

line-played : (layout : Layout) (world : World) (number : ℕ) (line : Line) (rest : World → Played)
    → ((next : World) → ArePlayed next.store (rest next).lines) → ArePlayed world.store (line_play layout world number line rest).lines
line-played layout world number Skipped rest each = each world
line-played layout world number (Asks step) rest each =
    step-played number world.store (step_play layout world step) rest (λ one is. step-outcome layout world step one is) each
line-played layout world number Malformed rest each = record { follow = tt; end = refl }

lines-played : (layout : Layout) (number : ℕ) (lines : List (List ℕ)) (world : World) → ArePlayed world.store (play_lines layout number lines world).lines
lines-played layout number [] world = record { follow = tt; end = refl }
lines-played layout number (line ∷ lines) world =
    line-played layout world number (line_at number line) (play_lines layout (number + 1) lines) (λ next. lines-played layout (number + 1) lines next)

-- The groups of a script follow the store that it begins with.
pub play-follow : (layout : Layout) (store : Store) (bytes : List ℕ) → DoGroupsFollow store (groups_of (play layout store bytes).lines)
play-follow layout store bytes = (lines-played layout 1 (lines_of bytes) (world_over store)).follow

-- The last of them leaves the store that the script leaves.
pub play-end : (layout : Layout) (store : Store) (bytes : List ℕ)
    → let groups : List Group = groups_of (play layout store bytes).lines in store_at store groups (length groups) ≡ store_behind store (play layout store bytes).lines
play-end layout store bytes = (lines-played layout 1 (lines_of bytes) (world_over store)).end

-- Their transactions are those of the script.
pub groups-commits : (lines : List PlayedLine) → flat_map (λ (group : Group). group.commits) (groups_of lines) ≡ commits_in lines
groups-commits [] = refl
groups-commits (line ∷ lines) = behind-commits line.commits line.store (groups_of lines) ∙ ap (λ (cs : List Commit). line.commits ++ cs) (groups-commits lines) where
  behind-commits : (commits : List Commit) (after : Store) (groups : List Group)
      → flat_map (λ (group : Group). group.commits) (cons_option (group_of commits after) groups) ≡ commits ++ flat_map (λ (group : Group). group.commits) groups
  behind-commits [] after groups = refl
  behind-commits (commit ∷ commits) after groups = refl

-- Each group follows the store after those before it.
pub follow-at : (start : Store) (groups : List Group) (j : ℕ) (group : Group) → DoGroupsFollow start groups → slice_get groups j ≡ Some group
    → DoesFollow (store_at start groups j) group
follow-at start [] j group follow there = absurd (cc there)
follow-at start (one ∷ groups) zero group follow there =
    let same : one ≡ group = (let both : Some one ≡ Some group = there in cc) in subst (λ (g : Group). DoesFollow start g) same follow.0
follow-at start (one ∷ groups) (suc j) group follow there = follow-at one.after groups j group follow.2 there
