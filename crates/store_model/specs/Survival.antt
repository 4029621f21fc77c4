-- What a store is after a crash: the store after some group of a script, or that one with whole transactions of the next group.
use Rattle.std.specs.Prelude.{ℕ, zero, suc, ◌≡◌, ◌<◌, ◌≤◌, ◌⊎◌, ⊤, List, [], ◌∷◌, Option, Some, None, Contains, fold, length, map, slice_get}
use Rattle.std.specs.List.{All, cons_option, filter_map}
use Rattle.std.specs.FinMap.{FinMap, get}
use Rattle.store_model.specs.Disk.{Image}
use Rattle.store_model.specs.Group.{Commit}
use Rattle.store_model.specs.Holds.{Holds}
use Rattle.store_model.specs.Images.{Climbed, MayLeave, Settled, Story}
use Rattle.store_model.specs.Key.{key_order}
use Rattle.store_model.specs.Layout.{Layout, data_page}
use Rattle.store_model.specs.Placing.{Placed}
use Rattle.store_model.specs.Play.{PlayedLine}
use Rattle.store_model.specs.Reading.{Found, Opened, Reads}
use Rattle.store_model.specs.Standing.{StandsFor}
use Rattle.store_model.specs.State.{State}
use Rattle.store_model.specs.Store.{Object, Store}
use Rattle.store_model.specs.Transaction.{with_object}
use Rattle.store_model.specs.Verify.{Verifies}

-- An object as a disk tells it whose data area begins at page `first`: its state stands for the object, and the pages there hold its
-- content, unless the content is free.
pub record IsObjectOn (IsFree : Type 0) (image : Image) (first : ℕ) (state : State) (object : Object) : Type 0 where
  pub stands : StandsFor state object
  pub holds : (IsFree → ⊥) → Holds image first state object.content

-- both are there and the disk tells the object so, or neither is
abbrev pub BothTold : Type 0 → Image → ℕ → Option State → Option Object → Type 0
BothTold IsFree image first None None = ⊤
BothTold IsFree image first (Some state) (Some object) = IsObjectOn IsFree image first state object
BothTold IsFree image first None (Some object) = ⊥
BothTold IsFree image first (Some state) None = ⊥

-- A disk of so many pages reads as these objects with this last number, in this layout, but for the contents under the keys where
-- they are free. No page is owned twice, for it reads.
pub record ReadsBut (IsFree : List ℕ → Type 0) (pages : ℕ) (image : Image) (layout : Layout) (objects : FinMap key_order Object) (last : ℕ) : Type 0 where
  pub found : Found
  pub reads : Reads pages image (Opened found)
  pub layout_is : found.layout ≡ layout
  pub last_is : found.last ≡ last
  pub told : (key : List ℕ) → BothTold (IsFree key) image (data_page layout) (get found.states key) (get objects key)

-- No content is free.
abbrev pub NoneFree : List ℕ → Type 0
NoneFree key = ⊥

-- the disk reads as them, with all their contents
abbrev pub ReadsAs : ℕ → Image → Layout → FinMap key_order Object → ℕ → Type 0
ReadsAs pages image layout objects last = ReadsBut NoneFree pages image layout objects last

-- a group: its transactions that are committed, and the store after it
pub record Group : Type 0 where
  pub commits : List Commit
  pub after : Store

-- a transaction changes what stands under this key
abbrev pub DoesChange : Commit → List ℕ → Type 0
DoesChange commit key = Contains (map (λ one. one.key) commit.placed) key

-- one of these does
abbrev pub IsUnder : List Commit → List ℕ → Type 0
IsUnder commits key = (commit : Commit) × Contains commits commit × DoesChange commit key

-- no key is changed by two of them
abbrev pub AreChangesApart : List Commit → Type 0
AreChangesApart commits =
    (i j : ℕ) (one other : Commit) (key : List ℕ) → i < j → slice_get commits i ≡ Some one → slice_get commits j ≡ Some other
    → DoesChange one key → DoesChange other key → ⊥

-- The state that stands for an object verifies; where there is no object nothing is asked.
abbrev pub DoesObjectVerify : Image → ℕ → Option Object → Type 0
DoesObjectVerify image first None = ⊤
DoesObjectVerify image first (Some object) = (state : State) × StandsFor state object × Verifies image first state

-- So does each that a transaction sets, where this is the store after its group.
abbrev pub DoesCommitVerify : Image → Layout → Store → Commit → Type 0
DoesCommitVerify image layout after commit = All (λ one. DoesObjectVerify image (data_page layout) (get after.objects one.key)) commit.placed

-- which of a group's transactions are kept: those of which all the states verify
abbrev pub AreKeptCommits : Image → Layout → Store → List Commit → List Commit → Type 0
AreKeptCommits image layout after [] kept = kept ≡ []
AreKeptCommits image layout after (commit ∷ commits) kept =
    (DoesCommitVerify image layout after commit × ((rest : List Commit) × (kept ≡ commit ∷ rest) × AreKeptCommits image layout after commits rest))
    ⊎ ((DoesCommitVerify image layout after commit → ⊥) × AreKeptCommits image layout after commits kept)

-- the objects with what `after` has under a key, or with none there
abbrev pub with_placed : FinMap key_order Object → FinMap key_order Object → Placed → FinMap key_order Object
with_placed after objects placed = with_object objects placed.key (get after placed.key)

-- and under each key that a transaction changes
abbrev pub with_changes : FinMap key_order Object → FinMap key_order Object → Commit → FinMap key_order Object
with_changes after objects commit = fold (with_placed after) objects commit.placed

-- the objects of `before` with what `after` has under the keys that these transactions change
abbrev pub with_commits : FinMap key_order Object → FinMap key_order Object → List Commit → FinMap key_order Object
with_commits before after commits = fold (with_changes after) before commits

-- Chance at a key: the state of the object there verifies, and its pages hold another content. A crash may leave any bytes on a page
-- that was being written, so nothing but the hash is in the way of that.
pub record IsChance (image : Image) (layout : Layout) (after : Store) (key : List ℕ) : Type 0 where
  pub object : Object
  pub there : get after.objects key ≡ Some object
  pub state : State
  pub stands : StandsFor state object
  pub verifies : Verifies image (data_page layout) state
  pub differs : Holds image (data_page layout) state object.content → ⊥

-- a content is free where one of the transactions that are kept set it, and there is chance at its key
abbrev pub IsByChance : Image → Layout → Store → List Commit → List ℕ → Type 0
IsByChance image layout after kept key = IsUnder kept key × IsChance image layout after key

-- there is chance at some key that a group changes
abbrev pub Chance : Image → Layout → Group → Type 0
Chance image layout group = (key : List ℕ) × IsByChance image layout group.after group.commits key

-- the group of a line that committed these, if it is one
abbrev pub group_of : List Commit → Store → Option Group
group_of [] after = None
group_of (commit ∷ commits) after = Some (record { commits = commit ∷ commits; after = after })

-- the groups of played lines: of each line that committed something
abbrev pub groups_of : List PlayedLine → List Group
groups_of lines = filter_map (λ line. group_of line.commits line.store) lines

-- the store after the first j groups, or after all where they are fewer
abbrev pub store_at : Store → List Group → ℕ → Store
store_at start groups zero = start
store_at start [] (suc j) = start
store_at start (group ∷ groups) (suc j) = store_at group.after groups j

-- A disk reads as the store before a group with some of its transactions, each of them whole: those of which all the states verify.
-- The last number is the group's. Every content is what the store has, but those of the transactions that are kept, where there is
-- chance at their keys: of these the pages alone are free.
pub record ReadsAsPart (pages : ℕ) (image : Image) (layout : Layout) (before : Store) (group : Group) : Type 0 where
  pub kept : List Commit
  pub are_kept : AreKeptCommits image layout group.after group.commits kept
  pub reads : ReadsBut (IsByChance image layout group.after kept) pages image layout (with_commits before.objects group.after.objects kept) group.after.last

-- The first j groups survive, with at most a part of the next: a disk reads as the store after them, or as that with the part.
-- Nothing that they left is lost, and nothing else is there.
abbrev pub Survives : ℕ → Image → Layout → Store → List Group → ℕ → Type 0
Survives pages image layout start groups j =
    ReadsAs pages image layout (store_at start groups j).objects (store_at start groups j).last
    ⊎ ((group : Group) × (slice_get groups j ≡ Some group) × ReadsAsPart pages image layout (store_at start groups j) group)

-- the group of a step that committed these, where it committed something
abbrev pub groups_by : List Commit → Store → List Group
groups_by commits after = cons_option (group_of commits after) []

-- A step that commits these survives a crash: the disk reads as the store before it, or as that one with a part of its group.
abbrev pub SurvivesStep : ℕ → Image → Layout → Store → List Commit → Store → Type 0
SurvivesStep pages image layout before commits after = Survives pages image layout before (groups_by commits after) 0

-- A disk reads as a store, with all its contents, and a crash leaves just that.
pub record RestsAs (pages : ℕ) (layout : Layout) (store : Store) (story : Story) : Type 0 where
  pub reads : ReadsAs pages story.reads layout store.objects store.last
  pub settled : Settled story

-- The groups of a run that began with the store `start` survive each crash of its disk since a time. `answered` is how many of them
-- the run has come behind: the leads of these have returned, and that of the next, where there is one, may be under way.
pub record SurvivesAll (pages : ℕ) (layout : Layout) (start : Store) (groups : List Group) (since answered : ℕ) (story : Story) : Type 0 where
  pub past : since ≤ story.time
  pub some : answered ≤ length groups
  -- whatever a crash left at any moment since then has some first groups, no more than were answered, and at most a part of the next
  pub each : (image : Image) → story.left since image → (j : ℕ) × (j ≤ answered) × Survives pages image layout start groups j
  -- group after group, and never back: for each number up to `answered` there is a time from which on whatever a crash left has so
  -- many groups or more
  pub climbed : Climbed (λ j image. Survives pages image layout start groups j) answered story
  -- whatever a crash leaves now has just those that were answered, with at most a part of the next
  pub now : (image : Image) → MayLeave story image → Survives pages image layout start groups answered
