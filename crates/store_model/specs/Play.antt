-- The play of a script: line by line what is answered, what is committed, and the store after it.
use Rattle.std.specs.Prelude.{ℕ, ◌+◌, List, [], ◌∷◌, ◌++◌, Bool, false, Option, Some, None}
use Rattle.std.specs.List.{flat_map}
use Rattle.store_model.specs.Answer as answer
use Rattle.store_model.specs.Answer.{answer_text}
use Rattle.store_model.specs.Group.{Commit, taken_blocks}
use Rattle.store_model.specs.Layout.{Layout}
use Rattle.store_model.specs.Script.{Action, Line, Step, line_at, lines_of}
use Rattle.store_model.specs.Script as script
use Rattle.store_model.specs.Space.{Block}
use Rattle.store_model.specs.Store.{Store}
use Rattle.store_model.specs.Turn.{Stage, session_after}
use Rattle.store_model.specs.Turn as turn
use Rattle.store_model.specs.World.{Outcome, World, checkpointed, lead, with_session, world_over}

-- A session that has just queued its request stands at the end of the queue.
abbrev pub queue_after : turn.Action → Stage → List ℕ → ℕ → List ℕ
queue_after turn.Commit (turn.Open transaction) queue number = queue ++ number ∷ []
queue_after turn.Commit turn.Free queue number = queue
queue_after turn.Commit (turn.Waiting transaction) queue number = queue
queue_after _ stage queue number = queue

-- what comes of an action of a session that is answered so
abbrev pub turned : World → ℕ → turn.Action → turn.Turned → Outcome
turned world number action done = record {
  text = answer_text (answer.Session number done.line None);
  commits = [];
  turns = false;
  world = record {
    store = world.store;
    sessions = with_session world.sessions number (session_after (world.sessions number) action done);
    queue = queue_after action (world.sessions number).stage world.queue number;
  };
}

-- an action of a session's transaction
abbrev pub transact : World → ℕ → turn.Action → Outcome
transact world number action = turned world number action (turn.turn world.store (world.sessions number) action)

-- what comes of a session's action; none where its verb isn't built
abbrev pub action_play : World → ℕ → Action → Option Outcome
action_play world number (script.Transact (turn.Append key bytes)) = None
action_play world number (script.Transact action) = Some (transact world number action)
action_play world number _ = None

-- what comes of a step in a store of this layout; none where its verb isn't built
abbrev pub step_play : Layout → World → Step → Option Outcome
step_play layout world script.Lead = Some (lead layout world)
step_play layout world script.Checkpoint = Some (checkpointed world)
step_play layout world (script.Session number action) = action_play world number action

-- a line of a script as it was played: what it printed, the transactions that it committed, whether it turned the halves by itself, and
-- the store after it
pub record PlayedLine : Type 0 where
  pub text : List ℕ
  pub commits : List Commit
  pub turns : Bool
  pub store : Store

-- the line of a step
abbrev pub played_line : Outcome → PlayedLine
played_line outcome = record { text = outcome.text; commits = outcome.commits; turns = outcome.turns; store = outcome.world.store }

-- A script ends at the end of the input, at its first malformed line, or at the first whose verb isn't built.
pub data End : Type 0 where
  AtInputEnd : End
  AtMalformed : ℕ → End
  AtUnbuilt : ℕ → End

-- the lines of a script up to its end, without those that are skipped, and the end
pub record Played : Type 0 where
  pub lines : List PlayedLine
  pub end : End

-- a play that ends here
abbrev pub ended : End → Played
ended end = record { lines = []; end = end }

-- a play behind a line
abbrev pub behind_line : PlayedLine → Played → Played
behind_line line played = record { lines = line ∷ played.lines; end = played.end }

-- the play of the line of this number, which asks for a step that led here, and then the others
abbrev pub played_then : ℕ → Option Outcome → (World → Played) → Played
played_then number None rest = ended (AtUnbuilt number)
played_then number (Some outcome) rest = behind_line (played_line outcome) (rest outcome.world)

-- the play of the line of this number, and then the others
abbrev pub line_play : Layout → World → ℕ → Line → (World → Played) → Played
line_play layout world number script.Skipped rest = rest world
line_play layout world number (script.Asks step) rest = played_then number (step_play layout world step) rest
line_play layout world number script.Malformed rest = ended (AtMalformed number)

-- the play of lines, the first of which has this number, in this world
abbrev pub play_lines : Layout → ℕ → List (List ℕ) → World → Played
play_lines layout number [] world = ended AtInputEnd
play_lines layout number (line ∷ lines) world = line_play layout world number (line_at number line) (play_lines layout (number + 1) lines)

-- the play of a script that begins with this store, in a disk of this layout
abbrev pub play : Layout → Store → List ℕ → Played
play layout store bytes = play_lines layout 1 (lines_of bytes) (world_over store)

-- what lines print, all together
abbrev pub text_of : List PlayedLine → List ℕ
text_of lines = flat_map (λ line. line.text) lines

-- the transactions that they commit, in the order of their numbers
abbrev pub commits_in : List PlayedLine → List Commit
commits_in lines = flat_map (λ line. line.commits) lines

-- the blocks that these take
abbrev pub taken_in : List PlayedLine → List Block
taken_in lines = taken_blocks (commits_in lines)

-- the store after lines that begin with this one
abbrev pub store_behind : Store → List PlayedLine → Store
store_behind store [] = store
store_behind store (line ∷ lines) = store_behind line.store lines
