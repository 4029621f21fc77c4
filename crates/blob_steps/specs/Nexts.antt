-- What is found at the front of a script.
use Rattle.std.specs.Prelude.{◌≡◌, ℕ, ⊤, List, Option, Some, None}
use Rattle.blob_script.specs.Words.{IsSession, model_step}
use Rattle.blob_script.specs.declared.status.Status.{Status}
use Rattle.blob_script.specs.declared.status.Status.TheVariants as status
use Rattle.blob_steps.specs.Going.{TakesLine}
use Rattle.blob_steps.specs.Lines.{NoLine}
use Rattle.blob_steps.specs.declared.run.Next.{Next}
use Rattle.blob_steps.specs.declared.run.Next.TheVariants as next
use Rattle.blob_steps.specs.declared.world.Played.{Played}
use Rattle.blob_steps.specs.declared.world.Played.TheVariants as played
use Rattle.store_model.specs.Layout.{Layout}
use Rattle.store_model.specs.Play.{step_play}
use Rattle.store_model.specs.Script.{Asks, Line, Malformed, Skipped, Step}
use Rattle.store_model.specs.World.{Outcome, World}

-- the line that was found; there is none at the end
abbrev pub next_line : Next → Line
next_line (next.Step step) = Asks (model_step step)
next_line next.Skipped = Skipped
next_line next.End = Malformed

-- a line was found
abbrev pub IsLine : Next → Type 0
IsLine (next.Step step) = ⊤
IsLine next.Skipped = ⊤
IsLine next.End = ⊥

-- the session of a step is one of sixteen
abbrev pub HasSession : Next → Type 0
HasSession (next.Step step) = IsSession step
HasSession _ = ⊤

-- This was found at the front of what is left of a script, and taken off it.
abbrev pub IsNext : ℕ → Option (List ℕ) → Option (List ℕ) → Next → Type 0
IsNext number old new (next.Step step) = IsSession step × TakesLine number old new (Asks (model_step step))
IsNext number old new next.Skipped = TakesLine number old new Skipped
IsNext number old new next.End = NoLine old

-- a status other than well tells of the line of this number, which is so
abbrev pub TellsLine : ℕ → Line → Status → Type 0
TellsLine number line (status.Malformed at) = (at ≡ number) × (line ≡ Malformed)
TellsLine number line status.OutOfMemory = ⊤
TellsLine number line _ = ⊥

-- the verb of a step isn't built where the status says so, of the line of this number, and the vault is as it was
abbrev pub IsUnbuilt : {V : Type 0} → Layout → World → Step → ℕ → V → V → Status → Type 0
IsUnbuilt layout world step number old new (status.NotBuilt at) = (at ≡ number) × (step_play layout world step ≡ None) × (new ≡ old)
IsUnbuilt layout world step number old new _ = ⊤

-- where the status says that the verb of a step isn't built, it is in no store, and the line is of this number
abbrev pub IsNeverBuilt : ℕ → Step → Status → Type 0
IsNeverBuilt number step (status.NotBuilt at) = (at ≡ number) × ((layout : Layout) (world : World) → step_play layout world step ≡ None)
IsNeverBuilt number step _ = ⊤

-- what came of a step comes of it in each store: it has an outcome, or its verb isn't built
abbrev pub IsAlways : Step → Played → Type 0
IsAlways step played.Answered = (layout : Layout) (world : World) → (outcome : Outcome) × (step_play layout world step ≡ Some outcome)
IsAlways step played.NotBuilt = (layout : Layout) (world : World) → step_play layout world step ≡ None
