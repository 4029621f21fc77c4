-- What looks show.
use Rattle.std.specs.Prelude.{◌≡◌, ℕ, ⊤, List, Option, Some, None}
use Rattle.blob_steps.specs.declared.look.Look.{Look}
use Rattle.blob_steps.specs.declared.look.Look.TheVariants as look
use Rattle.store_model.specs.Answer as answer
use Rattle.store_model.specs.Disk.{Image}
use Rattle.store_model.specs.State.{State}
use Rattle.store_model.specs.Turn.{measured, shown}
use Rattle.store_model.specs.Verify.{LeadsTo, Verifies}

-- what a look shows of a key's content
abbrev pub show_of : Look → Option (List ℕ) → answer.AnswerLine
show_of look.Get = shown
show_of look.Stat = measured

-- What a look at a state of the store shows, whatever the disk tells: no object; a content that leads to the state's digest; its
-- size and its digest.
abbrev pub ShownOf : Look → Option State → answer.AnswerLine → Type 0
ShownOf look None line = line ≡ answer.Absent
ShownOf look.Get (Some state) line = (content : List ℕ) × (line ≡ answer.Value content) × LeadsTo content state
ShownOf look.Stat (Some state) line = line ≡ answer.Stat state.size state.digest

-- where the content of a state is shown, it verifies
abbrev pub VerifiesAt : Look → Image → ℕ → Option State → Type 0
VerifiesAt look.Get image first None = ⊤
VerifiesAt look.Get image first (Some state) = Verifies image first state
VerifiesAt look.Stat image first state = ⊤
