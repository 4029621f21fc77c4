-- The types of words and lines as the values that the definitions speak of.
use Rattle.std.specs.Prelude.{◌≡◌, ◌<◌, ℕ, ⊤, List, Option, Some, None, decimal}
use Rattle.blob_script.specs.declared.form.Form.{Form}
use Rattle.blob_script.specs.declared.form.Form.TheVariants as form
use Rattle.blob_script.specs.declared.action.Action.{Action}
use Rattle.blob_script.specs.declared.action.Action.TheVariants as action
use Rattle.blob_script.specs.declared.step.Step.{Step}
use Rattle.blob_script.specs.declared.step.Step.TheVariants as step
use Rattle.blob_script.specs.declared.step.StepFault.{StepFault}
use Rattle.blob_script.specs.declared.step.StepFault.TheVariants as fault
use Rattle.blob_script.specs.Contents.{content_bytes}
use Rattle.store_model.specs.Form as words
use Rattle.store_model.specs.Layout.{IsLayout, Layout}
use Rattle.store_model.specs.Turn as turn
use Rattle.store_model.specs.Script as model

-- the layout of so many units and so much room
abbrev pub layout_by : ℕ → ℕ → Layout
layout_by some_units some_room = record { units = some_units; room = some_room }

-- two words spell the numbers of a layout
pub record SpellLayout (one two : List ℕ) (layout : Layout) : Type 0 where
  pub within : IsLayout layout
  pub units_are : one ≡ decimal layout.units
  pub room_is : two ≡ decimal layout.room

-- the form that the definitions speak of
abbrev pub model_form : Form → words.Form
model_form (form.Format units room) = words.Format (layout_by units room)
model_form (form.Fresh units room) = words.Fresh (layout_by units room)
model_form form.Steps = words.Steps
model_form form.Show = words.Show
model_form form.Check = words.Check

abbrev pub model_action : Action → model.Action
model_action action.Begin = model.Transact turn.Begin
model_action action.Commit = model.Transact turn.Commit
model_action action.Abort = model.Transact turn.Abort
model_action (action.Get key) = model.Transact (turn.Get key)
model_action (action.Stat key) = model.Transact (turn.Stat key)
model_action (action.Del key) = model.Transact (turn.Delete key)
model_action (action.Put key content) = model.Transact (turn.Put key (content_bytes content))
model_action (action.Append key content) = model.Transact (turn.Append key (content_bytes content))
model_action (action.Find content) = model.Find (content_bytes content)
model_action (action.Order content count) = model.Order (content_bytes content) count
model_action (action.Open path) = model.Open path
model_action (action.Ls path) = model.Ls path
model_action (action.Pread view off len) = model.Pread view off len
model_action (action.Close view) = model.Close view

abbrev pub model_step : Step → model.Step
model_step (step.Session session action) = model.Session session (model_action action)
model_step step.Lead = model.Lead
model_step step.Checkpoint = model.Checkpoint

-- the line of which this was read: one that asks for the step, or one that is skipped
abbrev pub read_line : Option Step → model.Line
read_line (Some step) = model.Asks (model_step step)
read_line None = model.Skipped

-- what a fault tells of its line
abbrev pub TellsOf : StepFault → model.Line → Type 0
TellsOf fault.Malformed line = line ≡ model.Malformed
TellsOf fault.OutOfMemory line = ⊤

-- the session of a step, where it has one, is one of sixteen
abbrev pub IsSession : Step → Type 0
IsSession (step.Session session action) = session < 16
IsSession step.Lead = ⊤
IsSession step.Checkpoint = ⊤
