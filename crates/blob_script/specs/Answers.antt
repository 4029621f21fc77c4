-- The types of answers as the values that the definitions speak of.
use Rattle.blob_script.specs.declared.answer.AnswerLine.{AnswerLine}
use Rattle.blob_script.specs.declared.answer.AnswerLine.TheVariants as line
use Rattle.blob_script.specs.declared.answer.Answer.{Answer}
use Rattle.blob_script.specs.declared.answer.Answer.TheVariants as answer
use Rattle.store_model.specs.Answer as model

abbrev pub model_line : AnswerLine → model.AnswerLine
model_line line.Begun = model.Begun
model_line (line.Value content) = model.Value content
model_line (line.Stat size digest) = model.Stat size digest.bytes
model_line line.Put = model.Put
model_line line.Appended = model.Appended
model_line line.Deleted = model.Deleted
model_line line.Queued = model.Queued
model_line line.Aborted = model.Aborted
model_line (line.Found keys) = model.Found keys
model_line (line.Order keys) = model.Order keys
model_line (line.Opened view) = model.Opened view
model_line (line.Data bytes) = model.Data bytes
model_line line.Closed = model.Closed
model_line (line.List names) = model.Listing names
model_line line.Busy = model.Busy
model_line line.Already = model.Already
model_line line.NoTransaction = model.NoTransaction
model_line (line.TooMany keys) = model.TooMany keys
model_line (line.Stale now) = model.Stale now
model_line line.Absent = model.Absent
model_line (line.TooLong size) = model.TooLong size
model_line (line.BadPath at) = model.BadPath at
model_line line.NotAFile = model.NotAFile
model_line line.NotAFolder = model.NotAFolder
model_line line.NoView = model.NoView
model_line line.TooManyViews = model.TooManyViews
model_line (line.Committed number) = model.Committed number
model_line (line.Conflict key read now) = model.Conflict key read now
model_line (line.NoNumber last) = model.NoNumber last
model_line (line.NoSpace key tier) = model.NoSpace key tier
model_line (line.NoRoom need have) = model.NoRoom need have
model_line (line.Ahead seen front) = model.Ahead seen front

abbrev pub model_answer : Answer → model.Answer
model_answer (answer.Session session line at) = model.Session session (model_line line) at
model_answer answer.Idle = model.Idle
model_answer answer.Checkpointed = model.Checkpointed
