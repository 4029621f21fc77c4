-- The answers to a script's lines, and how they are printed.
use Rattle.std.specs.Prelude.{ℕ, List, [], ◌∷◌, ◌++◌, length, Option, Some, None, codes, decimal}
use Rattle.std.specs.List.{flat_map}
use Rattle.hex.specs.Hex.{encode_lower}

-- what a session's line is answered
pub data AnswerLine : Type 0 where
  Begun : AnswerLine
  Value : List ℕ → AnswerLine
  Stat : ℕ → List ℕ → AnswerLine
  Put : AnswerLine
  Appended : AnswerLine
  Deleted : AnswerLine
  Queued : AnswerLine
  Aborted : AnswerLine
  Found : List (List ℕ) → AnswerLine
  Order : List (List ℕ) → AnswerLine
  Opened : ℕ → AnswerLine
  Data : List ℕ → AnswerLine
  Closed : AnswerLine
  Listing : List (List ℕ) → AnswerLine
  Busy : AnswerLine
  Already : AnswerLine
  NoTransaction : AnswerLine
  TooMany : ℕ → AnswerLine
  Stale : Option ℕ → AnswerLine
  Absent : AnswerLine
  TooLong : ℕ → AnswerLine
  BadPath : ℕ → AnswerLine
  NotAFile : AnswerLine
  NotAFolder : AnswerLine
  NoView : AnswerLine
  TooManyViews : AnswerLine
  Committed : ℕ → AnswerLine
  Conflict : List ℕ → Option ℕ → Option ℕ → AnswerLine
  NoNumber : ℕ → AnswerLine
  NoSpace : List ℕ → ℕ → AnswerLine
  NoRoom : ℕ → ℕ → AnswerLine
  Ahead : ℕ → ℕ → AnswerLine

-- the end of a line
abbrev pub line_end : List ℕ
line_end = 10 ∷ []

-- bytes as two lower case hexadecimal digits each, and `-` for none
abbrev pub hex_text : List ℕ → List ℕ
hex_text [] = codes "-"
hex_text (byte ∷ bytes) = encode_lower (byte ∷ bytes)

-- a number, and `none` for a missing one
abbrev pub number_text : Option ℕ → List ℕ
number_text (Some n) = decimal n
number_text None = codes "none"

-- two numbers, parted by a blank
abbrev pub two_numbers : ℕ → ℕ → List ℕ
two_numbers m n = decimal m ++ codes " " ++ decimal n

-- how many bytes there are, and they in hexadecimal
abbrev pub bytes_text : List ℕ → List ℕ
bytes_text bytes = decimal (length bytes) ++ codes " " ++ hex_text bytes

-- how many words there are, and each behind a blank
abbrev pub words_text : List (List ℕ) → List ℕ
words_text words = decimal (length words) ++ flat_map (λ word. codes " " ++ word) words

-- what stands behind the session
abbrev pub line_text : AnswerLine → List ℕ
line_text Begun = codes "begun"
line_text (Value content) = codes "value " ++ bytes_text content
line_text (Stat size digest) = codes "stat " ++ decimal size ++ codes " " ++ encode_lower digest
line_text Put = codes "put"
line_text Appended = codes "appended"
line_text Deleted = codes "deleted"
line_text Queued = codes "queued"
line_text Aborted = codes "aborted"
line_text (Found keys) = codes "found " ++ words_text keys
line_text (Order keys) = codes "order " ++ words_text keys
line_text (Opened view) = codes "opened " ++ decimal view
line_text (Data bytes) = codes "data " ++ bytes_text bytes
line_text Closed = codes "closed"
line_text (Listing names) = codes "list " ++ words_text names
line_text Busy = codes "busy"
line_text Already = codes "already"
line_text NoTransaction = codes "no-transaction"
line_text (TooMany n) = codes "too-many " ++ decimal n
line_text (Stale now) = codes "stale " ++ number_text now
line_text Absent = codes "absent"
line_text (TooLong size) = codes "too-long " ++ decimal size
line_text (BadPath at) = codes "bad-path " ++ decimal at
line_text NotAFile = codes "not-a-file"
line_text NotAFolder = codes "not-a-folder"
line_text NoView = codes "no-view"
line_text TooManyViews = codes "too-many-views"
line_text (Committed number) = codes "committed " ++ decimal number
line_text (Conflict key read now) = codes "conflict " ++ key ++ codes " " ++ number_text read ++ codes " " ++ number_text now
line_text (NoNumber last) = codes "no-number " ++ decimal last
line_text (NoSpace key tier) = codes "no-space " ++ key ++ codes " " ++ decimal tier
line_text (NoRoom need have) = codes "no-room " ++ two_numbers need have
line_text (Ahead seen front) = codes "ahead " ++ two_numbers seen front

-- the number of the last entry whose effect an answer shows, where it ends with one
abbrev pub front_text : Option ℕ → List ℕ
front_text None = []
front_text (Some front) = codes " at " ++ decimal front

-- An answer to a line: of a session, with the front that it ends with, where it has such an ending; or to a line of none.
pub data Answer : Type 0 where
  Session : ℕ → AnswerLine → Option ℕ → Answer
  Idle : Answer
  Checkpointed : Answer

-- an answer as a line with its end
abbrev pub answer_text : Answer → List ℕ
answer_text (Session session line front) = decimal session ++ codes " " ++ line_text line ++ front_text front ++ line_end
answer_text Idle = codes "idle" ++ line_end
answer_text Checkpointed = codes "checkpointed" ++ line_end
