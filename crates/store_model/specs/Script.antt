-- Scripts: the lines of a text, and what each asks for.
use Rattle.std.specs.Prelude.{ℕ, ◌+◌, ◌*◌, ◌/◌, ◌%◌, ◌==◌, nat_le, nat_lt, List, [], ◌∷◌, length, map, take, drop, Option, Some, None, Result, Ok, Err, option_map, option_and_then, codes, bytes_eq, decimal, if◌then◌else◌}
use Rattle.std.specs.List.{range_with_len, slice_split}
use Rattle.std.specs.Str.Parse.{digits_value}
use Rattle.hex.specs.Hex.{decode_of}
use Rattle.hex.specs.declared.error.FromHexError.{FromHexError}
use Rattle.store_model.specs.Key.{key_of}
use Rattle.store_model.specs.Turn as turn

-- a line that ended, and then the others; an empty rest after the last line end is no line
abbrev pub without_empty_rest : List (List ℕ) → List (List ℕ)
without_empty_rest [] = []
without_empty_rest ([] ∷ []) = []
without_empty_rest ((byte ∷ bytes) ∷ []) = (byte ∷ bytes) ∷ []
without_empty_rest (line ∷ next ∷ lines) = line ∷ without_empty_rest (next ∷ lines)

-- the lines of a script, without their ends
abbrev pub lines_of : List ℕ → List (List ℕ)
lines_of script = without_empty_rest (slice_split (λ byte. byte == 10) script)

-- What a session's line asks for: something of its transaction, or of the store whatever it has under way: the keys of a
-- content; the first so many keys whose contents aren't below one; a view of a path's object; a path's list; so many bytes of
-- a view from an offset on; the end of a view.
pub data Action : Type 0 where
  Transact : turn.Action → Action
  Find : List ℕ → Action
  Order : List ℕ → ℕ → Action
  Open : List ℕ → Action
  Ls : List ℕ → Action
  Pread : ℕ → ℕ → ℕ → Action
  Close : ℕ → Action

-- what a line asks for: an action of a session, a lead, or a checkpoint
pub data Step : Type 0 where
  Session : ℕ → Action → Step
  Lead : Step
  Checkpoint : Step

-- what hexadecimal digits spell, where they are such
abbrev pub decoded : Result (List ℕ) FromHexError → Option (List ℕ)
decoded (Ok bytes) = Some bytes
decoded (Err _) = None

-- the number below `bound` that a word spells in decimal, without leading zeros
abbrev pub number_below : ℕ → List ℕ → Option ℕ
number_below bound word =
    if nat_lt (digits_value 10 word) bound then (if bytes_eq word (decimal (digits_value 10 word)) then Some (digits_value 10 word) else None)
    else None

-- a made content: so many bytes, of which byte i is (first + 7 i + i / 256) mod 256
abbrev pub made_bytes : ℕ → ℕ → List ℕ
made_bytes count first = map (λ i. (first + 7 * i + i / 256) % 256) (range_with_len 0 count)

-- the made content of a count and a first byte
abbrev pub made_content : List (List ℕ) → Option (List ℕ)
made_content [] = None
made_content (count ∷ []) = None
made_content (count ∷ first ∷ []) = option_and_then (λ n. option_map (made_bytes n) (number_below 256 first)) (number_below 4294967296 count)
made_content (count ∷ first ∷ more ∷ words) = None

-- The content that a word spells: `x:` and two hexadecimal digits of either case for each byte, or `g:`, a count, `:` and
-- a first byte.
abbrev pub spelled_content : List ℕ → Option (List ℕ)
spelled_content word =
    if bytes_eq (take 2 word) (codes "x:") then decoded (decode_of (drop 2 word))
    else if bytes_eq (take 2 word) (codes "g:") then made_content (slice_split (λ byte. byte == 58) (drop 2 word))
    else None

-- a path, which is any word
abbrev pub path_word : List ℕ → Option (List ℕ)
path_word [] = None
path_word (byte ∷ bytes) = Some (byte ∷ bytes)

-- two words that are read each by its own rule
abbrev pub both : {A B C : Type 0} → (A → B → C) → Option A → Option B → Option C
both make (Some a) (Some b) = Some (make a b)
both make (Some a) None = None
both make None b = None

-- what a session's line asks for of its transaction, by a verb alone
abbrev pub lone_action : List ℕ → Option Action
lone_action verb =
    if bytes_eq verb (codes "begin") then Some (Transact turn.Begin)
    else if bytes_eq verb (codes "commit") then Some (Transact turn.Commit)
    else if bytes_eq verb (codes "abort") then Some (Transact turn.Abort)
    else None

-- by a verb and a word
abbrev pub word_action : List ℕ → List ℕ → Option Action
word_action verb word =
    if bytes_eq verb (codes "get") then option_map (λ key. Transact (turn.Get key)) (key_of word)
    else if bytes_eq verb (codes "stat") then option_map (λ key. Transact (turn.Stat key)) (key_of word)
    else if bytes_eq verb (codes "del") then option_map (λ key. Transact (turn.Delete key)) (key_of word)
    else if bytes_eq verb (codes "find") then option_map Find (spelled_content word)
    else if bytes_eq verb (codes "open") then option_map Open (path_word word)
    else if bytes_eq verb (codes "ls") then option_map Ls (path_word word)
    else if bytes_eq verb (codes "close") then option_map Close (number_below 256 word)
    else None

-- by a verb and two words
abbrev pub two_word_action : List ℕ → List ℕ → List ℕ → Option Action
two_word_action verb one other =
    if bytes_eq verb (codes "put") then both (λ key content. Transact (turn.Put key content)) (key_of one) (spelled_content other)
    else if bytes_eq verb (codes "append") then both (λ key bytes. Transact (turn.Append key bytes)) (key_of one) (spelled_content other)
    else if bytes_eq verb (codes "order") then both Order (spelled_content one) (number_below 65537 other)
    else None

-- the bytes of a view from an offset on
abbrev pub pread_action : List ℕ → List ℕ → List ℕ → Option Action
pread_action view offset count =
    both (λ (part : ℕ × ℕ) n. Pread part.0 part.1 n) (both (λ v off. (v, off)) (number_below 256 view) (number_below 4294967296 offset)) (number_below 65537 count)

-- the action of the words behind the session
abbrev pub action_of : List (List ℕ) → Option Action
action_of [] = None
action_of (verb ∷ []) = lone_action verb
action_of (verb ∷ word ∷ []) = word_action verb word
action_of (verb ∷ one ∷ other ∷ []) = two_word_action verb one other
action_of (verb ∷ one ∷ two ∷ three ∷ []) = if bytes_eq verb (codes "pread") then pread_action one two three else None
action_of (verb ∷ one ∷ two ∷ three ∷ more ∷ words) = None

-- the step of a word that is a line of its own
abbrev pub lone_step : List ℕ → Option Step
lone_step word =
    if bytes_eq word (codes "lead") then Some Lead
    else if bytes_eq word (codes "checkpoint") then Some Checkpoint
    else None

-- the step of a line's words
abbrev pub step_of_words : List (List ℕ) → Option Step
step_of_words [] = None
step_of_words (word ∷ []) = lone_step word
step_of_words (session ∷ word ∷ words) = both Session (number_below 16 session) (action_of (word ∷ words))

-- a line is skipped, asks for a step, or is malformed
pub data Line : Type 0 where
  Skipped : Line
  Asks : Step → Line
  Malformed : Line

-- what words ask for, where they ask for a step
abbrev pub asked_line : Option Step → Line
asked_line (Some step) = Asks step
asked_line None = Malformed

-- A line without bytes, or one that begins with `#`, is skipped. Any other is words, parted by one blank each.
abbrev pub short_line : List ℕ → Line
short_line [] = Skipped
short_line (byte ∷ bytes) =
    if byte == 35 then Skipped
    else asked_line (step_of_words (slice_split (λ b. b == 32) (byte ∷ bytes)))

-- how many bytes a line may have without its end
abbrev pub most_line_bytes : ℕ
most_line_bytes = 65536

-- how many lines a script may have
abbrev pub most_lines : ℕ
most_lines = 1000000

-- what a line is, by its bytes
abbrev pub line_of : List ℕ → Line
line_of line = if nat_le (length line) most_line_bytes then short_line line else Malformed

-- what the line of this number is; lines are numbered from 1
abbrev pub line_at : ℕ → List ℕ → Line
line_at number line = if nat_le number most_lines then line_of line else Malformed
