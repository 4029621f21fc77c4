-- The line that closes the output of a run that didn't end well, and the program's exit status.
use Rattle.std.specs.Prelude.{ℕ, List, [], ◌++◌, Option, Some, None, codes, decimal}
use Rattle.hex.specs.Hex.{encode_lower}
use Rattle.store_model.specs.Answer.{line_end, two_numbers}

-- why a disk isn't opened as a store
pub data Refusal : Type 0 where
  TooSmall : ℕ → ℕ → Refusal
  BadHalf : ℕ → ℕ → Refusal
  BadTuple : ℕ → ℕ → Refusal
  BadFrame : ℕ → ℕ → Refusal
  OwnedTwice : ℕ → Refusal

-- why a run ended, other than well
pub data Ending : Type 0 where
  Malformed : ℕ → Ending
  NotBuilt : ℕ → Ending
  ReadFault : Ending
  WriteFault : Ending
  DiskFault : Ending
  Refused : Refusal → Ending
  OutOfMemory : Ending
  Usage : Ending
  Damaged : List ℕ → ℕ → List ℕ → List ℕ → Ending

abbrev pub refusal_text : Refusal → List ℕ
refusal_text (TooSmall need have) = codes "too-small " ++ two_numbers need have
refusal_text (BadHalf half at) = codes "bad-half " ++ two_numbers half at
refusal_text (BadTuple half at) = codes "bad-tuple " ++ two_numbers half at
refusal_text (BadFrame half page) = codes "bad-frame " ++ two_numbers half page
refusal_text (OwnedTwice page) = codes "owned-twice " ++ decimal page

abbrev pub reason_text : Ending → List ℕ
reason_text (Malformed line) = codes "malformed line " ++ decimal line
reason_text (NotBuilt line) = codes "not built line " ++ decimal line
reason_text ReadFault = codes "read fault"
reason_text WriteFault = codes "write fault"
reason_text DiskFault = codes "disk fault"
reason_text (Refused why) = codes "store refused: " ++ refusal_text why
reason_text OutOfMemory = codes "out of memory"
reason_text Usage = codes "usage"
reason_text (Damaged key link want got) = codes "damaged " ++ key ++ codes " " ++ decimal link ++ codes " " ++ encode_lower want ++ codes " " ++ encode_lower got

-- the closing line; a run that ended well has none
abbrev pub closing_text : Option Ending → List ℕ
closing_text None = []
closing_text (Some ending) = reason_text ending ++ line_end

-- the exit status
abbrev pub exit_status : Option Ending → ℕ
exit_status None = 0
exit_status (Some (Malformed line)) = 2
exit_status (Some (NotBuilt line)) = 10
exit_status (Some ReadFault) = 3
exit_status (Some WriteFault) = 4
exit_status (Some DiskFault) = 5
exit_status (Some (Refused why)) = 6
exit_status (Some OutOfMemory) = 7
exit_status (Some Usage) = 8
exit_status (Some (Damaged key link want got)) = 9
