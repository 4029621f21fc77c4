use Rattle.std.proofs.Common.{◌≡◌, ◌++◌, take}
use Rattle.blob_script.proofs.line.push_text.Given as goal

-- the bytes so far stand behind those that were there
abbrev pub invariant-loop-byte : goal.invariant-loop-byte
invariant-loop-byte l = l.line.items ≡ l.fn.line.items ++ take l.byte-index l.text
