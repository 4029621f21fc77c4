use Rattle.std.proofs.Common.{◌≡◌, ◌++◌, take}
use Rattle.blob_base.proofs.key.copy_into.Given as goal

-- the bytes so far stand behind those that were there
abbrev pub invariant-loop-byte : goal.invariant-loop-byte
invariant-loop-byte l = l.to.items ≡ l.fn.to.items ++ take l.byte-index l.from
