use Rattle.std.proofs.Common.{◌≡◌, false, take}
use Rattle.frame_codec.specs.Values.{has_key}
use Rattle.frame_codec.proofs.standing.has_key.Given as goal

-- none so far has it
abbrev pub invariant-searched : goal.invariant-searched
invariant-searched l = has_key l.key (take l.i l.writes) ≡ false
