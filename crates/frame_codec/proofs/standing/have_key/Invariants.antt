use Rattle.std.proofs.Common.{◌≡◌, false, take}
use Rattle.std.specs.List.{list_any}
use Rattle.frame_codec.specs.Values.{has_key}
use Rattle.frame_codec.proofs.standing.have_key.Given as goal

-- none so far has it
abbrev pub invariant-searched : goal.invariant-searched
invariant-searched l = list_any (λ entry. has_key l.key entry.writes) (take l.i l.entries) ≡ false
