use Rattle.std.proofs.Common.{◌≡◌, ◌++◌, take, codes}
use Rattle.std.specs.List.{flat_map}
use Rattle.blob_script.proofs.answer.append_keys.Given as goal

-- each of the keys so far stands behind a blank
abbrev pub invariant-loop-key : goal.invariant-loop-key
invariant-loop-key l = l.out ≡ l.initial.out ++ flat_map (λ word. codes " " ++ word) (take l.key-index l.keys)
