use Rattle.std.proofs.Common.{◌≡◌, ◌++◌, take, codes}
use Rattle.std.specs.List.{flat_map}
use Rattle.blob_script.proofs.answer.append_names.Given as goal

-- each of the names so far stands behind a blank
abbrev pub invariant-loop-name : goal.invariant-loop-name
invariant-loop-name l = l.out ≡ l.initial.out ++ flat_map (λ word. codes " " ++ word) (take l.name-index l.names)
