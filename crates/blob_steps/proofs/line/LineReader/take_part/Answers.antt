use Rattle.std.proofs.Common.{◌+◌, ◌-◌, ◌≤◌, take, drop, ap, ◌∙◌, arith}
use Rattle.std.proofs.lemmas.List.{length-take}
use Rattle.std.specs.List.{after_first}
use Rattle.blob_steps.specs.Lines.{is_line_end}
use Rattle.blob_steps.proofs.Splitting.{position_at, drop-ahead}
use Rattle.blob_steps.proofs.line.LineReader.take_part.Goals as goal

pub returns-in_ok-append-in-Some-clause-rest : goal.returns-in_ok-append-in-Some-clause-rest
returns-in_ok-append-in-Some-clause-rest c =
    let inside = c.self.inside in
    let at = c.in-Some.at in
    let behind = drop inside.from inside.piece in
    let ahead = take (inside.to - inside.from) behind in
    let found = position_at ahead at c.in-Some.ensures in
    let within : inside.from + (at + 1) ≤ inside.to = omega (arith, found.1, length-take (inside.to - inside.from) behind) in
    drop-ahead inside.from inside.to (at + 1) inside.piece within ∙ ap (λ n. drop (n + 1) ahead) found.0 ∙ ap (after_first is_line_end) c.self.view_is
