use Rattle.std.proofs.Common.{◌≡◌, ℕ, ◌+◌, ◌*◌, ◌/◌, ◌%◌, List, ◌++◌, length, ◌∙◌, sym, ap, arith}
use Rattle.std.proofs.lemmas.List.{take-append-drop}
use Rattle.store_model.specs.Hash.{padding, state_after}
use Rattle.store_model.proofs.HashLaws.{close-Leads}
use Rattle.sha_resume.specs.Progress.{Progress}
use Rattle.sha_resume.proofs.Ends.{bytes_of_state-close}
use Rattle.sha_resume.proofs.Chain.finish.Goals as goal

pub returns-clause-closed : goal.returns-clause-closed
returns-clause-closed c =
    let mark : c.self.inside.state ≡ c.args.self.mark = ap (λ (p : Progress). p.mark) c.self.view_is in
    let count : c.self.inside.count ≡ c.args.self.count = ap (λ (p : Progress). p.count) c.self.view_is in
    let rest : List ℕ = c.args.rest.now in
    let whole : List ℕ = c.split_at.result.0.now in
    let tail : List ℕ = c.split_at.result.1.now in
    let middle : List ℕ = c.fold_blocks.new.state in
    let parts : rest ≡ whole ++ tail =
    rw (c.split_at.ensures.front, c.split_at.ensures.back) (sym (take-append-drop (length rest / 64 * 64) rest)) in
    let edge : length whole % 64 ≡ 0 = omega (arith, c.split_at.ensures.front_len) in
    c.bytes_of.ensures
    ∙ bytes_of_state-close c.args.self.mark rest whole tail middle c.fold_end.new.state c.args.self.count parts edge
    (ap (λ (s : List ℕ). state_after s whole) (sym mark) ∙ c.fold_blocks.ensures)
    (ap (λ (n : ℕ). state_after middle (tail ++ padding (64 * n + length rest))) (sym count) ∙ c.fold_end.ensures)

pub returns-clause-whole : goal.returns-clause-whole
returns-clause-whole c = λ first len led.
    returns-clause-closed c ∙ close-Leads c.args.self.mark first c.args.rest.now c.args.self.count len led
