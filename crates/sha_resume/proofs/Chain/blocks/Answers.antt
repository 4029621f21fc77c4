use Rattle.std.proofs.Common.{◌≡◌, ℕ, List, ◌∙◌, length, ◌/◌, sym, ap}
use Rattle.sha2.specs.Sha256.{hash_after}
use Rattle.store_model.specs.Hash.{state_after}
use Rattle.store_model.proofs.HashLaws.{state_after-append}
use Rattle.sha_resume.specs.Progress.{Progress}
use Rattle.sha_resume.proofs.Agreement.{state_after-agrees}
use Rattle.sha_resume.proofs.Chain.blocks.Goals as goal

pub returns-clause-longer : goal.returns-clause-longer
returns-clause-longer c = λ h before whole led.
    let mark : c.self.inside.state ≡ c.args.self.now.mark = ap (λ (p : Progress). p.mark) c.self.view_is in
    state_after-append h before c.args.bytes.now whole
    ∙ ap (λ (s : List ℕ). state_after s c.args.bytes.now) (led ∙ sym mark) ∙ c.fold_blocks.ensures

pub returns-clause-agrees : goal.returns-clause-agrees
returns-clause-agrees c =
    let mark : c.self.inside.state ≡ c.args.self.now.mark = ap (λ (p : Progress). p.mark) c.self.view_is in
    let bytes : List ℕ = c.args.bytes.now in
    sym c.fold_blocks.ensures ∙ state_after-agrees c.self.inside.state bytes
    ∙ ap (λ (s : List ℕ). hash_after s bytes (length bytes / 64)) mark
