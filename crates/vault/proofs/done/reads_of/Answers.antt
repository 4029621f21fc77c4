use Rattle.std.proofs.Common.{◌≡◌, ◌∙◌, ℕ, List, Option, Some, ap, sym}
use Rattle.std.specs.Prelude.{slice_get}
use Rattle.std.specs.FinMap.{entries}
use Rattle.vault.proofs.Keepings.{copied-all, copied-next, copied-none}
use Rattle.vault.proofs.done.reads_of.Goals as goal

-- a key with its number
abbrev pair : List ℕ → Option ℕ → List ℕ × Option ℕ
pair key number = (key, number)

pub copied-init : goal.copied-init
copied-init c = copied-none {V = Option ℕ} c.new-copy.result (entries c.args.reads.now) c.new-copy.ensures

pub copied-preserved : goal.copied-preserved
copied-preserved c =
    let there : slice_get (entries c.args.reads.now) c.copied.i ≡ Some (pair c.copy.result c.nth.result.1.now) =
    c.nth.ensures ∙ ap (λ (key : List ℕ). Some (pair key c.nth.result.1.now)) (sym c.copy.ensures) in
    copied-next {V = Option ℕ} c.args.reads.now c.copied.copy c.insert.new.self c.copied.i c.copy.result c.nth.result.1.now c.copied.invariant there c.in_ok-insert.ensures.ok

pub returns : goal.returns
returns c =
    copied-all {V = Option ℕ} c.args.reads.now c.copied.copy c.copied.i c.len-i-end.result c.copied.invariant (sym c.len-i-end.ensures) c.copied-test.false
