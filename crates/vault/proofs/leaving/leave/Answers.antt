use Rattle.std.proofs.Common.{◌≡◌, ◌+◌, ◌-◌, drop, length, sym, ap, ◌∙◌, arith}
use Rattle.std.proofs.lemmas.List.{drop-drop}
use Rattle.txn.specs.declared.request.Request.{Request}
use Rattle.std.proofs.Common.{List, ℕ}
use Rattle.vault.proofs.leaving.leave.Goals as goal

pub left-preserved : goal.left-preserved
left-preserved c =
    let all : List Request = c.args.queue.now in
    let rest : List Request = c.remove_first.new.self in
    let so_far = c.left.invariant in
    let long : length c.left.queue ≡ length rest + 1 = ap length c.remove_first.ensures ∙ omega arith in
    let same : rest ≡ drop 1 c.left.queue = ap (λ (xs : List Request). drop 1 xs) (sym c.remove_first.ensures) in (
      same ∙ ap (λ (xs : List Request). drop 1 xs) so_far.0 ∙ drop-drop 1 (c.args.count - c.left.left) all
          ∙ ap (λ (n : ℕ). drop n all) (omega (arith, so_far.1, c.left-test.true)),
      omega (arith, so_far.1),
      omega (arith, so_far.2, long, c.left-test.true),
    )
