use Rattle.std.proofs.Common.{arith, subst, List}
use Rattle.std.specs.Prelude.{ℕ, IfOk}
use Rattle.store_model.specs.Shape.{pages_used}
use Rattle.extent_io.specs.ReadBytes.{ClosesOver, LeadOver}
use Rattle.extent_io.proofs.ReadParts.{GivesOver-extent, GivesOver-tail_ok}
use Rattle.extent_io.proofs.verifying.computed_value.Goals as goal

pub returns-then-link-last_link-clause-over : goal.returns-then-link-last_link-clause-over
returns-then-link-last_link-clause-over g c =
    GivesOver-extent c.args.state.now c.args.link c.in_ok-mark.mark.words c.mark_value.result c.rules.ensures (omega (arith, c.last_link.ensures.value, c.if-link-last_link.true))
    (subst (λ (from : List ℕ). LeadOver (pages_used c.args.state.now.size c.args.link) from c.in_ok-mark.mark.words) c.mark_before-mark.ensures c.in_ok-mark.ensures.over)
    c.mark_value.ensures

pub returns-clause-over : goal.returns-clause-over
returns-clause-over g c =
    GivesOver-tail_ok c.args.state.now c.args.link c.hash_tail.result c.rules.ensures (omega (arith, c.requires.link, c.last_link.ensures.value, c.if-link-last_link.false))
    (subst (λ (from : List ℕ). IfOk c.hash_tail.result (λ bytes. ClosesOver c.args.state.now.size from bytes)) c.mark_before-mark.ensures c.hash_tail.ensures.over)
