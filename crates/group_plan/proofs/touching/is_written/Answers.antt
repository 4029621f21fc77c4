use Rattle.std.proofs.Common.{sym, ◌∙◌, ap, arith}
use Rattle.std.specs.Prelude.{bytes_eq}
use Rattle.frame_codec.specs.Writes.{key_of_write}
use Rattle.group_plan.proofs.Walks.{any-end, any-found, any-map, any-next}
use Rattle.group_plan.proofs.touching.is_written.Goals as goal

pub returns-then-eq : goal.returns-then-eq
returns-then-eq c =
    let key = c.args.key.now in
    let writes = c.args.writes.now in
    sym (any-map (bytes_eq key) key_of_write writes ∙ c.looked.invariant
    ∙ any-found (λ one. bytes_eq key (key_of_write one)) writes c.looked.i c.get.result.now c.get.ensures (ap (bytes_eq key) (sym c.key.ensures) ∙ sym c.eq.ensures ∙ c.if-eq.true))

pub looked-preserved : goal.looked-preserved
looked-preserved c =
    let key = c.args.key.now in
    c.looked.invariant
    ∙ any-next (λ one. bytes_eq key (key_of_write one)) c.args.writes.now c.looked.i c.get.result.now c.get.ensures (ap (bytes_eq key) (sym c.key.ensures) ∙ sym c.eq.ensures ∙ c.if-eq.false)

pub returns : goal.returns
returns c =
    let key = c.args.key.now in
    let writes = c.args.writes.now in
    sym (any-map (bytes_eq key) key_of_write writes ∙ c.looked.invariant
    ∙ any-end (λ one. bytes_eq key (key_of_write one)) writes c.looked.i (omega (arith, c.len-i-end.ensures.len, c.looked-test.false)))
