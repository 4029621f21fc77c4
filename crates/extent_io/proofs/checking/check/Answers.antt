use Rattle.std.proofs.Common.{◌≡◌, ◌∙◌, sym, refl, arith}
use Rattle.store_model.specs.Verify.{given}
use Rattle.extent_io.proofs.Verifyings.{HoldBelow-next, fails-as, part-given, part_begin-none, told-other, told-same}
use Rattle.extent_io.proofs.checking.check.Goals as goal

pub loop-link-init : goal.loop-link-init
loop-link-init c = (sym (part_begin-none c.args.state.now), λ i below. absurd (omega (arith, below)))

pub returns-then-ne-clause-damaged : goal.returns-then-ne-clause-damaged
returns-then-ne-clause-damaged c link want got is =
    let state = c.args.state.now in
    let content = c.args.content.now in
    let here = c.loop-link.link in
    let one : here ≡ link = cc is in
    let two : c.kept_value-want.result ≡ want = cc is in
    let three : c.value_over-got.result ≡ got = cc is in
    fails-as (given content state) state here link c.kept_value-want.result want c.value_over-got.result got
    (record {
      exists = omega (arith, c.last_link-link-end.ensures.value);
      before = c.loop-link.invariant.1;
      want_is = c.kept_value-want.ensures;
      got_is = c.value_over-got.ensures
          ∙ part-given state content _ here c.loop-link.begin c.part_end-end.result c.rules.ensures c.requires (omega (arith, c.last_link-link-end.ensures.value))
          c.loop-link.invariant.0 c.part_end-end.ensures.end refl;
      differ = told-other c.kept_value-want.result c.value_over-got.result c.ne.result c.if-ne.true c.ne.ensures;
    })
    one two three

pub loop-link-preserved : goal.loop-link-preserved
loop-link-preserved c =
    let state = c.args.state.now in
    let content = c.args.content.now in
    let here = c.loop-link.link in (
      c.part_end-end.ensures.end,
      HoldBelow-next (given content state) state here c.kept_value-want.result c.value_over-got.result c.kept_value-want.ensures
          (told-same c.kept_value-want.result c.value_over-got.result c.ne.result c.if-ne.false c.ne.ensures)
          (c.value_over-got.ensures
          ∙ part-given state content _ here c.loop-link.begin c.part_end-end.result c.rules.ensures c.requires (omega (arith, c.last_link-link-end.ensures.value))
          c.loop-link.invariant.0 c.part_end-end.ensures.end refl)
          c.loop-link.invariant.1,
    )
