use Rattle.std.proofs.Common.{◌+◌, ◌∙◌, sym, arith}
use Rattle.extent_io.proofs.Verifyings.{part_begin-end, part_begin-next, part_begin-within}
use Rattle.extent_io.proofs.checking.part_end.Goals as goal

pub returns-then-link-last_link-clause-end : goal.returns-then-link-last_link-clause-end
returns-then-link-last_link-clause-end c =
    let next = part_begin-next c.args.state.now c.args.link c.rules.ensures (omega (arith, c.last_link.ensures.value)) in
    omega (arith, next, c.requires.begin, c.used.ensures, c.size.ensures)

pub returns-then-link-last_link-clause-within : goal.returns-then-link-last_link-clause-within
returns-then-link-last_link-clause-within c =
    let next = part_begin-next c.args.state.now c.args.link c.rules.ensures (omega (arith, c.last_link.ensures.value)) in
    let within = part_begin-within c.args.state.now (c.args.link + 1) in
    omega (arith, next, within, c.requires.begin, c.requires.size, c.used.ensures, c.size.ensures)

pub returns-else-link-last_link-clause-from : goal.returns-else-link-last_link-clause-from
returns-else-link-last_link-clause-from c = omega (arith, part_begin-within c.args.state.now c.args.link, c.requires.begin, c.requires.size)

pub returns-else-link-last_link-clause-end : goal.returns-else-link-last_link-clause-end
returns-else-link-last_link-clause-end c =
    c.requires.size ∙ sym (part_begin-end c.args.state.now c.args.link (omega (arith, c.last_link.ensures.value)))
