use Rattle.std.proofs.Common.{◌-◌, arith, sym}
use Rattle.std.proofs.lemmas.Bool.Decides.{nat_tests}
use Rattle.recover.proofs.Numbers.{GoesOn-first, GoesOn-next, last_number-at}
use Rattle.recover.proofs.frames.last_behind.Goals as goal

pub returns-then-get-last-clause-goes_on : goal.returns-then-get-last-clause-goes_on
returns-then-get-last-clause-goes_on c =
    GoesOn-first c.args.last c.args.entries.now c.get.result.now c.get.ensures (grind (arith, nat_tests, c.if-get-last.true))

pub returns-then-get-last-clause-last : goal.returns-then-get-last-clause-last
returns-then-get-last-clause-last c =
    sym (last_number-at c.args.last c.args.entries.now c.get-then-get-last.result.now (c.len.result - 1) (omega (arith, c.len.ensures, c.requires.some)) c.get-then-get-last.ensures)

pub returns-else-get-last-clause-none : goal.returns-else-get-last-clause-none
returns-else-get-last-clause-none c goes =
    absurd (grind (arith, nat_tests, c.if-get-last.false, GoesOn-next c.args.last c.args.entries.now c.get.result.now c.get.ensures goes))
