-- The first of the fields that is broken.
use Rattle.std.proofs.lemmas.Result.{err_from_is_err_and}
use Rattle.check_point.proofs.HeaderReads.{last-broken, length-broken}
use Rattle.check_point.proofs.fields.read_told.Goals as goal

pub returns-in_err-last-clause-bad : goal.returns-in_err-last-clause-bad
returns-in_err-last-clause-bad c =
    let p = err_from_is_err_and c.from_residual.result c.from_residual.ensures.1 in
    rw (p.1, p.2) (last-broken c.args.page.now _ c.in_err-last.ensures.bad)

pub returns-in_err-length-clause-bad : goal.returns-in_err-length-clause-bad
returns-in_err-length-clause-bad c =
    let p = err_from_is_err_and c.from_residual-in_err-length.result c.from_residual-in_err-length.ensures.1 in
    rw (p.1, p.2) (length-broken c.args.page.now c.args.room _ c.requires.room c.in_ok-last.ensures.good c.in_err-length.ensures.bad)
