use Rattle.std.proofs.Common.{◌+◌, sym}
use Rattle.std.proofs.lemmas.List.{take_rest}
use Rattle.blob_script.proofs.Words.{split_cut, split_uncut}
use Rattle.blob_script.proofs.content.split_at_colon.Goals as goal

pub returns-in_err-colon-clause-none : goal.returns-in_err-colon-clause-none
returns-in_err-colon-clause-none c = rw c.from_residual.ensures (split_uncut c.args.text.now (sym c.in_err-colon.ensures))

pub returns-clause-parts : goal.returns-clause-parts
returns-clause-parts c = rw (take_rest c.args.text.now (c.in_ok-colon.colon + 1)) (split_cut c.args.text.now c.in_ok-colon.colon (sym c.in_ok-colon.ensures))
