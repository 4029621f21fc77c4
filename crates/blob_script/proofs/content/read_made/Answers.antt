use Rattle.std.proofs.Common.{refl}
use Rattle.store_model.specs.Script.{number_below}
use Rattle.blob_script.proofs.Words.{made_content_rest, no_first}
use Rattle.blob_script.proofs.content.read_made.Goals as goal

pub returns-in_err-first : goal.returns-in_err-first
returns-in_err-first c = rw (c.from_residual-in_err-first.ensures, c.in_ok-len.ensures.parts, made_content_rest, ← c.in_err-first.ensures)
    (no_first (number_below 4294967296 c.in_ok-len.len.now))

pub returns : goal.returns
returns c = rw (c.in_ok-len.ensures.parts, made_content_rest, ← c.in_ok-first.ensures, ← c.in_ok-len-2.ensures.value, c.from.ensures) refl
