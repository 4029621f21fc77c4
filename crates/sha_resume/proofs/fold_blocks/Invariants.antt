use Rattle.std.proofs.Common.{◌≡◌}
use Rattle.std.specs.Prelude.{fold}
use Rattle.store_model.specs.BlockFunction.{compress}
use Rattle.store_model.specs.Hash.{blocks}
use Rattle.sha_resume.proofs.fold_blocks.Given as goal

abbrev pub invariant-folded : goal.invariant-folded
invariant-folded l = l.state ≡ fold compress l.fn.state (blocks l.i l.bytes)
