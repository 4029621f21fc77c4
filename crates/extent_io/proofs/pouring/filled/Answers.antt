use Rattle.extent_io.proofs.Stands.{page-filled}
use Rattle.extent_io.proofs.pouring.filled.Goals as goal

pub returns : goal.returns
returns c = page-filled c.args.bytes.now c.copy_from_slice.new.self c.copy_from_slice.ensures.after
