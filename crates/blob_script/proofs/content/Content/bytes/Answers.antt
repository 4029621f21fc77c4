use Rattle.std.proofs.Common.{arith}
use Rattle.blob_script.proofs.Words.{length-made_bytes}
use Rattle.blob_script.proofs.content.Content.bytes.Goals as goal

pub make-requires : goal.make-requires
make-requires c = rw (← length-made_bytes c.in-Made.len c.in-Made.first) (rw c.in-Made.is at c.requires)

pub overflow_cast-len : goal.overflow_cast-len
overflow_cast-len c =
    let few = rw c.in-Made.is at c.requires in
    omega (arith, length-made_bytes c.in-Made.len c.in-Made.first)
