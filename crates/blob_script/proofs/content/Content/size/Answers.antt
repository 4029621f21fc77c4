use Rattle.std.proofs.Common.{sym}
use Rattle.blob_script.proofs.Words.{length-made_bytes}
use Rattle.blob_script.proofs.content.Content.size.Goals as goal

pub returns-in-Made : goal.returns-in-Made
returns-in-Made c = rw c.in-Made.is (sym (length-made_bytes _ _))
