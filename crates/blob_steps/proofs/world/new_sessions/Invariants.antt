use Rattle.std.proofs.Common.{◌≡◌, length}
use Rattle.blob_steps.specs.Steps.{AreNew}
use Rattle.blob_steps.proofs.world.new_sessions.Given as goal

abbrev pub invariant-made : goal.invariant-made
invariant-made l = (length l.sessions.items ≡ l.counter) × AreNew l.sessions.items
