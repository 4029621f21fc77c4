use Rattle.std.proofs.Common.{◌≡◌, take}
use Rattle.blob_steps.specs.Steps.{Replying, replies_text}
use Rattle.blob_steps.proofs.world.World.reply_all.Given as goal

abbrev pub invariant-replied : goal.invariant-replied
invariant-replied g l =
    Replying l.i l.fn.numbers l.fn.self l.self × (l.text ≡ replies_text l.fn.numbers (take l.i l.fn.replies)) × (l.self.vault ≡ l.fn.self.vault)
