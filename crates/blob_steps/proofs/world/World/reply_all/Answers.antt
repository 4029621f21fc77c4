use Rattle.std.proofs.Common.{◌∙◌, refl}
use Rattle.blob_steps.proofs.Replies.{Replying-next, Replying-none, replies_text-next, replies_text-none}
use Rattle.blob_steps.proofs.world.World.reply_all.Goals as goal

pub replied-init : goal.replied-init
replied-init g c = (
  Replying-none c.args.numbers.now c.args.self.now c.requires.sixteen,
  c.requires.none ∙ replies_text-none c.args.numbers.now,
  refl,
)

pub replied-preserved : goal.replied-preserved
replied-preserved g c =
    let so_far = c.replied.invariant in (
      Replying-next c.args.numbers.now c.args.self.now c.replied.self c.reply.new.self c.replied.i c.get.result.now c.get.ensures so_far.0 c.reply.ensures.left,
      replies_text-next c.args.numbers.now c.args.replies.now c.replied.i c.get.result.now c.get-in-replied.result.now c.replied.text c.reply.new.text c.get.ensures c.get-in-replied.ensures so_far.1
          c.in_ok-reply.ensures.text,
      c.reply.ensures.left.vault ∙ so_far.2,
    )
