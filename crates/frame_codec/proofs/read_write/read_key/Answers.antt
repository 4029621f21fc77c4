-- A key that may not stand there, and one that is broken.
use Rattle.std.proofs.Common.{◌∙◌, sym, map}
use Rattle.store_model.specs.BodyRefusals.{may_stand}
use Rattle.store_model.proofs.KeyFieldLaws.{IsFirstBroken-refused, IsFirstBroken-ruled_key}
use Rattle.frame_codec.specs.Values.{model_entries, model_write}
use Rattle.frame_codec.proofs.read_write.read_key.Goals as goal

pub returns-in-Err-clause-bad : goal.returns-in-Err-clause-bad
returns-in-Err-clause-bad c =
    IsFirstBroken-ruled_key (may_stand (model_entries c.args.before.now) (map model_write c.args.writes.now)) c.args.bytes.now c.in-Err.bad.at c.in-Err.ensures.bad

pub returns-else-may_stand-clause-bad : goal.returns-else-may_stand-clause-bad
returns-else-may_stand-clause-bad c =
    IsFirstBroken-refused (may_stand (model_entries c.args.before.now) (map model_write c.args.writes.now)) c.args.bytes.now c.in-Ok.key c.in-Ok.ensures.front
    (sym c.may_stand.ensures ∙ c.if-may_stand.false)
