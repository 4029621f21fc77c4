use Rattle.std.proofs.Common.{rules}
use Rattle.store_model.proofs.FieldLaws.{AreBytes}
use Rattle.meta_log.proofs.Readings.{front-told}
use Rattle.meta_log.proofs.read.told_length.Goals as goal

pub returns-then-count-ge13-clause-front : goal.returns-then-count-ge13-clause-front
returns-then-count-ge13-clause-front c =
    let range : AreBytes c.args.page.now = search rules in
    front-told c.args.page.now c.split_at.result.0.now c.from_be_bytes-count.result range (search rules) c.split_at.ensures.front (search rules) c.from_be_bytes-count.ensures
