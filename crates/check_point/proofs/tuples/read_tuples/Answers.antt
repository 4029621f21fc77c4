use Rattle.check_point.proofs.TupleReads.{ReadSoFar-next, ReadSoFar-none}
use Rattle.check_point.proofs.tuples.read_tuples.Goals as goal

pub loop-init : goal.loop-init
loop-init c = ReadSoFar-none c.args.pages c.args.last c.args.bytes.now c.new-tuples.result c.new-tuples.ensures

pub loop-preserved : goal.loop-preserved
loop-preserved c =
    ReadSoFar-next c.args.pages c.args.last c.args.bytes.now c.split_at.result.1.now c.loop.tuples c.add.new.tuples c.in-Ok.tuple c.loop.at c.loop.counter
    c.loop.invariant c.split_at.ensures.back c.in-Ok.ensures.front c.in-Ok.ensures.born c.in-Ok.ensures.follows c.in-Ok.ensures.long c.in_ok-add-in-Ok.ensures
