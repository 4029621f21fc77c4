-- One more write, and all of them.
use Rattle.std.proofs.Common.{ap, arith, length, refl}
use Rattle.store_model.specs.Frame.{write_spelling}
use Rattle.frame_codec.specs.Values.{model_write}
use Rattle.frame_codec.proofs.Pieces.{counted-next, pieces-all}
use Rattle.frame_codec.proofs.encode.entry_bytes.Goals as goal

pub counted-init : goal.counted-init
counted-init c = record { value = refl; most = omega arith }

pub overflow_add-count : goal.overflow_add-count
overflow_add-count c =
    omega (arith, c.counted.invariant.most, c.write_bytes-count.ensures.most, c.counted-test.true, c.len-i-end.ensures.most)

pub counted-preserved : goal.counted-preserved
counted-preserved c =
    let next = counted-next write_spelling model_write c.args.entry.now.writes c.counted.i c.get.result.now c.get.ensures in
    record {
      value = omega (arith, next, c.counted.invariant.value, c.write_bytes-count.ensures.value);
      most = omega (arith, c.counted.invariant.most, c.write_bytes-count.ensures.most);
    }

pub returns-clause-value : goal.returns-clause-value
returns-clause-value c =
    let all = ap length (pieces-all write_spelling model_write c.args.entry.now.writes c.counted.i (omega (arith, c.counted-test.false, c.len-i-end.ensures.len))) in
    omega (arith, all, c.counted.invariant.value)

pub returns-clause-most : goal.returns-clause-most
returns-clause-most c =
    omega (arith, c.counted.invariant.most, c.counted.auto.i-end, c.len-i-end.ensures.most)
