-- One more entry, and all of them.
use Rattle.std.proofs.Common.{ap, arith, length, refl}
use Rattle.store_model.specs.Frame.{entry_spelling}
use Rattle.frame_codec.specs.Values.{model_entry}
use Rattle.frame_codec.proofs.Pieces.{counted-next, pieces-all}
use Rattle.frame_codec.proofs.encode.entries_bytes.Goals as goal

pub counted-init : goal.counted-init
counted-init c = record { value = refl; most = omega arith }

pub overflow_add-count : goal.overflow_add-count
overflow_add-count c =
    omega (arith, c.counted.invariant.most, c.entry_bytes-count.ensures.most, c.counted-test.true, c.len-i-end.ensures, c.requires.few)

pub counted-preserved : goal.counted-preserved
counted-preserved c =
    let next = counted-next entry_spelling model_entry c.args.entries.now c.counted.i c.get.result.now c.get.ensures in
    record {
      value = omega (arith, next, c.counted.invariant.value, c.entry_bytes-count.ensures.value);
      most = omega (arith, c.counted.invariant.most, c.entry_bytes-count.ensures.most);
    }

pub returns-clause-value : goal.returns-clause-value
returns-clause-value c =
    let all = ap length (pieces-all entry_spelling model_entry c.args.entries.now c.counted.i (omega (arith, c.counted-test.false, c.len-i-end.ensures))) in
    omega (arith, all, c.counted.invariant.value)

pub returns-clause-most : goal.returns-clause-most
returns-clause-most c =
    omega (arith, c.counted.invariant.most, c.counted.auto.i-end, c.len-i-end.ensures, c.requires.few)
