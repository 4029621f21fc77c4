-- One more write, and all of them.
use Rattle.std.proofs.Common.{ℕ, ◌++◌, List, ap, arith, ◌∙◌}
use Rattle.store_model.specs.Frame.{write_spelling}
use Rattle.frame_codec.specs.Values.{model_write}
use Rattle.frame_codec.proofs.Fronts.{front-entry, with_front}
use Rattle.frame_codec.proofs.Pieces.{pieces-all, written-next}
use Rattle.frame_codec.proofs.encode.append_entry.Goals as goal

pub written-preserved : goal.written-preserved
written-preserved c =
    written-next write_spelling model_write (with_front c.args.out.now c.args.entry.now) c.written.out c.append_write.new.out c.args.entry.now.writes c.written.i
    c.get.result.now c.get.ensures c.written.invariant c.in_ok-append_write.ensures

pub returns : goal.returns
returns c =
    let front : List ℕ = with_front c.args.out.now c.args.entry.now in
    let all = pieces-all write_spelling model_write c.args.entry.now.writes c.written.i (omega (arith, c.written-test.false, c.len-i-end.ensures.len)) in
    c.written.invariant ∙ ap (λ (bytes : List ℕ). front ++ bytes) all ∙ front-entry c.args.out.now c.args.entry.now
