-- One more entry, and all of them.
use Rattle.std.proofs.Common.{ℕ, List, ◌++◌, ap, arith, ◌∙◌}
use Rattle.store_model.specs.Frame.{entry_spelling}
use Rattle.frame_codec.specs.Values.{model_entry}
use Rattle.frame_codec.proofs.Pieces.{pieces-all, written-next}
use Rattle.frame_codec.proofs.encode.append_entries.Goals as goal

pub written-preserved : goal.written-preserved
written-preserved c =
    written-next entry_spelling model_entry c.args.out.now c.written.out c.append_entry.new.out c.args.entries.now c.written.i
    c.get.result.now c.get.ensures c.written.invariant c.in_ok-append_entry.ensures

pub returns : goal.returns
returns c =
    let all = pieces-all entry_spelling model_entry c.args.entries.now c.written.i (omega (arith, c.written-test.false, c.len-i-end.ensures)) in
    c.written.invariant ∙ ap (λ (bytes : List ℕ). c.args.out.now ++ bytes) all
