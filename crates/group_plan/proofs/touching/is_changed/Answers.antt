use Rattle.std.proofs.Common.{sym, ◌∙◌, arith}
use Rattle.std.specs.Prelude.{bytes_eq}
use Rattle.frame_codec.specs.declared.entry.Entry.{Entry}
use Rattle.store_model.specs.Group.{is_among}
use Rattle.group_plan.specs.Touches.{write_keys}
use Rattle.group_plan.proofs.Walks.{any-end, any-found, any-flat, any-next}
use Rattle.group_plan.proofs.touching.is_changed.Goals as goal

pub returns-then-is_written : goal.returns-then-is_written
returns-then-is_written c =
    let key = c.args.key.now in
    sym (any-flat (bytes_eq key) (λ (entry : Entry). write_keys entry.writes) c.args.entries.now ∙ c.looked.invariant
    ∙ any-found (λ (entry : Entry). is_among key (write_keys entry.writes)) c.args.entries.now c.looked.i c.get.result.now c.get.ensures (sym c.is_written.ensures ∙ c.if-is_written.true))

pub looked-preserved : goal.looked-preserved
looked-preserved c =
    c.looked.invariant
    ∙ any-next (λ (entry : Entry). is_among c.args.key.now (write_keys entry.writes)) c.args.entries.now c.looked.i c.get.result.now c.get.ensures (sym c.is_written.ensures ∙ c.if-is_written.false)

pub returns : goal.returns
returns c =
    let key = c.args.key.now in
    sym (any-flat (bytes_eq key) (λ (entry : Entry). write_keys entry.writes) c.args.entries.now ∙ c.looked.invariant
    ∙ any-end (λ (entry : Entry). is_among key (write_keys entry.writes)) c.args.entries.now c.looked.i (omega (arith, c.len-i-end.ensures, c.looked-test.false)))
