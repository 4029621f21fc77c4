use Rattle.std.proofs.Common.{◌≡◌, ℕ, ◌+◌, ◌-◌, Bool, take, ◌∙◌, sym, ap, arith}
use Rattle.disk_model.specs.declared.call.Call.TheVariants.{Sync}
use Rattle.disk_model.specs.Calls.{settled, replay_calls}
use Rattle.disk_model.proofs.Replays.{synced-done}
use Rattle.disk_model.proofs.record.synced_count.Goals as goal

pub returns-then-done-clause-image : goal.returns-then-done-clause-image
returns-then-done-clause-image c = λ image.
    let count : c.loop-rest.rest - 1 + 1 ≡ c.loop-rest.rest = omega arith in
    c.loop-rest.invariant.1 image
    ∙ ap (λ (k : ℕ). (replay_calls (settled image) (take k c.args.calls.now)).synced) (sym count)
    ∙ synced-done image c.args.calls.now (c.loop-rest.rest - 1) c.index-calls-rest.result (omega arith)
    (sym c.index-calls-rest.is ∙ c.in-Sync.is ∙ ap (λ (done : Bool). Sync done) c.if-done.true)
