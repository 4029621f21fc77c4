-- What was read of a write, or why it wasn't.
use Rattle.std.proofs.Common.{◌≡◌, ℕ, ◌∙◌, List, sym, map, drop}
use Rattle.std.proofs.lemmas.Result.{err_from_is_err_and}
use Rattle.store_model.specs.BodyRefusals.{IsBadWrite, write_rules}
use Rattle.store_model.specs.TupleFields.{IsBadState}
use Rattle.frame_codec.specs.Faults.{IfBad, fault_behind}
use Rattle.frame_codec.specs.Values.{model_entries, model_write}
use Rattle.store_model.proofs.WriteLaws.{IsBadWrite-key, IsBadWrite-kind, IsBadWrite-state}
use Rattle.frame_codec.proofs.Readings.{IfBad-behind, IsWriteRead-set}
use Rattle.frame_codec.proofs.read_write.read_write.Goals as goal

pub returns-in_err-kind-clause-bad : goal.returns-in_err-kind-clause-bad
returns-in_err-kind-clause-bad c =
    let p = err_from_is_err_and c.from_residual.result c.from_residual.ensures.1 in
    let rules = write_rules (model_entries c.args.before.now) (map model_write c.args.writes.now) c.args.number in
    rw (p.1, p.2) (IsBadWrite-kind rules c.args.pages c.args.bytes.now _ c.in_err-kind.ensures.bad)

pub returns-in-Ok-read_set-clause-read : goal.returns-in-Ok-read_set-clause-read
returns-in-Ok-read_set-clause-read c =
    IsWriteRead-set c.args.pages c.args.number (model_entries c.args.before.now) (map model_write c.args.writes.now) c.args.bytes.now c.split_at.result.1.now
    c.in-Ok.key c.in-Ok-read_set.read.one c.in-Ok-read_set.read.length c.in_ok-kind.ensures.within
    (sym c.in_ok-kind.ensures.told ∙ c.if-kind-eq1.true) c.split_at.ensures.back c.in-Ok.ensures.may c.in-Ok-read_set.ensures.set

pub returns-in-Err-read_set-clause-bad : goal.returns-in-Err-read_set-clause-bad
returns-in-Err-read_set-clause-bad c =
    let bytes : List ℕ = c.args.bytes.now in
    let rules = write_rules (model_entries c.args.before.now) (map model_write c.args.writes.now) c.args.number in
    let rest_is : c.split_at.result.1.now ≡ drop 1 bytes = c.split_at.ensures.back in
    let behind : IfBad (fault_behind c.in-Err-read_set.fault 1) (IsBadWrite rules c.args.pages bytes) =
    IfBad-behind c.in-Err-read_set.fault 1 (IsBadState c.args.number c.args.number c.args.pages c.split_at.result.1.now) (IsBadWrite rules c.args.pages bytes)
    (λ place bad. IsBadWrite-state rules c.args.pages bytes c.in-Ok.key place (sym c.in_ok-kind.ensures.told ∙ c.if-kind-eq1.true)
    (rw rest_is at c.in-Ok.ensures.front) c.in-Ok.ensures.may (rw rest_is at bad)) c.in-Err-read_set.ensures.bad in
    rw (c.behind.ensures) behind

pub returns-in-Err-clause-bad : goal.returns-in-Err-clause-bad
returns-in-Err-clause-bad c =
    let bytes : List ℕ = c.args.bytes.now in
    let rules = write_rules (model_entries c.args.before.now) (map model_write c.args.writes.now) c.args.number in
    let rest_is : c.split_at.result.1.now ≡ drop 1 bytes = c.split_at.ensures.back in
    IsBadWrite-key rules c.args.pages bytes c.in_ok-kind.kind c.in-Err.bad.at c.in_ok-kind.ensures.told c.in_ok-kind.ensures.good.0 c.in_ok-kind.ensures.good.1
    (rw rest_is at c.in-Err.ensures.bad)
