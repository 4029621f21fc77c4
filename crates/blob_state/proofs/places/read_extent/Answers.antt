-- A head that is broken, and a mark that is cut short behind a good head.
use Rattle.std.proofs.Common.{◌≡◌, ℕ, ◌+◌, ◌*◌, ◌<◌, List, [], length, arith}
use Rattle.std.proofs.lemmas.Result.{err_from_is_err_and}
use Rattle.store_model.proofs.FieldLaws.{IsBroken-short, IsFirstBroken-here, IsFirstBroken-later}
use Rattle.blob_state.specs.Reading.{any_field, head_field}
use Rattle.blob_state.proofs.places.read_extent.Goals as goal

pub returns-in_err-head-clause-bad : goal.returns-in_err-head-clause-bad
returns-in_err-head-clause-bad c =
    let p = err_from_is_err_and c.from_residual.result c.from_residual.ensures.1 in
    let head = head_field c.args.pages (c.args.at + 36 * c.args.i) c.args.i in
    rw (p.1, p.2) (IsFirstBroken-here c.args.bytes.now head _ _ c.in_err-head.ensures.bad)

pub returns-in_err-mark-clause-bad : goal.returns-in_err-mark-clause-bad
returns-in_err-mark-clause-bad c =
    let p = err_from_is_err_and c.from_residual-in_err-mark.result c.from_residual-in_err-mark.ensures.1 in
    let bytes : List ℕ = c.args.bytes.now in
    let at : ℕ = c.args.at + (36 * c.args.i + 4) in
    let head = head_field c.args.pages (c.args.at + 36 * c.args.i) c.args.i in
    let short : length bytes < at + 32 = omega (arith, c.in_err-mark.ensures.short) in
    let named : c.in_err-mark.field-0.0.at ≡ at = omega (arith, c.in_err-mark.ensures.at) in
    rw (p.1, p.2) (IsFirstBroken-later bytes head _ _ c.in_ok-head.ensures.good
    (IsFirstBroken-here bytes (any_field at) [] _ (IsBroken-short bytes (any_field at) _ short named)))
