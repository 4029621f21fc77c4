-- Each field that is broken, behind good ones.
use Rattle.std.proofs.Common.{ℕ, List, []}
use Rattle.std.proofs.lemmas.Result.{err_from_is_err_and}
use Rattle.store_model.proofs.FieldLaws.{IsFirstBroken-here, IsFirstBroken-later}
use Rattle.frame_codec.specs.Fields.{count_field, nth_field, number_field, session_field}
use Rattle.frame_codec.specs.Values.{model_entries}
use Rattle.frame_codec.proofs.fields.read_entry_front.Goals as goal

pub returns-in_err-number-clause-bad : goal.returns-in_err-number-clause-bad
returns-in_err-number-clause-bad c =
    let p = err_from_is_err_and c.from_residual.result c.from_residual.ensures.1 in
    rw (p.1, p.2) (IsFirstBroken-here c.args.bytes.now (number_field (model_entries c.args.before.now)) _ _ c.in_err-number.ensures.bad)

pub returns-in_err-session-clause-bad : goal.returns-in_err-session-clause-bad
returns-in_err-session-clause-bad c =
    let p = err_from_is_err_and c.from_residual-in_err-session.result c.from_residual-in_err-session.ensures.1 in
    let bytes : List ℕ = c.args.bytes.now in
    rw (p.1, p.2) (IsFirstBroken-later bytes (number_field (model_entries c.args.before.now)) _ _ c.in_ok-number.ensures.good
    (IsFirstBroken-here bytes session_field _ _ c.in_err-session.ensures.bad))

pub returns-in_err-nth-clause-bad : goal.returns-in_err-nth-clause-bad
returns-in_err-nth-clause-bad c =
    let p = err_from_is_err_and c.from_residual-in_err-nth.result c.from_residual-in_err-nth.ensures.1 in
    let bytes : List ℕ = c.args.bytes.now in
    rw (p.1, p.2) (IsFirstBroken-later bytes (number_field (model_entries c.args.before.now)) _ _ c.in_ok-number.ensures.good
    (IsFirstBroken-later bytes session_field _ _ c.in_ok-session.ensures.good
    (IsFirstBroken-here bytes nth_field _ _ c.in_err-nth.ensures.bad)))

pub returns-in_err-count-clause-bad : goal.returns-in_err-count-clause-bad
returns-in_err-count-clause-bad c =
    let p = err_from_is_err_and c.from_residual-in_err-count.result c.from_residual-in_err-count.ensures.1 in
    let bytes : List ℕ = c.args.bytes.now in
    rw (p.1, p.2) (IsFirstBroken-later bytes (number_field (model_entries c.args.before.now)) _ _ c.in_ok-number.ensures.good
    (IsFirstBroken-later bytes session_field _ _ c.in_ok-session.ensures.good
    (IsFirstBroken-later bytes nth_field _ _ c.in_ok-nth.ensures.good
    (IsFirstBroken-here bytes count_field [] _ c.in_err-count.ensures.bad))))
