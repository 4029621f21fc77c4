-- The first of the fields that is broken.
use Rattle.std.proofs.Common.{[], ◌∷◌}
use Rattle.std.proofs.lemmas.Result.{err_from_is_err_and}
use Rattle.store_model.proofs.FieldLaws.{IsFirstBroken-here, IsFirstBroken-later}
use Rattle.check_point.specs.Headers.{count_field, text_field, version_field}
use Rattle.check_point.proofs.fields.read_layout.Goals as goal

pub returns-in_err-read_text-clause-bad : goal.returns-in_err-read_text-clause-bad
returns-in_err-read_text-clause-bad c =
    let p = err_from_is_err_and c.from_residual.result c.from_residual.ensures.1 in
    rw (p.1, p.2) (IsFirstBroken-here c.args.page.now text_field (version_field ∷ count_field 12 16384 ∷ count_field 16 1024 ∷ []) _ c.in_err-read_text.ensures.bad)

pub returns-in_err-read_version-clause-bad : goal.returns-in_err-read_version-clause-bad
returns-in_err-read_version-clause-bad c =
    let p = err_from_is_err_and c.from_residual-in_err-read_version.result c.from_residual-in_err-read_version.ensures.1 in
    let page = c.args.page.now in
    rw (p.1, p.2)
    (IsFirstBroken-later page text_field (version_field ∷ count_field 12 16384 ∷ count_field 16 1024 ∷ []) _ c.in_ok-read_text.ensures.good
    (IsFirstBroken-here page version_field (count_field 12 16384 ∷ count_field 16 1024 ∷ []) _ c.in_err-read_version.ensures.bad))

pub returns-in_err-units-clause-bad : goal.returns-in_err-units-clause-bad
returns-in_err-units-clause-bad c =
    let p = err_from_is_err_and c.from_residual-in_err-units.result c.from_residual-in_err-units.ensures.1 in
    let page = c.args.page.now in
    rw (p.1, p.2)
    (IsFirstBroken-later page text_field (version_field ∷ count_field 12 16384 ∷ count_field 16 1024 ∷ []) _ c.in_ok-read_text.ensures.good
    (IsFirstBroken-later page version_field (count_field 12 16384 ∷ count_field 16 1024 ∷ []) _ c.in_ok-read_version.ensures.good
    (IsFirstBroken-here page (count_field 12 16384) (count_field 16 1024 ∷ []) _ c.in_err-units.ensures.bad)))

pub returns-in_err-room-clause-bad : goal.returns-in_err-room-clause-bad
returns-in_err-room-clause-bad c =
    let p = err_from_is_err_and c.from_residual-in_err-room.result c.from_residual-in_err-room.ensures.1 in
    let page = c.args.page.now in
    rw (p.1, p.2)
    (IsFirstBroken-later page text_field (version_field ∷ count_field 12 16384 ∷ count_field 16 1024 ∷ []) _ c.in_ok-read_text.ensures.good
    (IsFirstBroken-later page version_field (count_field 12 16384 ∷ count_field 16 1024 ∷ []) _ c.in_ok-read_version.ensures.good
    (IsFirstBroken-later page (count_field 12 16384) (count_field 16 1024 ∷ []) _ c.in_ok-units.ensures.good
    (IsFirstBroken-here page (count_field 16 1024) [] _ c.in_err-room.ensures.bad))))
