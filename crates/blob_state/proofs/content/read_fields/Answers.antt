-- Each field that is broken, behind good ones.
use Rattle.std.proofs.Common.{ℕ, ◌+◌, List, [], refl}
use Rattle.std.proofs.lemmas.Result.{err_from_is_err_and}
use Rattle.store_model.proofs.FieldLaws.{IsBroken-short, IsFirstBroken-here, IsFirstBroken-later, IsGood-told_bytes}
use Rattle.store_model.specs.TupleFields.{any_bytes}
use Rattle.blob_state.specs.Reading.{any_field, born_field, prefix_field, size_field}
use Rattle.blob_state.proofs.content.read_fields.Goals as goal

pub returns-in_err-size-clause-bad : goal.returns-in_err-size-clause-bad
returns-in_err-size-clause-bad c =
    let p = err_from_is_err_and c.from_residual.result c.from_residual.ensures.1 in
    rw (p.1, p.2) (IsFirstBroken-here c.args.bytes.now (size_field c.args.at) _ _ c.in_err-size.ensures.bad)

pub returns-in_err-born-clause-bad : goal.returns-in_err-born-clause-bad
returns-in_err-born-clause-bad c =
    let p = err_from_is_err_and c.from_residual-in_err-born.result c.from_residual-in_err-born.ensures.1 in
    let bytes : List ℕ = c.args.bytes.now in
    rw (p.1, p.2) (IsFirstBroken-later bytes (size_field c.args.at) _ _ c.in_ok-size.ensures.good
    (IsFirstBroken-here bytes (born_field c.args.least c.args.most (c.args.at + 4)) _ _ c.in_err-born.ensures.bad))

pub returns-in_err-digest-clause-bad : goal.returns-in_err-digest-clause-bad
returns-in_err-digest-clause-bad c =
    let p = err_from_is_err_and c.from_residual-in_err-digest.result c.from_residual-in_err-digest.ensures.1 in
    let bytes : List ℕ = c.args.bytes.now in
    let digest = any_field (c.args.at + 12) in
    rw (p.1, p.2) (IsFirstBroken-later bytes (size_field c.args.at) _ _ c.in_ok-size.ensures.good
    (IsFirstBroken-later bytes (born_field c.args.least c.args.most (c.args.at + 4)) _ _ c.in_ok-born.ensures.good
    (IsFirstBroken-here bytes digest _ _ (IsBroken-short bytes digest _ c.in_err-digest.ensures.short c.in_err-digest.ensures.at))))

pub returns-in_err-prefix-clause-bad : goal.returns-in_err-prefix-clause-bad
returns-in_err-prefix-clause-bad c =
    let p = err_from_is_err_and c.from_residual-in_err-prefix.result c.from_residual-in_err-prefix.ensures.1 in
    let bytes : List ℕ = c.args.bytes.now in
    let digest = IsGood-told_bytes bytes (c.args.at + 12) 32 c.in_ok-digest.digest.now any_bytes c.in_ok-digest.ensures.whole c.in_ok-digest.ensures.field refl in
    rw (p.1, p.2, ← c.in_ok-size.ensures.told) (IsFirstBroken-later bytes (size_field c.args.at) _ _ c.in_ok-size.ensures.good
    (IsFirstBroken-later bytes (born_field c.args.least c.args.most (c.args.at + 4)) _ _ c.in_ok-born.ensures.good
    (IsFirstBroken-later bytes (any_field (c.args.at + 12)) _ _ digest
    (IsFirstBroken-here bytes (prefix_field (c.args.at + 44) c.in_ok-size.size) [] _ c.in_err-prefix.ensures.bad))))
