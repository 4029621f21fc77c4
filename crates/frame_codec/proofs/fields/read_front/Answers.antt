-- Each field that is broken, behind good ones.
use Rattle.std.proofs.Common.{ℕ, List, length, []}
use Rattle.std.proofs.lemmas.Result.{MatchResult-weaker, err_from_is_err_and}
use Rattle.store_model.proofs.FieldLaws.{IsFirstBroken-here, IsFirstBroken-later}
use Rattle.frame_codec.specs.Fields.{entries_field, length_field, text_field}
use Rattle.frame_codec.proofs.fields.read_front.Goals as goal

pub returns-in_err-read_text-clause-bad : goal.returns-in_err-read_text-clause-bad
returns-in_err-read_text-clause-bad c =
    let p = err_from_is_err_and c.from_residual.result c.from_residual.ensures.1 in
    rw (p.1, p.2) (IsFirstBroken-here c.args.bytes.now text_field _ _ c.in_err-read_text.ensures.bad)

pub returns-in_err-read_length-clause-bad : goal.returns-in_err-read_length-clause-bad
returns-in_err-read_length-clause-bad c =
    let p = err_from_is_err_and c.from_residual-in_err-read_length.result c.from_residual-in_err-read_length.ensures.1 in
    let bytes : List ℕ = c.args.bytes.now in
    rw (p.1, p.2) (IsFirstBroken-later bytes text_field _ _ c.in_ok-read_text.ensures.good
    (IsFirstBroken-here bytes (length_field (length bytes)) _ _ c.in_err-read_length.ensures.bad))

pub returns-clause-bad : goal.returns-clause-bad
returns-clause-bad c =
    let bytes : List ℕ = c.args.bytes.now in
    MatchResult-weaker c.read_entry_count.result c.read_entry_count.ensures.bad (λ count t. t)
    (λ bad broken. IsFirstBroken-later bytes text_field _ _ c.in_ok-read_text.ensures.good
    (IsFirstBroken-later bytes (length_field (length bytes)) _ _ c.in_ok-read_length.ensures.good
    (IsFirstBroken-here bytes entries_field [] _ broken)))
