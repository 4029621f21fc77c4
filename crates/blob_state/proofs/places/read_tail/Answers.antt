-- A tail that is cut short, and one that isn't among the pages.
use Rattle.std.proofs.Common.{ℕ}
use Rattle.std.specs.Prelude.{nat_lt}
use Rattle.std.proofs.lemmas.Bool.{le-ltb}
use Rattle.std.proofs.lemmas.Result.{err_from_is_err_and}
use Rattle.store_model.proofs.FieldLaws.{IsBroken-four, IsBroken-short}
use Rattle.store_model.proofs.BadTupleLaws.{IsFirstBroken-tail}
use Rattle.blob_state.specs.Reading.{page_field}
use Rattle.blob_state.proofs.places.read_tail.Goals as goal

pub returns-in_err-field-clause-bad : goal.returns-in_err-field-clause-bad
returns-in_err-field-clause-bad c =
    let p = err_from_is_err_and c.from_residual.result c.from_residual.ensures.1 in
    let field = page_field c.args.pages c.args.at in
    rw (p.1, p.2) (IsFirstBroken-tail c.args.bytes.now c.args.pages c.args.at c.args.size _ c.if-size-eq0.false
    (IsBroken-short c.args.bytes.now field _ c.in_err-field.ensures.short c.in_err-field.ensures.at))

pub returns-else-page-pages-clause-bad : goal.returns-else-page-pages-clause-bad
returns-else-page-pages-clause-bad c =
    let page : ℕ = c.from_be_bytes-page.result in
    IsFirstBroken-tail c.args.bytes.now c.args.pages c.args.at c.args.size c.args.at c.if-size-eq0.false
    (IsBroken-four c.args.bytes.now c.args.at page (λ n. nat_lt n c.args.pages) c.in_ok-field.ensures.whole
    (let told = c.in_ok-field.ensures.field in rw told at c.from_be_bytes-page.ensures) (le-ltb page c.args.pages c.if-page-pages.false))
