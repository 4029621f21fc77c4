use Rattle.std.proofs.Common.{◌≡◌, decimal, Ok, sym, ◌∙◌, ap, subst, arith}
use Rattle.std.specs.Str.{IsUtf8}
use Rattle.std.proofs.lemmas.Bool.{both_ways}
use Rattle.std.proofs.lemmas.Bool.Decides.{Decides-eqb}
use Rattle.std.proofs.lemmas.Fmt.{IsAscii-decimal, parse-decimal}
use Rattle.std.proofs.lemmas.Slice.Eq.{slice_eq-Decides}
use Rattle.std.proofs.lemmas.Str.{IsUtf8-from_ascii}
use Rattle.blob_script.proofs.Words.{number_below_none, number_below_some}
use Rattle.blob_script.proofs.number.number_of.Goals as goal

pub returns-in_default-clause-none : goal.returns-in_default-clause-none
returns-in_default-clause-none c = λ n small e.
    c.in_default.ensures.cases.0 (subst IsUtf8 (sym e) (IsUtf8-from_ascii (decimal n) (IsAscii-decimal n (omega arith))))

pub returns-in_default-clause-value : goal.returns-in_default-clause-value
returns-in_default-clause-value c = number_below_none _ c.args.word.now (returns-in_default-clause-none c)

pub returns-in_default-parse-clause-none : goal.returns-in_default-parse-clause-none
returns-in_default-parse-clause-none c = λ n small e.
    c.in_default-parse.not-Ok n (parse-decimal 32 n c.in-Ok.text.now c.parse.result small (omega arith) (c.in-Ok.ensures.cases.0 ∙ e) c.parse.ensures.value.0)

pub returns-in_default-parse-clause-value : goal.returns-in_default-parse-clause-value
returns-in_default-parse-clause-value c = number_below_none _ c.args.word.now (returns-in_default-parse-clause-none c)

pub returns-then-eq-clause-value : goal.returns-then-eq-clause-value
returns-then-eq-clause-value c =
    let decides = slice_eq-Decides Decides-eqb c.as_bytes.result.now c.args.word.now c.eq.result c.eq.ensures in
    number_below_some 4294967296 c.in-Ok-parse.number c.args.word.now (omega arith) (omega arith)
    (sym (decides.0 c.if-eq.true) ∙ c.as_bytes.ensures.value ∙ c.format.ensures.text)

pub returns-else-eq-clause-none : goal.returns-else-eq-clause-none
returns-else-eq-clause-none c = λ n small e.
    let got : c.parse.result ≡ Ok n = parse-decimal 32 n c.in-Ok.text.now c.parse.result small (omega arith) (c.in-Ok.ensures.cases.0 ∙ e) c.parse.ensures.value.0 in
    let same : c.in-Ok-parse.number ≡ n = cc in
    let word_is : c.as_bytes.result.now ≡ c.args.word.now = c.as_bytes.ensures.value ∙ c.format.ensures.text ∙ ap decimal same ∙ sym e in
    let decides = slice_eq-Decides Decides-eqb c.as_bytes.result.now c.args.word.now c.eq.result c.eq.ensures in
    both_ways _ c.if-eq.false (decides.1 word_is)

pub returns-else-eq-clause-value : goal.returns-else-eq-clause-value
returns-else-eq-clause-value c = number_below_none _ c.args.word.now (returns-else-eq-clause-none c)
