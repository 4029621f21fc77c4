-- A tuple is a key, and a state behind it.
use Rattle.std.proofs.Common.{refl, sym, ◌∙◌, arith}
use Rattle.std.proofs.lemmas.Result.{MatchResult-weaker, err_from_is_err_and}
use Rattle.store_model.specs.TupleFields.{any_tuple}
use Rattle.store_model.proofs.TupleFieldLaws.{IsAtFront-not_bad, KeepsRules-any}
use Rattle.store_model.proofs.BadTupleLaws.{IsBadTuple-key, IsBadTuple-state}
use Rattle.store_model.proofs.TupleLaws.{spelling-unique}
use Rattle.blob_state.proofs.reader.decode.Goals as goal

pub returns-in_err-key-clause-bad : goal.returns-in_err-key-clause-bad
returns-in_err-key-clause-bad c =
    let p = err_from_is_err_and c.from_residual.result c.from_residual.ensures.1 in
    rw (p.1, p.2) (IsBadTuple-key any_tuple c.args.pages c.args.bytes.now _ c.in_err-key.ensures.bad)

pub returns-in_err-key-clause-none : goal.returns-in_err-key-clause-none
returns-in_err-key-clause-none c =
    MatchResult-weaker c.from_residual.result (returns-in_err-key-clause-bad c) (λ tuple t. t)
    (λ bad is key state front. IsAtFront-not_bad any_tuple c.args.pages c.args.bytes.now key state bad.at (omega arith) front
    (KeepsRules-any c.args.pages key state front.tuple) is)

pub returns-in_err-stored-clause-bad : goal.returns-in_err-stored-clause-bad
returns-in_err-stored-clause-bad c =
    let p = err_from_is_err_and c.from_residual-in_err-stored.result c.from_residual-in_err-stored.ensures.1 in
    rw (p.1, p.2) (IsBadTuple-state any_tuple c.args.pages c.args.bytes.now c.in_ok-key.key _ c.in_ok-key.ensures.front refl c.in_err-stored.ensures.bad)

pub returns-in_err-stored-clause-none : goal.returns-in_err-stored-clause-none
returns-in_err-stored-clause-none c =
    MatchResult-weaker c.from_residual-in_err-stored.result (returns-in_err-stored-clause-bad c) (λ tuple t. t)
    (λ bad is key state front. IsAtFront-not_bad any_tuple c.args.pages c.args.bytes.now key state bad.at (omega arith) front
    (KeepsRules-any c.args.pages key state front.tuple) is)

pub returns-clause-one : goal.returns-clause-one
returns-clause-one c = λ key state other.
    let mine = c.in_ok-stored.ensures.front in
    let same = spelling-unique c.args.pages key c.in_ok-key.key state _ other.rest mine.rest (omega arith) other.tuple mine.tuple (sym other.stored_is ∙ mine.stored_is) in
    (same.0, same.1)
