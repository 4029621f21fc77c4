use Rattle.std.proofs.Common.{sym, ◌∙◌}
use Rattle.std.proofs.lemmas.Result.{MatchResult-weaker, err_from_is_err_and}
use Rattle.store_model.specs.HalfRefusals.{rules_behind}
use Rattle.store_model.proofs.BadTupleLaws.{IsBadTuple-key, IsBadTuple-refused, IsBadTuple-state}
use Rattle.store_model.proofs.ReachLaws.{IsBadTuple-within}
use Rattle.check_point.specs.Tuples.{model_tuples}
use Rattle.check_point.proofs.tuples.read_tuple.Goals as goal

pub returns-in_err-key-clause-bad : goal.returns-in_err-key-clause-bad
returns-in_err-key-clause-bad c =
    let p = err_from_is_err_and c.from_residual.result c.from_residual.ensures.1 in
    rw (p.1, p.2) (IsBadTuple-key (rules_behind (model_tuples c.args.tuples.now) c.args.last) c.args.pages c.args.bytes.now _ c.in_err-key.ensures.bad)

pub returns-in_err-key-clause-within : goal.returns-in_err-key-clause-within
returns-in_err-key-clause-within c =
    MatchResult-weaker c.from_residual.result (returns-in_err-key-clause-bad c) (λ tuple t. t)
    (λ bad is. IsBadTuple-within (rules_behind (model_tuples c.args.tuples.now) c.args.last) c.args.pages c.args.bytes.now bad.at is)

pub returns-in_err-stored-clause-bad : goal.returns-in_err-stored-clause-bad
returns-in_err-stored-clause-bad c =
    let p = err_from_is_err_and c.from_residual-in_err-stored.result c.from_residual-in_err-stored.ensures.1 in
    rw (p.1, p.2)
    (IsBadTuple-state (rules_behind (model_tuples c.args.tuples.now) c.args.last) c.args.pages c.args.bytes.now c.in_ok-key.key _ c.in_ok-key.ensures.front
    (sym c.follows.ensures ∙ c.if-follows.true) c.in_err-stored.ensures.bad)

pub returns-in_err-stored-clause-within : goal.returns-in_err-stored-clause-within
returns-in_err-stored-clause-within c =
    MatchResult-weaker c.from_residual-in_err-stored.result (returns-in_err-stored-clause-bad c) (λ tuple t. t)
    (λ bad is. IsBadTuple-within (rules_behind (model_tuples c.args.tuples.now) c.args.last) c.args.pages c.args.bytes.now bad.at is)

pub returns-else-follows-clause-bad : goal.returns-else-follows-clause-bad
returns-else-follows-clause-bad c =
    IsBadTuple-refused (rules_behind (model_tuples c.args.tuples.now) c.args.last) c.args.pages c.args.bytes.now c.in_ok-key.key c.in_ok-key.ensures.front
    (sym c.follows.ensures ∙ c.if-follows.false)
