use Rattle.std.proofs.Common.{◌≡◌, ◌+◌, ◌-◌, ◌∙◌, [], Some, Ok, refl, arith, rules}
use Rattle.std.proofs.lemmas.Result.{err_from_is_err_and}
use Rattle.relation.specs.Parts.{encoded_by}
use Rattle.store_model.specs.Judgement.{Ahead, Conflict, NoNumber, NoRoom, growth_of}
use Rattle.txn.specs.Requests.{asked_of}
use Rattle.group_plan.specs.Judgements.{number_by, tally_by}
use Rattle.group_plan.specs.Plans.{ledger_by}
use Rattle.group_plan.proofs.Blocks.{Moves-none}
use Rattle.group_plan.proofs.Judges.{AllLengthen-read, IsRefusal-place, judge-ahead, judge-number, judge-reads, judgement-places, room-given, room-refused}
use Rattle.group_plan.proofs.judging.judge.Goals as goal

pub returns-then-limits-request-clause-refusal : goal.returns-then-limits-request-clause-refusal
returns-then-limits-request-clause-refusal c =
    let ledger = ledger_by c.args.relation.now.states c.args.limits.last c.args.limits.room c.args.space.now.pages in (
      Ahead c.args.request.now.seen c.args.limits.last,
      judge-ahead ledger (tally_by c.args.takings.now.blocks.items c.args.tally) (asked_of c.args.request.now) (search rules),
      refl,
      ([], Moves-none c.args.space.now c.args.space.now c.args.takings.now c.args.takings.now refl refl refl refl c.requires.listed (omega arith)),
    )

pub returns-in-Some-clause-refusal : goal.returns-in-Some-clause-refusal
returns-in-Some-clause-refusal c =
    let ledger = ledger_by c.args.relation.now.states c.args.limits.last c.args.limits.room c.args.space.now.pages in
    let moved = c.in-Some.ensures in (
      Conflict moved.0.0 moved.0.1 (number_by c.args.relation.now.states moved.0.0),
      judge-reads ledger (tally_by c.args.takings.now.blocks.items c.args.tally) (asked_of c.args.request.now) (Some moved.0) (search rules) moved.1,
      moved.2,
      ([], Moves-none c.args.space.now c.args.space.now c.args.takings.now c.args.takings.now refl refl refl refl c.requires.listed (omega arith)),
    )

pub returns-then-tally-ge-MAX_NUMBER-clause-refusal : goal.returns-then-tally-ge-MAX_NUMBER-clause-refusal
returns-then-tally-ge-MAX_NUMBER-clause-refusal c =
    let ledger = ledger_by c.args.relation.now.states c.args.limits.last c.args.limits.room c.args.space.now.pages in (
      NoNumber c.args.tally.last,
      judge-number ledger (tally_by c.args.takings.now.blocks.items c.args.tally) (asked_of c.args.request.now) (search rules) c.in_default.ensures (search rules),
      refl,
      ([], Moves-none c.args.space.now c.args.space.now c.args.takings.now c.args.takings.now refl refl refl refl c.requires.listed (omega arith)),
    )

pub place_all-requires-clause-lengthen : goal.place_all-requires-clause-lengthen
place_all-requires-clause-lengthen c = AllLengthen-read c.args.relation.now.states c.args.request.now c.args.request.now.appends_read c.in_default.ensures c.requires.lengthen

pub returns-in_err-placed-clause-refusal : goal.returns-in_err-placed-clause-refusal
returns-in_err-placed-clause-refusal c =
    let p = err_from_is_err_and c.from_residual.result c.from_residual.ensures.1 in
    rw (p.1, p.2)
    (IsRefusal-place c.args.relation.now.states c.args.limits c.args.tally c.args.request.now c.args.space.now c.place_all.new.space c.args.takings.now c.place_all.new.takings c.in_err-placed.field-0.0
    (search rules) c.in_default.ensures (search rules) c.requires.owned c.in_err-placed.ensures.refusal)

pub returns-then-have-need-clause-refusal : goal.returns-then-have-need-clause-refusal
returns-then-have-need-clause-refusal c =
    let placed = c.in_ok-placed.ensures.placed in
    let states = c.args.relation.now.states in
    let need = c.bytes.result + c.args.tally.grown + c.saturating_sub-growth.result in
    let growth : c.saturating_sub-growth.result ≡ growth_of placed.placed = c.saturating_sub-growth.ensures ∙ (λ i. placed.added i - placed.replaced i) in (
      NoRoom need c.args.limits.room,
      judgement-places states c.args.limits c.args.tally c.args.request.now c.args.space.now c.args.takings.now (Ok placed.placed) (search rules) c.in_default.ensures (search rules) c.requires.owned placed.found
          ∙ room-refused (encoded_by states + c.args.tally.grown + growth_of placed.placed) c.args.limits.room placed.placed need (omega (arith, c.bytes.ensures.value, growth)) (search rules),
      refl,
      (_, placed.moves),
    )

pub returns-clause-judged : goal.returns-clause-judged
returns-clause-judged c =
    let placed = c.in_ok-placed.ensures.placed in
    let states = c.args.relation.now.states in
    let need = c.bytes.result + c.args.tally.grown + c.saturating_sub-growth.result in
    let growth : c.saturating_sub-growth.result ≡ growth_of placed.placed = c.saturating_sub-growth.ensures ∙ (λ i. placed.added i - placed.replaced i) in
    record {
      placed = placed.placed;
      judged = judgement-places states c.args.limits c.args.tally c.args.request.now c.args.space.now c.args.takings.now (Ok placed.placed) (search rules) c.in_default.ensures (search rules) c.requires.owned placed.found
          ∙ room-given (encoded_by states + c.args.tally.grown + growth_of placed.placed) c.args.limits.room placed.placed need (omega (arith, c.bytes.ensures.value, growth)) (search rules);
      written = placed.written;
      moves = placed.moves;
      growth = growth;
      keys = placed.keys;
      freed = placed.freed;
      room = omega (arith, c.bytes.ensures.value);
      number = omega arith;
    }
