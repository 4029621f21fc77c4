use Rattle.std.proofs.Common.{Bool, refl, sym, ◌∙◌, ap}
use Rattle.std.specs.Prelude.{is_some}
use Rattle.std.specs.FinMap.{get}
use Rattle.txn.specs.Readings.{model_read}
use Rattle.txn.specs.Txns.{transaction_by, value_by}
use Rattle.txn.specs.declared.txn.Read.{Read}
use Rattle.blob_script.specs.declared.answer.AnswerLine.TheVariants.{Absent}
use Rattle.blob_steps.proofs.Reading.{look-absent, look-own, look-refused, look-stored, never-extended, no-more, some-map}
use Rattle.blob_steps.proofs.session.Session.look.Goals as goal

pub unreachable-requires : goal.unreachable-requires
unreachable-requires c =
    never-extended (get (transaction_by c.in-Open.txn).changes c.args.key.now) (is_some c.args.now) (no-more c.in-Open.txn c.args.key.now c.rules.ensures.appends)
    (sym c.in-Ok-Extended.ensures.value ∙ ap (λ (r : Read). model_read r) c.in-Ok-Extended.field-0-is)

pub returns-in-Ok-Own-clause-turn : goal.returns-in-Ok-Own-clause-turn
returns-in-Ok-Own-clause-turn c = λ one store theirs number last number_is stands.
    let done = c.in-Ok-Own.ensures in
    look-own c.args.self.now c.in-Open.txn c.read.new.self store theirs number c.args.key.now _ c.args.front
    (record { opened = c.in-Open.is; last = last; number_is = number_is; stands = stands; session = done.session; nth = done.nth })
    one done.may
    (ap (λ (b : Bool). value_by (get (transaction_by c.in-Open.txn).changes c.args.key.now) b) (some-map _ c.args.now)
    ∙ sym done.value ∙ ap (λ (r : Read). model_read r) c.in-Ok-Own.field-0-is) done.recorded

pub returns-in_ok-refusal_line-in-Err-clause-turn : goal.returns-in_ok-refusal_line-in-Err-clause-turn
returns-in_ok-refusal_line-in-Err-clause-turn c = λ one store theirs number last number_is stands.
    let done = c.in-Err.ensures in
    look-refused c.args.self.now c.in-Open.txn c.read.new.self store theirs number c.args.key.now _ c.args.front
    (record { opened = c.in-Open.is; last = last; number_is = number_is; stands = stands; session = done.session; nth = done.nth })
    one c.in-Err.refusal c.in_ok-refusal_line-in-Err.field-0 done.refused c.in_ok-refusal_line-in-Err.ensures done.err

pub returns-in-Ok-Absent-clause-turn : goal.returns-in-Ok-Absent-clause-turn
returns-in-Ok-Absent-clause-turn c = λ one store theirs number last number_is stands.
    let done = c.in-Ok-Absent.ensures in
    look-absent c.args.self.now c.in-Open.txn c.read.new.self store theirs number c.args.key.now _ c.args.front
    (record { opened = c.in-Open.is; last = last; number_is = number_is; stands = stands; session = done.session; nth = done.nth })
    one Absent refl done.may
    (ap (λ (b : Bool). value_by (get (transaction_by c.in-Open.txn).changes c.args.key.now) b) (some-map _ c.args.now)
    ∙ sym done.value ∙ ap (λ (r : Read). model_read r) c.in-Ok-Absent.field-0-is) done.recorded

pub returns-in-Ok-Store-clause-turn : goal.returns-in-Ok-Store-clause-turn
returns-in-Ok-Store-clause-turn c = λ one store theirs number last number_is stands.
    let done = c.in-Ok-Store.ensures in
    look-stored c.args.self.now c.in-Open.txn c.read.new.self store theirs number c.args.key.now _ c.args.front
    (record { opened = c.in-Open.is; last = last; number_is = number_is; stands = stands; session = done.session; nth = done.nth })
    one done.may
    (ap (λ (b : Bool). value_by (get (transaction_by c.in-Open.txn).changes c.args.key.now) b) (some-map _ c.args.now)
    ∙ sym done.value ∙ ap (λ (r : Read). model_read r) c.in-Ok-Store.field-0-is) done.recorded
