use Rattle.std.proofs.Common.{◌≡◌, ℕ, ◌*◌, ◌/◌, ◌∙◌, List, take, sym, ap, subst, arith}
use Rattle.std.specs.FinMap.{entries, len-entries}
use Rattle.check_point.specs.Halves.{Stand, spelled}
use Rattle.check_point.specs.Writers.{HasTaken}
use Rattle.store_model.specs.Disk.{page_bytes}
use Rattle.store_model.specs.Layout.{states_page}
use Rattle.store_model.specs.State.{State}
use Rattle.recover.proofs.Puttings.{Putting-failed, Putting-next, all-put, length-spelled, put-room}
use Rattle.recover.proofs.turning.put_all.Goals as goal

pub put-requires-clause-room : goal.put-requires-clause-room
put-requires-clause-room g c =
    let es = entries c.args.relation.now.states in
    let room : c.put.writer.layout.room ≡ c.args.writer.now.layout.room = ap (λ l. l.room) c.put.invariant.layout in
    put-room es c.put.i (page_bytes * c.put.writer.layout.room) c.put.writer.taken (c.nth.result.0.now, c.nth.result.1.now) c.nth.ensures
    (omega (arith, c.requires.room, room)) c.put.invariant.taken.ends.taken_is

pub returns-in_err-put-clause-wrote : goal.returns-in_err-put-clause-wrote
returns-in_err-put-clause-wrote g c =
    Putting-failed g.D.Disk c.args.writer.now c.put.writer (take c.put.i (entries c.args.relation.now.states)) c.args.disk.now c.put.disk c.put-in-put.new.disk
    c.put.invariant c.put-in-put.ensures.wrote

pub put-preserved : goal.put-preserved
put-preserved g c =
    let es = entries c.args.relation.now.states in
    let one : List ℕ × State = (c.nth.result.0.now, c.nth.result.1.now) in
    let done = c.in_ok-put.ensures in
    let had = c.put.invariant.taken in
    Putting-next g.D.Disk c.args.writer.now c.put.writer c.put-in-put.new.self es c.put.i one c.args.disk.now c.put.disk c.put-in-put.new.disk
    c.nth.ensures c.put.invariant (done.tuples (take c.put.i es) had)
    (λ tells. done.reads tells (take c.put.i es) had
    (subst (λ n. Stand n (c.put.writer.taken / page_bytes) (spelled (take c.put.i es)) (g.D.Disk.story c.put.disk).reads)
    (sym (ap (λ n. states_page c.put.writer.layout n) c.put.invariant.half ∙ ap (λ l. states_page l c.args.writer.now.half) c.put.invariant.layout)) (c.put.invariant.stands tells)))
    done.layout done.half done.last done.taken done.wrote done.writes

pub returns-clause-taken : goal.returns-clause-taken
returns-clause-taken g c =
    let es = entries c.args.relation.now.states in
    subst (HasTaken c.put.writer) (all-put es c.put.i c.len-i-end.result (omega (arith, c.put-test.false, c.put.auto.i-end)) (sym (len-entries c.args.relation.now.states) ∙ sym c.len-i-end.ensures)) c.put.invariant.taken

pub returns-clause-bytes : goal.returns-clause-bytes
returns-clause-bytes g c =
    sym (returns-clause-taken g c).ends.taken_is ∙ length-spelled (entries c.args.relation.now.states)

pub returns-clause-reads : goal.returns-clause-reads
returns-clause-reads g c tells =
    let es = entries c.args.relation.now.states in
    subst (λ es. Stand (states_page c.args.writer.now.layout c.args.writer.now.half) (c.put.writer.taken / page_bytes) (spelled es) (g.D.Disk.story c.put.disk).reads)
    (all-put es c.put.i c.len-i-end.result (omega (arith, c.put-test.false, c.put.auto.i-end)) (sym (len-entries c.args.relation.now.states) ∙ sym c.len-i-end.ensures)) (c.put.invariant.stands tells)
